-- 02, T-03: a word of a text is the text's own bytes at its place, and words are told apart by their packed numbers. Assumes nothing.
use Rattle.std.specs.Prelude.{Some}
use Rattle.std.proofs.lemmas.Bool.{cond_both}
use Rattle.std.specs.Prelude.{◌≡◌, refl, true, ◌↔◌, eqb, length, take, drop}
use Rattle.std.proofs.Common.{sym, ap, ◌∙◌, subst, arith, drop-drop}
use mathlib.Core.List.{List, [], ◌∷◌, ◌++◌}
use Prim.Native.Nat.{ℕ, zero, suc, ◌+◌, ◌-◌, ◌^◌, ◌≤◌, ◌<◌}
use Rattle.std.proofs.Math.Dec.{lit<}
use Rattle.language.specs.Limits.{name_bytes}
use Rattle.language.specs.Names.{is_letter, is_digit, in_word, is_blank, bytes, packed, same_name, is_data, data_word, let_word, word_in}
use Rattle.language.specs.NamesLaws.{Each, NameByte, each_map, word_byte, packed-word, packed-injective, same-name}
use Rattle.members.specs.declared.Member.{Member}
use Rattle.members.specs.Members.{spelled, same_bytes, member_of}
use Rattle.members.specs.MembersLaws.{name-found, name-own}
use Rattle.grammar.specs.Tokens.{Token, k_let, k_in, k_equals, k_lambda, k_arrow, k_dot, k_open, k_shut, k_comma, word, number, other, leading}
use Rattle.grammar.specs.Tokens.{Lexeme, word_token, word_at, digits_at, minus_at, mark_token, token_at, Located, scan}
use Rattle.grammar.proofs.TokensLaws.{by-test, leading-each}
use Rattle.model.specs.Lists.{All}
use Rattle.promises.specs.Terms.{HasWord}

-- a token at the front of the bytes t: if it is a word, it is the bytes there, and they are letters and digits
abbrev Front : List ℕ → Token → Type 0
Front t x = (w : List ℕ) → x ≡ word w → (take (length w) t ≡ w) × Each NameByte w

is_word_token : Token → ℕ
is_word_token k_let = 0
is_word_token k_in = 0
is_word_token k_equals = 0
is_word_token k_lambda = 0
is_word_token k_arrow = 0
is_word_token k_dot = 0
is_word_token k_open = 0
is_word_token k_shut = 0
is_word_token k_comma = 0
is_word_token (word w) = 1
is_word_token (number z) = 0
is_word_token (other b) = 0

no_word : (t : List ℕ) (x : Token) → is_word_token x ≡ 0 → Front t x
unfolding is_word_token
no_word t x z w e = let o : ◌≡◌ {A = ℕ} 0 1 = sym z ∙ ap is_word_token e in absurd (omega arith)

take_same : (n : ℕ) (t : List ℕ) → take (length (take n t)) t ≡ take n t
take_same zero t = refl
take_same (suc n) [] = refl
take_same (suc n) (b ∷ t) = ap (λ (l : List ℕ). b ∷ l) (take_same n t)

word-front : (n : ℕ) (t : List ℕ) → Each NameByte (take n t) → Front t (word_token (take n t))
unfolding word_token is_word_token
word-front n t h =
    cond_both (same_bytes (take n t) let_word) k_let _ (Front t) (λ _. no_word t k_let refl)
    (λ _. cond_both (same_bytes (take n t) word_in) k_in _ (Front t) (λ _. no_word t k_in refl)
    (λ _ w e. let v : take n t ≡ w = cc in (rw (← v) (take_same n t), rw (← v) h)))

mark-front : (t : List ℕ) (b : ℕ) → Front t (mark_token b)
unfolding mark_token is_word_token
mark-front t b =
    cond_both (eqb b 61) k_equals _ (Front t) (λ _. no_word t k_equals refl) (λ _. cond_both (eqb b 92) k_lambda _ (Front t) (λ _. no_word t k_lambda refl)
    (λ _. cond_both (eqb b 46) k_dot _ (Front t) (λ _. no_word t k_dot refl) (λ _. cond_both (eqb b 40) k_open _ (Front t) (λ _. no_word t k_open refl)
    (λ _. cond_both (eqb b 41) k_shut _ (Front t) (λ _. no_word t k_shut refl)
    (λ _. cond_both (eqb b 44) k_comma (other b) (Front t) (λ _. no_word t k_comma refl) (λ _. no_word t (other b) refl))))))

minus-front : (t bs : List ℕ) → Front t (minus_at bs).0
unfolding minus_at is_word_token
minus-front t [] = no_word t (other 45) refl
minus-front t (b ∷ bs) =
    let P : Lexeme → Type 0 = λ x. Front t x.0 in
    by-test P (is_digit b) _ _ (λ _. no_word t (number _) refl)
    (λ _. cond_both (eqb b 62) (k_arrow, 2) (other 45, 1) P (λ _. no_word t k_arrow refl) (λ _. no_word t (other 45) refl))

token-front : (b : ℕ) (bs : List ℕ) → Front (b ∷ bs) (token_at b bs).0
unfolding token_at word_at digits_at is_word_token
token-front b bs =
    let t = b ∷ bs in
    let P : Lexeme → Type 0 = λ x. Front t x.0 in
    by-test P (is_letter b) _ _ (λ _. word-front (leading in_word t) t (each_map word_byte (take (leading in_word t) t) (leading-each in_word t)))
    (λ _. by-test P (is_digit b) _ _ (λ _. no_word t (number _) refl)
    (λ _. by-test P (eqb b 45) _ _ (λ _. minus-front t bs) (λ _. mark-front t b)))

module _ (text : List ℕ) where
  abbrev Stood : Located → Type 0
  Stood x = Front (drop x.place text) x.token

  behind : (at b : ℕ) (bs : List ℕ) → drop at text ≡ b ∷ bs → drop (suc at) text ≡ bs
  behind at b bs e = let q : at + 1 ≡ suc at = omega arith in subst (λ (n : ℕ). drop n text ≡ bs) q (sym (drop-drop 1 at text) ∙ ap (drop 1) e)

  scan-front : (bs : List ℕ) (inside at : ℕ) → drop at text ≡ bs → All Stood (scan inside at bs)
  unfolding scan
  scan-front [] inside at e = tt
  scan-front (b ∷ bs) (suc n) at e = scan-front bs n (suc at) (behind at b bs e)
  scan-front (b ∷ bs) zero at e =
      by-test (All Stood) (is_blank b) _ _ (λ _. scan-front bs zero (suc at) (behind at b bs e))
      (λ _. (subst (λ (t : List ℕ). Front t (token_at b bs).0) (sym e) (token-front b bs), scan-front bs ((token_at b bs).1 - 1) (suc at) (behind at b bs e)))

  middle : (xs ys : List Located) (x : Located) → All Stood (xs ++ (x ∷ ys)) → Stood x
  middle [] ys x h = h.0
  middle (y ∷ xs) ys x h = middle xs ys x h.1

  found : (p : ℕ) (w : List ℕ) → HasWord text p w → (take (length w) (drop p text) ≡ w) × Each NameByte w
  found p w h = middle h.before h.after _ (subst (All Stood) h.is (scan-front text 0 0 refl)) w refl

  pub word-in-place : (p : ℕ) (w : List ℕ) → HasWord text p w → take (length w) (drop p text) ≡ w
  word-in-place p w h = (found p w h).0

  pub packed-fits : (p : ℕ) (w : List ℕ) → HasWord text p w → length w ≤ name_bytes → packed w < 2 ^ 64
  packed-fits p w h l = packed-word w l (each_map (λ b e. e.1) w (found p w h).1)

  pub data-exactly : (p : ℕ) (w : List ℕ) → HasWord text p w → (is_data w ≡ true) ↔ (w ≡ data_word)
  unfolding is_data data_word bytes
  data-exactly p w h = same-name w data_word (found p w h).1 ((lit< tt, lit< tt), ((lit< tt, lit< tt), ((lit< tt, lit< tt), ((lit< tt, lit< tt), tt))))

module _ (text text' : List ℕ) (p p' : ℕ) (v w : List ℕ) (h : HasWord text p v) (h' : HasWord text' p' w) where
  pub packed-exactly : (packed v ≡ packed w) ↔ (v ≡ w)
  packed-exactly = (packed-injective v w (found text p v h).1 (found text' p' w h').1, ap packed)

  pub same-name-exactly : (same_name v w ≡ true) ↔ (v ≡ w)
  same-name-exactly = same-name v w (found text p v h).1 (found text' p' w h').1

pub member-exactly : (w : List ℕ) (m : Member) → (member_of w ≡ Some m) ↔ (w ≡ spelled m)
member-exactly w m = (name-own w m, λ e. ap member_of e ∙ name-found m)
