-- The words of a text's tokens are words: a letter, then letters and digits, and neither let nor in. So the names in use and the names of
-- lambdas of a text that is read are words. Assumes nothing.
use Rattle.std.specs.Prelude.{◌≡◌, refl, true, false, List, [], ◌∷◌, map, ℕ, zero, suc, ◌-◌, eqb, take}
use Rattle.std.proofs.lemmas.Bool.{cond_both}
use Rattle.std.proofs.Common.{sym, subst}
use Rattle.language.specs.Cases.{split}
use Rattle.language.specs.Names.{is_letter, is_digit, in_word, is_blank, let_word, word_in}
use Rattle.language.specs.NamesLaws.{Each, NameByte, each_map, word_byte}
use Rattle.members.specs.Members.{same_bytes}
use Rattle.grammar.specs.Tokens.{Token, k_let, k_in, k_equals, k_lambda, k_arrow, k_dot, k_open, k_shut, k_comma, word, number, other, when, leading}
use Rattle.grammar.specs.Tokens.{Lexeme, word_token, word_at, digits_at, minus_at, mark_token, token_at, Located, scan}
use Rattle.grammar.proofs.TokensLaws.{by-test, leading-each}
use Rattle.grammar.specs.Grammar.{Expression, Calls, Arguments, More, let_in, lambda, name, literal, bracket, done, call, none, first, last, next}
use Rattle.grammar.specs.Grammar.{spell_e, spell_c, spell_a, spell_m}
use Rattle.grammar.specs.Faults.{Around, outermost, opened, in_lambda}
use Rattle.grammar.specs.KeptLimits.{Site, a_let, a_lambda, a_bracket, a_name, a_number, a_call, EverywhereE, EverywhereC, EverywhereA, EverywhereM}
use Rattle.grammar.specs.Reading.{tree}
use Rattle.grammar.specs.Machine.{read_text}
use Rattle.grammar.proofs.Theorems.{text-read-plainly}

pub record IsWord (w : List ℕ) : Type 0 where
  pub head : ℕ
  pub tail : List ℕ
  pub is : w ≡ head ∷ tail
  pub letter : is_letter head ≡ true
  pub rest : Each (λ b. in_word b ≡ true) tail
  pub no-let : same_bytes w let_word ≡ false
  pub no-in : same_bytes w word_in ≡ false

letter-word : (b : ℕ) → is_letter b ≡ true → in_word b ≡ true
letter-word b h = rw h

-- the bytes of a word
pub word_bytes : (w : List ℕ) → IsWord w → Each NameByte w
word_bytes w h = let x = h.is in rw x (word_byte h.head (letter-word h.head h.letter), each_map word_byte h.tail h.rest)

-- tokens
abbrev WordToken : Token → Type 0
WordToken k_let = Unit {0}
WordToken k_in = Unit {0}
WordToken k_equals = Unit {0}
WordToken k_lambda = Unit {0}
WordToken k_arrow = Unit {0}
WordToken k_dot = Unit {0}
WordToken k_open = Unit {0}
WordToken k_shut = Unit {0}
WordToken k_comma = Unit {0}
WordToken (word w) = IsWord w
WordToken (number z) = Unit {0}
WordToken (other b) = Unit {0}

abbrev WordTokens : List Token → Type 0
WordTokens [] = Unit {0}
WordTokens (t ∷ ts) = WordToken t × WordTokens ts

word-token : (w : List ℕ) (b : ℕ) (v : List ℕ) → w ≡ b ∷ v → is_letter b ≡ true → Each (λ c. in_word c ≡ true) v → WordToken (word_token w)
unfolding word_token
word-token w b v e l r =
    split (same_bytes w let_word)
    (λ x. rw x tt)
    (λ x. rw x (split (same_bytes w word_in) (λ y. rw y tt) (λ y. rw y (record { head = b; tail = v; is = e; letter = l; rest = r; no-let = x; no-in = y }))))

word-at : (b : ℕ) (bs : List ℕ) → is_letter b ≡ true → WordToken (word_at (b ∷ bs)).0
unfolding word_at leading when
word-at b bs h =
    let q = letter-word b h in
    rw q (word-token (b ∷ take (leading in_word bs) bs) b (take (leading in_word bs) bs) refl h (leading-each in_word bs))

mark-token : (b : ℕ) → WordToken (mark_token b)
unfolding mark_token
mark-token b =
    cond_both (eqb b 61) k_equals _ WordToken (λ _. tt) (λ _. cond_both (eqb b 92) k_lambda _ WordToken (λ _. tt)
    (λ _. cond_both (eqb b 46) k_dot _ WordToken (λ _. tt) (λ _. cond_both (eqb b 40) k_open _ WordToken (λ _. tt)
    (λ _. cond_both (eqb b 41) k_shut _ WordToken (λ _. tt) (λ _. cond_both (eqb b 44) k_comma (other b) WordToken (λ _. tt) (λ _. tt))))))

minus-at : (bs : List ℕ) → WordToken (minus_at bs).0
unfolding minus_at
minus-at [] = tt
minus-at (b ∷ bs) = by-test (λ (x : Lexeme). WordToken x.0) (is_digit b) _ _ (λ _. tt) (λ _. split (eqb b 62) (λ e. rw e tt) (λ e. rw e tt))

token-at : (b : ℕ) (bs : List ℕ) → WordToken (token_at b bs).0
unfolding token_at digits_at
token-at b bs =
    let P : Lexeme → Type 0 = λ x. WordToken x.0 in
    by-test P (is_letter b) _ _ (word-at b bs) (λ _.
    by-test P (is_digit b) _ _ (λ _. tt) (λ _. by-test P (eqb b 45) _ _ (λ _. minus-at bs) (λ _. mark-token b)))

scan-words : (bs : List ℕ) (inside at : ℕ) → WordTokens (map (λ (x : Located). x.token) (scan inside at bs))
unfolding scan
scan-words [] inside at = tt
scan-words (b ∷ bs) (suc n) at = scan-words bs n (suc at)
scan-words (b ∷ bs) zero at =
    by-test (λ xs. WordTokens (map (λ (x : Located). x.token) xs)) (is_blank b) _ _ (λ _. scan-words bs zero (suc at))
    (λ _. (token-at b bs, scan-words bs ((token_at b bs).1 - 1) (suc at)))

-- the sites of a tree whose names are read as parts
abbrev pub Worded : Site → Around → Type 0
Worded (a_let x) d = Unit {0}
Worded (a_lambda x) d = IsWord x
Worded a_bracket d = Unit {0}
Worded (a_name x) d = IsWord x
Worded (a_number z) d = Unit {0}
Worded (a_call m n) d = Unit {0}

mutual
  unfolding spell_e

  worded-E : (e : Expression) (d : Around) (u : List Token) → WordTokens (spell_e e u) → EverywhereE Worded e d × WordTokens u
  worded-E (let_in x a b) d u h =
      let A = worded-E a (opened d) (k_in ∷ spell_e b u) h.1.1.1 in
      let B = worded-E b (opened d) u A.1.1 in
      ((tt, A.0, B.0), B.1)
  worded-E (lambda x b) d u h = let B = worded-E b (in_lambda d) u h.1.1.1 in ((h.1.0, B.0), B.1)
  worded-E (name x r) d u h = let C = worded-C r d u h.1 in ((h.0, C.0), C.1)
  worded-E (literal z r) d u h = let C = worded-C r d u h.1 in ((tt, C.0), C.1)
  worded-E (bracket e r) d u h =
      let E = worded-E e (opened d) (k_shut ∷ spell_c r u) h.1 in
      let C = worded-C r d u E.1.1 in
      ((tt, E.0, C.0), C.1)

  worded-C : (r : Calls) (d : Around) (u : List Token) → WordTokens (spell_c r u) → EverywhereC Worded r d × WordTokens u
  worded-C done d u h = (tt, h)
  worded-C (call m a) d u h = let A = worded-A a d u h.1.1.1 in ((tt, A.0), A.1)

  worded-A : (a : Arguments) (d : Around) (u : List Token) → WordTokens (spell_a a u) → EverywhereA Worded a d × WordTokens u
  worded-A (none r) d u h = worded-C r d u h.1
  worded-A (first e x) d u h = let E = worded-E e (opened d) (spell_m x u) h in let M = worded-M x d u E.1 in ((E.0, M.0), M.1)

  worded-M : (x : More) (d : Around) (u : List Token) → WordTokens (spell_m x u) → EverywhereM Worded x d × WordTokens u
  worded-M (last r) d u h = worded-C r d u h.1
  worded-M (next e x) d u h = let E = worded-E e (opened d) (spell_m x u) h.1 in let M = worded-M x d u E.1 in ((E.0, M.0), M.1)

pub text-worded : (text : List ℕ) (e : Expression) → read_text text ≡ tree e → EverywhereE Worded e outermost
text-worded text e h = (worded-E e outermost [] (subst WordTokens (sym ((text-read-plainly text e).0 h).0) (scan-words text 0 0))).0
