-- The token at the front of some bytes: it takes at least one of them and no more than there are, and its kind and its bytes say which
-- token it is. Assumes nothing.
use Rattle.std.specs.Prelude.{◌≡◌, refl, Bool, true, false, List, [], ◌∷◌, leb, eqb, pos, neg_ℤ, length, take}
use Rattle.std.proofs.Math.Path.{ap}
use Rattle.std.proofs.Math.Bool.{cond, and-eq-true_iff}
use Prim.Native.Nat.{ℕ, zero, suc, ◌≤◌}
use Rattle.std.proofs.Common.{arith, leb-true, eqb-true, ne_eqb}
use Rattle.language.specs.Names.{is_letter, is_digit, in_word, let_word, word_in}
use Rattle.members.specs.Members.{same_bytes}
use Rattle.grammar.specs.Tokens.{Token, k_let, k_in, k_equals, k_lambda, k_arrow, k_dot, k_open, k_shut, k_comma, word, number, other}
use Rattle.grammar.specs.Tokens.{when, leading, decimal, Lexeme, word_token, word_at, digits_at, minus_at, mark_token, token_at}
use Rattle.lexer.specs.Lexing.{token_kind, value_of, token_for}
use Rattle.lexer.specs.LoopsLaws.{leading-more, leading_le}

pub record Spans (l : List ℕ) (x : Lexeme) : Type 0 where
  pub some : 1 ≤ x.1
  pub within : x.1 ≤ length l
  pub which : token_for (token_kind x.0) (take x.1 l) ≡ x.0

-- ---- words
word-which : (w : List ℕ) → token_for (token_kind (word_token w)) w ≡ word_token w
unfolding word_token token_for
word-which w = go (same_bytes w let_word) (same_bytes w word_in)
  where
    go : (t u : Bool) → token_for (token_kind (cond t k_let (cond u k_in (word w)))) w ≡ cond t k_let (cond u k_in (word w))
    go true u = refl
    go false true = refl
    go false false = refl

module _ (b : ℕ) (bs : List ℕ) where
  word-spans : is_letter b ≡ true → Spans (b ∷ bs) (word_at (b ∷ bs))
  unfolding word_at
  word-spans e =
      record {
        some = omega (arith, leading-more in_word b bs (rw e));
        within = leading_le in_word (b ∷ bs);
        which = word-which (take (leading in_word (b ∷ bs)) (b ∷ bs));
      }

  -- ---- numbers without a sign
  digit-no-minus : is_digit b ≡ true → eqb b 45 ≡ false
  digit-no-minus e = ne_eqb b 45 (λ q. omega (arith, leb-true 48 b ((and-eq-true_iff (leb 48 b) (leb b 57)).0 e).0))

  digits-which : is_digit b ≡ true → (n : ℕ) → 1 ≤ n → value_of (take n (b ∷ bs)) ≡ pos (decimal (take n (b ∷ bs)))
  unfolding value_of
  digits-which e zero h = absurd (omega arith)
  digits-which e (suc n) h = rw (digit-no-minus e)

  digits-spans : is_digit b ≡ true → Spans (b ∷ bs) (digits_at (b ∷ bs))
  unfolding digits_at token_for
  digits-spans e =
      let s : 1 ≤ leading is_digit (b ∷ bs) = omega (arith, leading-more is_digit b bs e) in
      record { some = s; within = leading_le is_digit (b ∷ bs); which = ap number (digits-which e (leading is_digit (b ∷ bs)) s) }

  -- ---- marks
  mark-spans : Spans (b ∷ bs) (mark_token b, 1)
  unfolding mark_token token_for
  mark-spans =
      record {
        some = omega arith;
        within = omega arith;
        which = go (eqb b 61) (eqb b 92) (eqb b 46) (eqb b 40) (eqb b 41) (eqb b 44);
      }
    where
      marks : (t₁ t₂ t₃ t₄ t₅ t₆ : Bool) → Token
      marks t₁ t₂ t₃ t₄ t₅ t₆ = cond t₁ k_equals (cond t₂ k_lambda (cond t₃ k_dot (cond t₄ k_open (cond t₅ k_shut (cond t₆ k_comma (other b))))))

      go : (t₁ t₂ t₃ t₄ t₅ t₆ : Bool) → token_for (token_kind (marks t₁ t₂ t₃ t₄ t₅ t₆)) (b ∷ []) ≡ marks t₁ t₂ t₃ t₄ t₅ t₆
      go true t₂ t₃ t₄ t₅ t₆ = refl
      go false true t₃ t₄ t₅ t₆ = refl
      go false false true t₄ t₅ t₆ = refl
      go false false false true t₅ t₆ = refl
      go false false false false true t₆ = refl
      go false false false false false true = refl
      go false false false false false false = refl

-- ---- what a minus sign begins
minus-spans : (b : ℕ) → eqb b 45 ≡ true → (bs : List ℕ) → Spans (b ∷ bs) (minus_at bs)
unfolding minus_at token_for value_of when
minus-spans b e [] = record { some = omega arith; within = omega arith; which = ap other (eqb-true b 45 e) }
minus-spans b e (c ∷ cs) = go (is_digit c) (eqb c 62)
  where
    n : ℕ
    n = leading is_digit (c ∷ cs)

    go : (t u : Bool)
        → Spans (b ∷ c ∷ cs) (when t (λ _. (number (neg_ℤ (pos (decimal (take n (c ∷ cs))))), suc n)) (λ _. cond u (k_arrow, 2) (other 45, 1)))
    go true u = record { some = omega arith; within = omega (arith, leading_le is_digit (c ∷ cs)); which = rw e }
    go false true = record { some = omega arith; within = omega arith; which = refl }
    go false false = record { some = omega arith; within = omega arith; which = ap other (eqb-true b 45 e) }

pub token-spans : (b : ℕ) (bs : List ℕ) → Spans (b ∷ bs) (token_at b bs)
unfolding token_at when
token-spans b bs = go (is_letter b) refl (is_digit b) refl (eqb b 45) refl
  where
    go : (t : Bool) → is_letter b ≡ t → (u : Bool) → is_digit b ≡ u → (v : Bool) → eqb b 45 ≡ v
        → Spans (b ∷ bs) (when t (λ _. word_at (b ∷ bs)) (λ _. when u (λ _. digits_at (b ∷ bs)) (λ _. when v (λ _. minus_at bs) (λ _. (mark_token b, 1)))))
    go true e u f v g = word-spans b bs e
    go false e true f v g = digits-spans b bs f
    go false e false f true g = minus-spans b g bs
    go false e false f false g = mark-spans b bs
