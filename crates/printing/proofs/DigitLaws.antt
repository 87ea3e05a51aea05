-- 02, T-04: the decimal digits of a number. Every byte is a digit, there is at least one, and read as a decimal they are the number again.
-- Assumes nothing.
use Rattle.std.specs.Prelude.{◌≡◌, true, List, [], ◌∷◌, ℕ, zero, suc, ◌+◌, ◌-◌, ◌*◌, ◌/◌, ◌%◌, ◌^◌, ◌<◌, ltb}
use Rattle.std.proofs.Common.{ap, pow-suc, arith, ltb-true, le-leb}
use Rattle.language.specs.Cases.{split}
use Rattle.language.specs.Names.{is_digit}
use Rattle.language.specs.NamesLaws.{Each}
use Rattle.grammar.specs.Tokens.{decimal_onto, decimal}
use Rattle.printing.specs.Printed.{number_digits, digits_onto, digits}

-- a list that is not empty
abbrev pub NotEmpty : List ℕ → Type 0
NotEmpty [] = ⊥
NotEmpty (b ∷ bs) = Unit {0}

-- a number of n digits, read from nothing, and then u
onto-again : (n k : ℕ) (u : List ℕ) → k < 10 ^ n → decimal_onto 0 (digits_onto n k u) ≡ decimal_onto k u
unfolding digits_onto decimal_onto
onto-again zero k u h = let z : k ≡ 0 = omega arith in rw z
onto-again (suc n) k u h =
    split (ltb k 10)
    (λ e. let z : 0 * 10 + (48 + k - 48) ≡ k = omega arith in rw e (ap (λ (m : ℕ). decimal_onto m u) z))
    (λ e.
    let less : k / 10 < 10 ^ n = omega (arith, pow-suc 10 n) in
    let z : k / 10 * 10 + (48 + k % 10 - 48) ≡ k = omega arith in
    rw (e, onto-again n (k / 10) ((48 + k % 10) ∷ u) less) (ap (λ (m : ℕ). decimal_onto m u) z))

a-digit : (k : ℕ) → k < 10 → is_digit (48 + k) ≡ true
a-digit k h = rw (le-leb 48 (48 + k) (omega arith), le-leb (48 + k) 57 (omega arith))

onto-digits : (n k : ℕ) (u : List ℕ) → Each (λ b. is_digit b ≡ true) u → Each (λ b. is_digit b ≡ true) (digits_onto n k u)
unfolding digits_onto
onto-digits zero k u h = h
onto-digits (suc n) k u h =
    split (ltb k 10)
    (λ e. rw e (a-digit k (ltb-true k 10 e), h))
    (λ e. rw e (onto-digits n (k / 10) ((48 + k % 10) ∷ u) (a-digit (k % 10) (omega arith), h)))

onto-some : (n k : ℕ) (u : List ℕ) → NotEmpty u → NotEmpty (digits_onto n k u)
unfolding digits_onto
onto-some zero k u h = h
onto-some (suc n) k u h = split (ltb k 10) (λ e. rw e tt) (λ e. rw e (onto-some n (k / 10) ((48 + k % 10) ∷ u) tt))

pub digits-again : (k : ℕ) → k < 10 ^ number_digits → decimal (digits k) ≡ k
unfolding decimal_onto
digits-again k h = onto-again number_digits k [] h

pub all_digits : (k : ℕ) → Each (λ b. is_digit b ≡ true) (digits k)
all_digits k = onto-digits number_digits k [] tt

pub some-digits : (k : ℕ) → NotEmpty (digits k)
unfolding digits_onto
some-digits k = split (ltb k 10) (λ e. rw e tt) (λ e. rw e (onto-some 9 (k / 10) ((48 + k % 10) ∷ []) tt))
