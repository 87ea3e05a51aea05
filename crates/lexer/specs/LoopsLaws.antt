-- Laws of a run of bytes and of decimal digits: how each goes on by one byte. Assumes nothing.
use Rattle.std.specs.Prelude.{◌≡◌, Bool, cond, fold, length, get_or, drop}
use Rattle.std.specs.List.{take_while, prefix_len}
use Rattle.std.proofs.lemmas.List.Folds.{length-prefix_len}
use Rattle.std.proofs.Math.Path.{refl, ap, sym}
use Rattle.std.proofs.Common.{◌∙◌, add-one, drop_of_length-le, drop-cons}
use Rattle.std.proofs.Math.Bool.{true, false}
use mathlib.Core.List.{List, [], ◌∷◌}
use Prim.Native.Nat.{ℕ, suc, ◌+◌, ◌*◌, ◌-◌, ◌≤◌, ◌<◌, min}
use Rattle.std.proofs.Math.Decide.{dec_le}
use Rattle.std.proofs.Math.Nat.{min-eq_left}
use native.Mathlib.Omega.{arith}
use Rattle.grammar.specs.Tokens.{leading, when, decimal_onto}
use Rattle.lexer.specs.Loops.{run_end, bound}

-- ---- runs
module _ (p : ℕ → Bool) where
  pub leading-more : (b : ℕ) (bs : List ℕ) → p b ≡ true → leading p (b ∷ bs) ≡ suc (leading p bs)
  unfolding leading when
  leading-more b bs e = rw e

  pub leading-stop : (b : ℕ) (bs : List ℕ) → p b ≡ false → leading p (b ∷ bs) ≡ 0
  unfolding leading when
  leading-stop b bs e = rw e

  pub leading-none : leading p [] ≡ 0
  unfolding leading
  leading-none = refl

  bounded : (t : Bool) (m n : ℕ) → m ≤ n → when t (λ _. suc m) (λ _. 0) ≤ suc n
  unfolding when
  bounded true m n h = omega arith
  bounded false m n h = omega arith

  pub leading_le : (l : List ℕ) → leading p l ≤ length l
  unfolding leading
  leading_le [] = omega arith
  leading_le (b ∷ bs) = bounded (p b) (leading p bs) (length bs) (leading_le bs)

module _ (p : ℕ → Bool) (s : List ℕ) (i e : ℕ) where
  pub run_more : (r : Bool) → r ≡ p (get_or s i 0) → r ≡ true → i < length s → run_end p s i ≡ e → run_end p s (i + 1) ≡ e
  unfolding run_end
  run_more r q t h k =
      omega (
        arith,
        k,
        ap (λ (l : List ℕ). leading p l) (drop-cons s i 0 h),
        leading-more p (get_or s i 0) (drop (suc i) s) (sym q ∙ t),
        ap (λ (n : ℕ). leading p (drop n s)) (add-one i),
      )

  pub run-stop : (r : Bool) → r ≡ p (get_or s i 0) → r ≡ false → i < length s → run_end p s i ≡ e → i ≡ e
  unfolding run_end
  run-stop r q t h k =
      omega (
        arith,
        k,
        ap (λ (l : List ℕ). leading p l) (drop-cons s i 0 h),
        leading-stop p (get_or s i 0) (drop (suc i) s) (sym q ∙ t),
      )

-- the run as std has it
when-cond : (t : Bool) (m n : ℕ) → m ≡ n → when t (λ _. suc m) (λ _. 0) ≡ cond t (1 + n) 0
unfolding when
when-cond true m n e = omega arith
when-cond false m n e = refl

leading-prefix : (p : ℕ → Bool) (l : List ℕ) → leading p l ≡ prefix_len p l
unfolding leading
leading-prefix p [] = refl
leading-prefix p (b ∷ bs) = when-cond (p b) (leading p bs) (prefix_len p bs) (leading-prefix p bs)

pub run-over : (p : ℕ → Bool) (s : List ℕ) (i : ℕ) → length s ≤ i → i ≡ run_end p s i
unfolding run_end
run-over p s i h = rw (drop_of_length-le s h, leading-none) (omega arith)

pub run_is : (p : ℕ → Bool) (s : List ℕ) (i n : ℕ) → n ≡ length (take_while p (drop i s)) → i + n ≡ run_end p s i
unfolding run_end
run_is p s i n e = omega (arith, e, length-prefix_len p (drop i s), leading-prefix p (drop i s))

-- ---- decimal digits, up to the bound
-- what is the same from the bound on is not changed by the bound
pub at_bound : {A : Type 0} (f : ℕ → A) (a : A) → ((n : ℕ) → bound ≤ n → f n ≡ a) → (n : ℕ) → f (min n bound) ≡ f n
at_bound f a h n = go (dec_le n bound)
  where
    go : Dec (n ≤ bound) → f (min n bound) ≡ f n
    go (yes l) = ap f (min-eq_left l)
    go (no g) = h (min n bound) (omega arith) ∙ sym (h n (omega arith))

grows : (n : ℕ) (w : List ℕ) → n ≤ decimal_onto n w
unfolding decimal_onto
grows n [] = omega arith
grows n (b ∷ w) = omega (arith, grows (n * 10 + (b - 48)) w)

bounded-early : (n : ℕ) (w : List ℕ) → min (decimal_onto (min n bound) w) bound ≡ min (decimal_onto n w) bound
bounded-early n w = at_bound (λ (m : ℕ). min (decimal_onto m w) bound) bound (λ m g. omega (arith, grows m w)) n

module _ (s : List ℕ) (i n x : ℕ) where
  pub value-more : (r : ℕ) → i < length s → r ≡ min (n * 10 + (get_or s i 0 - 48)) bound → min (decimal_onto n (drop i s)) bound ≡ x
      → min (decimal_onto r (drop (i + 1) s)) bound ≡ x
  unfolding decimal_onto
  value-more r l e k =
      rw (e, add-one)
      (bounded-early (n * 10 + (get_or s i 0 - 48)) (drop (suc i) s)
      ∙ ap (λ (w : List ℕ). min (decimal_onto n w) bound) (sym (drop-cons s i 0 l))
      ∙ k)

  pub value-over : length s ≤ i → n ≤ bound → min (decimal_onto n (drop i s)) bound ≡ x → n ≡ x
  unfolding decimal_onto
  value-over l g k = sym (min-eq_left g) ∙ ap (λ (w : List ℕ). min (decimal_onto n w) bound) (sym (drop_of_length-le s l)) ∙ k

-- digit by digit, with the bound at each
pub bounded_fold : (n : ℕ) (w : List ℕ) → n ≤ bound → fold (λ (m b : ℕ). min (m * 10 + (b - 48)) bound) n w ≡ min (decimal_onto n w) bound
unfolding decimal_onto
bounded_fold n [] h = sym (min-eq_left h)
bounded_fold n (b ∷ w) h = bounded_fold (min (n * 10 + (b - 48)) bound) w (omega arith) ∙ bounded-early (n * 10 + (b - 48)) w
