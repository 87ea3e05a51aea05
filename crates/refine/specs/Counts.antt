-- How many entries a preview works out: those that are chosen, up to the allowance; and it says whether some are left. Assumes nothing.
use Rattle.std.specs.Prelude.{◌≡◌, refl, cond, List, set}
use Rattle.std.proofs.Math.Path.{sym, ap}
use Rattle.std.proofs.Common.{◌∙◌, get_or-set_other}
use Prim.Native.Nat.{ℕ, zero, suc, ◌+◌, ◌-◌, ◌≤◌, ◌<◌, min}
use native.Mathlib.Omega.{arith}
use borrow.Author.Tests.{ltb-true, ltb-false, lt-ltb, le-ltb}
use Rattle.std.proofs.Math.Dec.{ltb}
use Rattle.language.specs.Cases.{split}
use Rattle.schedule.specs.Works.{chosen, work_from}

-- the entries to be worked out, of k from i on
unfoldable pub chosen_in : List ℕ → List ℕ → List ℕ → ℕ → ℕ → ℕ
chosen_in links flags frame zero i = 0
chosen_in links flags frame (suc k) i = cond (chosen links flags frame i) (suc (chosen_in links flags frame k (suc i))) (chosen_in links flags frame k (suc i))

-- an entry that was worked out changes nothing for those after it
later : (links flags frame : List ℕ) (i v k j : ℕ) → i < j → chosen_in links flags (set frame i v) k j ≡ chosen_in links flags frame k j
unfolding chosen_in chosen
later links flags frame i v zero j h = refl
later links flags frame i v (suc k) j h = rw (get_or-set_other frame i j v 0 (λ e. omega arith), later links flags frame i v k (suc j) (omega arith))

module _ (value : List ℕ → ℕ → ℕ) (links waits flags : List ℕ) (allowance : ℕ) where
  pub work-count : (k i : ℕ) (cells frame : List ℕ) (count : ℕ) → count ≤ allowance
      → (work_from value links waits flags allowance k i cells frame count).count ≡ count + min (allowance - count) (chosen_in links flags frame k i)
  unfolding work_from chosen_in
  work-count zero i cells frame count h = omega arith
  work-count (suc k) i cells frame count h =
      split (chosen links flags frame i)
      (λ p. rw p (split (ltb count allowance)
      (λ q. rw q
      (let less = ltb-true count allowance q in
      work-count k (suc i) _ (set frame i (value frame i)) (suc count) less
      ∙ rw (later links flags frame i (value frame i) k (suc i) (omega arith)) (omega arith)))
      (λ q. rw q (let most = ltb-false count allowance q in omega arith))))
      (λ p. rw p (work-count k (suc i) cells frame count h))

  pub work-left : (k i : ℕ) (cells frame : List ℕ) (count : ℕ) → count ≤ allowance
      → (work_from value links waits flags allowance k i cells frame count).left ≡ ltb (allowance - count) (chosen_in links flags frame k i)
  unfolding work_from chosen_in
  work-left zero i cells frame count h = sym (le-ltb (allowance - count) 0 (omega arith))
  work-left (suc k) i cells frame count h =
      split (chosen links flags frame i)
      (λ p. rw p (split (ltb count allowance)
      (λ q. rw q
      (let less = ltb-true count allowance q in
      work-left k (suc i) _ (set frame i (value frame i)) (suc count) less
      ∙ ap (ltb (allowance - suc count)) (later links flags frame i (value frame i) k (suc i) (omega arith))
      ∙ same (allowance - suc count) (allowance - count) (chosen_in links flags frame k (suc i)) (omega arith)))
      (λ q. rw q (let most = ltb-false count allowance q in sym (lt-ltb (allowance - count) (suc (chosen_in links flags frame k (suc i))) (omega arith))))))
      (λ p. rw p (work-left k (suc i) cells frame count h))
    where
      same : (a b c : ℕ) → b ≡ suc a → ltb a c ≡ ltb b (suc c)
      same a b c e = split (ltb a c) (λ p. rw p (sym (lt-ltb b (suc c) (let q = ltb-true a c p in omega arith)))) (λ p. rw p (sym (le-ltb b (suc c) (let q = ltb-false a c p in omega arith))))
