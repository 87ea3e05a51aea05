-- 01, "Working out": how many entries of a cache are worked out by previews, which are those with a kept value; and that keeping one more is one
-- more. Assumes nothing.
use Rattle.std.specs.Prelude.{◌≡◌, Bool, List, leb}
use Rattle.std.proofs.Math.Path.{refl}
use Rattle.std.proofs.Common.{ap}
use Rattle.std.proofs.Math.Bool.{true, false, cond}
use Prim.Native.Nat.{ℕ, zero, suc, ◌+◌, ◌≤◌, ◌<◌}
use native.Mathlib.Omega.{arith}
use Rattle.model.specs.Lists.{count_if}
use Rattle.layout.specs.Memory.{Entry, kept_at, entries_from}

-- an entry with a kept value
abbrev pub is_kept : Entry → Bool
is_kept e = leb 1 e.kept.value

module _ (links now then : List ℕ) where
  count_same : (p k : ℕ) → ((j : ℕ) → p ≤ j → kept_at then j ≡ kept_at now j) → count_if is_kept (entries_from links then p k) ≡ count_if is_kept (entries_from links now p k)
  unfolding count_if entries_from
  count_same p zero h = refl
  count_same p (suc k) h = rw (h p (omega arith), count_same (suc p) k (λ j l. h j (omega arith)))

  -- one more
  pub count-more : (p k i : ℕ) → i < k → leb 1 (kept_at then (p + i)).value ≡ true → leb 1 (kept_at now (p + i)).value ≡ false
      → ((j : ℕ) → (j ≡ p + i → ⊥) → kept_at then j ≡ kept_at now j) → count_if is_kept (entries_from links then p k) ≡ suc (count_if is_kept (entries_from links now p k))
  unfolding count_if entries_from
  count-more p zero i l a b h = absurd (omega arith)
  count-more p (suc k) zero l a b h = let z : p + 0 ≡ p = omega arith in rw (rw z at a, rw z at b) (ap suc (count_same (suc p) k (λ j g. h j (λ e. omega arith))))
  count-more p (suc k) (suc i) l a b h =
      let z : p + suc i ≡ suc p + i = omega arith in
      let r = count-more (suc p) k i (omega arith) (rw z at a) (rw z at b) (λ j g. h j (λ e. g (omega arith))) in
      rw (h p (λ e. omega arith), r) (by (leb 1 (kept_at now p).value) (count_if is_kept (entries_from links now (suc p) k)))
    where
      by : (b : Bool) (x : ℕ) → cond b (suc (suc x)) (suc x) ≡ suc (cond b (suc x) x)
      by true x = refl
      by false x = refl
