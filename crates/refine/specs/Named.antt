-- The names that are kept beside a value pass the test of refusal 4: a function has its own name, which only a function's entry has, and a
-- delay has the names of the variables that are awaited, or none. Assumes nothing.
use Rattle.std.specs.Prelude.{◌≡◌, true, ◌&&◌, List, ℕ, suc, ◌≤◌}
use Rattle.std.proofs.Math.Bool.{or-true}
use borrow.Author.Tests.{eqb-true}
use Rattle.std.proofs.Math.Dec.{eqb}
use Rattle.language.specs.Cases.{split}
use Rattle.values.specs.Packing.{function_cell, delayed_cell}
use Rattle.layout.specs.Nodes.{variable_kind, function_kind, is_name}
use Rattle.table.specs.WellFormed.{names_right}
use Rattle.layout.specs.Links.{kind_at, key_at}
use Rattle.table.specs.NodeKinds.{less_one}
use Rattle.table.specs.Waits.{slot_a, slot_b}
use Rattle.table.specs.WaitsLaws.{Variable, Holds, none, one, two, positive}
use Rattle.schedule.specs.Works.{slot_name, name_for, other_for}

module _ (links now : List ℕ) (i : ℕ) (names : (j : ℕ) → j ≤ i → kind_at links j ≡ variable_kind → is_name (key_at now j) ≡ true) where
  variable-name : {a : ℕ} → Variable links i a → is_name (slot_name now (suc a)) ≡ true
  variable-name {a} v = rw (positive a, less_one a) (names a v.below v.kind)

  delay-names : {cells xs : List ℕ} {w : ℕ} → Holds links cells i w xs
      → names_right (record { value = delayed_cell; name = slot_name now (slot_a w); other = slot_name now (slot_b w) }) ≡ true
  unfolding names_right
  delay-names (none p q e) = rw (p, q)
  delay-names (one a va p q e) = rw (p, q, variable-name va) (or-true (eqb (slot_name now (suc a)) 0 && true))
  delay-names (two a b va vb d p q e) =
      rw (p, q, variable-name va, variable-name vb, or-true (eqb (slot_name now (suc b)) 0))
      (or-true (eqb (slot_name now (suc a)) 0 && eqb (slot_name now (suc b)) 0))

  pub names-right : {cells xs : List ℕ} {w : ℕ} (c : ℕ) → (kind_at links i ≡ function_kind → is_name (key_at now i) ≡ true)
      → (c ≡ function_cell → kind_at links i ≡ function_kind)
      → Holds links cells i w xs → names_right (record { value = c; name = name_for now i c w; other = other_for now c w }) ≡ true
  unfolding names_right name_for other_for
  names-right c own function o =
      split (eqb c function_cell)
      (λ p. let e = eqb-true c function_cell p in rw (e, own (function e)))
      (λ p. split (eqb c delayed_cell) (λ q. let e = eqb-true c delayed_cell q in rw e (delay-names o)) (λ q. rw (p, q)))
