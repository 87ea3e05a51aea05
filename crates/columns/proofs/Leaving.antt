-- The paths of leaves and functions. Assumes nothing.
use mathlib.Core.Path.{◌≡◌}
use mathlib.Core.Bool.{Bool, true, false, cond}
use Prim.Native.Nat.{ℕ, ◌+◌, ◌%◌, ◌≤◌, ◌<◌}
use native.Mathlib.Omega.{arith}
use borrow.Author.Rules.{rules}
use borrow.Author.Tests.{le-leb, lt-leb, ne_eqb, ltb-true, ltb-false}
use lib.Dec.{ltb}
use Rattle.language.specs.Cases.{split}
use Rattle.rules.specs.declared.Value.TheVariants.{Function, Delayed}
use Rattle.rules.specs.Values.{unbound_name}
use Rattle.rules.specs.Apply.{is_missing}
use Rattle.values.specs.Packing.{unpack_of, window_cell, function_cell, delayed_cell, missing_cell}
use Rattle.values.specs.PackingLaws.{unpack-number, unpack-window, unpack-function, unpack-delayed, unpack-missing}
use Rattle.layout.specs.Nodes.{number_kind, variable_kind, unbound_kind}
use Rattle.columns.specs.Leaves.{leaf_of, function_of}

module _ (size kind key variable : ℕ) where
  pub leaf-number : kind ≡ number_kind → key % 4294967296 + 1 ≡ leaf_of size kind key variable
  unfolding leaf_of
  leaf-number h = rw h

  pub leaf-variable : kind ≡ variable_kind → variable ≡ leaf_of size kind key variable
  unfolding leaf_of
  leaf-variable h = rw h

  pub leaf-unbound : kind ≡ unbound_kind → missing_cell + unbound_name ≡ leaf_of size kind key variable
  unfolding leaf_of
  leaf-unbound h = rw h

  pub leaf-readings : (kind ≡ number_kind → ⊥) → (kind ≡ variable_kind → ⊥) → (kind ≡ unbound_kind → ⊥) → window_cell + size ≡ leaf_of size kind key variable
  unfolding leaf_of
  leaf-readings n m h = rw (ne_eqb _ _ n, ne_eqb _ _ m, ne_eqb _ _ h)

-- the cells of what is missing, and of nothing else, come last
missing-is : (c : ℕ) → missing_cell ≤ c → is_missing (unpack_of c) ≡ true
missing-is c h = rw (unpack-missing c h)

not-missing : (c : ℕ) → c < missing_cell → is_missing (unpack_of c) ≡ false
not-missing c h =
    split (ltb c window_cell) (λ e. rw (unpack-number c (ltb-true c window_cell e)))
    (λ e. split (ltb c function_cell) (λ f. rw (unpack-window c (ltb-false c window_cell e) (ltb-true c function_cell f)))
    (λ f. split (ltb c delayed_cell) (λ g. rw (unpack-function c (ltb-false c function_cell f) (ltb-true c delayed_cell g)))
    (λ g. rw (unpack-delayed c (ltb-false c delayed_cell g) h))))

module _ (waits : Bool) (base : ℕ) where
  pub function-missing : missing_cell ≤ base → base ≡ function_of waits base
  unfolding function_of
  function-missing h = rw (le-leb _ _ h)

  pub function-open : base < missing_cell → waits ≡ true → delayed_cell ≡ function_of waits base
  unfolding function_of
  function-open h t = rw (lt-leb _ _ h, t)

  pub function-closed : base < missing_cell → waits ≡ false → function_cell ≡ function_of waits base
  unfolding function_of
  function-closed h t = rw (lt-leb _ _ h, t)

  pub missing-back : missing_cell ≤ base → unpack_of base ≡ cond (is_missing (unpack_of base)) (unpack_of base) (cond waits Delayed Function)
  missing-back h = rw (missing-is base h)

  pub open-back : base < missing_cell → waits ≡ true → unpack_of delayed_cell ≡ cond (is_missing (unpack_of base)) (unpack_of base) (cond waits Delayed Function)
  open-back h t = rw (not-missing base h, t) (unpack-delayed delayed_cell (omega arith) (omega arith))

  pub closed-back : base < missing_cell → waits ≡ false → unpack_of function_cell ≡ cond (is_missing (unpack_of base)) (unpack_of base) (cond waits Delayed Function)
  closed-back h t = rw (not-missing base h, t) (unpack-function function_cell (omega arith) (omega arith))

pub ruleset leaving = (rules, leaf-number, leaf-variable, leaf-unbound, leaf-readings, function-missing, function-open, function-closed, missing-back, open-back, closed-back)
