-- A member on cells. Assumes nothing: these are definitions.
use Rattle.std.specs.Prelude.{Option}
use Rattle.members.specs.declared.Member.{Member}
use Rattle.std.specs.Prelude.{◌≡◌, Bool, cond, List, ℕ, ◌+◌, leb, ℤ}
use Rattle.members.specs.Members.{if_member}
use Rattle.rules.specs.declared.Value.{Value}
use Rattle.rules.specs.declared.Value.TheVariants.{Missing}
use Rattle.rules.specs.Values.{wrong_kind, if_window}
use Rattle.rules.specs.Apply.{apply0}
use Rattle.values.specs.declared.apply.Applied.{Applied}
use Rattle.values.specs.declared.apply.Applied.TheVariants.{Done, Run}
use Rattle.values.specs.declared.runs.Tally.{Tally}
use Rattle.values.specs.Applied.{applied1}
use Rattle.values.specs.Tallies.{finished}
use Rattle.values.specs.Keepable.{Bounded}
use Rattle.values.specs.Packing.{pack_of, unpack_of, wrong_cell}

-- a receiver: a window that ends beyond 16 bits, which no recording has, is of the wrong kind
unfoldable pub bounded_of : Value → Value
bounded_of v = if_window v v (λ s l. cond (leb (s + l) 65535) v (Missing wrong_kind))

-- a member with no argument, and with one
unfoldable pub ask_of : Option Member → List ℤ → ℕ → ℕ
ask_of f xs a = if_member wrong_cell f (λ m. pack_of (apply0 m xs (unpack_of a)))

unfoldable pub call_of : Option Member → List ℤ → ℕ → ℕ → Applied
call_of f xs a b = if_member (Done (Missing wrong_kind)) f (λ m. applied1 m xs (bounded_of (unpack_of a)) (unpack_of b))

-- the cell of what is done; of a run, that of the wrong kind
unfoldable pub settled_of : Applied → ℕ
settled_of (Done v) = pack_of v
settled_of (Run s l) = wrong_cell

-- a member that runs no function, on the cell of its receiver, and with that of its argument where it has one
unfoldable pub cell_of : Option Member → List ℤ → Bool → ℕ → ℕ → ℕ
cell_of f xs two a b = cond two (settled_of (call_of f xs a b)) (ask_of f xs a)

-- what the member of a kind comes to from the tally of its runs
unfoldable pub conclude_of : Option Member → Tally → ℕ
conclude_of f t = if_member wrong_cell f (λ m. pack_of (finished m t))

-- what a receiver is, with what members ask of it
pub record Bounds (v r : Value) : Type 0 where
  pub same : r ≡ bounded_of v
  pub bounded : Bounded r
