-- What a well-formed cache promises to binding: few entries, no two of them equal. The readings have no part in it. Assumes nothing.
use Rattle.std.specs.Prelude.{◌≡◌, true, List, [], ℕ, ◌≤◌, ℤ, get_or}
use Rattle.std.proofs.Common.{sym, ◌∙◌}
use Rattle.language.specs.Limits.{table_entries}
use Rattle.layout.specs.Memory.{node_at, memory}
use Rattle.layout.specs.Numbered.{numbered}
use Rattle.table.specs.WellFormed.{distinct, well_formed}
use Rattle.table.specs.CheckedLaws.{well-is}
use Rattle.binder.specs.AppendedLaws.{Well, well-parts}

pub any-readings : (rs : List ℤ) (heads links cells : List ℕ) → well_formed (memory rs heads links cells) ≡ true
    → (xs : List ℤ) → well_formed (memory xs heads links cells) ≡ true
any-readings rs heads links cells w xs = well-is xs heads links cells ∙ sym (well-is rs heads links cells) ∙ w

module _ (heads links cells : List ℕ) (well : (readings : List ℤ) → well_formed (memory readings heads links cells) ≡ true) (count : ℕ) (is : count ≡ get_or heads 0 0) where
  parts : Well (memory [] heads links cells)
  parts = well-parts (memory [] heads links cells) (well [])

  pub well-few : count ≤ table_entries
  well-few = rw is parts.few

  pub well-distinct : distinct (numbered (node_at links cells) 0 count) ≡ true
  well-distinct = rw is parts.apart
