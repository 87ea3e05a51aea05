-- Binding a text's records in the call's frame. Assumes nothing: these are definitions.
use Rattle.std.specs.Prelude.{◌≡◌, Bool, true, List, [], ℕ, ◌+◌, ◌≤◌, ◌<◌, ltb, length, get_or, take}
use Rattle.language.specs.Limits.{text_parts, table_entries}
use Rattle.layout.specs.Memory.{Node, node_at}
use Rattle.table.specs.WellFormed.{distinct}
use Rattle.table.specs.Bind.{Bound, bind_one, bind_all}
use Rattle.layout.specs.Numbered.{numbered}
use Rattle.layout.specs.Held.{held_at, record_at}
use Rattle.table.specs.Chain.{Chained, chain_entries}

abbrev pub bound : List Node → List ℕ → Bound
bound ns is = record { nodes = ns; numbers = is }

-- the entries held and those that wait, with the numbers of the first r records
abbrev pub bound_now : List ℕ → List ℕ → ℕ → ℕ → ℕ → List ℕ → List ℕ → Bound
bound_now links cells count total r numbers fresh = bound (numbered (held_at links cells count fresh) 0 total) (take r numbers)

-- what holds in the frame when r records are bound and there are `total` entries, `count` of them held
pub record Ready (links cells : List ℕ) (count total r : ℕ) (numbers fresh chain : List ℕ) : Type 0 where
  pub few : count ≤ table_entries
  pub low : count ≤ total
  pub high : total ≤ count + r
  pub places : length numbers ≡ text_parts
  pub chained : Chained (held_at links cells count fresh) chain total
  pub apart : distinct (numbered (held_at links cells count fresh) 0 total) ≡ true
  pub known : (j : ℕ) → j < r → get_or numbers j 0 < chain_entries

-- one record more: a new entry waits in the words of a record that is bound, and the records still to be bound stay
pub record BoundOne (links cells : List ℕ) (count total r : ℕ) (numbers records : List ℕ) (total' : ℕ) (numbers' records' chain' : List ℕ) : Type 0 where
  pub is : bound_now links cells count total' (r + 1) numbers' records' ≡ bind_one (bound_now links cells count total r numbers records) (record_at records r)
  pub later : (j : ℕ) → r < j → record_at records' j ≡ record_at records j
  pub ready : Ready links cells count total' (r + 1) numbers' records' chain'

-- all n records
pub record BoundAll (links cells : List ℕ) (count : ℕ) (records : List ℕ) (n total : ℕ) (numbers fresh : List ℕ) : Type 0 where
  pub is : bound_now links cells count total n numbers fresh ≡ bind_all (bound (numbered (node_at links cells) 0 count) []) (numbered (record_at records) 0 n)
  pub low : count ≤ total
  pub high : total ≤ count + n
  pub places : length numbers ≡ text_parts

-- 01, refusal 13: entries held plus new forms exceed the table's
abbrev pub is_full : ℕ → Bool
is_full total = ltb table_entries total
