-- Well-formedness as the code tests it, by number. That it is the definition's is in CheckedLaws. Assumes nothing: these are definitions.
use Rattle.std.specs.Prelude.{Bool, ◌&&◌, List, ℕ}
use Rattle.layout.specs.Memory.{Kept, node_at, entry_at, entries_from}
use Rattle.table.specs.WellFormed.{distinct, awaits_few, settled, kept_right}
use Rattle.table.specs.Right.{right_at}
use Rattle.layout.specs.Numbered.{all_from, numbered}

abbrev pub kept : ℕ → ℕ → ℕ → Kept
kept value name other = record { value = value; name = name; other = other }

-- what is kept of entry i of n
unfoldable pub kept_ok : List ℕ → List ℕ → ℕ → ℕ → ℕ → Bool
kept_ok links cells n readings i = settled (entries_from links cells 0 n) (entry_at links cells i) && kept_right readings (entry_at links cells i)

-- the clauses after the counts, of n entries
unfoldable pub entries_right : List ℕ → List ℕ → ℕ → ℕ → Bool
entries_right links cells readings n =
    all_from (right_at links cells) n 0
    && (distinct (numbered (node_at links cells) 0 n)
    && (awaits_few (numbered (node_at links cells) 0 n)
    && all_from (kept_ok links cells n readings) n 0))
