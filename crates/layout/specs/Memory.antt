-- The cache's memory as it is lent (docs/MEMORY.md), and the entries that it holds. Assumes nothing: these are definitions.
use Rattle.std.specs.Prelude.{Bool, ◌&&◌, List, [], ◌∷◌, map, ℕ, zero, suc, leb, ℤ, length, take, get_or}
use Rattle.language.specs.Limits.{table_readings}
use Rattle.layout.specs.Links.{table_links, table_cells, kind_at, first_at, second_at, level_at, key_at, value_at, name_at, other_at}

-- four slices: the readings; the counts of entries and of readings; each entry's links; each entry's cells
pub record Memory : Type 0 where
  pub readings : List ℤ
  pub heads : List ℕ
  pub links : List ℕ
  pub cells : List ℕ

-- the memory that a call is lent as these slices
abbrev pub memory : List ℤ → List ℕ → List ℕ → List ℕ → Memory
memory readings heads links cells = record { readings = readings; heads = heads; links = links; cells = cells }

-- 01, refusal 3: is the cache lent whole
unfoldable pub fits : Memory → Bool
fits m =
    leb table_readings (length m.readings)
    && (leb 2 (length m.heads) && (leb table_links (length m.links) && leb table_cells (length m.cells)))

-- how many entries and how many readings it has, and the recording
abbrev pub entry_count : Memory → ℕ
entry_count m = get_or m.heads 0 0

abbrev pub reading_count : Memory → ℕ
reading_count m = get_or m.heads 1 0

abbrev pub recording_of : Memory → List ℤ
recording_of m = take (reading_count m) m.readings

-- what an entry is: its kind; its number or name; its dependencies, each 0 for none or one more than the dependency's number; and its level, which
-- is a variable's or a function's and otherwise 0
pub record Node : Type 0 where
  pub kind : ℕ
  pub key : ℕ
  pub first : ℕ
  pub second : ℕ
  pub level : ℕ

abbrev pub node_with : (kind key first second level : ℕ) → Node
node_with kind key first second level = record { kind = kind; key = key; first = first; second = second; level = level }

-- without a level
abbrev pub node : (kind key first second : ℕ) → Node
node kind key first second = node_with kind key first second 0

-- what it was worked out to: a packed value, 0 for not worked out, and the names that are shown
pub record Kept : Type 0 where
  pub value : ℕ
  pub name : ℕ
  pub other : ℕ

-- an entry, and what is kept of it
pub record Entry : Type 0 where
  pub node : Node
  pub kept : Kept

-- not worked out
abbrev pub nothing_kept : Kept
nothing_kept = record { value = 0; name = 0; other = 0 }

-- entry i
unfoldable pub node_at : List ℕ → List ℕ → ℕ → Node
node_at links cells i = node_with (kind_at links i) (key_at cells i) (first_at links i) (second_at links i) (level_at links i)

unfoldable pub kept_at : List ℕ → ℕ → Kept
kept_at cells i = record { value = value_at cells i; name = name_at cells i; other = other_at cells i }

abbrev pub entry_at : List ℕ → List ℕ → ℕ → Entry
entry_at links cells i = record { node = node_at links cells i; kept = kept_at cells i }

-- n entries from number i on
unfoldable pub entries_from : List ℕ → List ℕ → ℕ → ℕ → List Entry
entries_from links cells i zero = []
entries_from links cells i (suc n) = entry_at links cells i ∷ entries_from links cells (suc i) n

-- all of them
abbrev pub entries_of : Memory → List Entry
entries_of m = entries_from m.links m.cells 0 (entry_count m)

abbrev pub nodes_of : List Entry → List Node
nodes_of es = map (λ (e : Entry). e.node) es
