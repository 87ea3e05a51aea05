-- A frame: a packed value for each entry, 0 for one not worked out. Leaves are worked out from the start.
-- Assumes nothing: these are definitions.
use Rattle.std.specs.Prelude.{Bool, false, cond, ◌||◌, List, ℕ, zero, suc, ◌+◌, ◌-◌, ◌%◌, leb, ltb, eqb, get_or, set}
use Rattle.language.specs.Limits.{table_entries}
use Rattle.rules.specs.Values.{unbound_name}
use Rattle.values.specs.Packing.{window_cell, function_cell, delayed_cell, missing_cell}
use Rattle.layout.specs.Links.{kind_at, key_at, value_at}
use Rattle.layout.specs.Nodes.{number_kind, variable_kind, unbound_kind, function_kind}
use Rattle.table.specs.Waits.{slot_a, slot_b}

-- what a number, a variable, an unbound name and the recording, of so many readings, come to
unfoldable pub leaf_of : ℕ → ℕ → ℕ → ℕ
leaf_of size kind key =
    cond (eqb kind number_kind) (key % 4294967296 + 1)
    (cond (eqb kind variable_kind) delayed_cell
    (cond (eqb kind unbound_kind) (missing_cell + unbound_name)
    (window_cell + size)))

-- what entry i comes to before any work
unfoldable pub start_at : ℕ → List ℕ → List ℕ → ℕ → ℕ
start_at size links cells i = cond (ltb (kind_at links i) function_kind) (leaf_of size (kind_at links i) (key_at cells i)) (value_at cells i)

-- k entries from i on
unfoldable pub start_from : ℕ → List ℕ → List ℕ → ℕ → ℕ → List ℕ → List ℕ
start_from size links cells zero i frame = frame
start_from size links cells (suc k) i frame = start_from size links cells k (suc i) (set frame i (start_at size links cells i))

-- a variable that is awaited has no value
unfoldable pub is_unset : List ℕ → ℕ → Bool
is_unset frame v = cond (leb 1 v) (cond (leb v table_entries) (eqb (get_or frame (v - 1) 0) delayed_cell) false) false

abbrev pub is_open : List ℕ → ℕ → Bool
is_open frame w = is_unset frame (slot_a w) || is_unset frame (slot_b w)

-- a function from its body's value: missing where that is missing, delayed where it awaits a variable that has no value
unfoldable pub function_of : List ℕ → ℕ → ℕ → ℕ
function_of frame w base = cond (leb missing_cell base) base (cond (is_open frame w) delayed_cell function_cell)
