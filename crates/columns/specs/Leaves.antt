-- What leaves and functions come to, as cells. Assumes nothing: these are definitions.
use Rattle.std.specs.Prelude.{Bool, cond, ℕ, ◌+◌, ◌%◌, leb, eqb}
use Rattle.rules.specs.Values.{unbound_name}
use Rattle.values.specs.Packing.{window_cell, function_cell, delayed_cell, missing_cell}
use Rattle.layout.specs.Nodes.{number_kind, variable_kind, unbound_kind}

-- a number, a variable, which stands for a cell, an unbound name, and the recording, of so many readings
unfoldable pub leaf_of : ℕ → ℕ → ℕ → ℕ → ℕ
leaf_of size kind key variable =
    cond (eqb kind number_kind) (key % 4294967296 + 1)
    (cond (eqb kind variable_kind) variable
    (cond (eqb kind unbound_kind) (missing_cell + unbound_name)
    (window_cell + size)))

-- a function from its body's value: missing where that is missing, delayed where it waits for a variable
unfoldable pub function_of : Bool → ℕ → ℕ
function_of waits base = cond (leb missing_cell base) base (cond waits delayed_cell function_cell)
