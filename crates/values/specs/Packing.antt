-- A value as one cell of memory, and back: a tag times 2^33, and below that the number plus 2^31 plus 1, or the window's fields, or the
-- reason. 0 is no value: not worked out. Numbers come before windows, functions, delays and reasons. Assumes nothing: these are definitions.
use Rattle.std.specs.Prelude.{Bool, ◌&&◌, ◌||◌, cond, ℕ, suc, ◌+◌, ◌-◌, ◌*◌, ◌/◌, ◌%◌, leb, ltb, eqb, pos, nat_abs, ◌+ℤ◌, ◌-ℤ◌}
use Rattle.language.specs.Names.{byte_base}
use Rattle.rules.specs.declared.Value.{Value}
use Rattle.rules.specs.declared.Value.TheVariants.{Number, Window, Function, Delayed, Missing}
use Rattle.rules.specs.Values.{wrong_kind}

-- the least cell of each kind
abbrev pub window_cell : ℕ
window_cell = 8589934592

abbrev pub function_cell : ℕ
function_cell = 17179869184

abbrev pub delayed_cell : ℕ
delayed_cell = 25769803776

abbrev pub missing_cell : ℕ
missing_cell = 34359738368

-- missing, of the wrong kind
abbrev pub wrong_cell : ℕ
wrong_cell = missing_cell + wrong_kind

abbrev pub pack_of : Value → ℕ
pack_of (Number z) = suc (nat_abs (z +ℤ pos 2147483648))
pack_of (Window s l) = window_cell + (s * 65536 + l)
pack_of Function = function_cell
pack_of Delayed = delayed_cell
pack_of (Missing r) = missing_cell + r

-- of any cell
unfoldable pub unpack_of : ℕ → Value
unpack_of c =
    cond (ltb c window_cell) (Number (pos ((c - 1) % 4294967296) -ℤ pos 2147483648))
    (cond (ltb c function_cell) (Window (c % window_cell / 65536 % 65536) (c % 65536))
    (cond (ltb c delayed_cell) Function
    (cond (ltb c missing_cell) Delayed
    (Missing (c % byte_base)))))

-- the window lies within so many readings
abbrev pub inside : ℕ → ℕ → Bool
inside low readings = leb (low / 65536 + low % 65536) readings

-- exactly the cells that are packed values: a number within signed 32 bits, a window within the recording, a reason from 1 to 5
unfoldable pub is_packed : ℕ → ℕ → Bool
is_packed c readings =
    (leb 1 c && leb c 4294967296)
    || ((leb window_cell c && (ltb c (window_cell + 4294967296) && inside (c - window_cell) readings))
    || (eqb c function_cell || (eqb c delayed_cell || (leb (suc missing_cell) c && leb c (missing_cell + 5)))))
