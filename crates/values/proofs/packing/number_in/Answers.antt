-- A number moved down by 2 ^ 31 is one of 32 bits. Assumes nothing.
use mir.Syntax.{w32, w64}
use mir.Facts.{sfits_widen, to_z_pos}
use Rattle.std.specs.Prelude.{◌-◌, ◌%◌}
use Rattle.std.proofs.Common.{arith}
use Rattle.values.specs.Ranges.{down-range}
use Rattle.values.proofs.packing.number_in.Goals as goal

pub overflow_add-result : goal.overflow_add-result
overflow_add-result c =
    let low = (c.args.cell - 1) % 4294967296 in
    rw (to_z_pos w64 {n = low} (omega arith)) (sfits_widen {w = w32} tt (record { sfits = down-range 2147483648 low (omega arith) }))
