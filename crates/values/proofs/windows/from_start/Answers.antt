-- A length and a number of 32 bits have a sum of 64. Assumes nothing.
use lib.IntN.{pos}
use mir.Syntax.{w64}
use mir.Facts.{to_z_pos}
use Rattle.std.proofs.Common.{arith}
use Rattle.values.proofs.Signed.{wide_is, sum_fits}
use Rattle.values.proofs.windows.from_start.Goals as goal

pub overflow_add-result : goal.overflow_add-result
overflow_add-result c =
    let l = c.args.length in
    let f = c.ranges.length.fits in
    rw (to_z_pos w64 {n = l} (omega (arith, f)), wide_is c.ranges.n) (sum_fits {a = pos l} (record { sfits = omega (arith, f) }) c.ranges.n)
