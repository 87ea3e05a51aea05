-- The total of so few results, and one more, fits in 64 bits. Assumes nothing.
use lib.IntN.{◌+ℤ◌}
use mir.Syntax.{w64}
use mir.Val.{SFits}
use mir.Facts.{to_z-of_z}
use Rattle.std.proofs.Common.{arith}
use Rattle.values.specs.Ranges.{mag-abs, total-range}
use Rattle.values.proofs.Signed.{wide_is}
use Rattle.values.proofs.runs.note.Goals as goal

pub overflow_add-result : goal.overflow_add-result
overflow_add-result c =
    let t = c.args.t.total in
    let z = c.args.z in
    let f : SFits w64 t = record { sfits = omega (arith, mag-abs t, c.requires.total) } in
    rw (to_z-of_z f, wide_is c.ranges.z)
    (record { sfits = omega (arith, mag-abs (t +ℤ z), total-range 2147483648 65534 t z c.requires.total c.ranges.z.sfits) })
