-- A number moved up by 2 ^ 31 fits in 64 bits, also with one more. Assumes nothing.
use lib.IntN.{ℤ, pos, nat_abs, ◌+ℤ◌}
use mir.Syntax.{w32, w64}
use mir.Val.{Fits, SFits}
use mir.Facts.{to_z-of_z}
use Rattle.std.specs.Prelude.{◌+◌}
use Rattle.std.proofs.Common.{arith, rules}
use Rattle.values.specs.Ranges.{mag-abs, up-size}
use Rattle.values.proofs.Signed.{wide_is}
use Rattle.values.proofs.packing.pack.Goals as goal

module _ (z : ℤ) (f : SFits w32 z) where
  up_fits : SFits w64 (z +ℤ pos 2147483648)
  up_fits = record { sfits = omega (arith, mag-abs (z +ℤ pos 2147483648), up-size 2147483648 z f.sfits) }

  next-fits : Fits w64 (nat_abs (z +ℤ pos 2147483648) + 1)
  next-fits = record { fits = omega (arith, up-size 2147483648 z f.sfits) }

pub overflow_sub-result : goal.overflow_sub-result
overflow_sub-result c =
    let f : SFits w32 c.in-Number.z = search rules in
    rw (wide_is f) (up_fits c.in-Number.z f)

pub overflow_add-result : goal.overflow_add-result
overflow_add-result c =
    let f : SFits w32 c.in-Number.z = search rules in
    rw (wide_is f, to_z-of_z (up_fits c.in-Number.z f)) (next-fits c.in-Number.z f)
