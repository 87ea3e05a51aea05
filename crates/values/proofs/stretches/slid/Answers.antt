-- One reading in and one out of a sum that is far from the ends of 64 bits. Assumes nothing.
use lib.IntN.{ℤ, nat_abs, ◌+ℤ◌, ◌-ℤ◌}
use mir.Syntax.{w32, w64}
use mir.Val.{SFits, to_z, of_z}
use mir.Facts.{to_z-of_z}
use Rattle.std.specs.Prelude.{◌≤◌}
use Rattle.std.proofs.Common.{arith, rules}
use Rattle.values.specs.Ranges.{mag-abs, abs_mag, abs-sum, abs-difference}
use Rattle.values.proofs.Signed.{wide, wide_is}
use Rattle.values.proofs.stretches.slid.Goals as goal

module _ (t x : ℤ) (small : nat_abs t ≤ 4611686018427387904) (ft : SFits w64 t) (fx : SFits w32 x) where
  in-fits : SFits w64 (t +ℤ x)
  in-fits = record { sfits = omega (arith, mag-abs (t +ℤ x), abs-sum t x, abs_mag x, fx.sfits) }

  slide-in : SFits w64 (to_z w64 (of_z w64 t) +ℤ wide x)
  slide-in = rw (to_z-of_z ft, wide_is fx) in-fits

  module _ (y : ℤ) (fy : SFits w32 y) where
    out-fits : SFits w64 (t +ℤ x -ℤ y)
    out-fits =
        record { sfits = omega (arith, mag-abs (t +ℤ x -ℤ y), abs-difference (t +ℤ x) y, abs-sum t x, abs_mag x, fx.sfits, abs_mag y, fy.sfits) }

    slide-out : SFits w64 (to_z w64 (of_z w64 (to_z w64 (of_z w64 t) +ℤ wide x)) -ℤ wide y)
    slide-out = rw (to_z-of_z ft, wide_is fx, to_z-of_z in-fits, wide_is fy) out-fits

pub overflow_add-result : goal.overflow_add-result
overflow_add-result c = search (rules, slide-in)

pub overflow_sub-result : goal.overflow_sub-result
overflow_sub-result c = search (rules, slide-out)
