-- One reading more. Assumes nothing.
use lib.ListN.{get_or}
use lib.IntN.{pos, ◌+ℤ◌}
use mir.Syntax.{w32, w64}
use mir.Val.{SFits, to_z}
use Rattle.std.proofs.Common.{arith, rules}
use Rattle.std.proofs.lemmas.Int.{ints, to_z-of_z}
use Rattle.values.specs.Ranges.{mag-abs}
use Rattle.values.specs.WindowLaws.{summed_more}
use Rattle.values.proofs.Signed.{wide_is}
use Rattle.values.proofs.windows.total_of.Goals as goal

pub loop-x-preserved : goal.loop-x-preserved
loop-x-preserved c =
    let f : SFits w32 (get_or c.args.readings.now c.loop-x.x-index (pos 0)) = search rules in
    let h = summed_more _ _ _ c.loop-x.invariant c.loop-x-test.true f.sfits in
    grind (arith, ints, to_z-of_z)

pub overflow_add-total : goal.overflow_add-total
overflow_add-total c =
    let t = to_z w64 c.loop-x.total-bits in
    let z = get_or c.args.readings.now c.loop-x.x-index (pos 0) in
    let f : SFits w32 z = search rules in
    let more = summed_more _ _ _ c.loop-x.invariant c.loop-x-test.true f.sfits in
    rw (wide_is f) (record { sfits = omega (arith, mag-abs (t +ℤ z), more.small, more.within, more.short) })
