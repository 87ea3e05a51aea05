-- One reading in, and one out. Assumes nothing.
use lib.ListN.{get_or}
use lib.IntN.{pos}
use mir.Syntax.{w32}
use mir.Val.{SFits}
use Rattle.std.proofs.Common.{◌+◌, arith, rules}
use Rattle.std.proofs.lemmas.Int.{ints, to_z-of_z}
use Rattle.values.specs.SlidingLaws.{slid_more}
use Rattle.values.proofs.stretches.best_of.Goals as goal

pub loop-out-preserved : goal.loop-out-preserved
loop-out-preserved c =
    let come : SFits w32 (get_or c.args.readings.now (c.loop-out.out + c.args.width) (pos 0)) = search rules in
    let gone : SFits w32 (get_or c.args.readings.now c.loop-out.out (pos 0)) = search rules in
    let h = slid_more _ _ _ _ _ c.loop-out.invariant c.loop-out-test.true come.sfits gone.sfits in
    grind (arith, ints, to_z-of_z)
