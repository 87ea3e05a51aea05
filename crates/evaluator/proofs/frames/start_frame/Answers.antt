-- `evaluator::frames::start_frame` meets its contract: what is left gives the same frame. Assumes nothing.
use Rattle.evaluator.proofs.Framing.{start-turn, start-end}
use Rattle.evaluator.proofs.frames.start_frame.Goals as goal

pub loop-i-preserved : goal.loop-i-preserved
loop-i-preserved c = start-turn _ _ _ _ _ _ _ c.loop-i-test.true c.start_at.ensures c.loop-i.invariant

pub returns : goal.returns
returns c = start-end _ _ _ _ _ _ c.loop-i-test.false c.loop-i.invariant
