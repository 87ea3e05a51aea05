-- Where nothing is refused, the call's record is written. Assumes nothing.
use Rattle.steps.specs.CursorsLaws.{raised, passed-kept}
use Rattle.steps.proofs.ScratchPaths.{shut-read, shut-held, shut-stopped, put-kept}
use Rattle.steps.proofs.scratch.read_shut.Goals as goal

pub returns-in_err-a-clause-wrote : goal.returns-in_err-a-clause-wrote
returns-in_err-a-clause-wrote c = rw (raised _ c.from_residual.ensures.1) (shut-stopped _ _ _ _ _ c.at_shut.ensures _ _ _ c.in_err-a.ensures)

pub returns-then-is_refused : goal.returns-then-is_refused
returns-then-is_refused c = record {
  wrote = shut-held _ _ _ _ _ c.at_shut.ensures _ _ _ c.in_ok-a.ensures _ c.is_refused.ensures c.if-is_refused.true;
  kept = passed-kept _ _ c.args.c _ _ c.in_ok-a.ensures;
}

pub returns : goal.returns
returns c = record {
  wrote = shut-read _ _ _ _ _ c.at_shut.ensures _ _ _ c.in_ok-a.ensures _ c.is_refused.ensures c.if-is_refused.false _ _ _ c.put.ensures;
  kept = put-kept _ c.args.c c.in_ok-a.a (passed-kept _ _ c.args.c _ _ c.in_ok-a.ensures) _ _ _ _ _ _ c.put.ensures;
}
