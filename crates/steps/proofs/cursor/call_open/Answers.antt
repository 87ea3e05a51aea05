-- A bracket is judged; any other token is refused. Assumes nothing.
use Rattle.steps.specs.CursorsLaws.{passed-kept}
use Rattle.steps.proofs.CursorPaths.{open-none, open_judged}
use Rattle.steps.proofs.cursor.call_open.Goals as goal

pub returns-in-Open : goal.returns-in-Open
returns-in-Open c = record {
  comes = open_judged _ _ _ c.token-x.ensures _ c.in-Open.is _ c.at_open_mark.ensures _ c.judged.ensures;
  kept = passed-kept _ _ c.args.c _ _ c.judged.ensures;
}

pub returns-in_default-clause-comes : goal.returns-in_default-clause-comes
returns-in_default-clause-comes c = open-none _ _ _ c.token-x.ensures _ c.in_default.not-Open _ c.refused.ensures
