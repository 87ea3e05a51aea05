-- An expression is read from the start, with no binder open, and then the end is due. Assumes nothing.
use Rattle.std.proofs.Common.{rules}
use Rattle.steps.specs.CursorsLaws.{raised}
use Rattle.reader.proofs.ParserPaths.{read_done, read_more, read-refused}
use Rattle.reader.proofs.parser.read.Goals as goal

pub returns-in_err-a : goal.returns-in_err-a
returns-in_err-a c = rw (raised _ c.from_residual.ensures.1) (read-refused _ _ _ (search rules) (search rules) _ _ _ _ c.in_err-a.ensures)

pub returns-in-End : goal.returns-in-End
returns-in-End c = read_done _ _ _ (search rules) (search rules) _ _ _ _ c.in_ok-a.ensures _ c.token-x.ensures c.in-End.is

pub returns-in_default : goal.returns-in_default
returns-in_default c = read_more _ _ _ (search rules) (search rules) _ _ _ _ c.in_ok-a.ensures _ c.token-x.ensures c.in_default.not-End _ c.refused.ensures
