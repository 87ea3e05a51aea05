-- `columns::loops::rows` meets its contract: each row is a step of LoopLaws. Assumes nothing.
use Rattle.columns.proofs.LoopLaws.{Rows}
use Rattle.columns.proofs.loops.rows.Given as goal

abbrev pub invariant-loop-r : goal.invariant-loop-r
invariant-loop-r g l = Rows g.M.OnNumbers.member l.from l.c l.initial.buf l.first l.second l.to l.buf l.r
