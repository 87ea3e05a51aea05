-- `columns::loops::rows` meets its contract: each row is a step of LoopLaws. Assumes nothing.
use Rattle.columns.proofs.LoopLaws.{rowed-again}
use Rattle.columns.proofs.loops.rows.Goals as goal

pub loop-r-preserved : goal.loop-r-preserved
loop-r-preserved g c = rowed-again c.requires.0 c.loop-r.invariant c.loop-r-test.true _ _ _ c.cell_in-a.ensures c.cell_in-b.ensures (c.are_numbers.ensures c.if-not-are_numbers.false) c.cell.ensures
