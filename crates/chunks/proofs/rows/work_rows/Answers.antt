-- `chunks::rows::work_rows` meets its contract. The loop's invariant: in each row, what is left of the list gives from the columns so far what
-- the whole list gives. Assumes nothing.
use Rattle.chunks.proofs.Filling.{fill-begin, fill-fits, fill-again, fill_end}
use Rattle.chunks.proofs.rows.work_rows.Goals as goal

pub loop-k-init : goal.loop-k-init
loop-k-init c = fill-begin _ _ _ _ _ _ _ _ _ _ c.requires

pub work_column-requires : goal.work_column-requires
work_column-requires c = fill-fits _ _ _ _ _ _ _ _ _ _ c.requires _ _ _ c.loop-k.invariant c.loop-k-test.true

pub loop-k-preserved : goal.loop-k-preserved
loop-k-preserved c = fill-again _ _ _ _ _ _ _ _ _ _ c.requires _ _ _ c.loop-k.invariant c.loop-k-test.true _ c.work_column.ensures

pub returns : goal.returns
returns c = fill_end _ _ _ _ _ _ _ _ _ _ c.requires _ _ _ c.loop-k.invariant c.loop-k-test.false
