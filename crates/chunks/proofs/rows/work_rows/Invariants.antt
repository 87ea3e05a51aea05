-- `chunks::rows::work_rows` meets its contract. The loop's invariant: in each row, what is left of the list gives from the columns so far what
-- the whole list gives. Assumes nothing.
use Prim.Native.Nat.{◌+◌}
use Rattle.chunks.proofs.Filling.{Fill}
use Rattle.chunks.proofs.rows.work_rows.Given as goal

abbrev pub invariant-loop-k : goal.invariant-loop-k
invariant-loop-k l =
    Fill l.body.links.now l.body.readings.now l.body.list.now l.body.variable l.body.root l.columns.map.now l.columns.frame.now l.columns.width l.c l.initial.buf l.buf (l.k + 3) l.k
