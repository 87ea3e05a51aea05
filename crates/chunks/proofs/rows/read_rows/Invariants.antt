-- `chunks::rows::read_rows` meets its contract: the rows so far have their readings. Assumes nothing.
use Rattle.chunks.specs.Chunks.{Read}
use Rattle.chunks.proofs.rows.read_rows.Given as goal

abbrev pub invariant-loop-r : goal.invariant-loop-r
invariant-loop-r l = Read l.readings l.from l.r l.initial.buf l.buf
