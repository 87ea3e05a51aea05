-- `chunks::rows::take_rows` meets its contract: what is left to take from here gives the same tally. Assumes nothing.
use Rattle.chunks.proofs.Turning.{Taking}
use Rattle.chunks.proofs.rows.take_rows.Given as goal

abbrev pub invariant-loop-c : goal.invariant-loop-c
invariant-loop-c l = Taking l.cells l.initial.u l.u l.c-index
