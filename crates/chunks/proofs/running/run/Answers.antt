-- `chunks::running::run` meets its contract: what is left of the runs, from a frame that has the same constants, gives the same tally. Assumes
-- nothing.
use native.Mathlib.Omega.{arith}
use Rattle.chunks.proofs.Turning.{place-asks, turns-begin, turns-end, turns-stop-slice, turns-again-slice}
use Rattle.chunks.proofs.running.run.Goals as goal

pub column_at-to-requires : goal.column_at-to-requires
column_at-to-requires c = place-asks c.requires.columns.0 c.requires.width

pub loop-k-init : goal.loop-k-init
loop-k-init c = turns-begin c.requires.columns.0 c.requires.columns.1 c.count_in-count.ensures c.requires.width c.column_at-to.ensures c.start-t.ensures

pub returns-then-t : goal.returns-then-t
returns-then-t c = turns-stop-slice c.loop-k.invariant (omega (arith, c.min-c.ensures)) c.chunk.ensures.read c.chunk.ensures.worked c.take_rows-t.ensures (omega (arith, c.min-c.ensures, c.loop-k.invariant.room, c.loop-k.invariant.asks.room, c.chunk.ensures.worked.size, c.chunk.ensures.read.size)) c.if-t.true

pub loop-k-preserved : goal.loop-k-preserved
loop-k-preserved c = turns-again-slice c.loop-k.invariant (omega (arith, c.min-c.ensures)) c.chunk.ensures.read c.chunk.ensures.worked c.take_rows-t.ensures (omega (arith, c.min-c.ensures, c.loop-k.invariant.room, c.loop-k.invariant.asks.room, c.chunk.ensures.worked.size, c.chunk.ensures.read.size)) c.if-t.false

pub returns : goal.returns
returns c = turns-end c.loop-k.invariant c.loop-k-test.false
