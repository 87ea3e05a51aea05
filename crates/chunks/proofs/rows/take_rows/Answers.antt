-- `chunks::rows::take_rows` meets its contract: what is left to take from here gives the same tally. Assumes nothing.
use Rattle.chunks.proofs.Turning.{taking-stop, taking-again}
use Rattle.chunks.proofs.rows.take_rows.Goals as goal

pub returns-then-u : goal.returns-then-u
returns-then-u c = taking-stop c.loop-c.invariant c.loop-c-test.true c.tally-u.ensures c.if-u.true

pub loop-c-preserved : goal.loop-c-preserved
loop-c-preserved c = taking-again c.loop-c.invariant c.loop-c-test.true c.tally-u.ensures c.if-u.false
