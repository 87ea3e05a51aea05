-- `chunks::running::run` meets its contract: what is left of the runs, from a frame that has the same constants, gives the same tally. Assumes
-- nothing.
use Prim.Native.Nat.{◌-◌}
use Rattle.chunks.proofs.Turning.{Turns}
use Rattle.chunks.proofs.running.run.Given as goal

abbrev pub invariant-loop-k : goal.invariant-loop-k
invariant-loop-k l =
    Turns l.body.links.now l.body.list.now l.body.variable l.body.root l.columns.map.now l.columns.frame.now l.body.readings.now l.from l.most l.count l.columns.width l.to l.buf l.t l.k

abbrev pub decreases-loop-k : goal.decreases-loop-k
decreases-loop-k l = l.count - l.k
