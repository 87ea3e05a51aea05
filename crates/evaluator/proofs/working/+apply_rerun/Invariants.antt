-- The cycle: apply of entry i measures 2 * i + 1, rerun of a body 2 * body + 2. The loops' invariants say that what is left gives the same.
-- Assumes nothing.
use Prim.Native.Nat.{◌+◌, ◌-◌, ◌*◌}
use Rattle.rules.specs.Windows.{readings_in}
use Rattle.evaluator.specs.Applying.{graph}
use Rattle.evaluator.proofs.Running.{Runs, Works}
use Rattle.evaluator.proofs.working.+apply_rerun.Given as goal

abbrev pub decreases-apply : goal.decreases-apply
decreases-apply l = 2 * l.i + 1

abbrev pub decreases-rerun : goal.decreases-rerun
decreases-rerun l = 2 * l.body.root + 2

abbrev pub invariant-apply-loop-k : goal.invariant-apply-loop-k
invariant-apply-loop-k l =
    Runs (graph l.links l.waits l.readings) l.root l.variable l.body.list.now l.frame (readings_in l.readings l.start l.length) l.local l.t (l.k - l.start)

abbrev pub invariant-rerun-loop-next : goal.invariant-rerun-loop-next
invariant-rerun-loop-next l = Works (graph l.body.links.now l.waits l.body.readings.now) l.body.root l.body.list.now l.initial.frame l.frame l.next-index
