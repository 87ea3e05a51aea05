use Prim.Native.Nat.{◌+◌, ◌*◌}
use Rattle.interpreter.specs.Walking.{Keeps}
use Rattle.interpreter.specs.OverLaws.{Sums}
use Rattle.interpreter.proofs.walk.+over_ran_value_work.Given as goal

abbrev pub decreases-over : goal.decreases-over
decreases-over l = 4 * l.f + 1

abbrev pub decreases-ran : goal.decreases-ran
decreases-ran l = 4 * l.f

abbrev pub decreases-value : goal.decreases-value
decreases-value l = 4 * l.i + 3

abbrev pub decreases-work : goal.decreases-work
decreases-work l = 4 * l.i + 2

abbrev pub invariant-over-loop-z : goal.invariant-over-loop-z
invariant-over-loop-z l = Keeps l.source.readings.now l.source.records.now l.source.orders.now l.memo × Sums l.source.readings.now l.source.records.now l.source.orders.now l.s l.f l.z-items l.t l.z-index
