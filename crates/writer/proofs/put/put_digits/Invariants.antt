-- The invariant: what is written and what is left are the number's digits. Assumes nothing.
use Rattle.writer.specs.Putting.{Counts}
use Rattle.writer.proofs.put.put_digits.Given as goal

abbrev pub invariant-loop-rest : goal.invariant-loop-rest
invariant-loop-rest l = Counts l.n l.initial.page l.rest l.page

abbrev pub decreases-loop-rest : goal.decreases-loop-rest
decreases-loop-rest l = l.rest
