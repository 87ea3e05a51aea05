-- `values::stretches::best_of` meets its contract. At the loop's head the sum is that of the stretch that begins at `out`, and the best so far
-- against the stretches that begin after it is the best of all. The measure is how many stretches are left. Assumes nothing.
use Rattle.values.specs.SlidingLaws.{Slid}
use Rattle.values.proofs.stretches.best_of.Given as goal

abbrev pub invariant-loop-out : goal.invariant-loop-out
invariant-loop-out l = Slid l.readings l.width l.sum l.so_far l.out
