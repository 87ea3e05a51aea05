-- `values::windows::total_of` meets its contract. At the loop's head the total and the sum of the readings from i on make the whole sum, and
-- the total is at most i times 2^31 in size.
-- The measure is how many readings are left. Assumes nothing.
use Rattle.values.specs.WindowLaws.{Summed}
use Rattle.values.proofs.windows.total_of.Given as goal

abbrev pub invariant-loop-x : goal.invariant-loop-x
invariant-loop-x l = Summed l.readings l.total l.x-index
