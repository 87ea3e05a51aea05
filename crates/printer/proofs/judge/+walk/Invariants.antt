-- Each path is a step of the walk over the entry's form. The measure is the entry, and in the loop over receivers the receiver. Assumes nothing.
use Rattle.layout.specs.Held.{shaped}
use Rattle.printer.specs.Walking.{Walks}
use Rattle.printer.proofs.judge.+walk.Given as goal

abbrev pub decreases-walk : goal.decreases-walk
decreases-walk l = l.entry

abbrev pub invariant-loop-n : goal.invariant-loop-n
invariant-loop-n l =
    Walks l.links l.cells l.count l.entry l.s l.found l.at (shaped l.n) l.marks l.met

abbrev pub decreases-loop-n : goal.decreases-loop-n
decreases-loop-n l = l.at
