-- The invariant: the sweep from here on, with what stands in the list already, gives the whole list. Assumes nothing.
use Rattle.evaluator.proofs.Reaching.{Sweeps}
use Rattle.evaluator.proofs.reach.gather.Given as goal

abbrev pub invariant-loop-j : goal.invariant-loop-j
invariant-loop-j l = Sweeps l.links l.waits l.v l.body l.list l.at l.flags l.j
