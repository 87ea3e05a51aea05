-- The invariant: what is left of the work comes to the same. Assumes nothing.
use Rattle.scheduler.proofs.Choosing.{Going}
use Rattle.scheduler.proofs.works.work.Given as goal

abbrev pub invariant-loop-i : goal.invariant-loop-i
invariant-loop-i l = Going l.readings l.links l.initial.cells l.n l.allowance l.waits l.flags l.cells l.frame l.count l.i
