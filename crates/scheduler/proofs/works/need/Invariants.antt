-- The sweep from here on gives the whole. Assumes nothing.
use Rattle.std.proofs.Common.{◌≡◌}
use Rattle.schedule.specs.Works.{need_from, need_of}
use Rattle.scheduler.proofs.works.need.Given as goal

abbrev pub invariant-loop-j : goal.invariant-loop-j
invariant-loop-j l = need_from l.links l.j l.flags ≡ need_of l.links l.n
