-- `chunks::fitting::place` meets its contract. The invariant: what is left of the list gives the same map. Assumes nothing.
use Rattle.chunks.proofs.Fits.{Along, marked}
use Rattle.chunks.proofs.fitting.place.Given as goal

abbrev pub invariant-loop-k : goal.invariant-loop-k
invariant-loop-k l = Along (marked l.v l.initial.map) (marked l.v l.map) l.list l.k
