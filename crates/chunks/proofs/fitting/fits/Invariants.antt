-- `chunks::fitting::fits` meets its contract. The invariant: what is left of the list gives the same. Assumes nothing.
use Rattle.chunks.specs.Fitting.{fits_of}
use Rattle.chunks.proofs.Fits.{Along}
use Rattle.chunks.proofs.fitting.fits.Given as goal

abbrev pub invariant-loop-k : goal.invariant-loop-k
invariant-loop-k l = Along (fits_of l.links l.map l.body) (fits_of l.links l.map l.body) l.list l.k
