-- The places up to here are written. Assumes nothing.
use Rattle.std.proofs.Common.{◌≡◌}
use Rattle.std.proofs.Math.ListN.{take}
use Rattle.binder.specs.Written.{placed}
use Rattle.binder.proofs.commit.write_places.Given as goal

abbrev pub invariant-loop-p : goal.invariant-loop-p
invariant-loop-p l = l.places ≡ placed l.numbers (take l.p l.parts) l.initial.places
