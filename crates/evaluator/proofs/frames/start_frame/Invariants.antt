-- `evaluator::frames::start_frame` meets its contract: what is left gives the same frame. Assumes nothing.
use Prim.Native.Nat.{◌-◌}
use mathlib.Core.Path.{◌≡◌}
use Rattle.evaluator.specs.Frames.{start_from}
use Rattle.evaluator.proofs.frames.start_frame.Given as goal

abbrev pub invariant-loop-i : goal.invariant-loop-i
invariant-loop-i l = start_from l.size l.links l.cells (l.n - l.i) l.i l.frame ≡ start_from l.size l.links l.cells l.n 0 l.initial.frame
