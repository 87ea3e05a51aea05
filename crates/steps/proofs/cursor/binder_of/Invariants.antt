-- Binders are looked at from the innermost on; the ones passed have other names. Assumes nothing.
use Rattle.std.proofs.Common.{◌≡◌}
use Rattle.descent.specs.Cursor.{binder_of}
use Rattle.steps.proofs.cursor.binder_of.Given as goal

abbrev pub invariant-loop-b : goal.invariant-loop-b
invariant-loop-b l = binder_of l.scope l.x l.b ≡ binder_of l.scope l.x l.depth
