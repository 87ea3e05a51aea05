-- A refusal is that of the check; else the sizes are those of a well-formed cache. Assumes nothing.
use native.Mathlib.Omega.{arith}
use Rattle.calls.specs.Previewing.{preview-refused, readings-few, work-lent, preview-left, preview-done}
use Rattle.calls.proofs.preview.preview.Goals as goal

pub returns-in_err-check : goal.returns-in_err-check
returns-in_err-check c = preview-refused _ _ _ _ c.check.ensures _ c.in_err-check.was _ c.from_residual.ensures.1

pub overflow_cast-size-2 : goal.overflow_cast-size-2
overflow_cast-size-2 c = omega (arith, readings-few _ _ _ _ _ _ c.check.ensures _ c.in_ok-check.was _ c.get_or-size.ensures)

pub work-done-requires : goal.work-done-requires
work-done-requires c = work-lent _ _ _ _ _ _ c.check.ensures _ c.in_ok-check.was _ c.get_or-size.ensures

pub returns-then-done : goal.returns-then-done
returns-then-done c = preview-left _ _ _ _ _ _ c.check.ensures _ c.in_ok-check.was _ c.get_or-size.ensures _ _ _ _ c.work-done.ensures c.if-done.true

pub returns : goal.returns
returns c =
    preview-done _ _ _ _ _ _ c.check.ensures _ c.in_ok-check.was _ c.get_or-size.ensures _ _ _ _ c.work-done.ensures c.if-done.false _ c.show.ensures
