-- What is planned is written, or nothing is. Assumes nothing.
use mathlib.Core.Path.{refl, sym}
use native.Mathlib.Omega.{arith}
use Rattle.planner.specs.Ready.{well-few, well-distinct}
use Rattle.calls.proofs.EditLaws.{plan-room, edit-accepted, edit-declined}
use Rattle.calls.proofs.edit.edit_checked.Goals as goal

pub overflow_cast-count : goal.overflow_cast-count
overflow_cast-count c = omega (arith, well-few _ _ _ c.requires.is_well_formed _ c.get_or-count.ensures)

pub plan_edit-requires-clause-fits_table : goal.plan_edit-requires-clause-fits_table
plan_edit-requires-clause-fits_table c = well-few _ _ _ c.requires.is_well_formed _ c.get_or-count.ensures

pub plan_edit-requires-clause-no_two_equal : goal.plan_edit-requires-clause-no_two_equal
plan_edit-requires-clause-no_two_equal c = well-distinct _ _ _ c.requires.is_well_formed _ c.get_or-count.ensures

pub returns-in_err-p : goal.returns-in_err-p
returns-in_err-p c =
    λ readings. edit-declined _ _ _ _ _ _ _ (c.plan_edit.ensures readings _ (sym c.get_or-count.ensures)) _ c.in_err-p.was _ c.from_residual.ensures.1

pub commit-requires-clause-total_in_range : goal.commit-requires-clause-total_in_range
commit-requires-clause-total_in_range c = let a = plan-room _ _ _ _ _ _ _ _ c.plan_edit.ensures _ c.in_ok-p.was in (a.0, a.1)

pub write_places-requires : goal.write_places-requires
write_places-requires c = let a = plan-room _ _ _ _ _ _ _ _ c.plan_edit.ensures _ c.in_ok-p.was in (a.2, c.requires.whole.1)

pub overflow_sub-result : goal.overflow_sub-result
overflow_sub-result c = (plan-room _ _ _ _ _ _ _ _ c.plan_edit.ensures _ c.in_ok-p.was).0

pub returns : goal.returns
returns c =
    λ readings. edit-accepted _ _ _ _ _ _ _ (c.plan_edit.ensures readings _ (sym c.get_or-count.ensures)) _ c.in_ok-p.was _ _ _
    c.get_or-count.ensures (c.commit.ensures readings) c.write_places.ensures
