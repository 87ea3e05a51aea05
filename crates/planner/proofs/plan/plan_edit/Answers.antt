-- The text is read and bound, if there is room for it. Assumes nothing.
use native.Mathlib.Omega.{arith}
use borrow.Author.Rules.{rules}
use Rattle.std.proofs.Common.{sym, ◌∙◌}
use Rattle.reading.specs.ReadToLaws.{read_done}
use Rattle.planner.proofs.PlanLaws.{planned-refused, planned-full, planned-done}
use Rattle.planner.proofs.plan.plan_edit.Goals as goal

pub returns-in_err-text_read : goal.returns-in_err-text_read
returns-in_err-text_read c =
    λ readings heads e. planned-refused _ _ _ _ _ _ _ c.read.ensures (search rules) (search rules) _ c.in_err-text_read.was _ _ _ c.from_residual.ensures.1

pub bind-total-requires-clause-fits_table : goal.bind-total-requires-clause-fits_table
bind-total-requires-clause-fits_table c =
    (c.requires.fits_table, (read_done _ _ _ _ _ _ c.read.ensures (search rules) (search rules) _ c.in_ok-text_read.was).small)

pub returns-then-is_full : goal.returns-then-is_full
returns-then-is_full c =
    λ readings heads e. planned-full readings heads _ _ _ e _ _ _ _ _ _
    (read_done _ _ _ _ _ _ c.read.ensures (search rules) (search rules) _ c.in_ok-text_read.was) _ _ _ c.bind-total.ensures
    (sym c.is_full.ensures ∙ c.if-is_full.true) _ c.into.ensures

pub bounds-numbers-text_read : goal.bounds-numbers-text_read
bounds-numbers-text_read c =
    let d = read_done _ _ _ _ _ _ c.read.ensures (search rules) (search rules) _ c.in_ok-text_read.was in omega (arith, d.low, d.small)

pub returns : goal.returns
returns c =
    λ readings heads e. planned-done readings heads _ _ _ e _ _ _ _ _ _
    (read_done _ _ _ _ _ _ c.read.ensures (search rules) (search rules) _ c.in_ok-text_read.was) _ _ _ c.bind-total.ensures
    (sym c.is_full.ensures ∙ c.if-is_full.false)
