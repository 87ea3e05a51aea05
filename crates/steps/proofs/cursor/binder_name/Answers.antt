-- A name that is not too long is packed whole. Assumes nothing.
use Rattle.steps.proofs.CursorPaths.{name-none, binder-long, binder-reserved, binder-passed}
use Rattle.steps.proofs.cursor.binder_name.Goals as goal

pub returns-then-is_long-clause-comes : goal.returns-then-is_long-clause-comes
returns-then-is_long-clause-comes c = binder-long _ _ _ c.token-x.ensures c.in-Word.is _ c.is_long.ensures c.if-is_long.true _ c.refused.ensures

pub returns-then-is_data-clause-comes : goal.returns-then-is_data-clause-comes
returns-then-is_data-clause-comes c =
    binder-reserved _ _ _ c.token-x.ensures c.in-Word.is _ c.is_long.ensures c.if-is_long.false _ c.name-name.ensures _ c.is_data.ensures c.if-is_data.true _
    c.refused-then-is_data.ensures

pub returns-else-is_data-clause-comes : goal.returns-else-is_data-clause-comes
returns-else-is_data-clause-comes c =
    binder-passed _ _ _ c.token-x.ensures c.in-Word.is _ c.is_long.ensures c.if-is_long.false _ c.name-name.ensures _ c.is_data.ensures c.if-is_data.false _
    c.named.ensures

pub returns-in_default-clause-comes : goal.returns-in_default-clause-comes
returns-in_default-clause-comes c = name-none _ _ _ c.token-x.ensures c.in_default.not-Word _ c.refused-in_default.ensures
