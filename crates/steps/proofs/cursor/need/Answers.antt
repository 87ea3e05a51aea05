-- The kind decides. Assumes nothing.
use Rattle.std.proofs.Common.{rules}
use Rattle.steps.proofs.CursorPaths.{need-passed, need-refused, need-refused-whole}
use Rattle.steps.proofs.cursor.need.Goals as goal

pub returns-then-eq-clause-comes : goal.returns-then-eq-clause-comes
returns-then-eq-clause-comes c = need-passed _ _ _ c.token-x.ensures _ (search rules) _ c.moved.ensures

pub returns-then-eq-clause-whole : goal.returns-then-eq-clause-whole
returns-then-eq-clause-whole c = need-passed _ _ _ c.token-x.ensures _ (search rules) _ c.moved.ensures

pub returns-else-eq-clause-comes : goal.returns-else-eq-clause-comes
returns-else-eq-clause-comes c = need-refused _ _ _ c.token-x.ensures _ (λ q. search rules) _ c.refused.ensures

pub returns-else-eq-clause-whole : goal.returns-else-eq-clause-whole
returns-else-eq-clause-whole c = need-refused-whole _ _ _ c.token-x.ensures _ (λ q. search rules) _ c.refused.ensures
