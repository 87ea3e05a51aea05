-- The word is the name of a member, which gives the kind and the arguments, or of none. Assumes nothing.
use Rattle.steps.proofs.CursorPaths.{member-known, member-unknown, member-none}
use Rattle.steps.proofs.cursor.member_name.Goals as goal

pub returns-in-Some-clause-comes : goal.returns-in-Some-clause-comes
returns-in-Some-clause-comes c = member-known _ _ _ c.token-x.ensures c.in-Word.is _ c.member.ensures _ c.in-Some.is _ _ c.number_of.ensures c.arguments.ensures _ c.named.ensures

pub returns-in-None-clause-comes : goal.returns-in-None-clause-comes
returns-in-None-clause-comes c = member-unknown _ _ _ c.token-x.ensures c.in-Word.is _ c.member.ensures c.in-None.is _ c.refused.ensures

pub returns-in_default-clause-comes : goal.returns-in_default-clause-comes
returns-in_default-clause-comes c = member-none _ _ _ c.token-x.ensures c.in_default.not-Word _ c.refused-in_default.ensures
