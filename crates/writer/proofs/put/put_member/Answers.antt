-- The two words of the name and the dot, or nothing. Assumes nothing.
use Rattle.std.proofs.Common.{sym, ◌∙◌}
use Rattle.writer.specs.PuttingLaws.{puts_more, no_back, no_front, puts_member, puts_unknown}
use Rattle.writer.proofs.put.put_member.Goals as goal

pub returns-in_err-put : goal.returns-in_err-put
returns-in_err-put c = rw c.from_residual.ensures (puts_more _ c.in_err-put.ensures)

pub returns-in_err-put-in-Some : goal.returns-in_err-put-in-Some
returns-in_err-put-in-Some c = rw c.from_residual-in_err-put-in-Some.ensures (no_back _ _ _ _ (sym c.member_of.ensures ∙ c.in-Some.is) c.name_of-name.ensures c.in_ok-put.ensures c.in_err-put-in-Some.ensures)

pub returns-in_err-put-in-Some-2 : goal.returns-in_err-put-in-Some-2
returns-in_err-put-in-Some-2 c = rw c.from_residual-in_err-put-in-Some-2.ensures (no_front _ _ _ _ (sym c.member_of.ensures ∙ c.in-Some.is) c.name_of-name.ensures c.in_ok-put.ensures c.in_ok-put-in-Some.ensures c.in_err-put-in-Some-2.ensures)

pub returns-in_ok-put-in-Some-2 : goal.returns-in_ok-put-in-Some-2
returns-in_ok-put-in-Some-2 c = puts_member _ _ _ _ (sym c.member_of.ensures ∙ c.in-Some.is) c.name_of-name.ensures c.in_ok-put.ensures c.in_ok-put-in-Some.ensures c.in_ok-put-in-Some-2.ensures c.put_byte.ensures

pub returns-in-None : goal.returns-in-None
returns-in-None c = puts_unknown (sym c.member_of.ensures ∙ c.in-None.is) c.in_ok-put.ensures
