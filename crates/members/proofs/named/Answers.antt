-- The search among the rows that are left finds what the search among all finds. Assumes nothing.
use Rattle.std.proofs.Common.{rules, refl, sym, ◌∙◌}
use Rattle.members.specs.Members.{member_of}
use Rattle.members.specs.MembersLaws.{none-longer, row-found, row-other, row-missing, row-over}
use Rattle.members.proofs.named.Goals.{in_default-via-in-None-1, in_default-via-in-Some+else-is_named}
use Rattle.members.proofs.named.Goals as goal

pub returns-then-word-gt-LONGEST_NAME : goal.returns-then-word-gt-LONGEST_NAME
returns-then-word-gt-LONGEST_NAME c = sym (none-longer _ c.if-word-gt-LONGEST_NAME.true)

pub loop-n-init : goal.loop-n-init
unfolding member_of
loop-n-init c = refl

pub returns-in-loop-n : goal.returns-in-loop-n
returns-in-loop-n c =
    row-found _ _ c.loop-n-test.true _ c.member_at.ensures _ c.packed_name-name.ensures _ c.in-Some.is _ c.is_named.ensures c.if-is_named.true ∙ c.loop-n.invariant

pub loop-n-preserved : goal.loop-n-preserved
loop-n-preserved c =
    elim c.in_default.branch [
      | in_default-via-in-None-1 w ↦ row-missing _ _ c.loop-n-test.true _ c.member_at.ensures (search rules) ∙ c.loop-n.invariant
      | in_default-via-in-Some+else-is_named w ↦
          row-other _ _ c.loop-n-test.true _ c.member_at.ensures _ c.packed_name-name.ensures _ w.in-Some.is _ w.is_named.ensures w.if-is_named.false
          ∙ c.loop-n.invariant
    ]

pub returns : goal.returns
returns c = row-over _ _ _ c.loop-n-test.false c.loop-n.invariant
