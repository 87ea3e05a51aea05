-- By what is open: each answer is a law of WritingLaws. Assumes nothing.
use mathlib.Core.Path.{refl, sym, ap, ◌∙◌}
use Prim.Native.Nat.{◌-◌}
use Rattle.layout.specs.Memory.{Node}
use Rattle.writer.specs.WritingLaws.{leave-function, leave-call}
use Rattle.writer.proofs.write.leave.Goals as goal

pub returns-in_err-put_head : goal.returns-in_err-put_head
returns-in_err-put_head c =
    let is = c.node_at-n.ensures in
    rw c.from_residual.ensures ((leave-function c.requires.0 c.requires.1 _ refl c.if-s-eq0.false _ refl (ap (λ (q : Node). q.kind) (sym is) ∙ c.if-n-eq-FUNCTION.true) _ refl _ (ap (λ (q : Node). q.key) is)).stopped _ c.in_err-put_head.ensures)

pub returns-then-n-eq-FUNCTION : goal.returns-then-n-eq-FUNCTION
returns-then-n-eq-FUNCTION c =
    let is = c.node_at-n.ensures in
    (leave-function c.requires.0 c.requires.1 _ refl c.if-s-eq0.false _ refl (ap (λ (q : Node). q.kind) (sym is) ∙ c.if-n-eq-FUNCTION.true) _ refl _ (ap (λ (q : Node). q.key) is)).made _ c.in_ok-put_head.ensures

pub returns-in_err-put_member : goal.returns-in_err-put_member
returns-in_err-put_member c =
    let is = c.node_at-n.ensures in
    let k = ap (λ (q : Node). q.kind) is in
    rw c.from_residual-in_err-put_member.ensures ((leave-call c.requires.0 c.requires.1 _ refl c.if-s-eq0.false _ refl (λ e. c.if-n-eq-FUNCTION.false (k ∙ e)) _ refl).stopped _ (rw k at c.in_err-put_member.ensures))

pub returns : goal.returns
returns c =
    let is = c.node_at-n.ensures in
    let k = ap (λ (q : Node). q.kind) is in
    (leave-call c.requires.0 c.requires.1 _ refl c.if-s-eq0.false _ refl (λ e. c.if-n-eq-FUNCTION.false (k ∙ e)) _ (c.entry_of.ensures ∙ ap (λ (q : Node). q.first - 1) is)).made _ (rw k at c.in_ok-put_member.ensures)
