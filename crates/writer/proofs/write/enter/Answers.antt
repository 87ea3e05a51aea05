-- By the entry's kind: each answer is a law of WritingLaws. Assumes nothing.
use mathlib.Core.Path.{◌≡◌, refl, sym, ap, ◌∙◌}
use Prim.Native.Nat.{ℕ, ◌+◌, ◌-◌, ◌*◌}
use borrow.Author.Rules.{rules}
use lib.Dec.{eqb}
use native.Mathlib.Omega.{arith}
use Rattle.layout.specs.Memory.{Node}
use Rattle.table.specs.WellFormed.{key_right}
use Rattle.table.specs.RightLaws.{right_key}
use Rattle.writer.specs.Writing.{turn_number}
use Rattle.writer.specs.WritingLaws.{turn-tag, enter-function, enter-leaf, enter-ask, enter-call}
use Rattle.writer.proofs.write.enter.Goals as goal

pub returns-in_err-put_if : goal.returns-in_err-put_if
returns-in_err-put_if c =
    let is = c.node_at-n.ensures in
    let w : c.eq-is_receiver.result ≡ eqb (turn_number c.args.s.turn) 1 = search rules in
    rw c.from_residual.ensures ((enter-function c.requires.0 c.requires.1 (ap (λ (q : Node). q.kind) (sym is) ∙ c.if-n-eq-FUNCTION.true) _ w _ _
    (ap (λ (n : ℕ). 2 * c.args.s.entry + n) (turn-tag c.args.s.turn)) refl).stopped _ c.in_err-put_if.ensures)

pub returns-then-n-eq-FUNCTION : goal.returns-then-n-eq-FUNCTION
returns-then-n-eq-FUNCTION c =
    let is = c.node_at-n.ensures in
    let w : c.eq-is_receiver.result ≡ eqb (turn_number c.args.s.turn) 1 = search rules in
    (enter-function c.requires.0 c.requires.1 (ap (λ (q : Node). q.kind) (sym is) ∙ c.if-n-eq-FUNCTION.true) _ w _ _
    (ap (λ (n : ℕ). 2 * c.args.s.entry + n) (turn-tag c.args.s.turn)) (c.entry_of.ensures ∙ ap (λ (q : Node). q.first - 1) is)).made _ c.in_ok-put_if.ensures

pub put_leaf-requires : goal.put_leaf-requires
put_leaf-requires c =
    let r = c.requires.0 in
    let is = c.node_at-n.ensures in
    ap key_right is ∙ right_key _ _ (r.table.right _ r.entry)

pub returns-in_err-put_leaf : goal.returns-in_err-put_leaf
returns-in_err-put_leaf c =
    let is = c.node_at-n.ensures in
    let k = ap (λ (q : Node). q.kind) is in
    rw c.from_residual-in_err-put_leaf.ensures ((enter-leaf c.requires.0 c.requires.1 (rw k at c.if-n-lt-FUNCTION.true) _ is).stopped _ c.in_err-put_leaf.ensures)

pub returns-then-n-lt-FUNCTION : goal.returns-then-n-lt-FUNCTION
returns-then-n-lt-FUNCTION c =
    let is = c.node_at-n.ensures in
    let k = ap (λ (q : Node). q.kind) is in
    (enter-leaf c.requires.0 c.requires.1 (rw k at c.if-n-lt-FUNCTION.true) _ is).made _ c.in_ok-put_leaf.ensures

pub returns-in_err-put_member : goal.returns-in_err-put_member
returns-in_err-put_member c =
    let is = c.node_at-n.ensures in
    let k = ap (λ (q : Node). q.kind) is in
    let u = c.if-n-lt-FUNCTION.false in
    let v = c.if-n-eq-FUNCTION.false in
    rw c.from_residual-in_err-put_member.ensures ((enter-ask c.requires.0 c.requires.1 (omega arith) (ap (λ (q : Node). q.second) (sym is) ∙ c.if-n-eq0.true) _ refl).stopped _ (rw k at c.in_err-put_member.ensures))

pub returns-then-n-eq0 : goal.returns-then-n-eq0
returns-then-n-eq0 c =
    let is = c.node_at-n.ensures in
    let k = ap (λ (q : Node). q.kind) is in
    let u = c.if-n-lt-FUNCTION.false in
    let v = c.if-n-eq-FUNCTION.false in
    (enter-ask c.requires.0 c.requires.1 (omega arith) (ap (λ (q : Node). q.second) (sym is) ∙ c.if-n-eq0.true) _ (c.entry_of-then-n-eq0.ensures ∙ ap (λ (q : Node). q.first - 1) is)).made _ (rw k at c.in_ok-put_member.ensures)

pub returns-in_err-put_byte : goal.returns-in_err-put_byte
returns-in_err-put_byte c =
    let is = c.node_at-n.ensures in
    let k = ap (λ (q : Node). q.kind) is in
    let j = ap (λ (q : Node). q.second) is in
    let u = c.if-n-eq0.false in
    rw c.from_residual-in_err-put_byte.ensures ((enter-call c.requires.0 c.requires.1 (λ e. c.if-n-eq-FUNCTION.false (k ∙ e)) (omega arith) _ _ refl refl).stopped _ c.in_err-put_byte.ensures)

pub returns : goal.returns
returns c =
    let is = c.node_at-n.ensures in
    let k = ap (λ (q : Node). q.kind) is in
    let j = ap (λ (q : Node). q.second) is in
    let u = c.if-n-eq0.false in
    (enter-call c.requires.0 c.requires.1 (λ e. c.if-n-eq-FUNCTION.false (k ∙ e)) (omega arith) _ _ refl (c.entry_of-2.ensures ∙ ap (λ (q : Node). q.second - 1) is)).made _ c.in_ok-put_byte.ensures
