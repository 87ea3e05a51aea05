-- Each path is a step of the walk over the entry's form. The measure is the entry, and in the loop over receivers the receiver. Assumes nothing.
use mathlib.Core.Path.{◌∙◌}
use native.Mathlib.Omega.{arith}
use Rattle.printer.specs.WalkingLaws as L
use Rattle.printer.proofs.judge.+walk.Goals as goal
use Rattle.printer.proofs.judge.+walk.Goals.{then-n-ne0, else-n-ne0}

pub loop-n-init : goal.loop-n-init
loop-n-init t c = let p = c.requires in L.walks-start _ _ _ _ _ _ p.0 p.1 p.2 p.3 _ c.node_at-n.ensures

pub returns-then-met-eq-DECLINED : goal.returns-then-met-eq-DECLINED
returns-then-met-eq-DECLINED t c =
    let p = c.requires in
    L.walks-declined _ _ _ _ _ _ p.0 _ _ _ _ c.loop-n.invariant c.loop-n-test.true _ c.open_call-met.ensures c.if-met-eq-DECLINED.true

pub overflow_add-inside : goal.overflow_add-inside
overflow_add-inside t c =
    let p = c.requires in
    omega (arith, L.fewer _ _ _ _ _ _ p.0 _ _ _ _ c.loop-n.invariant c.loop-n-test.true _ c.open_call-met.ensures c.if-met-eq-DECLINED.false)

pub walk-met-requires : goal.walk-met-requires
walk-met-requires t c =
    let p = c.requires in
    let w = c.loop-n.invariant in
    let m = c.loop-n-test.true in
    let o = c.open_call-met.ensures in (
      omega (arith, c.decreases, w.lower, L.argument-low _ _ _ _ _ _ p.0 _ _ _ _ w m _ o c.if-met-eq-DECLINED.false c.if-n-ne0.true _ c.entry_of.ensures),
      (
        p.0,
        L.argument-held _ _ _ _ _ _ p.0 _ _ _ _ w m _ o c.if-met-eq-DECLINED.false c.if-n-ne0.true _ c.entry_of.ensures,
        L.fewer _ _ _ _ _ _ p.0 _ _ _ _ w m _ o c.if-met-eq-DECLINED.false,
        L.call-few _ _ _ _ _ _ p.0 _ _ _ _ w m _ o,
        p.4,
      ),
    )

pub overflow_add-marks : goal.overflow_add-marks
overflow_add-marks t c =
    let p = c.requires in
    omega (arith, L.fewer _ _ _ _ _ _ p.0 _ _ _ _ c.loop-n.invariant c.loop-n-test.true _ c.open_call-met.ensures c.if-met-eq-DECLINED.false)

pub loop-n-smaller : goal.loop-n-smaller
loop-n-smaller t c =
    let p = c.requires in
    L.receiver-low _ _ _ _ _ _ p.0 _ _ _ _ c.loop-n.invariant c.loop-n-test.true _ c.entry_of-at.ensures

pub loop-n-preserved : goal.loop-n-preserved
loop-n-preserved t c =
    let p = c.requires in
    let w = c.loop-n.invariant in
    let m = c.loop-n-test.true in
    let o = c.open_call-met.ensures in
    let e = c.entry_of-at.ensures in
    let n = c.node_at-n-in-loop-n.ensures in
    elim c.if-n-ne0.branch [
      | then-n-ne0 v ↦ L.walks-call _ _ _ _ _ _ p.0 _ _ _ _ w m _ o c.if-met-eq-DECLINED.false v.if-n-ne0.true _ v.entry_of.ensures _ (v.met-is ∙ v.walk-met.ensures) _ e _ n
      | else-n-ne0 v ↦ rw v.met-is (L.walks-ask _ _ _ _ _ _ p.0 _ _ _ _ w m _ o c.if-met-eq-DECLINED.false v.if-n-ne0.false _ e _ n)
    ]

pub returns-then-met-eq-DECLINED-2 : goal.returns-then-met-eq-DECLINED-2
returns-then-met-eq-DECLINED-2 t c =
    let p = c.requires in
    L.function-declined _ _ _ _ _ _ p.0 _ _ _ _ c.loop-n.invariant c.if-n-eq-FUNCTION.true _ c.open_function-met.ensures c.if-met-eq-DECLINED-2.true

pub overflow_add-inside-then-n-eq-FUNCTION : goal.overflow_add-inside-then-n-eq-FUNCTION
overflow_add-inside-then-n-eq-FUNCTION t c =
    let p = c.requires in
    omega (arith, L.deeper _ _ _ _ _ _ p.0 _ _ _ _ c.loop-n.invariant c.if-n-eq-FUNCTION.true _ c.open_function-met.ensures c.if-met-eq-DECLINED-2.false)

pub walk-requires : goal.walk-requires
walk-requires t c =
    let p = c.requires in
    let w = c.loop-n.invariant in
    let k = c.if-n-eq-FUNCTION.true in
    let o = c.open_function-met.ensures in (
      omega (arith, c.decreases, w.lower, L.body-low _ _ _ _ _ _ p.0 _ _ _ _ w k _ o c.if-met-eq-DECLINED-2.false _ c.entry_of-then-n-eq-FUNCTION.ensures),
      (
        p.0,
        L.body-held _ _ _ _ _ _ p.0 _ _ _ _ w k _ o c.if-met-eq-DECLINED-2.false _ c.entry_of-then-n-eq-FUNCTION.ensures,
        L.deeper _ _ _ _ _ _ p.0 _ _ _ _ w k _ o c.if-met-eq-DECLINED-2.false,
        L.function-few _ _ _ _ _ _ p.0 _ _ _ _ w k _ o,
        (L.walks-level _ _ _ _ _ _ p.0 _ _ _ _ w, p.4.0),
      ),
    )

pub returns-then-n-eq-FUNCTION : goal.returns-then-n-eq-FUNCTION
returns-then-n-eq-FUNCTION t c =
    let p = c.requires in
    L.walks-function _ _ _ _ _ _ p.0 _ _ _ _ c.loop-n.invariant c.if-n-eq-FUNCTION.true _ c.open_function-met.ensures c.if-met-eq-DECLINED-2.false _ c.entry_of-then-n-eq-FUNCTION.ensures _ c.walk.ensures

pub walk_leaf-requires : goal.walk_leaf-requires
walk_leaf-requires t c =
    let p = c.requires in
    let w = c.loop-n.invariant in
    (L.walks-key _ _ _ _ _ _ p.0 _ _ _ _ w, L.walks-level _ _ _ _ _ _ p.0 _ _ _ _ w, p.4)

pub returns : goal.returns
returns t c =
    let p = c.requires in
    c.walk_leaf.ensures ∙ L.walks-leaf _ _ _ _ _ _ p.0 _ _ _ _ c.loop-n.invariant c.loop-n-test.false c.if-n-eq-FUNCTION.false
