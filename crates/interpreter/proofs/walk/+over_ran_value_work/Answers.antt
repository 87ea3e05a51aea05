use borrow.Author.Rules.{rules}
use native.Mathlib.Omega.{arith}
use Prim.Native.Nat.{◌+◌}
use mathlib.Core.Path.{refl, ap, ◌∙◌}
use mir.Facts.{to_z-of_z}
use Rattle.rules.specs.declared.Value.TheVariants.{Number, Delayed}
use Rattle.values.specs.Packing.{delayed_cell}
use Rattle.values.specs.PackingLaws.{round}
use Rattle.interpreter.specs.OverLaws.{sums-within, sums-more, over-stopped, over-ended, window-short}
use Rattle.interpreter.specs.WalkingLaws.{ready-later, known-comes, kept-comes, leaf-comes, function-first, function-low, function-ready, function-comes, function-ran, other-ran}
use Rattle.interpreter.specs.WalkingLaws.{member-first, member-low, member-ready, ask-comes, first-bounded, second-first, second-low, second-ready, call-comes, run-comes}
use Rattle.interpreter.proofs.OnCells.{of-kind}
use Rattle.interpreter.proofs.Paths.{leaf-is}
use Rattle.interpreter.proofs.walk.+over_ran_value_work.Goals as goal

pub over-ran-c-requires : goal.over-ran-c-requires
over-ran-c-requires t c =
    (omega (arith, c.decreases), ready-later c.args.source.now.readings.now c.args.source.now.records.now c.args.source.now.orders.now c.args.s c.args.f c.args.memo.now c.requires c.loop-z.memo c.loop-z.invariant.0)

pub over-step-t-requires : goal.over-step-t-requires
over-step-t-requires t c =
    sums-within c.args.source.now.readings.now c.args.source.now.records.now c.args.source.now.orders.now c.args.s c.args.f c.part-z-items.result.now c.loop-z.t c.loop-z.z-index c.loop-z.invariant.1
    (window-short c.args.source.now.readings.now c.args.from c.args.count c.part-z-items.result.now c.part-z-items.ensures (omega (arith, c.ranges.count.fits))) c.loop-z-test.true

pub over-returns-then-t : goal.over-returns-then-t
over-returns-then-t t c =
    over-stopped c.args.source.now.readings.now c.args.source.now.records.now c.args.source.now.orders.now c.args.s c.args.f c.args.from c.args.count c.part-z-items.result.now c.part-z-items.ensures c.step-t.result (c.loop-z.z-index + 1)
    (sums-more c.args.source.now.readings.now c.args.source.now.records.now c.args.source.now.orders.now c.args.s c.args.f c.part-z-items.result.now c.loop-z.t c.loop-z.z-index c.loop-z.invariant.1 c.loop-z-test.true _ c.ran-c.result _ c.ran-c.ensures (search rules) c.unpack.result c.unpack.ensures
    c.step-t.result c.step-t.ensures)
    _ c.ran-c.ensures.keeps c.args.kind c.conclude.result (of-kind c.args.kind _ c.conclude.ensures.back) c.if-t.true

pub over-loop-z-preserved : goal.over-loop-z-preserved
over-loop-z-preserved t c = (
  c.ran-c.ensures.keeps,
  sums-more c.args.source.now.readings.now c.args.source.now.records.now c.args.source.now.orders.now c.args.s c.args.f c.part-z-items.result.now c.loop-z.t c.loop-z.z-index c.loop-z.invariant.1 c.loop-z-test.true _ c.ran-c.result _ c.ran-c.ensures (search rules) c.unpack.result c.unpack.ensures
      c.step-t.result c.step-t.ensures,
)

pub over-returns : goal.over-returns
over-returns t c =
    over-ended c.args.source.now.readings.now c.args.source.now.records.now c.args.source.now.orders.now c.args.s c.args.f c.args.from c.args.count c.part-z-items.result.now c.part-z-items.ensures c.loop-z.t c.loop-z.z-index c.loop-z.invariant.1 c.loop-z.memo c.loop-z.invariant.0
    c.args.kind c.conclude-2.result (of-kind c.args.kind _ c.conclude-2.ensures.back) c.loop-z-test.false

pub ran-overflow_sub-n : goal.ran-overflow_sub-n
ran-overflow_sub-n t c =
    let xs = c.args.source.now.readings.now in
    let R = c.args.source.now.records.now in
    let W = c.args.source.now.orders.now in
    let s = c.args.s in
    function-first xs R W s c.args.f c.args.memo.now c.requires c.record_at-n.result c.record_at-n.ensures c.if-n-eq-FUNCTION.true

pub ran-value-requires : goal.ran-value-requires
ran-value-requires t c =
    let xs = c.args.source.now.readings.now in
    let R = c.args.source.now.records.now in
    let W = c.args.source.now.orders.now in
    let s = c.args.s in (
      omega (arith, c.decreases, function-low xs R W s c.args.f c.args.memo.now c.requires c.record_at-n.result c.record_at-n.ensures c.if-n-eq-FUNCTION.true),
      function-ready xs R W s c.args.f c.args.memo.now c.requires c.record_at-n.result c.record_at-n.ensures c.if-n-eq-FUNCTION.true
          c.pack.result c.bind-inside.result c.bind-inside.ensures (rw (c.pack.ensures.back ∙ ap Number (to_z-of_z c.ranges.z)) tt),
    )

pub ran-returns-then-n-eq-FUNCTION : goal.ran-returns-then-n-eq-FUNCTION
ran-returns-then-n-eq-FUNCTION t c =
    let xs = c.args.source.now.readings.now in
    let R = c.args.source.now.records.now in
    let W = c.args.source.now.orders.now in
    let s = c.args.s in
    function-ran xs R W s c.args.f c.args.memo.now c.requires c.record_at-n.result c.record_at-n.ensures c.if-n-eq-FUNCTION.true
    c.pack.result c.bind-inside.result c.bind-inside.ensures _ c.value.result c.value.ensures c.args.z (c.pack.ensures.back ∙ ap Number (to_z-of_z c.ranges.z))

pub ran-returns : goal.ran-returns
ran-returns t c =
    let xs = c.args.source.now.readings.now in
    let R = c.args.source.now.records.now in
    let W = c.args.source.now.orders.now in
    let s = c.args.s in
    other-ran xs R W s c.args.f c.args.memo.now c.requires c.record_at-n.result c.record_at-n.ensures c.if-n-eq-FUNCTION.false c.args.z

pub value-bounds-source-i : goal.value-bounds-source-i
value-bounds-source-i t c = c.requires.low

pub value-is_known-requires : goal.value-is_known-requires
value-is_known-requires t c = c.requires.low

pub value-bounds-memo-i : goal.value-bounds-memo-i
value-bounds-memo-i t c = c.requires.low

pub value-returns-then-is_known : goal.value-returns-then-is_known
value-returns-then-is_known t c =
    let xs = c.args.source.now.readings.now in
    let R = c.args.source.now.records.now in
    let W = c.args.source.now.orders.now in
    let s = c.args.s in
    known-comes xs R W s c.args.i c.args.memo.now c.requires c.seen_by-seen.result (rw c.from.ensures at c.seen_by-seen.ensures) c.is_known.result c.is_known.ensures c.if-is_known.true

pub value-work-r-requires : goal.value-work-r-requires
value-work-r-requires t c =
    let xs = c.args.source.now.readings.now in
    let R = c.args.source.now.records.now in
    let W = c.args.source.now.orders.now in
    let s = c.args.s in
    (omega (arith, c.decreases), c.requires)

pub value-keep-requires : goal.value-keep-requires
value-keep-requires t c =
    let xs = c.args.source.now.readings.now in
    let R = c.args.source.now.records.now in
    let W = c.args.source.now.orders.now in
    let s = c.args.s in
    c.requires.low

pub value-returns : goal.value-returns
value-returns t c =
    let xs = c.args.source.now.readings.now in
    let R = c.args.source.now.records.now in
    let W = c.args.source.now.orders.now in
    let s = c.args.s in
    kept-comes xs R W s c.args.i c.args.memo.now c.requires _ c.seen_by-seen.result c.work-r.result c.work-r.ensures (rw c.from.ensures at c.seen_by-seen.ensures) _ c.keep.ensures

pub work-overflow_cast-source : goal.work-overflow_cast-source
work-overflow_cast-source t c = record { fits = omega (arith, c.requires.few) }

pub work-returns-then-n-lt-FUNCTION : goal.work-returns-then-n-lt-FUNCTION
work-returns-then-n-lt-FUNCTION t c =
    let xs = c.args.source.now.readings.now in
    let R = c.args.source.now.records.now in
    let W = c.args.source.now.orders.now in
    let s = c.args.s in
    leaf-comes xs R W s c.args.i c.args.memo.now c.requires c.record_at-n.result c.record_at-n.ensures c.if-n-lt-FUNCTION.true _ c.leaf.result refl (leaf-is _ c.record_at-n.result c.args.s _ _ c.cell_at.ensures c.leaf.ensures (omega (arith, c.requires.few)))

pub work-overflow_sub-n : goal.work-overflow_sub-n
work-overflow_sub-n t c =
    let xs = c.args.source.now.readings.now in
    let R = c.args.source.now.records.now in
    let W = c.args.source.now.orders.now in
    let s = c.args.s in
    function-first xs R W s c.args.i c.args.memo.now c.requires c.record_at-n.result c.record_at-n.ensures c.if-n-eq-FUNCTION.true

pub work-value-base-requires : goal.work-value-base-requires
work-value-base-requires t c =
    let xs = c.args.source.now.readings.now in
    let R = c.args.source.now.records.now in
    let W = c.args.source.now.orders.now in
    let s = c.args.s in (
      omega (arith, c.decreases, function-low xs R W s c.args.i c.args.memo.now c.requires c.record_at-n.result c.record_at-n.ensures c.if-n-eq-FUNCTION.true),
      function-ready xs R W s c.args.i c.args.memo.now c.requires c.record_at-n.result c.record_at-n.ensures c.if-n-eq-FUNCTION.true
          delayed_cell c.bind-inside.result c.bind-inside.ensures (rw (round Delayed tt) tt),
    )

pub work-bounds-source-i : goal.work-bounds-source-i
work-bounds-source-i t c = c.requires.low

pub work-returns-then-n-eq-FUNCTION : goal.work-returns-then-n-eq-FUNCTION
work-returns-then-n-eq-FUNCTION t c =
    let xs = c.args.source.now.readings.now in
    let R = c.args.source.now.records.now in
    let W = c.args.source.now.orders.now in
    let s = c.args.s in
    function-comes xs R W s c.args.i c.args.memo.now c.requires c.record_at-n.result c.record_at-n.ensures c.if-n-eq-FUNCTION.true
    delayed_cell c.bind-inside.result c.bind-inside.ensures _ c.value-base.result c.value-base.ensures (round Delayed tt) c.function.result (rw (c.waits_for.ensures, c.from.ensures) at c.function.ensures.back)

pub work-overflow_sub-n-2 : goal.work-overflow_sub-n-2
work-overflow_sub-n-2 t c =
    let xs = c.args.source.now.readings.now in
    let R = c.args.source.now.records.now in
    let W = c.args.source.now.orders.now in
    let s = c.args.s in
    member-first xs R W s c.args.i c.args.memo.now c.requires c.record_at-n.result c.record_at-n.ensures c.if-n-lt-FUNCTION.false c.if-n-eq-FUNCTION.false

pub work-value-a-requires : goal.work-value-a-requires
work-value-a-requires t c =
    let xs = c.args.source.now.readings.now in
    let R = c.args.source.now.records.now in
    let W = c.args.source.now.orders.now in
    let s = c.args.s in
    (omega (arith, c.decreases, member-low xs R W s c.args.i c.args.memo.now c.requires c.record_at-n.result c.record_at-n.ensures c.if-n-lt-FUNCTION.false c.if-n-eq-FUNCTION.false), member-ready xs R W s c.args.i c.args.memo.now c.requires c.record_at-n.result c.record_at-n.ensures c.if-n-lt-FUNCTION.false c.if-n-eq-FUNCTION.false)

pub work-returns-then-n-eq0 : goal.work-returns-then-n-eq0
work-returns-then-n-eq0 t c =
    let xs = c.args.source.now.readings.now in
    let R = c.args.source.now.records.now in
    let W = c.args.source.now.orders.now in
    let s = c.args.s in
    ask-comes xs R W s c.args.i c.args.memo.now c.requires c.record_at-n.result c.record_at-n.ensures c.if-n-lt-FUNCTION.false c.if-n-eq-FUNCTION.false
    _ c.value-a.result c.value-a.ensures c.if-n-eq0.true c.ask.result (of-kind c.record_at-n.result.kind _ c.ask.ensures.back)

pub work-overflow_sub-n-3 : goal.work-overflow_sub-n-3
work-overflow_sub-n-3 t c =
    let xs = c.args.source.now.readings.now in
    let R = c.args.source.now.records.now in
    let W = c.args.source.now.orders.now in
    let s = c.args.s in
    second-first xs R W s c.args.i c.args.memo.now c.requires c.record_at-n.result c.record_at-n.ensures c.if-n-lt-FUNCTION.false c.if-n-eq-FUNCTION.false
    _ c.value-a.result c.value-a.ensures c.if-n-eq0.false

pub work-value-b-requires : goal.work-value-b-requires
work-value-b-requires t c =
    let xs = c.args.source.now.readings.now in
    let R = c.args.source.now.records.now in
    let W = c.args.source.now.orders.now in
    let s = c.args.s in (
      omega (arith, c.decreases, second-low xs R W s c.args.i c.args.memo.now c.requires c.record_at-n.result c.record_at-n.ensures c.if-n-lt-FUNCTION.false c.if-n-eq-FUNCTION.false _ c.value-a.result c.value-a.ensures c.if-n-eq0.false),
      second-ready xs R W s c.args.i c.args.memo.now c.requires c.record_at-n.result c.record_at-n.ensures c.if-n-lt-FUNCTION.false c.if-n-eq-FUNCTION.false
          _ c.value-a.result c.value-a.ensures c.if-n-eq0.false _ c.value-a.ensures.keeps,
    )

pub work-call-requires : goal.work-call-requires
work-call-requires t c =
    let xs = c.args.source.now.readings.now in
    let R = c.args.source.now.records.now in
    let W = c.args.source.now.orders.now in
    let s = c.args.s in
    first-bounded xs R W s c.args.i c.args.memo.now c.requires c.record_at-n.result c.record_at-n.ensures c.if-n-lt-FUNCTION.false c.if-n-eq-FUNCTION.false _ c.value-a.result c.value-a.ensures

pub work-over-requires : goal.work-over-requires
work-over-requires t c =
    let xs = c.args.source.now.readings.now in
    let R = c.args.source.now.records.now in
    let W = c.args.source.now.orders.now in
    let s = c.args.s in (
      omega (arith, c.decreases, second-low xs R W s c.args.i c.args.memo.now c.requires c.record_at-n.result c.record_at-n.ensures c.if-n-lt-FUNCTION.false c.if-n-eq-FUNCTION.false _ c.value-a.result c.value-a.ensures c.if-n-eq0.false),
      second-ready xs R W s c.args.i c.args.memo.now c.requires c.record_at-n.result c.record_at-n.ensures c.if-n-lt-FUNCTION.false c.if-n-eq-FUNCTION.false
          _ c.value-a.result c.value-a.ensures c.if-n-eq0.false _ c.value-b.ensures.keeps,
    )

pub work-returns-in-Done : goal.work-returns-in-Done
work-returns-in-Done t c =
    call-comes c.args.source.now.readings.now c.args.source.now.records.now c.args.source.now.orders.now c.args.s c.args.i c.args.memo.now c.requires c.record_at-n.result c.record_at-n.ensures c.if-n-lt-FUNCTION.false c.if-n-eq-FUNCTION.false
    _ c.value-a.result c.value-a.ensures c.if-n-eq0.false _ c.value-b.result c.value-b.ensures c.call.result c.call.ensures
    _ c.in-Done.is _ c.pack.ensures.back

pub work-returns-in-Run : goal.work-returns-in-Run
work-returns-in-Run t c =
    run-comes c.args.source.now.readings.now c.args.source.now.records.now c.args.source.now.orders.now c.args.s c.args.i c.args.memo.now c.requires c.record_at-n.result c.record_at-n.ensures c.if-n-lt-FUNCTION.false c.if-n-eq-FUNCTION.false
    _ c.value-a.result c.value-a.ensures c.if-n-eq0.false _ c.value-b.result c.value-b.ensures c.call.result c.call.ensures
    _ _ c.in-Run.is _ c.over.result c.over.ensures
