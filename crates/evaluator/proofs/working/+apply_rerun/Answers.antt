-- The cycle: apply of entry i measures 2 * i + 1, rerun of a body 2 * body + 2. The loops' invariants say that what is left gives the same.
-- Assumes nothing.
use borrow.Author.Rules.{rules}
use native.Mathlib.Omega.{arith}
use mathlib.Core.Path.{refl}
use Rattle.evaluator.proofs.Framing.{function-waits}
use Rattle.evaluator.proofs.Running.{planned-body, listed, known-applies, same-applies, reruns, columns-applies, judge-applies, run-applies, runs-begin, reading-at, runs-within, runs-end, runs-stop, runs-again, works-end, works-again}
use Rattle.evaluator.proofs.Plain.{plain-is}
use Rattle.evaluator.proofs.working.+apply_rerun.Goals as goal
use Rattle.std.proofs.Common.{◌≡◌, ◌+◌, ◌-◌}
use Rattle.evaluator.specs.Applying.{graph}
use Rattle.evaluator.proofs.working.+apply_rerun.Goals.{rerun-then-is_plain, rerun-else-is_plain}

pub apply-returns-in-Known : goal.apply-returns-in-Known
apply-returns-in-Known t c = known-applies (graph c.args.links.now c.args.waits.now c.args.readings.now) c.args.frame.now c.args.i c.plan.ensures.same c.in-Known.is

pub apply-gather-at-requires : goal.apply-gather-at-requires
apply-gather-at-requires t c = (omega (arith, (planned-body c.in-Body.is c.plan.ensures.right).0, c.requires), refl)

pub apply-rerun-base-requires : goal.apply-rerun-base-requires
apply-rerun-base-requires t c = (
  omega (arith, (planned-body c.in-Body.is c.plan.ensures.right).0, c.decreases),
  reruns (graph c.args.links.now c.args.waits.now c.args.readings.now) c.args.frame.now c.args.i c.plan.ensures.same c.in-Body.is c.plan.ensures.right (listed _ _ _ _ _ _ c.gather-at.ensures) c.requires,
)

pub apply-by_columns-requires : goal.apply-by_columns-requires
apply-by_columns-requires t c = (reruns (graph c.args.links.now c.args.waits.now c.args.readings.now) c.args.frame.now c.args.i c.plan.ensures.same c.in-Body.is c.plan.ensures.right (listed _ _ _ _ _ _ c.gather-at.ensures) c.requires, c.gather-at.ensures.marks)

pub apply-returns-in-Some : goal.apply-returns-in-Some
apply-returns-in-Some t c = columns-applies (graph c.args.links.now c.args.waits.now c.args.readings.now) c.args.frame.now c.args.i c.plan.ensures.same c.in-Body.is c.plan.ensures.right (listed _ _ _ _ _ _ c.gather-at.ensures) c.in-Over.is c.in-Some.ensures.done c.conclude.ensures.same

pub apply-rerun-r-requires : goal.apply-rerun-r-requires
apply-rerun-r-requires t c = (
  omega (arith, (planned-body c.in-Body.is c.plan.ensures.right).0, c.decreases),
  reruns (graph c.args.links.now c.args.waits.now c.args.readings.now) c.args.frame.now c.args.i c.plan.ensures.same c.in-Body.is c.plan.ensures.right (listed _ _ _ _ _ _ c.gather-at.ensures) c.requires,
)

pub apply-loop-k-init : goal.apply-loop-k-init
apply-loop-k-init t c = search (rules, runs-begin)

pub apply-tally-t-requires : goal.apply-tally-t-requires
apply-tally-t-requires t c = runs-within c.loop-k.invariant (omega (arith, c.count_in.ensures.few, c.loop-k-test.true))

pub apply-returns-then-t : goal.apply-returns-then-t
apply-returns-then-t t c =
    run-applies (graph c.args.links.now c.args.waits.now c.args.readings.now) c.args.frame.now c.args.i c.plan.ensures.same c.in-Body.is c.plan.ensures.right (listed _ _ _ _ _ _ c.gather-at.ensures) c.in-Over.is
    (runs-stop c.loop-k.invariant refl (omega (arith, c.count_in.ensures.same, c.loop-k-test.true, c.loop-k.auto.k)) _
    (reading-at c.args.readings.now _ _ c.loop-k.k c.loop-k.auto.k (omega (arith, c.count_in.ensures.same, c.loop-k-test.true, c.loop-k.auto.k)))
    c.reading.ensures c.rerun-r.ensures c.tally-t.ensures c.if-t.true) c.conclude-then-t.ensures.same

pub apply-loop-k-preserved : goal.apply-loop-k-preserved
apply-loop-k-preserved t c =
    let n : c.loop-k.k - c.in-Over.start + 1 ≡ c.loop-k.k + 1 - c.in-Over.start = omega (arith, c.loop-k.auto.k) in
    rw n at (runs-again c.loop-k.invariant refl (omega (arith, c.count_in.ensures.same, c.loop-k-test.true, c.loop-k.auto.k)) _
    (reading-at c.args.readings.now _ _ c.loop-k.k c.loop-k.auto.k (omega (arith, c.count_in.ensures.same, c.loop-k-test.true, c.loop-k.auto.k)))
    c.reading.ensures c.rerun-r.ensures c.tally-t.ensures c.if-t.false)

pub apply-returns-in-Judge : goal.apply-returns-in-Judge
apply-returns-in-Judge t c = judge-applies (graph c.args.links.now c.args.waits.now c.args.readings.now) c.args.frame.now c.args.i c.plan.ensures.same c.in-Body.is c.plan.ensures.right (listed _ _ _ _ _ _ c.gather-at.ensures) c.in-Judge.is c.rerun-base.ensures (function-waits _ _ _ _ _ c.is_open.ensures c.function.ensures.same)

pub apply-returns-after-loop-k : goal.apply-returns-after-loop-k
apply-returns-after-loop-k t c =
    run-applies (graph c.args.links.now c.args.waits.now c.args.readings.now) c.args.frame.now c.args.i c.plan.ensures.same c.in-Body.is c.plan.ensures.right (listed _ _ _ _ _ _ c.gather-at.ensures) c.in-Over.is
    (runs-end c.loop-k.invariant (omega (arith, c.count_in.ensures.same, c.loop-k-test.false, c.loop-k.auto.k))) c.conclude-in-Over.ensures.same

pub rerun-loop-next-preserved : goal.rerun-loop-next-preserved
rerun-loop-next-preserved t c =
    works-again c.loop-next.invariant c.loop-next-test.true (c.requires.upto _ c.loop-next-test.true)
    (elim c.if-is_plain.branch [
      | rerun-then-is_plain w ↦ plain-is c.args.body.links.now c.args.waits.now c.args.body.readings.now c.loop-next.frame _ c.if-is_plain.v _ _ c.is_plain.ensures w.if-is_plain.true w.plain-v.ensures w.v-is
      | rerun-else-is_plain w ↦ same-applies (graph c.args.body.links.now c.args.waits.now c.args.body.readings.now) c.loop-next.frame _ c.if-is_plain.v _ w.v-is w.apply-v.ensures
    ])

pub rerun-returns : goal.rerun-returns
rerun-returns t c = works-end c.loop-next.invariant c.args.body.variable c.args.c c.args.frame.now c.bind.ensures c.loop-next-test.false
