-- The invariant: the sweep from here on, with what stands in the list already, gives the whole list. Assumes nothing.
use Prim.Native.Nat.{◌-◌}
use native.Mathlib.Omega.{arith}
use borrow.Author.Rules.{rules}
use Rattle.evaluator.proofs.Reaching.{gather-begin, gather-yes, gather-no, gather-end, gather_none, marks_begin, marks-set, marks-spread, upto-more, length-kept}
use Rattle.evaluator.proofs.reach.gather.Goals as goal

pub loop-j-init : goal.loop-j-init
loop-j-init c = record { low = search rules; room = search rules; within = search rules; size = search rules; upto = λ k h l. absurd (omega arith); marks = marks-set _ _ (marks_begin _ c.requires.1); same = search (rules, gather-begin) }

pub loop-j-preserved-then-flags-j-eq1 : goal.loop-j-preserved-then-flags-j-eq1
loop-j-preserved-then-flags-j-eq1 c =
    record {
      low = search rules;
      room = search rules;
      within = search rules;
      size = search (rules, length-kept);
      upto = upto-more c.loop-j.list c.loop-j.at (c.loop-j.j - 1) c.args.body (search rules) (search rules) (search rules) (search rules) c.loop-j.invariant.upto;
      marks = rw c.spread.ensures (marks-spread c.args.links.now c.args.waits.now c.args.v _ c.loop-j.flags c.loop-j.invariant.marks);
      same = gather-yes c.args.links.now c.args.waits.now c.args.v c.loop-j.j c.loop-j.at
          c.loop-j.flags c.loop-j.list c.loop-j-test.true c.loop-j.invariant.same _ c.if-flags-j-eq1.true (search rules)
          (search rules) c.spread.ensures;
    }

pub loop-j-preserved : goal.loop-j-preserved
loop-j-preserved c = record { low = search rules; room = search rules; within = search rules; size = search rules; upto = c.loop-j.invariant.upto; marks = c.loop-j.invariant.marks; same = search (rules, gather-no) }

pub returns-after-loop-j : goal.returns-after-loop-j
returns-after-loop-j c = record { within = search rules; size = search rules; upto = c.loop-j.invariant.upto; marks = c.loop-j.invariant.marks; same = search (rules, gather-end) }

pub returns-else-moves : goal.returns-else-moves
returns-else-moves c = record { within = search rules; size = search rules; upto = λ k h l. absurd (omega arith); marks = marks_begin _ c.requires.1; same = search (rules, gather_none) }
