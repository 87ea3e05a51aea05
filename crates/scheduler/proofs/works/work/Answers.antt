-- The invariant: what is left of the work comes to the same. Assumes nothing.
use borrow.Author.Rules.{rules}
use Rattle.scheduler.proofs.Choosing.{work-begin, work-take, work-skip, work-stop, work-end}
use Rattle.scheduler.proofs.works.work.Goals as goal

pub loop-i-init : goal.loop-i-init
loop-i-init c = search (rules, work-begin)

pub loop-i-preserved-then-not-chosen : goal.loop-i-preserved-then-not-chosen
loop-i-preserved-then-not-chosen c = search (rules, work-skip)

pub returns-then-allowance-count : goal.returns-then-allowance-count
returns-then-allowance-count c = search (rules, work-stop)

pub loop-i-preserved : goal.loop-i-preserved
loop-i-preserved c =
    work-take c.args.readings.now c.args.links.now _ c.args.n c.args.allowance _ _ c.loop-i.cells
    c.loop-i.frame c.loop-i.count c.loop-i.i c.loop-i.invariant (search rules) c.chosen.result
    c.chosen.ensures c.apply-c.result _ (search rules) (search rules)
    c.apply-c.ensures c.keep.ensures

pub returns : goal.returns
returns c = search (rules, work-end)
