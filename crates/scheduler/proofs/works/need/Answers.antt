-- The sweep from here on gives the whole. Assumes nothing.
use borrow.Author.Rules.{rules}
use Rattle.scheduler.proofs.Choosing.{need-no, need-yes, need-end, need-begin}
use Rattle.scheduler.proofs.works.need.Goals as goal

pub loop-j-init : goal.loop-j-init
loop-j-init c = search (rules, need-begin)

pub loop-j-preserved-then-flags-j-eq1 : goal.loop-j-preserved-then-flags-j-eq1
loop-j-preserved-then-flags-j-eq1 c = search (rules, need-yes)

pub loop-j-preserved : goal.loop-j-preserved
loop-j-preserved c = search (rules, need-no)

pub returns : goal.returns
returns c = search (rules, need-end)
