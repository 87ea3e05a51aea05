-- Few entries are compared; of more, what is left of the numbers decides, with the chains of those before. Assumes nothing.
use borrow.Author.Rules.{rules}
use Rattle.table.specs.RightLaws.{loops}
use Rattle.table.proofs.AllBelow.{all_below}
use Rattle.table.specs.ChainLaws.{chains, distinct-new}
use Rattle.table.proofs.chain.distinct_nodes.Goals as goal

pub returns-then-n-le-COMPARED : goal.returns-then-n-le-COMPARED
returns-then-n-le-COMPARED c = distinct-new _ _ _ _ (all_below _ _ _ _ _ c.all.ensures.ran (λ x b q k. search rules))

pub loop-i-init : goal.loop-i-init
loop-i-init c = search (rules, chains, loops)

pub returns-then-not-enter_new : goal.returns-then-not-enter_new
returns-then-not-enter_new c = search (rules, chains)

pub returns : goal.returns
returns c = search (rules, chains)
