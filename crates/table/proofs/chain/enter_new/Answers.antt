-- Found or not, by the chain of its hash. Assumes nothing.
use borrow.Author.Rules.{rules}
use Rattle.table.specs.ChainLaws.{chains}
use Rattle.table.proofs.chain.enter_new.Goals as goal

pub returns : goal.returns
returns c = search (rules, chains)
