-- The variables that the pass finds are two at most just where the names are. Assumes nothing.
use borrow.Author.Rules.{rules}
use Rattle.table.specs.WaitsLaws.{few-is}
use Rattle.table.proofs.check.few_in.Goals as goal

pub returns : goal.returns
returns c = search (rules, few-is)
