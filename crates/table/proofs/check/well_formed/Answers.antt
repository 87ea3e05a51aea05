-- The counts, then the entries. Assumes nothing.
use borrow.Author.Rules.{rules}
use Rattle.table.specs.CheckedLaws.{checks}
use Rattle.table.proofs.check.well_formed.Goals as goal

pub returns : goal.returns
returns c = λ rs. search (rules, checks)
