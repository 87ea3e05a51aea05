-- The chain asks each entry's number. Assumes nothing.
use borrow.Author.Rules.{rules}
use Rattle.table.proofs.AllBelow.{all_below}
use Rattle.table.proofs.waits.are_few.Goals as goal

pub returns : goal.returns
returns c = all_below _ _ _ _ _ c.all.ensures.ran (λ x b q k. search rules)
