-- What the entries below the cursor hold decides. Assumes nothing.
use borrow.Author.Rules.{rules}
use Rattle.table.specs.ChainLaws.{same-is, last-go, new-hit, new-end}
use Rattle.table.proofs.chain.is_new.Goals as goal

pub returns-then-eq : goal.returns-then-eq
returns-then-eq c = search (rules, same-is, new-hit)

pub loop-j-preserved : goal.loop-j-preserved
loop-j-preserved c = search (rules, same-is, last-go)

pub returns : goal.returns
returns c = search (rules, new-end)
