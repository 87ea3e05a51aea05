-- What the entries below the cursor hold decides: those that a step passes have another hash. Assumes nothing.
use borrow.Author.Rules.{rules}
use Rattle.table.specs.ChainLaws.{chains}
use Rattle.table.proofs.chain.seek.Goals as goal

pub loop-c-init : goal.loop-c-init
loop-c-init g c = search (rules, chains)

pub returns-then-eq : goal.returns-then-eq
returns-then-eq g c = search (rules, chains)

pub loop-c-smaller : goal.loop-c-smaller
loop-c-smaller g c = search (rules, chains)

pub loop-c-preserved : goal.loop-c-preserved
loop-c-preserved g c = search (rules, chains)
