-- What is left of the records decides. Assumes nothing.
use borrow.Author.Rules.{rules}
use Rattle.table.specs.ChainLaws.{chains}
use Rattle.binder.specs.RecordsLaws.{bind-go, binding}
use Rattle.binder.proofs.bind.bind.Goals as goal

pub enter_all-requires-clause-chained : goal.enter_all-requires-clause-chained
enter_all-requires-clause-chained c = search (rules, chains)

pub loop-r-preserved : goal.loop-r-preserved
loop-r-preserved c =
    (search (rules, binding), bind-go _ _ _ _ _ _ _ _ _ c.loop-r.invariant.1 _ _ _ _ c.bind_one-total.ensures c.loop-r-test.true)
