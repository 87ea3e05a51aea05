-- Found or not: the state after either is that of the definition. Assumes nothing.
use borrow.Author.Rules.{rules}
use Rattle.table.specs.ChainLaws.{chains}
use Rattle.binder.specs.RecordsLaws.{binding}
use Rattle.binder.proofs.bind.bind_one.Goals as goal

pub seek-requires-clause-within : goal.seek-requires-clause-within
seek-requires-clause-within c = search (rules, chains)

pub returns-in-Some : goal.returns-in-Some
returns-in-Some c = search (rules, binding)

pub enter-requires : goal.enter-requires
enter-requires c = search (rules, chains)

pub returns : goal.returns
returns c = search (rules, binding)
