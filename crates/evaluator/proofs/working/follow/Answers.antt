-- `evaluator::working::follow` meets its contract: what is done is known. Assumes nothing.
use Rattle.evaluator.proofs.Planning.{planning}
use Rattle.evaluator.proofs.working.follow.Goals as goal

pub returns-in-Done-clause-same : goal.returns-in-Done-clause-same
returns-in-Done-clause-same c = search planning
