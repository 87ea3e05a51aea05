-- `columns::calling::ask` meets its contract: the path is a law of Calls. Assumes nothing.
use Rattle.columns.proofs.Calls.{calls}
use Rattle.columns.proofs.calling.ask.Goals as goal

pub returns-in-Some-clause-same : goal.returns-in-Some-clause-same
returns-in-Some-clause-same c = search calls
