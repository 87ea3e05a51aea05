-- `columns::calling::settled` meets its contract: the path is a law of Calls. Assumes nothing.
use Rattle.columns.proofs.Calls.{calls}
use Rattle.columns.proofs.calling.settled.Goals as goal

pub returns-in-Done : goal.returns-in-Done
returns-in-Done c = search calls
