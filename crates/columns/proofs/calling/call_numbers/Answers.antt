-- `columns::calling::call_numbers` meets its contract: the path is a law of Calls. Assumes nothing.
use Rattle.columns.proofs.Calls.{calls}
use Rattle.columns.proofs.calling.call_numbers.Goals as goal

pub returns-in-Some : goal.returns-in-Some
returns-in-Some c = search calls
