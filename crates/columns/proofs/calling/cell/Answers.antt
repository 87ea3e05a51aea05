-- `columns::calling::cell` meets its contract: the path is a law of Calls. Assumes nothing.
use Rattle.columns.proofs.Calls.{calls}
use Rattle.columns.proofs.calling.cell.Goals as goal

pub returns-then-a-b : goal.returns-then-a-b
returns-then-a-b c = search calls
