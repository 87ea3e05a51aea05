-- What a join leaves out is looked for in the entry's own. Assumes nothing.
use Rattle.table.proofs.Waiting.{waiting}
use Rattle.table.proofs.waits.is_few.Goals as goal

pub returns : goal.returns
returns c = search waiting
