-- A member or a function that is flagged and has no value. Assumes nothing.
use Rattle.scheduler.proofs.Choosing.{choosing}
use Rattle.scheduler.proofs.works.chosen.Goals as goal

pub returns-then-kind_of-ge-FUNCTION : goal.returns-then-kind_of-ge-FUNCTION
returns-then-kind_of-ge-FUNCTION c = search choosing
