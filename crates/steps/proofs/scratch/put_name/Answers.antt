-- A binder that is found is one of the scope. Assumes nothing.
use Rattle.steps.proofs.ScratchPaths.{binder-room}
use Rattle.steps.proofs.scratch.put_name.Goals as goal

pub put_scoped-requires : goal.put_scoped-requires
put_scoped-requires c = search binder-room
