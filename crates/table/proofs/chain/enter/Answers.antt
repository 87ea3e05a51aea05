-- The two cells that are written. Assumes nothing.
use mathlib.Core.Path.{refl}
use Rattle.table.specs.Chain.{linked}
use Rattle.table.proofs.chain.enter.Goals as goal

pub returns : goal.returns
unfolding linked
returns c = refl
