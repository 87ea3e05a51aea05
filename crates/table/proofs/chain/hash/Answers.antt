-- The same sum. Assumes nothing.
use mathlib.Core.Path.{refl}
use Rattle.table.specs.Chain.{hash_of}
use Rattle.table.proofs.chain.hash.Goals as goal

pub returns : goal.returns
unfolding hash_of
returns c = refl
