-- What the entries below the cursor hold decides. Assumes nothing.
use Rattle.std.proofs.Common.{◌≡◌}
use Rattle.layout.specs.Memory.{node_at}
use Rattle.layout.specs.Held.{shaped}
use Rattle.table.specs.Chain.{last_same}
use Rattle.table.proofs.chain.is_new.Given as goal

abbrev pub invariant-loop-j : goal.invariant-loop-j
invariant-loop-j l = last_same (node_at l.links l.cells) (shaped l.x) l.i ≡ last_same (node_at l.links l.cells) (shaped l.x) l.j
