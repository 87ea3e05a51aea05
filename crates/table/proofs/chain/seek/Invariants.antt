-- What the entries below the cursor hold decides: those that a step passes have another hash. Assumes nothing.
use mathlib.Core.Path.{◌≡◌}
use Prim.Native.Nat.{◌≤◌}
use Rattle.table.specs.Chain.{hash_of, latest, last_same}
use Rattle.layout.specs.Held.{shaped}
use Rattle.table.proofs.chain.seek.Given as goal

abbrev pub invariant-loop-c : goal.invariant-loop-c
invariant-loop-c g l =
    (last_same (g.N.Nodes.nodes l.entries) (shaped l.x) l.total ≡ last_same (g.N.Nodes.nodes l.entries) (shaped l.x) l.c)
    × (l.c ≡ latest (g.N.Nodes.nodes l.entries) (hash_of (shaped l.x)) l.c)
    × (l.c ≤ l.total)

abbrev pub decreases-loop-c : goal.decreases-loop-c
decreases-loop-c g l = l.c
