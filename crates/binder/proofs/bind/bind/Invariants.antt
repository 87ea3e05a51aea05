-- What is left of the records decides. Assumes nothing.
use mathlib.Core.List.{[]}
use mathlib.Core.Path.{◌≡◌}
use Prim.Native.Nat.{◌-◌}
use Rattle.table.specs.Bind.{bind_all}
use Rattle.layout.specs.Memory.{node_at}
use Rattle.layout.specs.Held.{record_at}
use Rattle.binder.specs.Records.{bound, bound_now, Ready}
use Rattle.layout.specs.Numbered.{numbered}
use Rattle.binder.proofs.bind.bind.Given as goal

abbrev pub invariant-loop-r : goal.invariant-loop-r
invariant-loop-r l =
    Ready l.links l.cells l.count l.total l.r l.numbers l.records l.chain
    × (bind_all (bound_now l.links l.cells l.count l.total l.r l.numbers l.records) (numbered (record_at l.records) l.r (l.n - l.r))
    ≡ bind_all (bound (numbered (node_at l.links l.cells) 0 l.count) []) (numbered (record_at l.initial.records) 0 l.n))
