-- Of more entries than few, what is left of the numbers decides, with the chains of those before. Assumes nothing.
use Rattle.std.proofs.Common.{◌≡◌, ◌-◌}
use Rattle.layout.specs.Held.{row_in}
use Rattle.layout.specs.Numbered.{all_from}
use Rattle.table.specs.Chain.{Chained, new_at}
use Rattle.table.proofs.chain.distinct_nodes.Given as goal

abbrev pub invariant-loop-i : goal.invariant-loop-i
invariant-loop-i l =
    Chained (row_in l.rows) l.chain l.i
    × (all_from (new_at (row_in l.rows)) l.n 0 ≡ all_from (new_at (row_in l.rows)) (l.n - l.i) l.i)
