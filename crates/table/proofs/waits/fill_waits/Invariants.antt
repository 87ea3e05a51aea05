-- What the entries from i on await is still to be written. Assumes nothing.
use Rattle.std.proofs.Common.{◌≡◌, ◌-◌}
use Rattle.table.specs.Waits.{waits_from}
use Rattle.table.proofs.waits.fill_waits.Given as goal

abbrev pub invariant-loop-i : goal.invariant-loop-i
invariant-loop-i l = waits_from l.links l.cells (l.n - l.i) l.i l.waits ≡ waits_from l.links l.cells l.n 0 l.initial.waits
