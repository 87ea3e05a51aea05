-- What is left of the entries that wait decides. Assumes nothing.
use Rattle.std.proofs.Common.{◌≡◌, ◌+◌, ◌-◌, get_or}
use Rattle.binder.specs.WrittenLaws.{Appends}
use Rattle.binder.proofs.commit.commit.Given as goal

abbrev pub invariant-loop-i : goal.invariant-loop-i
invariant-loop-i l =
    (get_or l.heads 0 0 ≡ l.count + l.i)
    × Appends l.fresh l.i (l.total - l.count) l.initial.heads l.initial.links l.initial.cells l.heads l.links l.cells
