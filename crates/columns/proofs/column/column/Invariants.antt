-- `columns::column::column` meets its contract: so many rows of it are a column of so many. Assumes nothing.
use Prim.Native.Nat.{◌≤◌, ◌-◌}
use Rattle.layout.specs.Nodes.{member_of_kind}
use Rattle.columns.specs.Columns.{Columned}
use Rattle.columns.proofs.column.column.Given as goal

abbrev pub invariant-loop-r : goal.invariant-loop-r
invariant-loop-r l = (l.r ≤ l.c) × Columned (member_of_kind l.kind) l.two l.readings l.k l.r l.initial.buf l.buf

abbrev pub decreases-loop-r : goal.decreases-loop-r
decreases-loop-r l = l.c - l.r
