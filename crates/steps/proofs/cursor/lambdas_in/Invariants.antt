-- The lambdas among the binders passed are counted. Assumes nothing.
use Rattle.std.proofs.Common.{◌≡◌, ◌≤◌}
use Rattle.descent.specs.Cursor.{lambdas_in}
use Rattle.steps.proofs.cursor.lambdas_in.Given as goal

abbrev pub invariant-loop-b : goal.invariant-loop-b
invariant-loop-b l = record { few : l.n ≤ l.b; counted : l.n ≡ lambdas_in l.scope l.b }
