-- Each turn goes on to a record before, on the way to the variable. Assumes nothing.
use mathlib.Core.Path.{◌≡◌}
use Rattle.layout.specs.Held.{shaped, record_at}
use Rattle.interpreter.specs.NamingLaws.{Way}
use Rattle.interpreter.proofs.names.name_at.Given as goal

abbrev pub invariant-loop-n : goal.invariant-loop-n
invariant-loop-n l = (shaped l.n ≡ record_at l.records l.at) × Way l.records l.orders l.i l.level l.at

abbrev pub decreases-loop-n : goal.decreases-loop-n
decreases-loop-n l = l.at
