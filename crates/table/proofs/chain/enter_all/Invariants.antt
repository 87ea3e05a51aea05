-- The entries up to here are entered. Assumes nothing.
use Rattle.layout.specs.Held.{entry_in}
use Rattle.table.specs.Chain.{Chained}
use Rattle.table.proofs.chain.enter_all.Given as goal

abbrev pub invariant-loop-i : goal.invariant-loop-i
invariant-loop-i l = Chained (entry_in l.entries) l.chain l.i
