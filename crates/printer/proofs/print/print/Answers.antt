-- The tests of the cache, then the print of an entry that it holds. Assumes nothing.
use native.Mathlib.Omega.{arith}
use Rattle.printer.specs.PrintingLaws.{print-refused, print-done, print-ready}
use Rattle.printer.proofs.print.print.Goals as goal

pub returns-in_err-check : goal.returns-in_err-check
returns-in_err-check c = print-refused _ _ _ _ c.check.ensures _ c.in_err-check.was _ c.from_residual.ensures.1

pub overflow_cast-entry : goal.overflow_cast-entry
overflow_cast-entry c = let r = print-ready _ _ _ _ _ _ c.check.ensures _ c.in_ok-check.was in omega (arith, r.0, r.2)

pub print_held-requires-clause-bound : goal.print_held-requires-clause-bound
print_held-requires-clause-bound c = (print-ready _ _ _ _ _ _ c.check.ensures _ c.in_ok-check.was).0

pub print_held-requires-clause-is_well_formed : goal.print_held-requires-clause-is_well_formed
print_held-requires-clause-is_well_formed c = (print-ready _ _ _ _ _ _ c.check.ensures _ c.in_ok-check.was).1

pub returns : goal.returns
returns c = print-done _ _ _ _ _ _ c.check.ensures _ c.in_ok-check.was _ _ _ (c.print_held.ensures _)
