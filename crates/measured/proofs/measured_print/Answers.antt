-- `measured::measured_print` meets its contract: the test says what printing requires. Assumes nothing.
use native.Mathlib.Omega.{arith}
use borrow.Author.Rules.{rules}
use Rattle.table.specs.CheckedLaws.{passed}
use Rattle.measured.proofs.Measuring.{print-low, print-wrong}
use Rattle.measured.proofs.measured_print.Goals as goal

pub overflow_cast-entry : goal.overflow_cast-entry
overflow_cast-entry c = omega (arith, print-low _ _ _ (passed _ _ c.can_print.ensures c.if-can_print.true))

pub print_right-requires : goal.print_right-requires
print_right-requires c = search (rules, passed)

pub returns : goal.returns
returns c = search (rules, print-wrong)
