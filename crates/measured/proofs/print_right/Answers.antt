-- `measured::print_right` meets its contract: the text is written on a page, and copied where there is room for it. Assumes nothing.
use native.Mathlib.Omega.{arith}
use Rattle.writer.specs.WritingLaws.{was_written, was_full}
use Rattle.measured.proofs.Measuring.{print-low, print-tabled, print-stopped, print-done}
use Rattle.measured.proofs.print_right.Goals as goal

pub overflow_add-entry : goal.overflow_add-entry
overflow_add-entry c = omega (arith, print-low _ _ _ c.requires)

pub write-requires : goal.write-requires
write-requires c = (print-tabled _ _ _ c.requires, omega arith, c.new-page.ensures.at)

pub returns-then-is_none : goal.returns-then-is_none
returns-then-is_none c = print-stopped _ _ _ c.requires _ _ c.new-page.ensures.low (was_full c.write.ensures c.if-is_none.ensures)

pub returns : goal.returns
returns c =
    print-done _ _ _ c.requires _ _ c.new-page.ensures.low _ (was_written c.write.ensures c.if-is_none.ensures) _ _ c.text-text.ensures
    (rw c.copy_from_slice.ensures.after)
