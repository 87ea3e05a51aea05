-- The text is written on a page, judged, and copied, or the print is refused. Assumes nothing.
use Rattle.std.specs.Prelude.{refl, []}
use Rattle.std.proofs.Common.{arith}
use Rattle.planner.specs.Ready.{well-few}
use Rattle.printer.specs.PrintingLaws.{tabled, held-stopped, held-refused, held-done}
use Rattle.writer.specs.WritingLaws.{was_written, was_full}
use Rattle.printer.proofs.print.print_held.Goals as goal

pub overflow_cast-count : goal.overflow_cast-count
overflow_cast-count c = omega (arith, well-few _ _ _ c.requires.is_well_formed _ c.get_or-count.ensures)

pub write-requires : goal.write-requires
write-requires c =
    (tabled [] _ _ _ (c.requires.is_well_formed []) _ c.get_or-count.ensures, omega (arith, c.requires.bound, c.get_or-count.ensures), c.new-page.ensures.at)

pub returns-then-is_none : goal.returns-then-is_none
returns-then-is_none c =
    λ readings. held-stopped _ _ _ _ _ _ _ c.get_or-count.ensures c.new-page.ensures.low readings (was_full c.write.ensures c.if-is_none.ensures)

pub judge-requires : goal.judge-requires
judge-requires c =
    (tabled [] _ _ _ (c.requires.is_well_formed []) _ c.get_or-count.ensures, omega (arith, c.requires.bound, c.get_or-count.ensures))

pub returns-in_err-judge : goal.returns-in_err-judge
returns-in_err-judge c =
    λ readings. held-refused _ _ _ _ _ _ _ c.get_or-count.ensures c.new-page.ensures.low readings _ (was_written c.write.ensures c.if-is_none.ensures)
    (c.requires.is_well_formed readings) c.requires.bound _ c.judge.ensures _ c.in_err-judge.was _ c.from_residual.ensures.1

pub returns : goal.returns
returns c =
    λ readings. held-done _ _ _ _ _ _ _ c.get_or-count.ensures c.new-page.ensures.low readings _ (was_written c.write.ensures c.if-is_none.ensures)
    (c.requires.is_well_formed readings) c.requires.bound _ c.judge.ensures _ c.in_ok-judge.was _ _ c.text-text.ensures
    (rw c.copy_from_slice.ensures.after) _ refl
