-- By how many marks are open, and which functions. Assumes nothing.
use Rattle.printing.proofs.JudgingLaws.{counted-few}
use Rattle.printer.specs.WalkingLaws.{function-opens, function-not}
use Rattle.printer.proofs.judge.open_function.Goals as goal

pub look-requires : goal.look-requires
look-requires c = rw c.count_part.ensures (counted-few _)

pub returns-then-marks-s : goal.returns-then-marks-s
returns-then-marks-s c =
    let a = c.args in
    function-opens a.s a.level a.marks a.found c.if-marks-s.true _ _ _ c.depth.ensures c.count_part.ensures c.look.ensures

pub returns-else-marks-s : goal.returns-else-marks-s
returns-else-marks-s c = let a = c.args in function-not a.s a.level a.marks a.found c.if-marks-s.false
