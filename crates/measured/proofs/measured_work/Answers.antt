-- `measured::measured_work` meets its contract: the test says what the work requires. Assumes nothing.
use borrow.Author.Rules.{rules}
use Rattle.measured.proofs.Measuring.{work-lent, work-done, work_none}
use Rattle.measured.proofs.measured_work.Goals as goal

pub work-w-requires : goal.work-w-requires
work-w-requires c = search (rules, work-lent)

pub returns-then-can_work : goal.returns-then-can_work
returns-then-can_work c = search (rules, work-done)

pub returns : goal.returns
returns c = search (rules, work_none)
