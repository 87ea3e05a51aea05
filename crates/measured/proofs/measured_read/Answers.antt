-- `measured::measured_read` meets its contract: what is numbered is what is read. Assumes nothing.
use borrow.Author.Rules.{rules}
use Rattle.measured.proofs.Measuring.{read-into}
use Rattle.measured.proofs.measured_read.Goals as goal

pub returns : goal.returns
returns c = search (rules, read-into)
