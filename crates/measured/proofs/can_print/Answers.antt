-- `measured::can_print` meets its contract: the nodes are looked at only where the entry is in range. Assumes nothing.
use borrow.Author.Rules.{rules}
use Rattle.measured.proofs.Measuring.{can-held, can-beyond}
use Rattle.measured.proofs.can_print.Goals as goal

pub returns-then-entry-lt-ENTRIES : goal.returns-then-entry-lt-ENTRIES
returns-then-entry-lt-ENTRIES c = search (rules, can-held)

pub returns : goal.returns
returns c = search (rules, can-beyond)
