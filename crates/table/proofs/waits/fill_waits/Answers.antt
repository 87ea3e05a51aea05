-- What the entries from i on await is still to be written. Assumes nothing.
use borrow.Author.Rules.{rules}
use Rattle.table.proofs.Waiting.{waits_end}
use Rattle.table.proofs.waits.fill_waits.Goals as goal

pub returns : goal.returns
returns c = search (rules, waits_end)
