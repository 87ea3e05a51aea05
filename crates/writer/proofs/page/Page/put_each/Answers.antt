-- One byte more, or none is left. Assumes nothing.
use borrow.Author.Rules.{rules}
use Rattle.writer.specs.PuttingLaws.{unpacks_start, unpacks_byte, unpacks_full, unpacks_end}
use Rattle.writer.proofs.page.Page.put_each.Goals as goal

pub loop-rest-init : goal.loop-rest-init
loop-rest-init c = search (rules, unpacks_start)

pub returns-in_err-put_byte : goal.returns-in_err-put_byte
returns-in_err-put_byte c = rw c.from_residual.ensures (unpacks_full c.loop-rest.invariant _ (search rules) (search rules) c.in_err-put_byte.ensures)

pub loop-rest-preserved : goal.loop-rest-preserved
loop-rest-preserved c = unpacks_byte c.loop-rest.invariant _ (search rules) (search rules) c.in_ok-put_byte.ensures

pub returns : goal.returns
returns c = unpacks_end c.loop-rest.invariant (search rules)
