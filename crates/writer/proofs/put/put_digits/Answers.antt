-- One digit more, or the last one. Assumes nothing.
use borrow.Author.Rules.{rules}
use Rattle.writer.specs.PuttingLaws.{counts_start, counts_digit, counts_full, counts_end}
use Rattle.writer.proofs.put.put_digits.Goals as goal

pub loop-rest-init : goal.loop-rest-init
loop-rest-init c = search (rules, counts_start)

pub returns-in_err-put_byte : goal.returns-in_err-put_byte
returns-in_err-put_byte c = rw c.from_residual.ensures (counts_full c.loop-rest.invariant _ (search rules) (search rules) c.in_err-put_byte.ensures)

pub loop-rest-preserved : goal.loop-rest-preserved
loop-rest-preserved c = counts_digit c.loop-rest.invariant _ (search rules) (search rules) c.in_ok-put_byte.ensures

pub returns : goal.returns
returns c = counts_end c.loop-rest.invariant _ (search rules) (search rules) c.put_byte-2.ensures
