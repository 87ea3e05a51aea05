-- The arrow, the name, the backslash and the bracket. Assumes nothing.
use Rattle.writer.specs.PuttingLaws.{no_arrow, no_name, no_lambda, puts_head}
use Rattle.writer.proofs.put.put_head.Goals as goal

pub returns-in_err-put : goal.returns-in_err-put
returns-in_err-put c = rw c.from_residual.ensures (no_arrow _ _ c.in_err-put.ensures)

pub returns-in_err-put-2 : goal.returns-in_err-put-2
returns-in_err-put-2 c = rw c.from_residual-in_err-put-2.ensures (no_name _ _ c.in_ok-put.ensures c.in_err-put-2.ensures)

pub returns-in_err-put_byte : goal.returns-in_err-put_byte
returns-in_err-put_byte c = rw c.from_residual-in_err-put_byte.ensures (no_lambda _ _ c.in_ok-put.ensures c.in_ok-put-2.ensures c.in_err-put_byte.ensures)

pub returns : goal.returns
returns c = puts_head _ _ c.in_ok-put.ensures c.in_ok-put-2.ensures c.in_ok-put_byte.ensures c.put_if.ensures
