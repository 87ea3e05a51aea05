-- The digits, and - before them for a key below that of 0. Assumes nothing.
use Rattle.writer.specs.PuttingLaws.{puts_negative, no_negative, puts_natural}
use Rattle.writer.proofs.put.put_number.Goals as goal

pub returns-in_err-put_digits : goal.returns-in_err-put_digits
returns-in_err-put_digits c = rw c.from_residual.ensures (no_negative c.if-key-lt-ZERO_KEY.true c.in_err-put_digits.ensures)

pub returns-then-key-lt-ZERO_KEY : goal.returns-then-key-lt-ZERO_KEY
returns-then-key-lt-ZERO_KEY c = puts_negative c.if-key-lt-ZERO_KEY.true c.in_ok-put_digits.ensures c.put_byte.ensures

pub returns : goal.returns
returns c = puts_natural c.if-key-lt-ZERO_KEY.false c.put_digits-2.ensures
