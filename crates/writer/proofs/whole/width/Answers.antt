-- Eight less the bytes that are all zeros. Assumes nothing.
use native.Mathlib.Omega.{arith}
use borrow.Author.Rules.{rules}
use lib.Count.{leading_le}
use Rattle.writer.specs.WholeLaws.{width-zeros}
use Rattle.writer.proofs.whole.width.Goals as goal

pub overflow_cast-result : goal.overflow_cast-result
overflow_cast-result c = let l = leading_le 64 c.args.word in search (rules, l)

pub overflow_sub-result : goal.overflow_sub-result
overflow_sub-result c = let l = leading_le 64 c.args.word in omega (arith, l)

pub returns : goal.returns
returns c = (width-zeros c.args.word (search rules), omega arith)
