-- Digits in base ten, up to a bound that is beyond the numbers on both sides. Assumes nothing.
use Rattle.std.proofs.Common.{sym, ◌∙◌, eqb-true}
use Rattle.lexer.proofs.ValuePaths.{number-none, number-minus, number-plus}
use Rattle.lexer.proofs.tokens.Lexed.number.Goals as goal

pub returns-then-is_empty : goal.returns-then-is_empty
returns-then-is_empty c = number-none _ _ c.part-bytes.ensures (eqb-true _ 0 (sym c.is_empty.ensures ∙ c.if-is_empty.true))

pub returns-then-bytes-eq45 : goal.returns-then-bytes-eq45
returns-then-bytes-eq45 c = search number-minus

pub returns-else-bytes-eq45 : goal.returns-else-bytes-eq45
returns-else-bytes-eq45 c = search number-plus
