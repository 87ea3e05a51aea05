-- What stands behind the minus sign decides: digits, the rest of an arrow, or neither. Assumes nothing.
use Rattle.language.specs.Names.{is_digit}
use Rattle.lexer.proofs.TokenPaths.{minus-digits, minus-arrow, minus-other, minus-last}
use Rattle.lexer.proofs.tokens.minus.Goals as goal

pub returns-then-is_digit : goal.returns-then-is_digit
returns-then-is_digit c = let e = c.run_end-end.ensures is_digit (λ b r q. q) in search minus-digits

pub returns-then-text-next-eq62 : goal.returns-then-text-next-eq62
returns-then-text-next-eq62 c = search minus-arrow

pub returns-else-text-next-eq62 : goal.returns-else-text-next-eq62
returns-else-text-next-eq62 c = search minus-other

pub returns-else-next-text : goal.returns-else-next-text
returns-else-next-text c = search minus-last
