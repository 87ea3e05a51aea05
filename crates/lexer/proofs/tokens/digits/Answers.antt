-- The run of digits is the number of digits_at. Assumes nothing.
use Rattle.language.specs.Names.{is_digit}
use Rattle.lexer.proofs.TokenPaths.{digits-is}
use Rattle.lexer.proofs.tokens.digits.Goals as goal

pub returns : goal.returns
returns c = digits-is _ _ _ (c.run_end-end.ensures is_digit (λ b r q. q))
