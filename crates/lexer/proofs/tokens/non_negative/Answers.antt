-- The conversion answers where the number fits. Assumes nothing.
use Rattle.lexer.proofs.ValuePaths.{plus-ok}
use Rattle.lexer.proofs.tokens.non_negative.Goals as goal

pub returns : goal.returns
returns c = plus-ok _ _ c.try_from.ensures _ c.ok.ensures.value
