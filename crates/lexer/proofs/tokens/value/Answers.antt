-- Digit by digit, with the bound at each, is the number up to the bound. Assumes nothing.
use Rattle.std.proofs.Common.{◌∙◌, rules, arith}
use Rattle.lexer.specs.LoopsLaws.{bounded_fold}
use Rattle.lexer.proofs.tokens.value.Goals as goal

pub returns : goal.returns
returns c = search rules ∙ bounded_fold 0 c.args.bytes.now (omega arith)
