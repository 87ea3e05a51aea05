-- Eight bytes, or all where there are fewer, are packed. Assumes nothing.
use Rattle.std.proofs.Common.{ap, ◌∙◌, take}
use Rattle.language.specs.Names.{packed}
use Rattle.lexer.proofs.ValuePaths.{name-front}
use Rattle.lexer.proofs.tokens.Lexed.name.Goals as goal

pub returns : goal.returns
returns c = name-front _ _ c.part-word.ensures _ (c.pack.ensures.0 ∙ ap (λ n. packed (take n c.part-word.result.now)) c.min.ensures)
