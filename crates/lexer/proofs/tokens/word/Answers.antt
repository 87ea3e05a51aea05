-- The bytes of the run are the word of word_at. Assumes nothing.
use Rattle.language.specs.Names.{in_word}
use Rattle.lexer.proofs.TokenPaths.{word-is}
use Rattle.lexer.proofs.tokens.word.Goals as goal

pub returns : goal.returns
returns c = let e = c.run_end-end.ensures in_word (λ b r q. q) in search word-is
