-- The number of the bytes decides, where they are two or three. Assumes nothing.
use mathlib.Core.Bool.{true, false}
use borrow.Author.Tests.{ne_eqb}
use Rattle.lexer.proofs.TokenPaths.{word_two, word-three, word-other}
use Rattle.lexer.proofs.tokens.word_kind.Goals as goal

pub returns-then-pack-eq-IN : goal.returns-then-pack-eq-IN
returns-then-pack-eq-IN c = word_two _ _ c.pack.ensures true (search) (search)

pub returns-then-word-eq2 : goal.returns-then-word-eq2
returns-then-word-eq2 c = word_two _ _ c.pack.ensures false (search) (ne_eqb _ _ c.if-pack-eq-IN.false)

pub returns-then-pack-eq-LET : goal.returns-then-pack-eq-LET
returns-then-pack-eq-LET c = word-three _ _ c.pack-then-word-eq3.ensures true (search) (search)

pub returns-then-word-eq3 : goal.returns-then-word-eq3
returns-then-word-eq3 c = word-three _ _ c.pack-then-word-eq3.ensures false (search) (ne_eqb _ _ c.if-pack-eq-LET.false)

pub returns : goal.returns
returns c = search word-other
