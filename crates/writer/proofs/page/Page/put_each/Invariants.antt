-- The invariant: what is written and what is left are the word's bytes. Assumes nothing.
use Rattle.writer.specs.Putting.{Unpacks}
use Rattle.writer.proofs.page.Page.put_each.Given as goal

abbrev pub invariant-loop-rest : goal.invariant-loop-rest
invariant-loop-rest l = Unpacks l.word l.initial.self l.rest l.self

abbrev pub decreases-loop-rest : goal.decreases-loop-rest
decreases-loop-rest l = l.rest
