-- The invariant: the entry's text is what is written, with what stands before it. Assumes nothing.
use mathlib.Core.Path.{◌≡◌, refl}
use borrow.Author.Rules.{rules}
use Rattle.writer.specs.Writing.{turn_number}
use Rattle.writer.specs.WritingLaws.{goes_start, goes_end}
use Rattle.writer.proofs.write.write.Goals as goal

pub loop-pending-init : goal.loop-pending-init
loop-pending-init c = goes_start c.requires.0 c.requires.1 c.requires.2 (search rules) refl

pub returns : goal.returns
returns c = let e : turn_number c.loop-pending.s.turn ≡ 3 = search rules in goes_end c.loop-pending.invariant e
