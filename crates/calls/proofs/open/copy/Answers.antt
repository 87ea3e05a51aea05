-- The next reading is copied; at the end all are. Assumes nothing.
use mir.Facts.{to_z-of_z}
use mir.Syntax.{w32}
use borrow.Author.Rules.{rules}
use Rattle.calls.specs.Opening.{copy_go, copy_end}
use Rattle.calls.proofs.open.copy.Goals as goal

pub loop-i-preserved : goal.loop-i-preserved
loop-i-preserved c = (search rules, search rules, copy_go _ _ _ _ c.loop-i.invariant.2 _ (to_z-of_z {w = w32} (record { sfits = c.readings-1.given })) (search rules) (search rules))

pub returns : goal.returns
returns c = search (rules, copy_end)
