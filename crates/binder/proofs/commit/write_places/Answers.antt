-- The places up to here are written. Assumes nothing.
use mathlib.Core.Path.{refl}
use borrow.Author.Rules.{rules}
use Rattle.binder.specs.WrittenLaws.{placed-start, placed-go}
use Rattle.binder.proofs.commit.write_places.Goals as goal

pub loop-p-init : goal.loop-p-init
loop-p-init c = search (rules, placed-start)

pub loop-p-preserved : goal.loop-p-preserved
loop-p-preserved c =
    placed-go c.args.numbers.now c.args.parts.now c.args.places.now c.loop-p.p c.loop-p.places _ _
    c.get_or.ensures refl c.loop-p.invariant (search rules) (search rules)
