-- `measured::measured_best_sum` meets its contract: what is packed is what the member gives. Assumes nothing.
use mathlib.Core.Path.{refl, ap, ◌∙◌}
use mathlib.Core.Logic.{inl}
use lib.IntN.{ℤ}
use mir.Facts.{to_z-of_z}
use Rattle.members.specs.declared.Member.TheVariants.{BestSum}
use Rattle.values.specs.Packing.{pack_of}
use Rattle.rules.specs.Rules.{on_window}
use Rattle.measured.proofs.measured_best_sum.Goals as goal

pub best_in-requires : goal.best_in-requires
best_in-requires c = inl refl

pub returns : goal.returns
returns c =
    c.pack.ensures.same
    ∙ ap pack_of (c.best_in.ensures
    ∙ ap (λ (n : ℤ). on_window BestSum c.args.readings.now c.args.start c.args.length n)
    (to_z-of_z c.ranges.width))
