-- What is no number of 32 bits did not pass both tests of the range. Assumes nothing.
use lib.IntN.{ℤ}
use lib.Signed.{lt_z}
use mir.Syntax.{w32}
use mir.Val.{SFits}
use mir.Facts.{to_z-of_z}
use Rattle.std.specs.Prelude.{◌≡◌, refl}
use Rattle.std.proofs.Common.{◌∙◌}
use Rattle.language.specs.Cases.{split}
use Rattle.language.specs.Limits.{least_number, most_number}
use Rattle.rules.specs.declared.Value.TheVariants.{Missing}
use Rattle.rules.specs.Values.{ranged, beyond_number}
use Rattle.values.specs.Ranges.{in-range}
use Rattle.values.proofs.numbers.number.Goals as goal

beyond : (z : ℤ) → (SFits w32 z → ⊥) → Missing beyond_number ≡ ranged z
unfolding ranged
beyond z outside =
    split (lt_z z least_number)
    (λ low. rw low refl)
    (λ low. split (lt_z most_number z)
    (λ high. rw (low, high) refl)
    (λ high. absurd (outside (record { sfits = in-range 2147483647 z low high }))))

pub returns-in-Err : goal.returns-in-Err
returns-in-Err c = c.into.ensures ∙ beyond c.args.z (λ f. c.in-Err.ensures (rw (to_z-of_z c.ranges.z) f))
