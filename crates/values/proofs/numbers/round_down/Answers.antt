-- The library's quotient is the definition's, which fits as it is no farther from 0 than the number divided. Assumes nothing.
use native.Mathlib.Nat.{lt_of_le_of_lt}
use lib.IntN.{ℤ}
use mir.Syntax.{w64}
use mir.Val.{SFits, to_z, of_z}
use mir.Facts.{to_z-of_z}
use Rattle.std.proofs.Common.{◌∙◌, ap}
use Rattle.std.specs.Int.{int_div_euclid}
use Rattle.rules.specs.Numbers.{quotient}
use Rattle.values.specs.Rounding.{quotient-mag, euclid-quotient}
use Rattle.values.proofs.numbers.round_down.Goals as goal

pub returns : goal.returns
returns c =
    let n = c.args.n in
    let d = c.args.d in
    let f : SFits w64 (quotient n d) = record { sfits = lt_of_le_of_lt (quotient-mag n d c.requires) c.ranges.n.sfits } in
    let e = c.div_euclid.ensures ∙ (λ i. int_div_euclid (to_z-of_z c.ranges.n i) (to_z-of_z c.ranges.d i)) ∙ euclid-quotient n d c.requires in
    ap (λ (z : ℤ). to_z w64 (of_z w64 z)) e ∙ to_z-of_z f
