-- By a number above 0 as it is; by one below it, both are turned about 0, and the quotient is the same. Assumes nothing.
use lib.IntN.{ℤ, pos}
use mir.Syntax.{w32, w64}
use mir.Val.{SFits, to_z, of_z}
use mir.Facts.{to_z-of_z}
use Rattle.std.specs.Prelude.{◌≡◌}
use Rattle.std.proofs.Common.{◌∙◌, ap}
use Rattle.members.specs.declared.Member.TheVariants.{Div}
use Rattle.rules.specs.declared.Value.{Value}
use Rattle.rules.specs.Values.{ranged}
use Rattle.rules.specs.Numbers.{quotient, divided}
use Rattle.rules.specs.Rules.{rule, on_numbers}
use Rattle.values.specs.Order.{same-no}
use Rattle.values.specs.Rounding.{above-minus, above_zero, quotient-turned}
use Rattle.values.proofs.Signed.{wide_is, minus_is}
use Rattle.values.proofs.numbers.div.Goals as goal

divided-rest : (a b : ℤ) → (of_z w32 b ≡ 0 → ⊥) → {r : Value} {q : ℤ} → SFits w64 q → q ≡ quotient a b → r ≡ ranged (to_z w64 (of_z w64 q)) → r ≡ on_numbers Div a b
unfolding on_numbers rule divided
divided-rest a b some fq e k = k ∙ ap ranged (to_z-of_z fq ∙ e) ∙ simp (same-no b (pos 0) (λ z. some (ap (of_z w32) z)))

pub round_down-requires : goal.round_down-requires
round_down-requires c = rw (minus_is c.ranges.b) (above-minus c.args.b (rw (to_z-of_z c.ranges.b) at c.if-b-lt0.true))

pub returns-then-b-lt0 : goal.returns-then-b-lt0
returns-then-b-lt0 c =
    let low = rw (to_z-of_z c.ranges.b) at c.if-b-lt0.true in
    divided-rest c.args.a c.args.b c.if-b-eq0.false (record { sfits = c.round_down.type_inv })
    (c.round_down.ensures ∙ (λ i. quotient (minus_is c.ranges.a i) (minus_is c.ranges.b i)) ∙ quotient-turned c.args.a c.args.b low)
    c.number.ensures

pub round_down-requires-2 : goal.round_down-requires-2
round_down-requires-2 c =
    rw (wide_is c.ranges.b) (above_zero c.args.b (λ e. c.if-b-eq0.false (ap (of_z w32) e)) (rw (to_z-of_z c.ranges.b) at c.if-b-lt0.false))

pub returns : goal.returns
returns c =
    divided-rest c.args.a c.args.b c.if-b-eq0.false (record { sfits = c.round_down-2.type_inv })
    (c.round_down-2.ensures ∙ (λ i. quotient (wide_is c.ranges.a i) (wide_is c.ranges.b i)))
    c.number-2.ensures
