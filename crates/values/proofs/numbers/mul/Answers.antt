-- The product of two numbers of 32 bits fits in 64. Assumes nothing.
use Rattle.std.proofs.Common.{◌∙◌, ap}
use Rattle.rules.specs.Values.{ranged}
use Rattle.rules.specs.Rules.{rule, on_numbers}
use Rattle.values.proofs.Signed.{product_is}
use Rattle.values.proofs.numbers.mul.Goals as goal

pub returns : goal.returns
unfolding on_numbers rule
returns c = c.number.ensures ∙ ap ranged (product_is c.ranges.a c.ranges.b)
