-- The difference of two numbers of 32 bits fits in 64. Assumes nothing.
use Rattle.std.proofs.Common.{◌∙◌, ap}
use Rattle.rules.specs.Values.{ranged}
use Rattle.rules.specs.Rules.{rule, on_numbers}
use Rattle.values.proofs.Signed.{difference_is}
use Rattle.values.proofs.numbers.sub.Goals as goal

pub returns : goal.returns
unfolding on_numbers rule
returns c = c.number.ensures ∙ ap ranged (difference_is c.ranges.a c.ranges.b)
