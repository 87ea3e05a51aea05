-- `measured::measured_can_bind` meets its contract: it is the test. Assumes nothing.
use mathlib.Core.Path.{ap, ◌∙◌}
use Rattle.measured.specs.Measures.{flag}
use Rattle.measured.proofs.measured_can_bind.Goals as goal

pub returns : goal.returns
returns c = c.flag.ensures ∙ ap flag c.can_bind.ensures
