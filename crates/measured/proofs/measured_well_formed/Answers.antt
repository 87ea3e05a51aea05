-- `measured::measured_well_formed` meets its contract: the readings do not matter. Assumes nothing.
use mathlib.Core.Path.{ap, ◌∙◌}
use mathlib.Core.List.{[]}
use Rattle.measured.specs.Measures.{flag}
use Rattle.measured.proofs.measured_well_formed.Goals as goal

pub returns : goal.returns
returns c = c.flag.ensures ∙ ap flag (c.well_formed-2.ensures [])
