-- `measured::measured_greatest` meets its contract: what is packed is what the member gives. Assumes nothing.
use mathlib.Core.Path.{ap, ◌∙◌}
use Rattle.values.specs.Packing.{pack_of}
use Rattle.measured.proofs.measured_greatest.Goals as goal

pub returns : goal.returns
returns c = c.pack.ensures.same ∙ ap pack_of c.greatest.ensures
