-- A refusal's place is within 32 bits. Assumes nothing.
use Rattle.engine.proofs.ExportRules.{place-fits}
use Rattle.engine.proofs.exports.formula_edit.Goals as goal

pub edit_numbers-requires : goal.edit_numbers-requires
edit_numbers-requires c = place-fits _ _ _ _ _ _ c.edit.ensures
