-- The tests of the definition, in its order. Assumes nothing.
use mathlib.Core.Path.{sym, ◌∙◌}
use Rattle.binder.specs.WrittenLaws.{whole_is}
use Rattle.calls.proofs.EditLaws.{edit-long, edit-small, edit-ill, edit-text}
use Rattle.calls.proofs.edit.edit.Goals as goal

pub returns-then-text-gt-BYTES : goal.returns-then-text-gt-BYTES
returns-then-text-gt-BYTES c = edit-long _ _ _ c.if-text-gt-BYTES.true _ c.into.ensures

pub returns-then-not-fits : goal.returns-then-not-fits
returns-then-not-fits c = edit-small _ _ _ c.if-text-gt-BYTES.false (rw c.fits.ensures at c.then-not-fits.either) _ c.into-then-not-fits.ensures

pub returns-then-not-well_formed : goal.returns-then-not-well_formed
returns-then-not-well_formed c =
    edit-ill _ _ _ c.if-text-gt-BYTES.false (sym c.fits.ensures ∙ c.if-not-fits.false) c.if-places-lt-PARTS.false
    (sym (c.well_formed-2.ensures _) ∙ c.if-not-well_formed.true) _ c.into-then-not-well_formed.ensures

pub edit_checked-requires-clause-whole : goal.edit_checked-requires-clause-whole
edit_checked-requires-clause-whole c = (whole_is _ (sym c.fits.ensures ∙ c.if-not-fits.false), c.if-places-lt-PARTS.false)

pub returns : goal.returns
returns c =
    edit-text _ _ _ c.if-text-gt-BYTES.false (sym c.fits.ensures ∙ c.if-not-fits.false) c.if-places-lt-PARTS.false _ _ _
    (sym (c.well_formed-2.ensures _) ∙ c.if-not-well_formed.false) (c.edit_checked.ensures _)
