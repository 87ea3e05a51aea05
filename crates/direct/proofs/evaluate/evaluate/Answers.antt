-- Each refusal in its order, and what the part shows. Assumes nothing.
use mathlib.Core.Path.{refl}
use Rattle.direct.specs.EvaluatingLaws.{too_long, too_many, unread, no_part, part-there, part-shows, part-shown}
use Rattle.direct.proofs.evaluate.evaluate.Goals as goal

pub returns-then-text-gt-BYTES : goal.returns-then-text-gt-BYTES
returns-then-text-gt-BYTES c = too_long _ _ _ c.if-text-gt-BYTES.true _ c.into.ensures

pub returns-then-recording-gt-READINGS : goal.returns-then-recording-gt-READINGS
returns-then-recording-gt-READINGS c =
    too_many _ _ _ c.if-text-gt-BYTES.false c.if-recording-gt-READINGS.true _ c.into-then-recording-gt-READINGS.ensures

pub returns-in_err-text_read : goal.returns-in_err-text_read
returns-in_err-text_read c =
    unread _ _ _ c.if-text-gt-BYTES.false c.if-recording-gt-READINGS.false _ _ _ _ _ c.read.ensures refl refl _ c.in_err-text_read.was _ c.from_residual.ensures.1

pub returns-then-text_read-place : goal.returns-then-text_read-place
returns-then-text_read-place c =
    no_part _ _ _ c.if-text-gt-BYTES.false c.if-recording-gt-READINGS.false _ _ _ _ _ c.read.ensures refl refl _ c.in_ok-text_read.was
    c.if-text_read-place.true _ c.into-then-text_read-place.ensures

pub bounds-parts-place : goal.bounds-parts-place
bounds-parts-place c =
    part-there _ _ _ c.if-text-gt-BYTES.false c.if-recording-gt-READINGS.false _ _ _ _ _ c.read.ensures refl refl _ c.in_ok-text_read.was c.if-text_read-place.false

pub show-requires : goal.show-requires
show-requires c =
    part-shows _ _ _ c.if-text-gt-BYTES.false c.if-recording-gt-READINGS.false _ _ _ _ _ c.read.ensures refl refl _ c.in_ok-text_read.was c.if-text_read-place.false

pub returns : goal.returns
returns c =
    part-shown _ _ _ c.if-text-gt-BYTES.false c.if-recording-gt-READINGS.false _ _ _ _ _ c.read.ensures refl refl _ c.in_ok-text_read.was
    c.if-text_read-place.false _ c.show.ensures
