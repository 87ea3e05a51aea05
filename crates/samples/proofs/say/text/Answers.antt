-- A text of over 100 bytes has 25. Assumes nothing.
use Rattle.std.proofs.Common.{arith, length-take}
use Rattle.samples.proofs.say.text.Goals as goal

pub slice_bounds-words-end : goal.slice_bounds-words-end
slice_bounds-words-end g c = simp (length-take) (omega arith)
