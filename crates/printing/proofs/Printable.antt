-- 02, T-04: which forms are printed so that the text can be read again: numbers within signed 32 bits, and names that are words of at most
-- 8 bytes and neither let, in nor data. Assumes nothing: these are definitions.
use Rattle.std.specs.Prelude.{◌≡◌, true}
use Rattle.grammar.specs.KeptLimits.{InRange}
use Rattle.meaning.specs.Forms.{Form, name_in, number, variable, unbound, readings, ask, call, function}
use Rattle.layout.specs.Nodes.{is_name}

abbrev pub Printable : Form → Type 0
Printable (number z) = InRange z
Printable (variable v) = is_name (name_in v) ≡ true
Printable (unbound x) = is_name x ≡ true
Printable readings = Unit {0}
Printable (ask m f) = Printable f
Printable (call m f a) = Printable f × Printable a
Printable (function v b) = (is_name (name_in v) ≡ true) × Printable b
