-- 01, "Binding": the let-free forms that the entries of a table stand for. Assumes nothing: these are definitions.
use Rattle.std.specs.Prelude.{List, []}
use Rattle.model.specs.Decoding.{decode_from}
use Rattle.meaning.specs.Forms.{Form, readings}
use Rattle.layout.specs.Memory.{Node}
use Rattle.layout.specs.Nodes.{build}

-- the forms of entries, or of records, by number
abbrev pub forms_of : List Node → List Form
forms_of t = decode_from build readings [] t
