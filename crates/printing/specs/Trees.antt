-- 02, T-04: the tree of the grammar that a form's text spells, with the calls r behind it. Assumes nothing: these are definitions.
use Rattle.language.specs.Names.{data_word}
use Rattle.members.specs.Members.{spelled}
use Rattle.grammar.specs.Grammar.{Expression, Calls, name, literal, lambda, bracket, done, call, none, first, last}
use Rattle.meaning.specs.Forms.{Form, name_in, number, variable, unbound, readings, ask, function}
use Rattle.printing.specs.Printed.{unpacked}

-- an expression on which calls follow stands in brackets
abbrev pub closed : Expression → Calls → Expression
closed e done = e
closed e (call m a) = bracket e (call m a)

unfoldable pub tree_with : Form → Calls → Expression
tree_with (number z) r = literal z r
tree_with (variable v) r = name (unpacked (name_in v)) r
tree_with (unbound x) r = name (unpacked x) r
tree_with readings r = name data_word r
tree_with (ask m f) r = tree_with f (call (spelled m) (none r))
tree_with (Form.call m f a) r = tree_with f (call (spelled m) (first (tree_with a done) (last r)))
tree_with (function v b) r = closed (lambda (unpacked (name_in v)) (tree_with b done)) r

abbrev pub tree_of : Form → Expression
tree_of f = tree_with f done
