-- 02, T-04 and T-05: refusals 15 and 16 of a form's text but for the text's length, found by a walk over the form: its parts are counted, what
-- is open is tested where more opens, each name is looked up among the functions around it, and the level of each function is compared with how
-- many are around it. Numbers, names and how many arguments a member is given are not looked at: it is of forms in which they are right
-- (Printable, and Saturated below), as those of a cache's entries are. Assumes nothing: these are definitions. That of such forms this is what
-- reading the text would come to, and when the tree keeps the limits, is in JudgingLaws.
use Rattle.std.specs.Prelude.{◌≡◌, Bool, not, ◌&&◌, cond, List, [], ◌∷◌, map, ℕ, suc, ◌+◌, ◌*◌, ◌-◌, ◌%◌, ltb, eqb, length}
use Rattle.language.specs.Limits.{text_parts, open_marks, open_lambdas}
use Rattle.members.specs.Members.{arguments}
use Rattle.meaning.specs.Forms.{Form, name_in, level_in, number, variable, unbound, readings, ask, call, function}
use Rattle.meaning.specs.Evaluation.{has_name}
use Rattle.printing.specs.Printed.{is_function}
use Rattle.printing.specs.Bound.{is_innermost}

-- What a walk has found is a number: twice the parts met, plus 1 if a name or a function was met that would be read as something else. Where a
-- limit is broken, so that the reader would decline the text, it is this one, as for a part too many, whatever else was met.
abbrev pub declined : ℕ
declined = suc (2 * suc text_parts)

-- a part more
unfoldable pub counted : ℕ → ℕ
counted n = cond (ltb n (2 * text_parts)) (n + 2) declined

-- a name or a function, which is read as what it is or as something else
unfoldable pub looked : Bool → ℕ → ℕ
looked same n = cond same n (suc (n - n % 2))

-- a place where something opens, within the limits or not
unfoldable pub opening : Bool → ℕ → ℕ
opening within n = cond within n declined

-- where k marks are open: a call's brackets can open
abbrev pub admits : ℕ → Bool
admits k = ltb k open_marks

-- within functions of the variables xs: a function can
abbrev pub admits_function : ℕ → List ℕ → Bool
admits_function k xs = admits k && ltb (length xs) open_lambdas

-- the marks open at a receiver: a function stands in brackets
abbrev pub at_receiver : Form → ℕ → ℕ
at_receiver f k = cond (is_function f) (suc k) k

-- a walk over a form where k marks are open, within functions of the variables xs, innermost first, after what was found before
unfoldable pub walked : ℕ → List ℕ → Form → ℕ → ℕ
walked k xs (number z) n = counted n
walked k xs (variable v) n = looked (is_innermost v xs) (counted n)
walked k xs (unbound x) n = looked (not (has_name x (map name_in xs))) (counted n)
walked k xs readings n = counted n
walked k xs (ask m f) n = walked (at_receiver f k) xs f (opening (admits k) (counted n))
walked k xs (call m f a) n = walked (at_receiver f k) xs f (walked (suc k) xs a (opening (admits k) (counted n)))
walked k xs (function v b) n = walked (suc k) (v ∷ xs) b (looked (eqb (level_in v) (length xs)) (opening (admits_function k xs) (counted n)))

-- the refusal that a finding stands for, 0 for none
unfoldable pub refusal_of : ℕ → ℕ
refusal_of n = cond (eqb n declined) 15 (cond (eqb (n % 2) 0) 0 16)

abbrev pub verdict : Form → ℕ
verdict f = refusal_of (walked 0 [] f 0)

-- each member is given as many arguments as it takes
abbrev pub Saturated : Form → Type 0
Saturated (number z) = Unit {0}
Saturated (variable v) = Unit {0}
Saturated (unbound x) = Unit {0}
Saturated readings = Unit {0}
Saturated (ask m f) = (arguments m ≡ 0) × Saturated f
Saturated (call m f a) = (arguments m ≡ 1) × (Saturated f × Saturated a)
Saturated (function v b) = Saturated b
