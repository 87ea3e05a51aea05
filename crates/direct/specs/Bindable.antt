-- 02, T-05 and T-07: what holds of a text's forms, so that what the variables stand for can be told by level: a number is within signed 32 bits, a
-- level is 0 or 1, and no two variables that a form awaits are of one level; in a function's body its own variable is the only one of its level.
-- Assumes nothing: these are definitions. That each part of a text that is read has such a form is in BindableLaws.
use Rattle.std.specs.Prelude.{◌≡◌, true, List, ◌∷◌, ℕ, ◌<◌}
use Rattle.language.specs.Limits.{open_lambdas}
use Rattle.grammar.specs.KeptLimits.{InRange}
use Rattle.meaning.specs.Forms.{Form, number, variable, unbound, readings, ask, call, function, level_in}
use Rattle.meaning.specs.Evaluation.{has_name, awaited}

-- no two of these variables are of one level
abbrev pub OneEach : List ℕ → Type 0
OneEach vs = (x y : ℕ) → has_name x vs ≡ true → has_name y vs ≡ true → level_in x ≡ level_in y → x ≡ y

abbrev pub Bindable : Form → Type 0
Bindable (number z) = InRange z
Bindable (variable v) = level_in v < open_lambdas
Bindable (unbound x) = Unit {0}
Bindable readings = Unit {0}
Bindable (ask m f) = Bindable f
Bindable (call m f a) = Bindable f × Bindable a × OneEach (awaited (call m f a))
Bindable (function v b) = (level_in v < open_lambdas) × OneEach (v ∷ awaited b) × Bindable b
