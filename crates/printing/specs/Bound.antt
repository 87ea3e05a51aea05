-- 02, T-04 and T-05: the form that is bound when a form's tree is read again. Its names are looked up anew, so that a variable that no function
-- around it binds comes back as an unbound name, an unbound name that one does bind as a variable, and a variable hidden by an inner function of
-- its name as that one's; and each function gets the level of the place where it stands. Assumes nothing: these are definitions.
use Rattle.std.specs.Prelude.{◌≡◌, Bool, true, false, cond, List, [], ◌∷◌, map, ℕ, eqb, length}
use Rattle.meaning.specs.Forms.{Form, name_in, level_in, number, variable, unbound, readings, ask, call, function}
use Rattle.meaning.specs.Binding.{Meaning, named, variable_of, as_lambda}
use Rattle.meaning.specs.Evaluation.{has_name}
use Rattle.printing.specs.Printed.{unpacked}

-- where the names around it have these meanings
unfoldable pub bound : Form → List Meaning → Form
bound (number z) Γ = number z
bound (variable v) Γ = named (unpacked (name_in v)) Γ
bound (unbound x) Γ = named (unpacked x) Γ
bound readings Γ = readings
bound (ask m f) Γ = ask m (bound f Γ)
bound (call m f a) Γ = call m (bound f Γ) (bound a Γ)
bound (function v b) Γ = function (variable_of (unpacked (name_in v)) Γ) (bound b (as_lambda (unpacked (name_in v)) Γ))

-- within functions of the variables ys, innermost first: v is the variable of the innermost one of its name
unfoldable pub is_innermost : ℕ → List ℕ → Bool
is_innermost v [] = false
is_innermost v (y ∷ ys) = cond (eqb (name_in v) (name_in y)) (eqb v y) (is_innermost v ys)

-- within functions of the variables xs, innermost first: each variable is that of the innermost function of its name around it, no unbound name is
-- that of a function around it, and each function has as its level how many are around it
abbrev pub Closed : List ℕ → Form → Type 0
Closed xs (number z) = Unit {0}
Closed xs (variable v) = is_innermost v xs ≡ true
Closed xs (unbound x) = has_name x (map name_in xs) ≡ false
Closed xs readings = Unit {0}
Closed xs (ask m f) = Closed xs f
Closed xs (call m f a) = Closed xs f × Closed xs a
Closed xs (function v b) = (level_in v ≡ length xs) × Closed (v ∷ xs) b

-- each form of a list is such
abbrev pub Every : (Form → Type 0) → List Form → Type 0
Every P [] = Unit {0}
Every P (f ∷ fs) = P f × Every P fs
