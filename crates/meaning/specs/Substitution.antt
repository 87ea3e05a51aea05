-- 01, "Binding": capture-avoiding substitution, and what it means that every let of a tree is replaced by it.
-- In the let-free form of a let's body a hole is put for the let's name. The form of the let is that form with the form of the let's value
-- in place of every hole, and no function around a hole has a variable that is free in what is put there. An inner let or lambda hides the
-- let's name, as looking a name up takes the innermost. That let elimination does this is in SubstitutionLaws.
-- Assumes nothing: these are definitions.
use Rattle.std.specs.Prelude.{◌≡◌, false, cond, List, [], ◌∷◌, ℕ, eqb}
use Rattle.language.specs.Names.{packed}
use Rattle.grammar.specs.Grammar.{Expression, Calls, Arguments, More, let_in, lambda, name, literal, bracket, done, call, none, first, last, next}
use Rattle.grammar.specs.Faults.{Around}
use Rattle.grammar.specs.KeptLimits.{Site, a_let, a_lambda, a_bracket, a_name, a_number, a_call}
use Rattle.meaning.specs.Forms.{Form, number, variable, unbound, readings, ask, function}
use Rattle.meaning.specs.Binding.{Meaning, as_let, as_lambda, form_e}
use Rattle.meaning.specs.Evaluation.{has_name, awaited}

-- no name packs to 0, so that the unbound name 0 stands for nothing else
abbrev pub hole : Form
hole = unbound 0

-- g with f in place of every hole
unfoldable pub fill : Form → Form → Form
fill f (number z) = number z
fill f (variable x) = variable x
fill f (unbound x) = cond (eqb x 0) f (unbound x)
fill f readings = readings
fill f (ask m g) = ask m (fill f g)
fill f (Form.call m g a) = Form.call m (fill f g) (fill f a)
fill f (function x b) = function x (fill f b)

-- none of the variables is free in the form
abbrev pub NoneFree : List ℕ → Form → Type 0
NoneFree [] f = Unit {0}
NoneFree (y ∷ ys) f = (has_name y (awaited f) ≡ false) × NoneFree ys f

-- filling g with f captures nothing: at each hole no function around, of g or with a variable of ys, has a variable that is free in f
abbrev pub Avoids : Form → List ℕ → Form → Type 0
Avoids f ys (number z) = Unit {0}
Avoids f ys (variable x) = Unit {0}
Avoids f ys (unbound x) = x ≡ 0 → NoneFree ys f
Avoids f ys readings = Unit {0}
Avoids f ys (ask m g) = Avoids f ys g
Avoids f ys (Form.call m g a) = Avoids f ys g × Avoids f ys a
Avoids f ys (function y b) = Avoids f (y ∷ ys) b

-- the let's name is replaced by its value's form, and nothing is captured
pub record Substituted (x : List ℕ) (a b : Expression) (Γ : List Meaning) : Type 0 where
  pub filled : form_e (let_in x a b) Γ ≡ fill (form_e a Γ) (form_e b (as_let x hole Γ))
  pub avoids : Avoids (form_e a Γ) [] (form_e b (as_let x hole Γ))

-- P holds of every let of a tree, in the environment that let elimination has there
module _ (P : List ℕ → (a b : Expression) → List Meaning → Type 0) where
  abbrev mutual
    pub AtLetsE : Expression → List Meaning → Type 0
    AtLetsE (let_in x a b) Γ = P x a b Γ × AtLetsE a Γ × AtLetsE b (as_let x (form_e a Γ) Γ)
    AtLetsE (lambda x b) Γ = AtLetsE b (as_lambda x Γ)
    AtLetsE (name x r) Γ = AtLetsC r Γ
    AtLetsE (literal z r) Γ = AtLetsC r Γ
    AtLetsE (bracket e r) Γ = AtLetsE e Γ × AtLetsC r Γ

    pub AtLetsC : Calls → List Meaning → Type 0
    AtLetsC done Γ = Unit {0}
    AtLetsC (call m a) Γ = AtLetsA a Γ

    pub AtLetsA : Arguments → List Meaning → Type 0
    AtLetsA (none r) Γ = AtLetsC r Γ
    AtLetsA (first e x) Γ = AtLetsE e Γ × AtLetsM x Γ

    pub AtLetsM : More → List Meaning → Type 0
    AtLetsM (last r) Γ = AtLetsC r Γ
    AtLetsM (next e x) Γ = AtLetsE e Γ × AtLetsM x Γ

-- no name in use packs to 0
abbrev pub NonzeroNames : Site → Around → Type 0
NonzeroNames (a_let x) d = Unit {0}
NonzeroNames (a_lambda x) d = Unit {0}
NonzeroNames a_bracket d = Unit {0}
NonzeroNames (a_name x) d = ¬ (packed x ≡ 0)
NonzeroNames (a_number z) d = Unit {0}
NonzeroNames (a_call m n) d = Unit {0}
