-- 01, "Binding": what it means that every let of a tree is replaced in each part of its body, also in one that the body's own form does not
-- have, as a part of an unused let's value. The forms of the parts are those with a hole for the let's name, filled with the form of the let's
-- value, and no function or lambda around a hole has a variable that is free in what is put there. That let elimination does this is in
-- PartSubstitutionLaws. Assumes nothing: these are definitions.
use Rattle.std.specs.Prelude.{◌≡◌, List, [], ◌∷◌, map, ℕ}
use Rattle.grammar.specs.Grammar.{Expression, Calls, Arguments, More, let_in, lambda, name, literal, bracket, done, call, none, first, last, next}
use Rattle.meaning.specs.Forms.{Form, number}
use Rattle.meaning.specs.Binding.{Meaning, named, as_let, variable_of, as_lambda, form_e, called, places_e}
use Rattle.meaning.specs.Substitution.{hole, fill, Avoids}

-- filling the form of each part with f captures nothing, at the part's place: below lambdas with the variables ys and those of the tree around the part
module _ (f : Form) where
  abbrev mutual
    pub AvoidsE : Expression → List ℕ → List Meaning → Type 0
    AvoidsE (let_in x a b) ys Γ = Avoids f ys (form_e (let_in x a b) Γ) × AvoidsE a ys Γ × AvoidsE b ys (as_let x (form_e a Γ) Γ)
    AvoidsE (lambda x b) ys Γ = Avoids f ys (form_e (lambda x b) Γ) × AvoidsE b (variable_of x Γ ∷ ys) (as_lambda x Γ)
    AvoidsE (name x r) ys Γ = Avoids f ys (named x Γ) × AvoidsC r (named x Γ) ys Γ
    AvoidsE (literal z r) ys Γ = Avoids f ys (number z) × AvoidsC r (number z) ys Γ
    AvoidsE (bracket e r) ys Γ = AvoidsE e ys Γ × AvoidsC r (form_e e Γ) ys Γ

    pub AvoidsC : Calls → Form → List ℕ → List Meaning → Type 0
    AvoidsC done g ys Γ = Unit {0}
    AvoidsC (call m a) g ys Γ = Avoids f ys (called a m g Γ) × AvoidsA a (called a m g Γ) ys Γ

    -- g is what the call comes to
    pub AvoidsA : Arguments → Form → List ℕ → List Meaning → Type 0
    AvoidsA (none r) g ys Γ = AvoidsC r g ys Γ
    AvoidsA (first e x) g ys Γ = AvoidsE e ys Γ × AvoidsM x g ys Γ

    pub AvoidsM : More → Form → List ℕ → List Meaning → Type 0
    AvoidsM (last r) g ys Γ = AvoidsC r g ys Γ
    AvoidsM (next e x) g ys Γ = AvoidsE e ys Γ × AvoidsM x g ys Γ

-- the let's name is replaced by its value's form in each part of its body, and nothing is captured
pub record PartsSubstituted (x : List ℕ) (a b : Expression) (Γ : List Meaning) : Type 0 where
  pub filled : places_e b (as_let x (form_e a Γ) Γ) [] ≡ map (fill (form_e a Γ)) (places_e b (as_let x hole Γ) [])
  pub avoids : AvoidsE (form_e a Γ) b [] (as_let x hole Γ)
