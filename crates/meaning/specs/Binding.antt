-- 01, "Binding" and "The text", with 02, T-05: let elimination, the form of each part by place, and the order in which new entries are numbered.
-- A name means the innermost let or lambda around it that binds it; one that nothing binds is marked unbound. A let's name stands for
-- the form of its value, with the levels of the place where that is written. That this is capture-avoiding substitution is `lets-substituted`
-- in SubstitutionLaws. Assumes nothing: these are definitions.
use Rattle.std.specs.Prelude.{Bool, true, false, cond, List, [], ◌∷◌, ℕ, suc}
use Rattle.language.specs.Names.{packed, same_name, is_data}
use Rattle.members.specs.Members.{if_member, member_of}
use Rattle.members.specs.declared.Member.{Member}
use Rattle.members.specs.declared.Member.TheVariants.{Count}
use Rattle.grammar.specs.Grammar.{Expression, Calls, Arguments, More, let_in, lambda, name, literal, bracket, done, call, none, first, last, next}
use Rattle.meaning.specs.Forms.{Form, with_level, number, variable, unbound, readings, ask, function}

-- a name, the form that it stands for, and whether it is a lambda's
abbrev pub Meaning : Type 0
Meaning = List ℕ × Form × Bool

-- an inner let or lambda hides an outer one; a name that none of them binds is unbound
unfoldable pub look_up : List ℕ → List Meaning → Form
look_up x [] = unbound (packed x)
look_up x (e ∷ Γ) = cond (same_name x e.0) e.1 (look_up x Γ)

-- a name in use
unfoldable pub named : List ℕ → List Meaning → Form
named x Γ = cond (is_data x) readings (look_up x Γ)

-- how many lambdas are written around
unfoldable pub lambdas : List Meaning → ℕ
lambdas [] = 0
lambdas (e ∷ Γ) = cond e.2 (suc (lambdas Γ)) (lambdas Γ)

-- in a let's body its name stands for the form of its value
abbrev pub as_let : List ℕ → Form → List Meaning → List Meaning
as_let x f Γ = (x, f, false) ∷ Γ

-- the variable of a lambda: its name, and as its level the lambdas around it
abbrev pub variable_of : List ℕ → List Meaning → ℕ
variable_of x Γ = with_level (packed x) (lambdas Γ)

-- in a lambda's body its name is that variable
abbrev pub as_lambda : List ℕ → List Meaning → List Meaning
as_lambda x Γ = (x, variable (variable_of x Γ), true) ∷ Γ

-- an unknown member is refused (9), so that what stands here for it does not matter
unfoldable pub member : List ℕ → Member
member m = if_member Count (member_of m) (λ k. k)

-- the form of an expression; of a receiver f with the calls behind it; of the call of m on f with these arguments, and what follows
unfoldable mutual
  pub form_e : Expression → List Meaning → Form
  form_e (let_in x a b) Γ = form_e b (as_let x (form_e a Γ) Γ)
  form_e (lambda x b) Γ = function (variable_of x Γ) (form_e b (as_lambda x Γ))
  form_e (name x r) Γ = form_c r (named x Γ) Γ
  form_e (literal z r) Γ = form_c r (number z) Γ
  form_e (bracket e r) Γ = form_c r (form_e e Γ) Γ

  pub form_c : Calls → Form → List Meaning → Form
  form_c done f Γ = f
  form_c (call m a) f Γ = form_a a m f Γ

  pub form_a : Arguments → List ℕ → Form → List Meaning → Form
  form_a (none r) m f Γ = form_c r (ask (member m) f) Γ
  form_a (first e x) m f Γ = form_m x (Form.call (member m) f (form_e e Γ)) Γ

  -- behind the argument of a call that comes to f; no member takes a second one
  pub form_m : More → Form → List Meaning → Form
  form_m (last r) f Γ = form_c r f Γ
  form_m (next e x) f Γ = form_m x f Γ

-- the form of the call itself, without what follows it
unfoldable pub called : Arguments → List ℕ → Form → List Meaning → Form
called (none r) m f Γ = ask (member m) f
called (first e x) m f Γ = Form.call (member m) f (form_e e Γ)

-- the forms of the parts, in the order of their marks, and then u
unfoldable mutual
  pub places_e : Expression → List Meaning → List Form → List Form
  places_e (let_in x a b) Γ u = form_e (let_in x a b) Γ ∷ places_e a Γ (places_e b (as_let x (form_e a Γ) Γ) u)
  places_e (lambda x b) Γ u = form_e (lambda x b) Γ ∷ places_e b (as_lambda x Γ) u
  places_e (name x r) Γ u = named x Γ ∷ places_c r (named x Γ) Γ u
  places_e (literal z r) Γ u = number z ∷ places_c r (number z) Γ u
  places_e (bracket e r) Γ u = places_e e Γ (places_c r (form_e e Γ) Γ u)

  pub places_c : Calls → Form → List Meaning → List Form → List Form
  places_c done f Γ u = u
  places_c (call m a) f Γ u = called a m f Γ ∷ places_a a (called a m f Γ) Γ u

  -- f is what the call comes to
  pub places_a : Arguments → Form → List Meaning → List Form → List Form
  places_a (none r) f Γ u = places_c r f Γ u
  places_a (first e x) f Γ u = places_e e Γ (places_m x f Γ u)

  pub places_m : More → Form → List Meaning → List Form → List Form
  places_m (last r) f Γ u = places_c r f Γ u
  places_m (next e x) f Γ u = places_e e Γ (places_m x f Γ u)

-- the same forms in the order of binding: a let's value before its body, a receiver before arguments, dependencies before what uses them
unfoldable mutual
  pub order_e : Expression → List Meaning → List Form → List Form
  order_e (let_in x a b) Γ u = order_e a Γ (order_e b (as_let x (form_e a Γ) Γ) u)
  order_e (lambda x b) Γ u = order_e b (as_lambda x Γ) (form_e (lambda x b) Γ ∷ u)
  order_e (name x r) Γ u = named x Γ ∷ order_c r (named x Γ) Γ u
  order_e (literal z r) Γ u = number z ∷ order_c r (number z) Γ u
  order_e (bracket e r) Γ u = order_e e Γ (order_c r (form_e e Γ) Γ u)

  pub order_c : Calls → Form → List Meaning → List Form → List Form
  order_c done f Γ u = u
  order_c (call m a) f Γ u = order_a a (called a m f Γ) Γ u

  pub order_a : Arguments → Form → List Meaning → List Form → List Form
  order_a (none r) f Γ u = f ∷ order_c r f Γ u
  order_a (first e x) f Γ u = order_e e Γ (order_m x f Γ u)

  pub order_m : More → Form → List Meaning → List Form → List Form
  order_m (last r) f Γ u = f ∷ order_c r f Γ u
  order_m (next e x) f Γ u = order_e e Γ (order_m x f Γ u)

-- of a whole text
abbrev pub form_of : Expression → Form
form_of e = form_e e []

abbrev pub forms_by_place : Expression → List Form
forms_by_place e = places_e e [] []

abbrev pub forms_in_order : Expression → List Form
forms_in_order e = order_e e [] []
