-- 02, T-04: the forms of a printed form's tree. The tree's form is the form with its names looked up anew; and since the tree has no let, every
-- form that it binds is the tree's form or lies below it. Assumes nothing.
use Rattle.std.specs.Prelude.{◌≡◌, refl, true, List, [], ◌∷◌, ℕ}
use Rattle.std.proofs.lemmas.Bool.{or_right}
use Rattle.std.proofs.Common.{eq-eqb}
use Rattle.language.specs.Names.{packed, data_word, is_data}
use Rattle.members.specs.Members.{spelled}
use Rattle.members.specs.MembersLaws.{name-found}
use Rattle.members.specs.declared.Member.{Member}
use Rattle.grammar.specs.Grammar.{Calls, done, call, none, first, last}
use Rattle.meaning.specs.Forms.{Form, name_in, number, variable, unbound, readings, ask, function, same, within}
use Rattle.meaning.proofs.FormsLaws.{within-self, within-trans}
use Rattle.meaning.specs.Binding.{Meaning, named, variable_of, as_lambda, member, form_e, form_c, called, order_e, order_c, form_of, forms_in_order}
use Rattle.printing.specs.Printed.{unpacked}
use Rattle.printing.specs.Trees.{tree_with, tree_of}
use Rattle.printing.specs.Bound.{bound, Every}

member-again : (m : Member) → member (spelled m) ≡ m
unfolding member
member-again m = rw (name-found m)

data-again : (Γ : List Meaning) → named data_word Γ ≡ readings
unfolding named is_data
data-again Γ = rw (eq-eqb (packed data_word) (packed data_word) refl)

-- the form of a tree with the calls r behind it
tree-form : (f : Form) (r : Calls) (Γ : List Meaning) → form_e (tree_with f r) Γ ≡ form_c r (bound f Γ) Γ
unfolding form_e tree_with bound
tree-form (number z) r Γ = refl
tree-form (variable v) r Γ = refl
tree-form (unbound x) r Γ = refl
tree-form readings r Γ = rw (data-again Γ)
tree-form (ask m f) r Γ = rw (tree-form f (call (spelled m) (none r)) Γ, member-again m)
tree-form (Form.call m f a) r Γ = rw (tree-form f (call (spelled m) (first (tree_of a) (last r))) Γ, member-again m, tree-form a done Γ)
tree-form (function v b) done Γ = rw (tree-form b done (as_lambda (unpacked (name_in v)) Γ))
tree-form (function v b) (call m a) Γ = rw (tree-form b done (as_lambda (unpacked (name_in v)) Γ))

pub form-bound : (f : Form) → form_of (tree_of f) ≡ bound f []
unfolding form_e
form-bound f = tree-form f done []

-- ---- what the tree binds lies within its form

module _ (g : Form) where
  below-ask : (m : Member) (f : Form) → within (ask m f) g ≡ true → within f g ≡ true
  unfolding within
  below-ask m f h = within-trans f (ask m f) g (or_right (same f (ask m f)) _ (within-self f)) h

  below-receiver : (m : Member) (f a : Form) → within (Form.call m f a) g ≡ true → within f g ≡ true
  unfolding within
  below-receiver m f a h = within-trans f (Form.call m f a) g (or_right (same f (Form.call m f a)) _ (rw (within-self f))) h

  below-argument : (m : Member) (f a : Form) → within (Form.call m f a) g ≡ true → within a g ≡ true
  unfolding within
  below-argument m f a h =
      within-trans a (Form.call m f a) g (or_right (same a (Form.call m f a)) _ (or_right (within a f) _ (within-self a))) h

  below-body : (v : ℕ) (b : Form) → within (function v b) g ≡ true → within b g ≡ true
  unfolding within
  below-body v b h = within-trans b (function v b) g (or_right (same b (function v b)) _ (within-self b)) h

  abbrev Below : List Form → Type 0
  Below fs = Every (λ f. within f g ≡ true) fs

  order_below : (f : Form) (r : Calls) (Γ : List Meaning) (u : List Form) → within (bound f Γ) g ≡ true → Below (order_c r (bound f Γ) Γ u)
      → Below (order_e (tree_with f r) Γ u)
  unfolding tree_with bound order_e form_e called
  order_below (number z) r Γ u h k = (h, k)
  order_below (variable v) r Γ u h k = (h, k)
  order_below (unbound x) r Γ u h k = (h, k)
  order_below readings r Γ u h k = rw (data-again Γ) (h, k)
  order_below (ask m f) r Γ u h k = order_below f (call (spelled m) (none r)) Γ u (below-ask m (bound f Γ) h) (rw (member-again m) (h, k))
  order_below (Form.call m f a) r Γ u h k =
      order_below f (call (spelled m) (first (tree_of a) (last r))) Γ u (below-receiver m (bound f Γ) (bound a Γ) h)
      (rw (member-again m, tree-form a done Γ)
      (order_below a done Γ (Form.call m (bound f Γ) (bound a Γ) ∷ order_c r (Form.call m (bound f Γ) (bound a Γ)) Γ u)
      (below-argument m (bound f Γ) (bound a Γ) h) (h, k)))
  order_below (function v b) done Γ u h k =
      let Δ = as_lambda (unpacked (name_in v)) Γ in
      order_below b done Δ _ (below-body (variable_of (unpacked (name_in v)) Γ) (bound b Δ) h) (rw (tree-form b done Δ) (h, k))
  order_below (function v b) (call m a) Γ u h k =
      let Δ = as_lambda (unpacked (name_in v)) Γ in
      order_below b done Δ _ (below-body (variable_of (unpacked (name_in v)) Γ) (bound b Δ) h) (rw (tree-form b done Δ) (h, k))

pub order-within : (f : Form) → Every (λ g. within g (form_of (tree_of f)) ≡ true) (forms_in_order (tree_of f))
unfolding order_e
order-within f = order_below (form_of (tree_of f)) f done [] [] (rw (form-bound f) (within-self (bound f []))) tt
