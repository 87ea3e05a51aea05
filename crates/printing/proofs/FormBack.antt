-- 02, T-04 and T-05: the form of a printed form's tree is the form itself exactly where each variable is that of the innermost function of its name
-- around it, no unbound name is that of a function around it, and each function has as its level how many are around it. Assumes nothing.
use Rattle.std.specs.Prelude.{◌≡◌, refl, true, false, List, [], ◌∷◌, map, ◌↔◌, ℕ, eqb, length}
use Rattle.std.proofs.Common.{ap, arith, eqb-true, eq-eqb}
use Rattle.language.specs.Cases.{split}
use Rattle.language.specs.NamesLaws.{Each}
use Rattle.meaning.specs.Forms.{Form, name_in, level_in, number, variable, unbound, readings, ask, call, function}
use Rattle.meaning.specs.Binding.{Meaning, look_up, named, lambdas, variable_of, as_lambda, form_of}
use Rattle.meaning.specs.Evaluation.{has_name}
use Rattle.layout.specs.Nodes.{is_name}
use Rattle.printing.specs.Printed.{unpacked}
use Rattle.printing.specs.Trees.{tree_of}
use Rattle.printing.proofs.Printable.{Printable}
use Rattle.printing.specs.Bound.{bound, is_innermost, Closed}
use Rattle.printing.proofs.NameLaws.{name-again, name-not-data}
use Rattle.printing.proofs.BoundLaws.{form-bound}

-- the meanings within functions of these variables, innermost first
abbrev around : List ℕ → List Meaning
around [] = []
around (y ∷ ys) = (unpacked (name_in y), variable y, true) ∷ around ys

-- and each has a name
abbrev Named : List ℕ → Type 0
Named ys = Each (λ y. is_name (name_in y) ≡ true) ys

lambdas-around : (xs : List ℕ) → lambdas (around xs) ≡ length xs
unfolding lambdas
lambdas-around [] = refl
lambdas-around (y ∷ ys) = rw (lambdas-around ys)

-- a name is looked up among the variables
variable-back : (v : ℕ) → is_name (name_in v) ≡ true → (xs : List ℕ) → Named xs
    → (look_up (unpacked (name_in v)) (around xs) ≡ variable v) ↔ (is_innermost v xs ≡ true)
unfolding look_up is_innermost
variable-back v h [] hs = (λ e. cc, λ e. cc)
variable-back v h (y ∷ ys) hs =
    rw (name-again (name_in v) h, name-again (name_in y) hs.0)
    (split (eqb (name_in v) (name_in y))
    (λ e. rw e (λ q. let z : v ≡ y = cc in eq-eqb v y z, λ q. let z = eqb-true v y q in rw z))
    (λ e. rw e (variable-back v h ys hs.1)))

unbound-back : (x : ℕ) → is_name x ≡ true → (xs : List ℕ) → Named xs → (look_up (unpacked x) (around xs) ≡ unbound x) ↔ (has_name x (map name_in xs) ≡ false)
unfolding look_up has_name
unbound-back x h [] hs = rw (name-again x h) (λ _. refl, λ _. refl)
unbound-back x h (y ∷ ys) hs =
    rw (name-again x h, name-again (name_in y) hs.0)
    (split (eqb x (name_in y)) (λ e. rw e (λ q. cc, λ q. cc)) (λ e. rw e (unbound-back x h ys hs.1)))

-- a function is read with its own variable exactly where it has its level
level-back : (v : ℕ) → is_name (name_in v) ≡ true → (xs : List ℕ) → (variable_of (unpacked (name_in v)) (around xs) ≡ v) ↔ (level_in v ≡ length xs)
level-back v h xs = rw (name-again (name_in v) h, lambdas-around xs) (λ e. omega arith, λ e. omega arith)

bound-back : (f : Form) → Printable f → (xs : List ℕ) → Named xs → (bound f (around xs) ≡ f) ↔ Closed xs f
unfolding bound named
bound-back (number z) p xs hs = (λ _. tt, λ _. refl)
bound-back (variable v) p xs hs = rw (name-not-data (name_in v) p) (variable-back v p xs hs)
bound-back (unbound x) p xs hs = rw (name-not-data x p) (unbound-back x p xs hs)
bound-back readings p xs hs = (λ _. tt, λ _. refl)
bound-back (ask m f) p xs hs = let i = bound-back f p xs hs in (λ e. i.0 (cc), λ c. ap (ask m) (i.1 c))
bound-back (call m f a) p xs hs =
    let i = bound-back f p.0 xs hs in
    let j = bound-back a p.1 xs hs in
    (λ e. (i.0 (cc), j.0 (cc)), λ c. let q = i.1 c.0 in let r = j.1 c.1 in cc)
bound-back (function v b) p xs hs =
    let i = bound-back b p.1 (v ∷ xs) (p.0, hs) in
    let l = level-back v p.0 xs in (
      λ e.
          let q : variable_of (unpacked (name_in v)) (around xs) ≡ v = cc in
          let r : bound b (as_lambda (unpacked (name_in v)) (around xs)) ≡ b = cc in
          (l.0 q, i.0 (rw q at r)),
      λ c. let q = l.1 c.0 in rw (q, i.1 c.1),
    )

pub form-back : (f : Form) → Printable f → (form_of (tree_of f) ≡ f) ↔ Closed [] f
form-back f p = rw (form-bound f) (bound-back f p [] tt)
