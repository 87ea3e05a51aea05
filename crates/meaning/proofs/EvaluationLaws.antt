-- A run of a function puts the number for the variable in the body: evaluating the body where the variable stands for the number is
-- evaluating the body with the number put for the variable (01, "Members"). Assumes nothing.
use Rattle.std.specs.Prelude.{◌≡◌, Bool, true, false, not, cond, List, ℕ, eqb, ℤ, pos}
use Rattle.std.proofs.Math.Path.{refl}
use Rattle.std.proofs.Common.{sym, ap, ◌∙◌, eqb-true}
use Rattle.std.proofs.lemmas.Bool.{eqb-false}
use Rattle.language.specs.Cases.{split}
use Rattle.rules.specs.declared.Value.{Value}
use Rattle.rules.specs.declared.Value.TheVariants.{Number, Delayed}
use Rattle.rules.specs.Apply.{is_delayed}
use Rattle.meaning.specs.Forms.{Form, number, variable, unbound, readings, ask, call, function}
use Rattle.meaning.specs.Evaluation.{Result, plain, value_of, Environment, bind, lookup, settled, function_of, evaluate, put_for}

-- two environments in which every variable stands for the same
abbrev Alike : Environment → Environment → Type 0
Alike ρ σ = (y : ℕ) → lookup ρ y ≡ lookup σ y

alike-bind : (x : ℕ) (v : Value) (ρ σ : Environment) → Alike ρ σ → Alike (bind x v ρ) (bind x v σ)
unfolding lookup
alike-bind x v ρ σ h y = ap (cond (eqb x y) v) (h y)

settled-alike : (ρ σ : Environment) (f : Form) → Alike ρ σ → settled ρ f ≡ settled σ f
unfolding settled
settled-alike ρ σ (number z) h = refl
settled-alike ρ σ (variable x) h = ap (λ v. not (is_delayed v)) (h x)
settled-alike ρ σ (unbound x) h = refl
settled-alike ρ σ readings h = refl
settled-alike ρ σ (ask m f) h = settled-alike ρ σ f h
settled-alike ρ σ (call m f a) h = rw (settled-alike ρ σ f h, settled-alike ρ σ a h)
settled-alike ρ σ (function x b) h = settled-alike (bind x (Number (pos 0)) ρ) (bind x (Number (pos 0)) σ) b (alike-bind x (Number (pos 0)) ρ σ h)

-- what a function comes to, from the three things that it is made of
function_alike : (v w : Value) (s t : Bool) (g h : ℤ → Result) → v ≡ w → s ≡ t → ((z : ℤ) → g z ≡ h z) → function_of v s g ≡ function_of w t h
function_alike v w s t g h p q r = λ i. function_of (p i) (q i) (λ z. r z i)

evaluate-alike : (xs : List ℤ) (ρ σ : Environment) (f : Form) → Alike ρ σ → evaluate xs ρ f ≡ evaluate xs σ f
unfolding evaluate
evaluate-alike xs ρ σ (number z) h = refl
evaluate-alike xs ρ σ (variable x) h = ap plain (h x)
evaluate-alike xs ρ σ (unbound x) h = refl
evaluate-alike xs ρ σ readings h = refl
evaluate-alike xs ρ σ (ask m f) h = rw (evaluate-alike xs ρ σ f h)
evaluate-alike xs ρ σ (call m f a) h = rw (evaluate-alike xs ρ σ f h, evaluate-alike xs ρ σ a h)
evaluate-alike xs ρ σ (function x b) h =
    function_alike _ _ _ _ _ _
    (ap value_of (evaluate-alike xs (bind x Delayed ρ) (bind x Delayed σ) b (alike-bind x Delayed ρ σ h)))
    (settled-alike (bind x (Number (pos 0)) ρ) (bind x (Number (pos 0)) σ) b (alike-bind x (Number (pos 0)) ρ σ h))
    (λ z. evaluate-alike xs (bind x (Number z) ρ) (bind x (Number z) σ) b (alike-bind x (Number z) ρ σ h))

-- bound twice: the inner one holds; two names: in either order
alike-again : (x y : ℕ) (v w : Value) (ρ : Environment) → x ≡ y → Alike (bind y w (bind x v ρ)) (bind y w ρ)
unfolding lookup
alike-again x y v w ρ e k = rw e (by (eqb y k))
  where
    by : (b : Bool) → cond b w (cond b v (lookup ρ k)) ≡ cond b w (lookup ρ k)
    by true = refl
    by false = refl

alike-swap : (x y : ℕ) (v w : Value) (ρ : Environment) → eqb x y ≡ false → Alike (bind y w (bind x v ρ)) (bind x v (bind y w ρ))
unfolding lookup
alike-swap x y v w ρ e k = by (eqb y k) (eqb x k) refl refl
  where
    by : (b c : Bool) → eqb y k ≡ b → eqb x k ≡ c → cond b w (cond c v (lookup ρ k)) ≡ cond c v (cond b w (lookup ρ k))
    by true true p q = absurd (eqb-false x y e (eqb-true x k q ∙ sym (eqb-true y k p)))
    by true false p q = refl
    by false true p q = refl
    by false false p q = refl

-- the variable of one function under another's: each value that the inner one takes
module _ (xs : List ℤ) (x : ℕ) (z : ℤ) where
  abbrev with : Environment → Environment
  with ρ = bind x (Number z) ρ

  settled-put : (ρ : Environment) (f : Form) → settled (with ρ) f ≡ settled ρ (put_for x z f)
  unfolding settled put_for lookup
  settled-put ρ (number a) = refl
  settled-put ρ (variable y) = split (eqb x y) (λ e. rw e) (λ e. rw e)
  settled-put ρ (unbound y) = refl
  settled-put ρ readings = refl
  settled-put ρ (ask m f) = settled-put ρ f
  settled-put ρ (call m f a) = rw (settled-put ρ f, settled-put ρ a)
  settled-put ρ (function y b) =
      split (eqb x y)
      (λ e. rw e (settled-alike _ _ b (alike-again x y (Number z) (Number (pos 0)) ρ (eqb-true x y e))))
      (λ e. rw e (settled-alike _ _ b (alike-swap x y (Number z) (Number (pos 0)) ρ e) ∙ settled-put (bind y (Number (pos 0)) ρ) b))

  pub evaluate-put : (ρ : Environment) (f : Form) → evaluate xs (with ρ) f ≡ evaluate xs ρ (put_for x z f)
  unfolding evaluate put_for lookup
  evaluate-put ρ (number a) = refl
  evaluate-put ρ (variable y) = split (eqb x y) (λ e. rw e) (λ e. rw e)
  evaluate-put ρ (unbound y) = refl
  evaluate-put ρ readings = refl
  evaluate-put ρ (ask m f) = rw (evaluate-put ρ f)
  evaluate-put ρ (call m f a) = rw (evaluate-put ρ f, evaluate-put ρ a)
  evaluate-put ρ (function y b) =
      split (eqb x y)
      (λ e.
      rw e
      (function_alike _ _ _ _ _ _
      (ap value_of (evaluate-alike xs _ _ b (alike-again x y (Number z) Delayed ρ (eqb-true x y e))))
      (settled-alike _ _ b (alike-again x y (Number z) (Number (pos 0)) ρ (eqb-true x y e)))
      (λ a. evaluate-alike xs _ _ b (alike-again x y (Number z) (Number a) ρ (eqb-true x y e)))))
      (λ e.
      rw e
      (function_alike _ _ _ _ _ _
      (ap value_of (evaluate-alike xs _ _ b (alike-swap x y (Number z) Delayed ρ e) ∙ evaluate-put (bind y Delayed ρ) b))
      (settled-alike _ _ b (alike-swap x y (Number z) (Number (pos 0)) ρ e) ∙ settled-put (bind y (Number (pos 0)) ρ) b)
      (λ a. evaluate-alike xs _ _ b (alike-swap x y (Number z) (Number a) ρ e) ∙ evaluate-put (bind y (Number a) ρ) b)))
