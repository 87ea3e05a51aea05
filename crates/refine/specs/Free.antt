-- The free names of a form: what it comes to depends on the environment at these alone. Assumes nothing.
use Rattle.std.specs.Prelude.{◌≡◌, refl, Bool, true, false, not, ◌&&◌, ◌||◌, List, [], ◌∷◌, ℕ, eqb, ℤ, pos}
use Rattle.std.proofs.Common.{sym, ap, ◌∙◌, subst, eq-eqb, ne_eqb, eqb-true}
use Rattle.std.proofs.lemmas.Bool.{false≢true, eqb-false, not-false, or_right}
use Rattle.std.proofs.Math.Bool.{and-eq-true_iff}
use Rattle.language.specs.Cases.{split, either}
use Rattle.members.specs.declared.Member.{Member}
use Rattle.rules.specs.declared.Value.{Value}
use Rattle.rules.specs.declared.Value.TheVariants.{Number, Delayed}
use Rattle.rules.specs.Apply.{is_delayed}
use Rattle.meaning.specs.Forms.{Form, number, variable, unbound, readings, ask, call, function}
use Rattle.meaning.specs.Evaluation.{plain, value_of, Environment, bind, lookup, settled, function_of, evaluate, has_name, without, awaited}
use Rattle.table.specs.AwaitsLaws.{has-joined}

abbrev pub free : ℕ → Form → Bool
free y f = has_name y (awaited f)

pub never : {A : Type 0} {b : Bool} → b ≡ true → b ≡ false → A
never p q = absurd (false≢true (sym q ∙ p))

pub dec_eq : (m n : ℕ) → Dec (m ≡ n)
dec_eq m n = split (eqb m n) (λ p. yes (eqb-true m n p)) (λ p. no (eqb-false m n p))

-- ---- names in lists
pub has-without : (y x : ℕ) (ys : List ℕ) → has_name y (without x ys) ≡ (not (eqb x y) && has_name y ys)
unfolding without has_name
has-without y x [] = by (eqb x y)
  where
    by : (a : Bool) → false ≡ (not a && false)
    by true = refl
    by false = refl
has-without y x (z ∷ ys) =
    split (eqb x z)
    (λ p. rw p (has-without y x ys ∙ split (eqb x y) (λ q. rw q) (λ q. rw (q, ne_eqb y z (λ e. eqb-false x y q (eqb-true x z p ∙ sym e))))))
    (λ p. rw p (split (eqb y z)
    (λ q. rw (q, ne_eqb x y (λ e. eqb-false x z p (e ∙ eqb-true y z q))))
    (λ q. rw q (has-without y x ys))))

pub free-variable : (y x : ℕ) → free y (variable x) ≡ eqb y x
unfolding awaited has_name
free-variable y x = split (eqb y x) (λ p. rw p) (λ p. rw p)

pub free-call : (y : ℕ) (m : Member) (f a : Form) → free y (call m f a) ≡ (free y f || free y a)
unfolding awaited
free-call y m f a = has-joined y (awaited f) (awaited a)

pub free-function : (y x : ℕ) (b : Form) → free y (function x b) ≡ (not (eqb x y) && free y b)
unfolding awaited
free-function y x b = has-without y x (awaited b)

-- ---- two environments that agree at the free names
abbrev pub Agree : Environment → Environment → Form → Type 0
Agree ρ σ f = (y : ℕ) → free y f ≡ true → lookup ρ y ≡ lookup σ y

under : (ρ σ : Environment) (x : ℕ) (v : Value) (b : Form) → Agree ρ σ (function x b) → Agree (bind x v ρ) (bind x v σ) b
unfolding lookup
under ρ σ x v b h y e = split (eqb x y) (λ q. rw q) (λ q. rw q (h y (free-function y x b ∙ rw (q, e))))

asked : (ρ σ : Environment) (m : Member) (f : Form) → Agree ρ σ (ask m f) → Agree ρ σ f
unfolding awaited
asked ρ σ m f h = h

pub settled_same : (ρ σ : Environment) (f : Form) → Agree ρ σ f → settled ρ f ≡ settled σ f
unfolding settled
settled_same ρ σ (number z) h = refl
settled_same ρ σ (variable x) h = ap (λ (v : Value). not (is_delayed v)) (h x (free-variable x x ∙ eq-eqb x x refl))
settled_same ρ σ (unbound x) h = refl
settled_same ρ σ readings h = refl
settled_same ρ σ (ask m f) h = settled_same ρ σ f (asked ρ σ m f h)
settled_same ρ σ (call m f a) h =
    rw (
      settled_same ρ σ f (λ y e. h y (free-call y m f a ∙ rw e)),
      settled_same ρ σ a (λ y e. h y (free-call y m f a ∙ or_right (free y f) (free y a) e)),
    )
settled_same ρ σ (function x b) h = settled_same (bind x (Number (pos 0)) ρ) (bind x (Number (pos 0)) σ) b (under ρ σ x (Number (pos 0)) b h)

pub evaluate-same : (xs : List ℤ) (ρ σ : Environment) (f : Form) → Agree ρ σ f → evaluate xs ρ f ≡ evaluate xs σ f
unfolding evaluate
evaluate-same xs ρ σ (number z) h = refl
evaluate-same xs ρ σ (variable x) h = ap plain (h x (free-variable x x ∙ eq-eqb x x refl))
evaluate-same xs ρ σ (unbound x) h = refl
evaluate-same xs ρ σ readings h = refl
evaluate-same xs ρ σ (ask m f) h = rw (evaluate-same xs ρ σ f (asked ρ σ m f h))
evaluate-same xs ρ σ (call m f a) h =
    rw (
      evaluate-same xs ρ σ f (λ y e. h y (free-call y m f a ∙ rw e)),
      evaluate-same xs ρ σ a (λ y e. h y (free-call y m f a ∙ or_right (free y f) (free y a) e)),
    )
evaluate-same xs ρ σ (function x b) h =
    λ i. function_of
    (value_of (evaluate-same xs (bind x Delayed ρ) (bind x Delayed σ) b (under ρ σ x Delayed b h) i))
    (settled_same (bind x (Number (pos 0)) ρ) (bind x (Number (pos 0)) σ) b (under ρ σ x (Number (pos 0)) b h) i)
    (λ z. evaluate-same xs (bind x (Number z) ρ) (bind x (Number z) σ) b (under ρ σ x (Number z) b h) i)

-- a name that is not free may stand for anything
pub unbound-same : (xs : List ℤ) (ρ : Environment) (x : ℕ) (v : Value) (f : Form) → free x f ≡ false → evaluate xs (bind x v ρ) f ≡ evaluate xs ρ f
unfolding lookup
unbound-same xs ρ x v f h = evaluate-same xs (bind x v ρ) ρ f (λ y e. rw (ne_eqb x y (λ q. never e (subst (λ (z : ℕ). free z f ≡ false) q h))))

-- ---- what is settled: no free name is delayed
pub settled-no : (ρ : Environment) (f : Form) (y : ℕ) → free y f ≡ true → is_delayed (lookup ρ y) ≡ true → settled ρ f ≡ false
unfolding settled lookup awaited has_name
settled-no ρ (number z) y e h = never e refl
settled-no ρ (variable x) y e h = rw (← eqb-true y x (sym (free-variable y x) ∙ e), h)
settled-no ρ (unbound x) y e h = never e refl
settled-no ρ readings y e h = never e refl
settled-no ρ (ask m f) y e h = settled-no ρ f y e h
settled-no ρ (call m f a) y e h =
    either (free y f) (free y a) (sym (free-call y m f a) ∙ e)
    (λ p. rw (settled-no ρ f y p h))
    (λ p. split (settled ρ f) (λ q. rw (q, settled-no ρ a y p h)) (λ q. rw q))
settled-no ρ (function x b) y e h =
    let p = (and-eq-true_iff (not (eqb x y)) (free y b)).0 (sym (free-function y x b) ∙ e) in
    split (eqb x y) (λ q. never p.0 (rw q)) (λ q. settled-no (bind x (Number (pos 0)) ρ) b y p.1 (rw q h))

pub record Waits (ρ : Environment) (f : Form) : Type 0 where
  pub name : ℕ
  pub is_free : free name f ≡ true
  pub unset : is_delayed (lookup ρ name) ≡ true

pub settled-find : (ρ : Environment) (f : Form) → settled ρ f ≡ false → Waits ρ f
unfolding settled lookup awaited has_name
settled-find ρ (number z) e = never refl e
settled-find ρ (variable x) e = record { name = x; is_free = free-variable x x ∙ eq-eqb x x refl; unset = not-false _ e }
settled-find ρ (unbound x) e = never refl e
settled-find ρ readings e = never refl e
settled-find ρ (ask m f) e = let w = settled-find ρ f e in record { name = w.name; is_free = w.is_free; unset = w.unset }
settled-find ρ (call m f a) e =
    split (settled ρ f)
    (λ q.
    let w = settled-find ρ a (rw q at e) in
    let r = or_right (free w.name f) (free w.name a) w.is_free in
    record { name = w.name; is_free = free-call w.name m f a ∙ r; unset = w.unset })
    (λ q. let w = settled-find ρ f q in record { name = w.name; is_free = free-call w.name m f a ∙ rw w.is_free; unset = w.unset })
settled-find ρ (function x b) e =
    let w = settled-find (bind x (Number (pos 0)) ρ) b e in
    split (eqb x w.name)
    (λ q. never w.unset (rw q))
    (λ q. record { name = w.name; is_free = free-function w.name x b ∙ rw (q, w.is_free); unset = rw q at w.unset })
