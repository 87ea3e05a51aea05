-- The paper's delayed previews (Figure 5): which variables a form awaits, that a form with a free lambda variable is delayed or missing, and that
-- one which is delayed has one. And a run of a function puts the number for its variable in the body. Assumes nothing.
use Rattle.std.specs.Prelude.{◌≡◌, refl, ◌↔◌, ◌⊎◌, Bool, true, false, ◌||◌, List, map, ℕ, ℤ, pos}
use Rattle.std.proofs.lemmas.Bool.{or_right, false≢true}
use Rattle.std.proofs.Common.{sym, ap, ◌∙◌, inl, inr}
use Rattle.language.specs.Cases.{split}
use Rattle.members.specs.declared.Member.{Member}
use Rattle.rules.specs.declared.Value.{Value}
use Rattle.rules.specs.declared.Value.TheVariants.{Number, Window, Function, Delayed, Missing}
use Rattle.rules.specs.Apply.{is_missing, is_delayed, apply0, apply1}
use Rattle.meaning.specs.Forms.{Form, number, variable, unbound, readings, ask, call, function, name_in, name_of}
use Rattle.meaning.specs.Evaluation.{Result, value_of, run_of, Environment, nowhere, bind, lookup, settled, function_of, evaluate, put_for}
use Rattle.meaning.specs.Evaluation.{has_name, awaited, a_delay, a_reason, shown_as, shows}
use Rattle.meaning.proofs.EvaluationLaws.{evaluate-put}
use Rattle.table.specs.AwaitsLaws.{has-joined}
use Rattle.refine.specs.Free.{settled-no, settled-find, has-without}
use Rattle.demand.proofs.Fitting.{delayed-awaits}
use Rattle.promises.specs.Terms.{AwaitedNames}

-- ---- the names awaited

pub awaited-names : AwaitedNames
unfolding awaited
awaited-names =
    record {
      of_number = λ z. refl;
      of-variable = λ x. refl;
      of-unbound = λ x. refl;
      of-readings = refl;
      of-ask = λ m f. refl;
      of-call = λ m f a. refl;
      of_function = λ x b. refl;
      either = has-joined;
      others = has-without;
    }

-- what is not settled awaits a name that stands for nothing
pub settled-exactly : (ρ : Environment) (f : Form)
    → (settled ρ f ≡ false) ↔ ((y : ℕ) × (has_name y (awaited f) ≡ true) × (is_delayed (lookup ρ y) ≡ true))
settled-exactly ρ f = (
  λ h. let w = settled-find ρ f h in (w.name, w.is_free, w.unset),
  λ w. settled-no ρ f w.0 w.1 w.2,
)

-- ---- a form that awaits a name

abbrev late : Value → Bool
late v = is_missing v || is_delayed v

late0 : (m : Member) (xs : List ℤ) (v : Value) → late v ≡ true → late (apply0 m xs v) ≡ true
unfolding apply0
late0 m xs v h =
    split (is_missing v) (λ p. rw p (rw p))
    (λ p. split (is_delayed v) (λ q. rw (p, q)) (λ q. absurd (false≢true (rw (p, q) at h))))

late1 : (m : Member) (xs : List ℤ) (v w : Value) (run : ℤ → Value) → (late v || late w) ≡ true → late (apply1 m xs v w run) ≡ true
unfolding apply1
late1 m xs v w run h =
    split (is_missing v) (λ p. rw p (rw p))
    (λ p. split (is_missing w) (λ q. rw (p, q) (rw q))
    (λ q. split (is_delayed v || is_delayed w) (λ d. rw (p, q, d)) (λ d. absurd (false≢true (sym d ∙ rw (p, q) at h)))))

late-function : (v : Value) (g : ℤ → Result) → late (value_of (function_of v false g)) ≡ true
unfolding value_of
late-function (Number z) g = refl
late-function (Window i l) g = refl
late-function Function g = refl
late-function Delayed g = refl
late-function (Missing r) g = refl

unsettled : (xs : List ℤ) (ρ : Environment) (f : Form) → settled ρ f ≡ false → late (value_of (evaluate xs ρ f)) ≡ true
unfolding settled evaluate value_of
unsettled xs ρ (number z) h = absurd (false≢true (sym h))
unsettled xs ρ (variable x) h = split (is_delayed (lookup ρ x)) (λ p. or_right (is_missing (lookup ρ x)) _ p) (λ p. absurd (false≢true (sym h ∙ rw p)))
unsettled xs ρ (unbound x) h = absurd (false≢true (sym h))
unsettled xs ρ readings h = absurd (false≢true (sym h))
unsettled xs ρ (ask m f) h = late0 m xs _ (unsettled xs ρ f h)
unsettled xs ρ (call m f a) h =
    split (settled ρ f)
    (λ p. late1 m xs _ _ _ (or_right (late (value_of (evaluate xs ρ f))) _ (unsettled xs ρ a (rw p at h))))
    (λ p. late1 m xs _ _ _ (rw (unsettled xs ρ f p)))
unsettled xs ρ (function x b) h = rw h (late-function (value_of (evaluate xs (bind x Delayed ρ) b)) (λ z. evaluate xs (bind x (Number z) ρ) b))

-- a form in which the variable y is free
pub free-shown : (xs : List ℤ) (f : Form) (y : ℕ) → has_name y (awaited f) ≡ true
    → (shows xs f ≡ a_delay (map name_in (awaited f))) ⊎ ((r : ℕ) × (shows xs f ≡ a_reason r))
unfolding shows lookup
free-shown xs f y h = by (value_of (evaluate xs nowhere f)) (unsettled xs nowhere f (settled-no nowhere f y h refl))
  where
    by : (v : Value) → late v ≡ true → (shown_as (name_in (name_of f)) (map name_in (awaited f)) v ≡ a_delay (map name_in (awaited f))) ⊎ ((r : ℕ) × (shown_as (name_in (name_of f)) (map name_in (awaited f)) v ≡ a_reason r))
    by (Number z) e = absurd (false≢true e)
    by (Window s l) e = absurd (false≢true e)
    by Function e = absurd (false≢true e)
    by Delayed e = inl refl
    by (Missing r) e = inr (r, refl)

-- a form that shows a delay
pub delay-free : (xs : List ℤ) (f : Form) (names : List ℕ) → shows xs f ≡ a_delay names → (names ≡ map name_in (awaited f)) × ((y : ℕ) × (has_name y (awaited f) ≡ true))
unfolding shows
delay-free xs f names h = by (value_of (evaluate xs nowhere f)) refl h
  where
    by : (v : Value) → value_of (evaluate xs nowhere f) ≡ v → shown_as (name_in (name_of f)) (map name_in (awaited f)) v ≡ a_delay names → (names ≡ map name_in (awaited f)) × ((y : ℕ) × (has_name y (awaited f) ≡ true))
    by (Number z) e q = absurd (false≢true (cc))
    by (Window s l) e q = absurd (false≢true (cc))
    by Function e q = absurd (false≢true (cc))
    by Delayed e q = let n : names ≡ map name_in (awaited f) = cc in let a = delayed-awaits xs f nowhere (rw e) in (n, (a.name, a.free))
    by (Missing r) e q = absurd (false≢true (cc))

-- ---- a run

run-of : (v : Value) (s : Bool) (g : ℤ → Result) (z : ℤ) → value_of (function_of v s g) ≡ Function → run_of (function_of v s g) z ≡ value_of (g z)
unfolding value_of run_of
run-of v true g z h = by v h
  where
    by : (v : Value) → value_of (function_of v true g) ≡ Function → run_of (function_of v true g) z ≡ value_of (g z)
    by (Number a) e = refl
    by (Window i l) e = refl
    by Function e = refl
    by Delayed e = refl
    by (Missing r) e = absurd (false≢true (cc))
run-of v false g z h = absurd (false≢true (by v h))
  where
    by : (v : Value) → value_of (function_of v false g) ≡ Function → false ≡ true
    by (Number a) e = cc
    by (Window i l) e = cc
    by Function e = cc
    by Delayed e = cc
    by (Missing r) e = cc

pub run-puts : (xs : List ℤ) (ρ : Environment) (x : ℕ) (b : Form) (z : ℤ) → value_of (evaluate xs ρ (function x b)) ≡ Function
    → run_of (evaluate xs ρ (function x b)) z ≡ value_of (evaluate xs ρ (put_for x z b))
unfolding evaluate
run-puts xs ρ x b z h =
    run-of (value_of (evaluate xs (bind x Delayed ρ) b)) (settled (bind x (Number (pos 0)) ρ) b) (λ a. evaluate xs (bind x (Number a) ρ) b) z h
    ∙ ap value_of (evaluate-put xs x z ρ b)
