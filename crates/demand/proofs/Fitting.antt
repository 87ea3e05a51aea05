-- What a form of a text shows can be kept: its number, window or reason is in range, and it awaits one or two names where it is delayed.
-- Assumes nothing.
use Rattle.std.specs.Prelude.{◌≡◌, refl, Bool, cond, ◌&&◌, List, ℕ, ◌<◌, ◌≤◌, eqb, ℤ, pos, negsuc, length, get_or}
use Rattle.std.proofs.Common.{sym, eqb-true, eq-eqb, leb→le}
use Rattle.std.proofs.Math.Bool.{true, false}
use native.Mathlib.Omega.{arith}
use Rattle.std.proofs.lemmas.Bool.{not-false, false≢true, or_right}
use Rattle.std.specs.Int.Signed.{mag}
use Rattle.language.specs.Cases.{split, either}
use Rattle.language.specs.Limits.{table_readings}
use Rattle.members.specs.declared.Member.{Member}
use Rattle.grammar.specs.KeptLimits.{InRange}
use Rattle.rules.specs.declared.Value.{Value}
use Rattle.rules.specs.declared.Value.TheVariants.{Number, Window, Function, Delayed, Missing}
use Rattle.rules.specs.Apply.{is_delayed, apply0, apply1}
use Rattle.values.specs.Keepable.{Keepable}
use Rattle.values.specs.KeepableApply.{kept-apply0, kept-apply1}
use Rattle.meaning.specs.Forms.{Form, name_in, number, variable, unbound, readings, ask, call, function, same, within}
use Rattle.meaning.proofs.FormsLaws.{same_self, within-self}
use Rattle.meaning.specs.Evaluation.{Result, plain, runs, value_of, run_of, Environment, nowhere, bind, lookup, settled, function_of, evaluate, has_name, awaited}
use Rattle.layout.specs.Nodes.{is_name}
use Rattle.meaning.proofs.HasLaws.{Has, joined-cases, joined-left, joined-right, has-without, has_kept}
use Rattle.bridge.specs.Proper.{Proper}
use Rattle.demand.proofs.Delays.{delayed0, delayed1}

-- every form at or below f is proper
abbrev pub Deep : Form → Type 0
Deep f = (g : Form) → within g f ≡ true → Proper g

below-ask : (m : Member) (f : Form) → Deep (ask m f) → Deep f
unfolding within
below-ask m f d g h = d g (or_right (same g (ask m f)) _ h)

below-first : (m : Member) (f a : Form) → Deep (call m f a) → Deep f
unfolding within
below-first m f a d g h = d g (or_right (same g (call m f a)) _ (rw h))

below-second : (m : Member) (f a : Form) → Deep (call m f a) → Deep a
unfolding within
below-second m f a d g h = d g (or_right (same g (call m f a)) _ (or_right (within g f) _ h))

below-body : (x : ℕ) (b : Form) → Deep (function x b) → Deep b
unfolding within
below-body x b d g h = d g (or_right (same g (function x b)) _ h)

-- a number in range
in-bits : (z : ℤ) → InRange z → mag z < 2147483648
in-bits (pos n) h = let l = leb→le n 2147483647 h.1.le in omega arith
in-bits (negsuc n) h = let l = leb→le n 2147483647 h.0.le in omega arith

-- what is delayed awaits a name
pub record Awaits (f : Form) (ρ : Environment) : Type 0 where
  pub name : ℕ
  pub free : Has name (awaited f)
  pub unset : is_delayed (lookup ρ name) ≡ true

not-both : {A : Type 0} (a b : Bool) → (a && b) ≡ false → (a ≡ false → A) → (b ≡ false → A) → A
not-both true b h p q = q h
not-both false b h p q = p refl

-- under a function's own variable
under : (x : ℕ) (b : Form) (ρ : Environment) → Awaits b (bind x (Number (pos 0)) ρ) → Awaits (function x b) ρ
unfolding lookup awaited
under x b ρ a =
    let u = a.unset in
    split (eqb x a.name)
    (λ e. absurd (false≢true (rw e at u)))
    (λ e. record { name = a.name; free = has_kept a.name x (awaited b) a.free e; unset = rw e at u })

unsettled : (f : Form) (ρ : Environment) → settled ρ f ≡ false → Awaits f ρ
unfolding settled awaited has_name
unsettled (number z) ρ h = absurd (false≢true (sym h))
unsettled (variable x) ρ h = record { name = x; free = rw (eq-eqb x x refl); unset = not-false (is_delayed (lookup ρ x)) h }
unsettled (unbound x) ρ h = absurd (false≢true (sym h))
unsettled readings ρ h = absurd (false≢true (sym h))
unsettled (ask m f) ρ h = let a = unsettled f ρ h in record { name = a.name; free = a.free; unset = a.unset }
unsettled (call m f a) ρ h =
    not-both (settled ρ f) (settled ρ a) h
    (λ e. let w = unsettled f ρ e in record { name = w.name; free = joined-left w.name (awaited f) (awaited a) w.free; unset = w.unset })
    (λ e. let w = unsettled a ρ e in record { name = w.name; free = joined-right w.name (awaited f) (awaited a) w.free; unset = w.unset })
unsettled (function x b) ρ h = under x b ρ (unsettled b (bind x (Number (pos 0)) ρ) h)

function-delayed : (v : Value) (s : Bool) (g : ℤ → Result) → is_delayed (value_of (function_of v s g)) ≡ true → s ≡ false
unfolding value_of
function-delayed (Number z) true g h = absurd (false≢true h)
function-delayed (Number z) false g h = refl
function-delayed (Window i l) true g h = absurd (false≢true h)
function-delayed (Window i l) false g h = refl
function-delayed Function true g h = absurd (false≢true h)
function-delayed Function false g h = refl
function-delayed Delayed true g h = absurd (false≢true h)
function-delayed Delayed false g h = refl
function-delayed (Missing r) s g h = absurd (false≢true h)

module _ (xs : List ℤ) where
  pub delayed-awaits : (f : Form) (ρ : Environment) → is_delayed (value_of (evaluate xs ρ f)) ≡ true → Awaits f ρ
  unfolding evaluate value_of awaited has_name
  delayed-awaits (number z) ρ h = absurd (false≢true h)
  delayed-awaits (variable x) ρ h = record { name = x; free = rw (eq-eqb x x refl); unset = h }
  delayed-awaits (unbound x) ρ h = absurd (false≢true h)
  delayed-awaits readings ρ h = absurd (false≢true h)
  delayed-awaits (ask m f) ρ h = let a = delayed-awaits f ρ (delayed0 m xs _ h) in record { name = a.name; free = a.free; unset = a.unset }
  delayed-awaits (call m f a) ρ h =
      either (is_delayed (value_of (evaluate xs ρ f))) (is_delayed (value_of (evaluate xs ρ a))) (delayed1 m xs _ _ _ h)
      (λ e. let w = delayed-awaits f ρ e in record { name = w.name; free = joined-left w.name (awaited f) (awaited a) w.free; unset = w.unset })
      (λ e. let w = delayed-awaits a ρ e in record { name = w.name; free = joined-right w.name (awaited f) (awaited a) w.free; unset = w.unset })
  delayed-awaits (function x b) ρ h =
      under x b ρ (unsettled b (bind x (Number (pos 0)) ρ)
      (function-delayed (value_of (evaluate xs (bind x Delayed ρ) b)) (settled (bind x (Number (pos 0)) ρ) b) (λ z. evaluate xs (bind x (Number z) ρ) b) h))

-- the awaited names are those of variables in the form
awaited-within : (y : ℕ) (f : Form) → Has y (awaited f) → within (variable y) f ≡ true
unfolding awaited within has_name
awaited-within y (number z) h = absurd (false≢true h)
awaited-within y (variable x) h = split (eqb y x) (λ e. rw (eqb-true y x e) (same_self (variable x))) (λ e. absurd (false≢true (rw e at h)))
awaited-within y (unbound x) h = absurd (false≢true h)
awaited-within y readings h = absurd (false≢true h)
awaited-within y (ask m f) h = or_right (same (variable y) (ask m f)) _ (awaited-within y f h)
awaited-within y (call m f a) h =
    or_right (same (variable y) (call m f a)) _
    (joined-cases y (awaited f) (awaited a) h
    (λ i. rw (awaited-within y f i))
    (λ i. or_right (within (variable y) f) _ (awaited-within y a i)))
awaited-within y (function x b) h = or_right (same (variable y) (function x b)) _ (awaited-within y b (has-without y x (awaited b) h).0)

pub name-of : (f : Form) → Deep f → (y : ℕ) → Has y (awaited f) → is_name (name_in y) ≡ true
name-of f d y h = (d (variable y) (awaited-within y f h)).shape

-- every value in an evaluation may be kept
module _ (xs : List ℤ) (short : length xs ≤ table_readings) (small : (i : ℕ) → i < length xs → mag (get_or xs i (pos 0)) < 2147483648) where
  abbrev Fits : Value → Type 0
  Fits = Keepable (length xs)

  because : (r : ℕ) → 1 ≤ r → r ≤ 5 → Fits (Missing r)
  because r a b = record { held = omega arith; inside = tt; reasoned = (a, b) }

  record Fitting (x : Result) : Type 0 where
    value : Fits (value_of x)
    run : (z : ℤ) → Fits (Number z) → Fits (run_of x z)

  fitting : (v : Value) → Fits v → Fitting (plain v)
  unfolding value_of run_of
  fitting v h = record { value = h; run = λ z k. because 2 (omega arith) (omega arith) }

  fitting-if : (s : Bool) (g : ℤ → Result) → ((z : ℤ) → Fits (Number z) → Fits (value_of (g z))) → Fitting (cond s (runs g) (plain Delayed))
  unfolding value_of run_of
  fitting-if true g k = record { value = record { held = tt; inside = tt; reasoned = tt }; run = k }
  fitting-if false g k = fitting Delayed (record { held = tt; inside = tt; reasoned = tt })

  fitting-function : (v : Value) (s : Bool) (g : ℤ → Result) → Fits v → ((z : ℤ) → Fits (Number z) → Fits (value_of (g z))) → Fitting (function_of v s g)
  fitting-function (Missing r) s g h k = fitting (Missing r) h
  fitting-function (Number z) s g h k = fitting-if s g k
  fitting-function (Window i l) s g h k = fitting-if s g k
  fitting-function Function s g h k = fitting-if s g k
  fitting-function Delayed s g h k = fitting-if s g k

  abbrev FitsAll : Environment → Type 0
  FitsAll ρ = (y : ℕ) → Fits (lookup ρ y)

  fits-bind : (x : ℕ) (v : Value) (ρ : Environment) → Fits v → FitsAll ρ → FitsAll (bind x v ρ)
  unfolding lookup
  fits-bind x v ρ h k y = split (eqb x y) (λ e. rw e h) (λ e. rw e (k y))

  delay : Fits Delayed
  delay = record { held = tt; inside = tt; reasoned = tt }

  evaluated : (f : Form) (ρ : Environment) → Deep f → FitsAll ρ → Fitting (evaluate xs ρ f)
  unfolding evaluate
  evaluated (number z) ρ d e = fitting (Number z) (record { held = in-bits z (d (number z) (within-self (number z))).shape; inside = tt; reasoned = tt })
  evaluated (variable x) ρ d e = fitting (lookup ρ x) (e x)
  evaluated (unbound x) ρ d e = fitting (Missing 1) (because 1 (omega arith) (omega arith))
  evaluated readings ρ d e = fitting (Window 0 (length xs)) (record { held = (omega arith, omega arith); inside = omega arith; reasoned = tt })
  evaluated (ask m f) ρ d e =
      let a = evaluated f ρ (below-ask m f d) e in
      fitting (apply0 m xs (value_of (evaluate xs ρ f))) (kept-apply0 (length xs) (omega arith) m xs small (value_of (evaluate xs ρ f)) a.value)
  evaluated (call m f a) ρ d e =
      let p = evaluated f ρ (below-first m f a d) e in
      let q = evaluated a ρ (below-second m f a d) e in
      fitting (apply1 m xs (value_of (evaluate xs ρ f)) (value_of (evaluate xs ρ a)) (run_of (evaluate xs ρ a)))
      (kept-apply1 (length xs) (omega arith) m xs small (run_of (evaluate xs ρ a)) q.run (value_of (evaluate xs ρ f)) (value_of (evaluate xs ρ a)) p.value q.value)
  evaluated (function x b) ρ d e =
      let h = evaluated b (bind x Delayed ρ) (below-body x b d) (fits-bind x Delayed ρ delay e) in
      fitting-function (value_of (evaluate xs (bind x Delayed ρ) b)) (settled (bind x (Number (pos 0)) ρ) b) (λ z. evaluate xs (bind x (Number z) ρ) b) h.value
      (λ z k. (evaluated b (bind x (Number z) ρ) (below-body x b d) (fits-bind x (Number z) ρ k e)).value)

  pub shown-fits : (f : Form) → Deep f → Fits (value_of (evaluate xs nowhere f))
  unfolding lookup
  shown-fits f d = (evaluated f nowhere d (λ y. delay)).value
