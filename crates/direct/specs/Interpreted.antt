-- 02, T-07: interpretation by level is evaluation. No two variables that a bindable form awaits are of one level, so that what the scope holds at
-- a variable's level is what the environment holds for the variable; and a run, of a function alone, comes to what its body comes to.
-- Assumes nothing.
use Rattle.std.specs.Prelude.{◌≡◌, refl, true, false, cond, not, ◌||◌, List, [], ◌∷◌, ◌++◌, map, ℕ, ◌<◌, eqb, ℤ, pos}
use Rattle.std.proofs.Common.{sym, ap, ◌∙◌, arith, eq-eqb, ne_eqb, eqb-true}
use Rattle.std.proofs.lemmas.List.{map-append}
use Rattle.std.proofs.lemmas.Bool.{eqb-false, false≢true, or_right}
use Rattle.language.specs.Cases.{split}
use Rattle.language.specs.Limits.{open_lambdas}
use Rattle.members.specs.declared.Member.{Member}
use Rattle.rules.specs.declared.Value.{Value}
use Rattle.rules.specs.declared.Value.TheVariants.{Number, Window, Function, Delayed, Missing}
use Rattle.rules.specs.Values.{wrong_kind, if_window, if_function}
use Rattle.rules.specs.Rules.{Rule, two_numbers, window, window_number, window_runs, rule}
use Rattle.rules.specs.Windows.{readings_in}
use Rattle.rules.specs.Runs.{Summary, results}
use Rattle.rules.specs.Apply.{concluded_by, is_missing, is_delayed, by_rule1, apply0, apply1}
use Rattle.meaning.specs.Forms.{Form, number, variable, unbound, readings, ask, call, function, name_in, level_in}
use Rattle.meaning.specs.Evaluation.{value_of, run_of, Environment, nowhere, bind, lookup, settled, evaluate, has_name, joined, without, awaited, shows}
use Rattle.meaning.proofs.HasLaws.{joined-cases, joined-left, joined-right, has-without, has_kept}
use Rattle.refine.specs.Free.{free, free-variable, free-call, settled-no, settled-find}
use Rattle.levels.specs.Interpreting.{Scope, nothing, stands_for, with, levels, is_open, judged, interpret, ran, variable_at, shown_by}
use Rattle.direct.specs.Bindable.{OneEach, Bindable}

-- ---- the levels that a form awaits are those of its variables, in order

-- none of these variables but y is of y's level
abbrev Alone : ℕ → List ℕ → Type 0
Alone y vs = (x : ℕ) → has_name x vs ≡ true → level_in x ≡ level_in y → x ≡ y

has-head : (v : ℕ) (vs : List ℕ) → has_name v (v ∷ vs) ≡ true
unfolding has_name
has-head v vs = rw (eq-eqb v v refl)

has-tail : (y v : ℕ) (vs : List ℕ) → has_name y vs ≡ true → has_name y (v ∷ vs) ≡ true
unfolding has_name
has-tail y v vs e = or_right (eqb y v) (has_name y vs) e

-- y is one of them where its level is one of theirs
has-level : (y : ℕ) (vs : List ℕ) → Alone y vs → has_name (level_in y) (map level_in vs) ≡ has_name y vs
unfolding has_name
has-level y [] h = refl
has-level y (v ∷ vs) h =
    split (eqb y v)
    (λ p. rw (p, eq-eqb (level_in y) (level_in v) (ap level_in (eqb-true y v p))))
    (λ p.
    rw (p, ne_eqb (level_in y) (level_in v) (λ e. eqb-false y v p (sym (h v (has-head v vs) (sym e)))))
    (has-level y vs (λ x i. h x (has-tail x v vs i))))

-- so levels are added, put together and left out as their variables are
levels-added : (y : ℕ) (xs : List ℕ) → Alone y xs
    → map level_in (cond (has_name y xs) xs (xs ++ (y ∷ [])))
    ≡ cond (has_name (level_in y) (map level_in xs)) (map level_in xs) (map level_in xs ++ (level_in y ∷ []))
levels-added y xs h = rw (has-level y xs h) (split (has_name y xs) (λ p. rw p) (λ p. rw p (map-append level_in xs (y ∷ []))))

levels-joined : (xs ys : List ℕ) → OneEach (joined xs ys) → map level_in (joined xs ys) ≡ joined (map level_in xs) (map level_in ys)
unfolding joined
levels-joined xs [] h = refl
levels-joined xs (y ∷ ys) h =
    levels-joined (cond (has_name y xs) xs (xs ++ (y ∷ []))) ys h
    ∙ ap (λ (ks : List ℕ). joined ks (map level_in ys))
    (levels-added y xs (λ x i. h x y (joined-left x xs (y ∷ ys) i) (joined-right y xs (y ∷ ys) (has-head y ys))))

levels-without : (v : ℕ) (ys : List ℕ) → Alone v ys → map level_in (without v ys) ≡ without (level_in v) (map level_in ys)
unfolding without
levels-without v [] h = refl
levels-without v (y ∷ ys) h =
    let r = levels-without v ys (λ x i. h x (has-tail x y ys i)) in
    split (eqb v y)
    (λ p. rw (p, eq-eqb (level_in v) (level_in y) (ap level_in (eqb-true v y p))) r)
    (λ p. rw (p, ne_eqb (level_in v) (level_in y) (λ e. eqb-false v y p (sym (h y (has-head y ys) (sym e))))) (ap (λ (ks : List ℕ). level_in y ∷ ks) r))

-- a function's own variable is alone of its level in the body
own_alone : (v : ℕ) (vs : List ℕ) → OneEach (v ∷ vs) → Alone v vs
own_alone v vs h x i = h x v (has-tail x v vs i) (has-head v vs)

levels-awaited : (f : Form) → Bindable f → levels f ≡ map level_in (awaited f)
unfolding levels awaited
levels-awaited (number z) h = refl
levels-awaited (variable v) h = refl
levels-awaited (unbound x) h = refl
levels-awaited readings h = refl
levels-awaited (ask m f) h = levels-awaited f h
levels-awaited (call m f a) h = rw (levels-awaited f h.0, levels-awaited a h.1) (sym (levels-joined (awaited f) (awaited a) h.2))
levels-awaited (function v b) h = rw (levels-awaited b h.2) (sym (levels-without v (awaited b) (own_alone v (awaited b) h.1)))

-- each is 0 or 1
level-below : (y : ℕ) (f : Form) → Bindable f → free y f ≡ true → level_in y < open_lambdas
unfolding awaited has_name
level-below y (number z) h e = absurd (false≢true e)
level-below y (variable v) h e = rw (eqb-true y v (sym (free-variable y v) ∙ e)) h
level-below y (unbound x) h e = absurd (false≢true e)
level-below y readings h e = absurd (false≢true e)
level-below y (ask m f) h e = level-below y f h e
level-below y (call m f a) h e = joined-cases y (awaited f) (awaited a) e (level-below y f h.0) (level-below y a h.1)
level-below y (function v b) h e = level-below y b h.2 (has-without y v (awaited b) e).0

-- ---- an environment and a scope that agree at the awaited variables
abbrev Agree : Environment → Scope → Form → Type 0
Agree ρ s f = (y : ℕ) → free y f ≡ true → lookup ρ y ≡ stands_for s (level_in y)

agree-receiver : (ρ : Environment) (s : Scope) (m : Member) (f a : Form) → Agree ρ s (call m f a) → Agree ρ s f
unfolding awaited
agree-receiver ρ s m f a g y e = g y (joined-left y (awaited f) (awaited a) e)

agree-argument : (ρ : Environment) (s : Scope) (m : Member) (f a : Form) → Agree ρ s (call m f a) → Agree ρ s a
unfolding awaited
agree-argument ρ s m f a g y e = g y (joined-right y (awaited f) (awaited a) e)

-- the own variable stands for what it is bound to, and one of the other level for what it stood for
own-level : (s : Scope) (k : ℕ) (c : Value) → stands_for (with s k c) k ≡ c
own-level s k c = split (eqb k 0) (λ p. rw p) (λ p. rw p)

other-level : (s : Scope) (k l : ℕ) (c : Value) → k < open_lambdas → l < open_lambdas → (k ≡ l → ⊥) → stands_for (with s k c) l ≡ stands_for s l
other-level s k l c p q n =
    split (eqb k 0)
    (λ e. rw (e, ne_eqb l 0 (λ z. n (eqb-true k 0 e ∙ sym z))))
    (λ e. let d = eqb-false k 0 e in rw (e, eq-eqb l 0 (omega arith)))

agree-body : (ρ : Environment) (s : Scope) (v : ℕ) (b : Form) → Bindable (function v b) → Agree ρ s (function v b) → (c : Value)
    → Agree (bind v c ρ) (with s (level_in v) c) b
unfolding lookup awaited
agree-body ρ s v b h g c y e =
    split (eqb v y)
    (λ p. rw (p, ← eqb-true v y p) (sym (own-level s (level_in v) c)))
    (λ p.
    rw p (g y (has_kept y v (awaited b) e p)
    ∙ sym (other-level s (level_in v) (level_in y) c h.0 (level-below y b h.2 e)
    (λ q. eqb-false v y p (sym (own_alone v (awaited b) h.1 y e (sym q)))))))

agree-nothing : (f : Form) → Agree nowhere nothing f
unfolding lookup
agree-nothing f y e = split (eqb (level_in y) 0) (λ p. rw p) (λ p. rw p)

-- ---- a form awaits a variable where one of its levels stands for nothing
open-yes : (s : Scope) (vs : List ℕ) (y : ℕ) → has_name y vs ≡ true → is_delayed (stands_for s (level_in y)) ≡ true → is_open s (map level_in vs) ≡ true
unfolding is_open has_name
open-yes s [] y e d = absurd (false≢true e)
open-yes s (v ∷ vs) y e d =
    split (eqb y v)
    (λ p. rw (← eqb-true y v p, d))
    (λ p. or_right (is_delayed (stands_for s (level_in v))) _ (open-yes s vs y (rw p at e) d))

open_no : (s : Scope) (vs : List ℕ) → ((y : ℕ) → has_name y vs ≡ true → is_delayed (stands_for s (level_in y)) ≡ false)
    → is_open s (map level_in vs) ≡ false
unfolding is_open
open_no s [] h = refl
open_no s (v ∷ vs) h = rw (h v (has-head v vs)) (open_no s vs (λ y e. h y (has-tail y v vs e)))

open-settled : (ρ : Environment) (s : Scope) (f : Form) → Bindable f → Agree ρ s f → is_open s (levels f) ≡ not (settled ρ f)
open-settled ρ s f h g =
    rw (levels-awaited f h)
    (split (settled ρ f)
    (λ p. rw p (open_no s (awaited f) (λ y e.
    split (is_delayed (stands_for s (level_in y)))
    (λ d. absurd (false≢true (sym (settled-no ρ f y e (rw (g y e) d)) ∙ p)))
    (λ d. d))))
    (λ p. let w = settled-find ρ f p in rw p (open-yes s (awaited f) w.name w.is_free (rw (g w.name w.is_free) at w.unset))))

-- ---- what a run gives counts only where the argument is a function
same_runs : (m : Member) (xs : List ℤ) (v w : Value) (r r' : ℤ → Value) → (w ≡ Function → (z : ℤ) → r z ≡ r' z)
    → apply1 m xs v w r ≡ apply1 m xs v w r'
unfolding apply1
same_runs m xs v w r r' h =
    ap (λ (u : Value). cond (is_missing v) v (cond (is_missing w) w (cond (is_delayed v || is_delayed w) Delayed u))) (by (rule m))
  where
    over : (w : Value) → (w ≡ Function → (z : ℤ) → r z ≡ r' z) → (f : Summary → Value) (zs : List ℤ)
        → if_function (Missing wrong_kind) w (concluded_by f (results (map r zs)))
        ≡ if_function (Missing wrong_kind) w (concluded_by f (results (map r' zs)))
    over (Number z) e f zs = refl
    over (Window s l) e f zs = refl
    over Function e f zs = λ i. concluded_by f (results (map (λ z. e refl z i) zs))
    over Delayed e f zs = refl
    over (Missing n) e f zs = refl

    by : (q : Rule) → by_rule1 q xs v w r ≡ by_rule1 q xs v w r'
    by (two_numbers f) = refl
    by (window f) = refl
    by (window_number f) = refl
    by (window_runs f) = λ i. if_window (Missing wrong_kind) v (λ s l. over w h f (readings_in xs s l) i)

-- ---- a function by what its body comes to, and its runs
module _ (xs : List ℤ) (ρ : Environment) (v : ℕ) (b : Form) where
  function-is : judged (not (settled ρ (function v b))) (value_of (evaluate xs (bind v Delayed ρ) b)) ≡ value_of (evaluate xs ρ (function v b))
  unfolding evaluate settled value_of
  function-is =
      split (is_missing (value_of (evaluate xs (bind v Delayed ρ) b)))
      (λ p. rw p)
      (λ p. rw p (split (settled (bind v (Number (pos 0)) ρ) b) (λ q. rw q) (λ q. rw q)))

  run_is : value_of (evaluate xs ρ (function v b)) ≡ Function → (z : ℤ)
      → value_of (evaluate xs (bind v (Number z) ρ) b) ≡ run_of (evaluate xs ρ (function v b)) z
  unfolding evaluate value_of run_of
  run_is e z =
      split (is_missing (value_of (evaluate xs (bind v Delayed ρ) b)))
      (λ p. absurd (false≢true (sym (ap is_missing (rw p at e)) ∙ p)))
      (λ p. split (settled (bind v (Number (pos 0)) ρ) b) (λ q. rw (p, q)) (λ q. absurd (false≢true (sym (ap is_delayed (rw (p, q) at e))))))

-- ---- interpretation is evaluation, and a run gives what evaluation has for it
mutual
  unfolding interpret ran evaluate value_of run_of awaited

  interpret-is : (f : Form) (xs : List ℤ) (ρ : Environment) (s : Scope) → Bindable f → Agree ρ s f → interpret xs s f ≡ value_of (evaluate xs ρ f)
  interpret-is (number z) xs ρ s h g = refl
  interpret-is (variable v) xs ρ s h g = sym (g v (has-head v []))
  interpret-is (unbound x) xs ρ s h g = refl
  interpret-is readings xs ρ s h g = refl
  interpret-is (ask m f) xs ρ s h g = ap (apply0 m xs) (interpret-is f xs ρ s h g)
  interpret-is (call m f a) xs ρ s h g =
      rw (interpret-is f xs ρ s h.0 (agree-receiver ρ s m f a g), interpret-is a xs ρ s h.1 (agree-argument ρ s m f a g))
      (same_runs m xs _ _ _ _ (λ e z. ran-is a xs ρ s h.1 (agree-argument ρ s m f a g) e z))
  interpret-is (function v b) xs ρ s h g =
      rw (
        open-settled ρ s (function v b) h g,
        interpret-is b xs (bind v Delayed ρ) (with s (level_in v) Delayed) h.2 (agree-body ρ s v b h g Delayed),
      )
      (function-is xs ρ v b)

  ran-is : (f : Form) (xs : List ℤ) (ρ : Environment) (s : Scope) → Bindable f → Agree ρ s f → value_of (evaluate xs ρ f) ≡ Function
      → (z : ℤ) → ran xs s f z ≡ run_of (evaluate xs ρ f) z
  ran-is (number a) xs ρ s h g e z = refl
  ran-is (variable v) xs ρ s h g e z = refl
  ran-is (unbound x) xs ρ s h g e z = refl
  ran-is readings xs ρ s h g e z = refl
  ran-is (ask m f) xs ρ s h g e z = refl
  ran-is (call m f a) xs ρ s h g e z = refl
  ran-is (function v b) xs ρ s h g e z =
      interpret-is b xs (bind v (Number z) ρ) (with s (level_in v) (Number z)) h.2 (agree-body ρ s v b h g (Number z))
      ∙ run_is xs ρ v b e z

pub interpret-evaluates : (xs : List ℤ) (f : Form) → Bindable f → interpret xs nothing f ≡ value_of (evaluate xs nowhere f)
interpret-evaluates xs f h = interpret-is f xs nowhere nothing h (agree-nothing f)

-- ---- and so is what is shown: a level's variable is the awaited one
variable-at : (y : ℕ) (f : Form) → Bindable f → free y f ≡ true → variable_at (level_in y) f ≡ y
unfolding variable_at awaited has_name
variable-at y (number z) h e = absurd (false≢true e)
variable-at y (variable v) h e = sym (eqb-true y v (sym (free-variable y v) ∙ e))
variable-at y (unbound x) h e = absurd (false≢true e)
variable-at y readings h e = absurd (false≢true e)
variable-at y (ask m f) h e = variable-at y f h e
variable-at y (call m f a) h e =
    let k = has-level y (awaited f) (λ x i. h.2 x y (joined-left x (awaited f) (awaited a) i) e) in
    rw (levels-awaited f h.0, k)
    (split (free y f)
    (λ p. rw p (variable-at y f h.0 p))
    (λ p. rw p (variable-at y a h.1 (rw p at (sym (free-call y m f a) ∙ e)))))
variable-at y (function v b) h e = variable-at y b h.2 (has-without y v (awaited b) e).0

names_at : (f : Form) (vs : List ℕ) → ((y : ℕ) → has_name y vs ≡ true → variable_at (level_in y) f ≡ y)
    → map (λ k. name_in (variable_at k f)) (map level_in vs) ≡ map name_in vs
names_at f [] h = refl
names_at f (v ∷ vs) h = rw (h v (has-head v vs), names_at f vs (λ y e. h y (has-tail y v vs e)))

pub shown-shows : (xs : List ℤ) (f : Form) → Bindable f → shown_by xs f ≡ shows xs f
unfolding shown_by shows
shown-shows xs f h = rw (interpret-evaluates xs f h, levels-awaited f h, names_at f (awaited f) (λ y e. variable-at y f h e))
