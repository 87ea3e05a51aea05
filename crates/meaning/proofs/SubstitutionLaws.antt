-- Let elimination, which Binding defines by an environment, is capture-avoiding substitution: of every let of a tree that keeps the limits, also
-- where a lambda hides another, and in which no name in use packs to 0, so that the hole is none of its unbound names. No word packs to 0.
-- Nothing is captured since a variable that is free in a let's value has a level below the number of lambdas around the let, and each lambda in
-- the let's body has at least that many around it. Assumes nothing.
use Rattle.std.proofs.Math.Path.{◌≡◌, refl, sym, ap}
use Rattle.std.proofs.Common.{◌∙◌, arith, ne_eqb}
use Rattle.std.specs.Prelude.{Bool, true, false, cond, ℕ, suc, ◌≤◌, ◌<◌, eqb}
use mathlib.Mathlib.Data.Bool.Basic.{or-eq-false-eq-eq-false-and-eq-false as neither}
use mathlib.Core.List.{List, [], ◌∷◌, ◌++◌}
use Rattle.std.proofs.lemmas.Bool.{eqb-false, cond_both}
use Rattle.language.specs.Names.{pack_onto, packed, same_name, is_data}
use Rattle.language.specs.NamesLaws.{Each, NameByte, packed-injective}
use Rattle.language.specs.Cases.{split}
use Rattle.grammar.specs.Grammar.{Expression, Calls, Arguments, More, let_in, lambda, name, literal, bracket, done, call, none, first, last, next}
use Rattle.grammar.specs.Faults.{Around, outermost, opened, in_lambda}
use Rattle.grammar.specs.KeptLimits.{EverywhereE, EverywhereC, EverywhereA, EverywhereM, KeepsLimits}
use Rattle.grammar.proofs.SingleLimits.{FewLambdas}
use Rattle.grammar.proofs.KeptLimitsLaws.{keeps-each}
use Rattle.meaning.specs.Forms.{Form, level_in, number, variable, unbound, readings, ask, function}
use Rattle.meaning.specs.Binding.{Meaning, lambdas, look_up, named, as_let, variable_of, as_lambda, member, form_e, form_c, form_a, form_m}
use Rattle.meaning.specs.Evaluation.{has_name, joined, without, awaited}
use Rattle.meaning.specs.Substitution.{hole, fill, NoneFree, Avoids, Substituted, AtLetsE, AtLetsC, AtLetsA, AtLetsM, NonzeroNames}

-- the variable is not free in the form
abbrev pub NotFree : ℕ → Form → Type 0
NotFree y f = has_name y (awaited f) ≡ false

-- no word packs to 0
pub word-nonzero : (b : ℕ) (w : List ℕ) → Each NameByte (b ∷ w) → ¬ (packed (b ∷ w) ≡ 0)
unfolding pack_onto
word-nonzero b w h e = let q : (b ∷ w) ≡ [] = packed-injective (b ∷ w) [] h tt e in let z : ◌≡◌ {A = ℕ} 0 1 = cc in omega arith

-- ---- the forms of an environment

-- P holds of each form that a name stands for
abbrev pub Forms : (Form → Type 0) → List Meaning → Type 0
Forms P [] = Unit {0}
Forms P (e ∷ Γ) = P e.1 × Forms P Γ

looked-up : (P : Form → Type 0) (x : List ℕ) (Γ : List Meaning) → P (unbound (packed x)) → Forms P Γ → P (look_up x Γ)
unfolding look_up
looked-up P x [] u h = u
looked-up P x (e ∷ Γ) u h = cond_both (same_name x e.0) e.1 (look_up x Γ) P (λ _. h.0) (λ _. looked-up P x Γ u h.1)

pub of-name : (P : Form → Type 0) (x : List ℕ) (Γ : List Meaning) → P readings → P (unbound (packed x)) → Forms P Γ → P (named x Γ)
unfolding named
of-name P x Γ r u h = cond_both (is_data x) readings (look_up x Γ) P (λ _. r) (λ _. looked-up P x Γ u h)

-- ---- filling the form of a tree is filling the forms of its environment

module _ (f : Form) where
  unfoldable pub fill_all : List Meaning → List Meaning
  fill_all [] = []
  fill_all (e ∷ Γ) = (e.0, fill f e.1, e.2) ∷ fill_all Γ

  pub fill-lambdas : (Γ : List Meaning) → lambdas (fill_all Γ) ≡ lambdas Γ
  unfolding lambdas fill_all
  fill-lambdas [] = refl
  fill-lambdas (e ∷ Γ) = rw (fill-lambdas Γ)

  fill-pick : (t : Bool) (g h : Form) → fill f (cond t g h) ≡ cond t (fill f g) (fill f h)
  fill-pick true g h = refl
  fill-pick false g h = refl

  fill-lookup : (x : List ℕ) (Γ : List Meaning) → ¬ (packed x ≡ 0) → fill f (look_up x Γ) ≡ look_up x (fill_all Γ)
  unfolding fill look_up fill_all
  fill-lookup x [] n = rw (ne_eqb (packed x) 0 n)
  fill-lookup x (e ∷ Γ) n = fill-pick (same_name x e.0) e.1 (look_up x Γ) ∙ rw (fill-lookup x Γ n)

  pub fill-named : (x : List ℕ) (Γ : List Meaning) → ¬ (packed x ≡ 0) → fill f (named x Γ) ≡ named x (fill_all Γ)
  unfolding fill named
  fill-named x Γ n = fill-pick (is_data x) readings (look_up x Γ) ∙ rw (fill-lookup x Γ n)

  mutual
    unfolding fill fill_all form_e

    pub fill-E : (e : Expression) (Γ : List Meaning) (d : Around) → EverywhereE NonzeroNames e d → fill f (form_e e Γ) ≡ form_e e (fill_all Γ)
    fill-E (let_in x a b) Γ d n = fill-E b (as_let x (form_e a Γ) Γ) (opened d) n.2 ∙ rw (fill-E a Γ (opened d) n.1)
    fill-E (lambda x b) Γ d n = rw (fill-E b (as_lambda x Γ) (in_lambda d) n.1, fill-lambdas Γ)
    fill-E (name x r) Γ d n = fill-C r (named x Γ) Γ d n.1 ∙ rw (fill-named x Γ n.0)
    fill-E (literal z r) Γ d n = fill-C r (number z) Γ d n.1
    fill-E (bracket e r) Γ d n = fill-C r (form_e e Γ) Γ d n.2 ∙ rw (fill-E e Γ (opened d) n.1)

    fill-C : (r : Calls) (g : Form) (Γ : List Meaning) (d : Around) → EverywhereC NonzeroNames r d → fill f (form_c r g Γ) ≡ form_c r (fill f g) (fill_all Γ)
    fill-C done g Γ d n = refl
    fill-C (call m a) g Γ d n = fill-A a m g Γ d n.1

    fill-A : (a : Arguments) (m : List ℕ) (g : Form) (Γ : List Meaning) (d : Around) → EverywhereA NonzeroNames a d → fill f (form_a a m g Γ) ≡ form_a a m (fill f g) (fill_all Γ)
    fill-A (none r) m g Γ d n = fill-C r (ask (member m) g) Γ d n
    fill-A (first e x) m g Γ d n = fill-M x (Form.call (member m) g (form_e e Γ)) Γ d n.1 ∙ rw (fill-E e Γ (opened d) n.0)

    fill-M : (x : More) (g : Form) (Γ : List Meaning) (d : Around) → EverywhereM NonzeroNames x d → fill f (form_m x g Γ) ≡ form_m x (fill f g) (fill_all Γ)
    fill-M (last r) g Γ d n = fill-C r g Γ d n
    fill-M (next e x) g Γ d n = fill-M x g Γ d n.1

-- a form that holds no hole: filling leaves it
abbrev pub Whole : Form → Type 0
Whole g = (f : Form) → fill f g ≡ g

pub whole-variable : (x : ℕ) → Whole (variable x)
unfolding fill
whole-variable x f = refl

pub fill-whole : (f : Form) (Γ : List Meaning) → Forms Whole Γ → fill_all f Γ ≡ Γ
unfolding fill_all
fill-whole f [] w = refl
fill-whole f (e ∷ Γ) w = rw (w.0 f, fill-whole f Γ w.1)

-- without holes in the environment: the form of a tree holds none, and a let is replaced
module _ (Γ : List Meaning) (w : Forms Whole Γ) where
  pub whole-E : (e : Expression) (d : Around) → EverywhereE NonzeroNames e d → Whole (form_e e Γ)
  whole-E e d n f = fill-E f e Γ d n ∙ ap (form_e e) (fill-whole f Γ w)

  let-filled : (x : List ℕ) (a b : Expression) (d : Around) → EverywhereE NonzeroNames b d
      → form_e (let_in x a b) Γ ≡ fill (form_e a Γ) (form_e b (as_let x hole Γ))
  unfolding fill fill_all form_e
  let-filled x a b d n =
      let f = form_e a Γ in
      sym (fill-E f b (as_let x hole Γ) d n ∙ ap (λ (Δ : List Meaning). form_e b (as_let x f Δ)) (fill-whole f Γ w))

-- ---- a name that is free in the form of a tree is free in a form of its environment

not-append : (y : ℕ) (xs ys : List ℕ) → has_name y xs ≡ false → has_name y ys ≡ false → has_name y (xs ++ ys) ≡ false
unfolding has_name
not-append y [] ys p q = q
not-append y (x ∷ xs) ys p q = let r = (neither (eqb y x) (has_name y xs)).0 p in rw (r.0, not-append y xs ys r.1 q)

not-joined : (y : ℕ) (xs ys : List ℕ) → has_name y xs ≡ false → has_name y ys ≡ false → has_name y (joined xs ys) ≡ false
unfolding joined has_name
not-joined y xs [] p q = p
not-joined y xs (x ∷ ys) p q =
    let r = (neither (eqb y x) (has_name y ys)).0 q in
    split (has_name x xs)
    (λ e. rw e (not-joined y xs ys p r.1))
    (λ e. rw e (not-joined y (xs ++ (x ∷ [])) ys (not-append y xs (x ∷ []) p (rw r.0)) r.1))

not-without : (y x : ℕ) (ys : List ℕ) → (¬ (y ≡ x) → has_name y ys ≡ false) → has_name y (without x ys) ≡ false
unfolding without has_name
not-without y x [] h = refl
not-without y x (z ∷ ys) h =
    let both : ¬ (y ≡ x) → (eqb y z ≡ false) × (has_name y ys ≡ false) = λ n. (neither (eqb y z) (has_name y ys)).0 (h n) in
    let more = not-without y x ys (λ n. (both n).1) in
    split (eqb x z)
    (λ e. rw e more)
    (λ e. rw (e, ne_eqb y z (λ q. eqb-false y z (both (λ p. eqb-false x z e (sym p ∙ q))).0 q)) more)

pub not-variable : (y x : ℕ) → ¬ (y ≡ x) → NotFree y (variable x)
unfolding awaited has_name
not-variable y x n = rw (ne_eqb y x n)

module _ (y : ℕ) where
  mutual
    unfolding form_e awaited has_name

    pub not-free-E : (e : Expression) (Γ : List Meaning) → Forms (NotFree y) Γ → NotFree y (form_e e Γ)
    not-free-E (let_in x a b) Γ h = not-free-E b (as_let x (form_e a Γ) Γ) (not-free-E a Γ h, h)
    not-free-E (lambda x b) Γ h = not-without y (variable_of x Γ) _ (λ n. not-free-E b (as_lambda x Γ) (not-variable y (variable_of x Γ) n, h))
    not-free-E (name x r) Γ h = not-free-C r (named x Γ) Γ h (of-name (NotFree y) x Γ refl refl h)
    not-free-E (literal z r) Γ h = not-free-C r (number z) Γ h refl
    not-free-E (bracket e r) Γ h = not-free-C r (form_e e Γ) Γ h (not-free-E e Γ h)

    not-free-C : (r : Calls) (g : Form) (Γ : List Meaning) → Forms (NotFree y) Γ → NotFree y g → NotFree y (form_c r g Γ)
    not-free-C done g Γ h k = k
    not-free-C (call m a) g Γ h k = not-free-A a m g Γ h k

    not-free-A : (a : Arguments) (m : List ℕ) (g : Form) (Γ : List Meaning) → Forms (NotFree y) Γ → NotFree y g → NotFree y (form_a a m g Γ)
    not-free-A (none r) m g Γ h k = not-free-C r (ask (member m) g) Γ h k
    not-free-A (first e x) m g Γ h k = not-free-M x (Form.call (member m) g (form_e e Γ)) Γ h (not-joined y (awaited g) _ k (not-free-E e Γ h))

    not-free-M : (x : More) (g : Form) (Γ : List Meaning) → Forms (NotFree y) Γ → NotFree y g → NotFree y (form_m x g Γ)
    not-free-M (last r) g Γ h k = not-free-C r g Γ h k
    not-free-M (next e x) g Γ h k = not-free-M x g Γ h k

-- ---- nothing is captured

-- the environment has the lambdas around
abbrev pub Counts : List Meaning → Around → Type 0
Counts Γ d = d.lambdas ≡ lambdas Γ

-- a variable that is free in a form of the environment has a level below the number of lambdas around
abbrev pub Scoped : List Meaning → Around → Type 0
Scoped Γ d = (y : ℕ) → d.lambdas ≤ level_in y → Forms (NotFree y) Γ

-- a lambda's level is the number of lambdas around it
pub level-is : (x : List ℕ) (Γ : List Meaning) (d : Around) → Counts Γ d → d.lambdas < 2 → level_in (variable_of x Γ) ≡ d.lambdas
level-is x Γ d q l = omega (arith, q)

-- its body is scoped with its own variable
pub scoped-lambda : (x : List ℕ) (Γ : List Meaning) (d : Around) → Counts Γ d → d.lambdas < 2 → Scoped Γ d → Scoped (as_lambda x Γ) (in_lambda d)
unfolding in_lambda
scoped-lambda x Γ d q l s y o =
    let k = level-is x Γ d q l in
    (not-variable y (variable_of x Γ) (λ (e : y ≡ variable_of x Γ). let j : level_in y ≡ level_in (variable_of x Γ) = ap level_in e in omega arith), s y (omega arith))

module _ (f : Form) where
  -- a form without holes captures nothing
  whole-avoids : (g : Form) → Whole g → (ys : List ℕ) → Avoids f ys g
  unfolding fill
  whole-avoids (number z) w ys = tt
  whole-avoids (variable x) w ys = tt
  whole-avoids (unbound x) w ys = λ e. let q : readings ≡ unbound 0 = rw e at (w readings) in let z : ◌≡◌ {A = ℕ} 0 1 = cc in absurd (omega arith)
  whole-avoids readings w ys = tt
  whole-avoids (ask m g) w ys = whole-avoids g (λ k. cc (w k)) ys
  whole-avoids (Form.call m g a) w ys = (whole-avoids g (λ k. cc (w k)) ys, whole-avoids a (λ k. cc (w k)) ys)
  whole-avoids (function y b) w ys = whole-avoids b (λ k. cc (w k)) (y ∷ ys)

  -- nothing is captured below functions whose variables are not free in f
  abbrev pub Clear : Form → Type 0
  Clear g = (ys : List ℕ) → NoneFree ys f → Avoids f ys g

  pub whole-clear : (Γ : List Meaning) → Forms Whole Γ → Forms Clear Γ
  whole-clear [] w = tt
  whole-clear (e ∷ Γ) w = (λ ys h. whole-avoids e.1 w.0 ys, whole-clear Γ w.1)

  -- a variable that is free in f has a level below the number of lambdas around
  abbrev pub Within : Around → Type 0
  Within d = (y : ℕ) → d.lambdas ≤ level_in y → NotFree y f

  pub within-lambda : (d : Around) → Within d → Within (in_lambda d)
  unfolding in_lambda
  within-lambda d i y o = i y (omega arith)

  -- so that the variable of a lambda there is not free in f
  pub lambda-new : (x : List ℕ) (Γ : List Meaning) (d : Around) → Within d → Counts Γ d → d.lambdas < 2 → NotFree (variable_of x Γ) f
  lambda-new x Γ d i q l = let k = level-is x Γ d q l in i (variable_of x Γ) (omega arith)

  mutual
    unfolding form_e lambdas opened in_lambda

    pub clear-E : (e : Expression) (Γ : List Meaning) (d : Around) → Within d → Counts Γ d → EverywhereE FewLambdas e d → Forms Clear Γ → Clear (form_e e Γ)
    clear-E (let_in x a b) Γ d i q n h = clear-E b (as_let x (form_e a Γ) Γ) (opened d) i q n.2 (clear-E a Γ (opened d) i q n.1 h, h)
    clear-E (lambda x b) Γ d i q n h = λ ys k.
        clear-E b (as_lambda x Γ) (in_lambda d) (within-lambda d i) (ap suc q) n.1 (λ zs l. tt, h) (variable_of x Γ ∷ ys) (lambda-new x Γ d i q n.0, k)
    clear-E (name x r) Γ d i q n h = clear-C r (named x Γ) Γ d i q n.1 h (of-name Clear x Γ (λ ys k. tt) (λ ys k e. k) h)
    clear-E (literal z r) Γ d i q n h = clear-C r (number z) Γ d i q n.1 h (λ ys k. tt)
    clear-E (bracket e r) Γ d i q n h = clear-C r (form_e e Γ) Γ d i q n.2 h (clear-E e Γ (opened d) i q n.1 h)

    clear-C : (r : Calls) (g : Form) (Γ : List Meaning) (d : Around) → Within d → Counts Γ d → EverywhereC FewLambdas r d → Forms Clear Γ → Clear g → Clear (form_c r g Γ)
    clear-C done g Γ d i q n h c = c
    clear-C (call m a) g Γ d i q n h c = clear-A a m g Γ d i q n.1 h c

    clear-A : (a : Arguments) (m : List ℕ) (g : Form) (Γ : List Meaning) (d : Around) → Within d → Counts Γ d → EverywhereA FewLambdas a d → Forms Clear Γ → Clear g → Clear (form_a a m g Γ)
    clear-A (none r) m g Γ d i q n h c = clear-C r (ask (member m) g) Γ d i q n h c
    clear-A (first e x) m g Γ d i q n h c =
        clear-M x (Form.call (member m) g (form_e e Γ)) Γ d i q n.1 h (λ ys k. (c ys k, clear-E e Γ (opened d) i q n.0 h ys k))

    clear-M : (x : More) (g : Form) (Γ : List Meaning) (d : Around) → Within d → Counts Γ d → EverywhereM FewLambdas x d → Forms Clear Γ → Clear g → Clear (form_m x g Γ)
    clear-M (last r) g Γ d i q n h c = clear-C r g Γ d i q n h c
    clear-M (next e x) g Γ d i q n h c = clear-M x g Γ d i q n.1 h c

-- ---- every let

mutual
  unfolding lambdas opened in_lambda

  every-E : (e : Expression) (Γ : List Meaning) (d : Around) → Forms Whole Γ → Scoped Γ d → Counts Γ d → EverywhereE FewLambdas e d → EverywhereE NonzeroNames e d → AtLetsE Substituted e Γ
  every-E (let_in x a b) Γ d w s q l n =
      let f = form_e a Γ in
      let i : Within f d = λ y o. not-free-E y a Γ (s y o) in (
        record {
          filled = let-filled Γ w x a b (opened d) n.2;
          avoids = clear-E f b (as_let x hole Γ) (opened d) i q l.2 (λ ys k e. k, whole-clear f Γ w) [] tt;
        },
        every-E a Γ (opened d) w s q l.1 n.1,
        every-E b (as_let x f Γ) (opened d) (whole-E Γ w a (opened d) n.1, w) (λ y o. (i y o, s y o)) q l.2 n.2,
      )
  every-E (lambda x b) Γ d w s q l n =
      every-E b (as_lambda x Γ) (in_lambda d) (whole-variable (variable_of x Γ), w) (scoped-lambda x Γ d q l.0 s) (ap suc q) l.1 n.1
  every-E (name x r) Γ d w s q l n = every-C r Γ d w s q l.1 n.1
  every-E (literal z r) Γ d w s q l n = every-C r Γ d w s q l.1 n.1
  every-E (bracket e r) Γ d w s q l n = (every-E e Γ (opened d) w s q l.1 n.1, every-C r Γ d w s q l.2 n.2)

  every-C : (r : Calls) (Γ : List Meaning) (d : Around) → Forms Whole Γ → Scoped Γ d → Counts Γ d → EverywhereC FewLambdas r d → EverywhereC NonzeroNames r d → AtLetsC Substituted r Γ
  every-C done Γ d w s q l n = tt
  every-C (call m a) Γ d w s q l n = every-A a Γ d w s q l.1 n.1

  every-A : (a : Arguments) (Γ : List Meaning) (d : Around) → Forms Whole Γ → Scoped Γ d → Counts Γ d → EverywhereA FewLambdas a d → EverywhereA NonzeroNames a d → AtLetsA Substituted a Γ
  every-A (none r) Γ d w s q l n = every-C r Γ d w s q l n
  every-A (first e x) Γ d w s q l n = (every-E e Γ (opened d) w s q l.0 n.0, every-M x Γ d w s q l.1 n.1)

  every-M : (x : More) (Γ : List Meaning) (d : Around) → Forms Whole Γ → Scoped Γ d → Counts Γ d → EverywhereM FewLambdas x d → EverywhereM NonzeroNames x d → AtLetsM Substituted x Γ
  every-M (last r) Γ d w s q l n = every-C r Γ d w s q l n
  every-M (next e x) Γ d w s q l n = (every-E e Γ (opened d) w s q l.0 n.0, every-M x Γ d w s q l.1 n.1)

-- every let of a text that keeps the limits is replaced by capture-avoiding substitution
pub lets-substituted : (e : Expression) → KeepsLimits e → EverywhereE NonzeroNames e outermost → AtLetsE Substituted e []
unfolding lambdas
lets-substituted e k n = every-E e [] outermost tt (λ y o. tt) refl (keeps-each e k).lambdas n
