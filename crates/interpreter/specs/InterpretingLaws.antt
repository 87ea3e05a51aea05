-- What a form comes to depends on the levels that it awaits alone, and no window leaves the recording. Assumes nothing.
use Rattle.std.specs.Prelude.{◌≡◌, refl, Bool, true, false, cond, ◌||◌, List, [], ◌∷◌, ℕ, eqb, ℤ, length}
use Rattle.std.proofs.lemmas.Bool.{or_right}
use Rattle.std.proofs.Common.{sym, ◌∙◌, arith, eq-eqb, eqb-true}
use Rattle.language.specs.Cases.{split}
use Rattle.rules.specs.declared.Value.{Value}
use Rattle.rules.specs.declared.Value.TheVariants.{Number, Window, Function, Delayed, Missing}
use Rattle.rules.specs.Apply.{is_delayed, apply1}
use Rattle.values.specs.Keepable.{Inside}
use Rattle.values.specs.KeepableLaws.{Closed, Readings, given}
use Rattle.values.specs.KeepableApply.{closed-apply0, closed-apply1}
use Rattle.meaning.specs.Forms.{Form, number, variable, unbound, readings, ask, call, function, level_in}
use Rattle.meaning.specs.Evaluation.{has_name, without}
use Rattle.meaning.proofs.HasLaws.{joined-left, joined-right, has_kept}
use Rattle.levels.specs.Interpreting.{Scope, stands_for, with, levels, is_open, judged, interpret, ran}

-- ---- scopes that agree at some levels

abbrev pub Alike : Scope → Scope → List ℕ → Type 0
Alike s t ks = (k : ℕ) → has_name k ks ≡ true → stands_for s k ≡ stands_for t k

open-alike : (s t : Scope) (ks : List ℕ) → Alike s t ks → is_open s ks ≡ is_open t ks
unfolding is_open has_name
open-alike s t [] h = refl
open-alike s t (k ∷ ks) h =
    λ i. is_delayed (h k (rw (eq-eqb k k refl)) i) || open-alike s t ks (λ j e. h j (or_right (eqb j k) (has_name j ks) e)) i

with-own : (s : Scope) (k : ℕ) (v : Value) → stands_for (with s k v) k ≡ v
with-own s k v = split (eqb k 0) (λ e. rw e) (λ e. rw e)

-- another level keeps what it stands for, or both scopes have the new value there
with-alike : (s t : Scope) (l : ℕ) (v : Value) (ks : List ℕ) → Alike s t (without l ks) → Alike (with s l v) (with t l v) ks
with-alike s t l v ks h k e =
    split (eqb l k)
    (λ p. let z = eqb-true l k p in rw (← z) (with-own s l v ∙ sym (with-own t l v)))
    (λ p. other (eqb l 0) (eqb k 0) (h k (has_kept k l ks e p)))
  where
    other : (b c : Bool) → cond c s.outer s.inner ≡ cond c t.outer t.inner
        → cond c (cond b v s.outer) (cond b s.inner v) ≡ cond c (cond b v t.outer) (cond b t.inner v)
    other true true q = refl
    other true false q = q
    other false true q = q
    other false false q = refl

mutual
  unfolding interpret levels has_name

  pub interpret-alike : (xs : List ℤ) (s t : Scope) (f : Form) → Alike s t (levels f) → interpret xs s f ≡ interpret xs t f
  interpret-alike xs s t (number z) h = refl
  interpret-alike xs s t (variable v) h = h (level_in v) (rw (eq-eqb (level_in v) (level_in v) refl))
  interpret-alike xs s t (unbound x) h = refl
  interpret-alike xs s t readings h = refl
  interpret-alike xs s t (ask m f) h = rw (interpret-alike xs s t f h)
  interpret-alike xs s t (call m f a) h =
      let l : Alike s t (levels f) = λ k e. h k (joined-left k (levels f) (levels a) e) in
      let r : Alike s t (levels a) = λ k e. h k (joined-right k (levels f) (levels a) e) in
      λ i. apply1 m xs (interpret-alike xs s t f l i) (interpret-alike xs s t a r i) (λ x. ran-alike xs s t a x r i)
  interpret-alike xs s t (function v b) h =
      λ i. judged (open-alike s t (without (level_in v) (levels b)) h i)
      (interpret-alike xs (with s (level_in v) Delayed) (with t (level_in v) Delayed) b (with-alike s t (level_in v) Delayed (levels b) h) i)

  ran-alike : (xs : List ℤ) (s t : Scope) (f : Form) (x : ℤ) → Alike s t (levels f) → ran xs s f x ≡ ran xs t f x
  ran-alike xs s t (number z) x h = refl
  ran-alike xs s t (variable v) x h = refl
  ran-alike xs s t (unbound y) x h = refl
  ran-alike xs s t readings x h = refl
  ran-alike xs s t (ask m f) x h = refl
  ran-alike xs s t (call m f a) x h = refl
  ran-alike xs s t (function v b) x h =
      interpret-alike xs (with s (level_in v) (Number x)) (with t (level_in v) (Number x)) b (with-alike s t (level_in v) (Number x) (levels b) h)

-- ---- windows stay inside

inside-closed : (n : ℕ) → Closed (Inside n)
inside-closed n = record { small = λ z h. tt; reason = λ r h k. tt; part = λ s l s' l' h w. omega arith; count = λ s l k h w. tt }

abbrev pub InsideBoth : ℕ → Scope → Type 0
InsideBoth n s = Inside n s.outer × Inside n s.inner

inside-at : (n : ℕ) (s : Scope) (k : ℕ) → InsideBoth n s → Inside n (stands_for s k)
inside-at n s k h = split (eqb k 0) (λ e. rw e h.0) (λ e. rw e h.1)

pub inside-with : (n : ℕ) (s : Scope) (k : ℕ) (v : Value) → InsideBoth n s → Inside n v → InsideBoth n (with s k v)
inside-with n s k v h g = split (eqb k 0) (λ e. rw e (g, h.1)) (λ e. rw e (h.0, g))

inside-judged : (n : ℕ) (b : Bool) (v : Value) → Inside n (judged b v)
inside-judged n true (Number z) = tt
inside-judged n false (Number z) = tt
inside-judged n true (Window s l) = tt
inside-judged n false (Window s l) = tt
inside-judged n true Function = tt
inside-judged n false Function = tt
inside-judged n true Delayed = tt
inside-judged n false Delayed = tt
inside-judged n b (Missing r) = tt

module _ (xs : List ℤ) where
  abbrev P : Value → Type 0
  P = Inside (length xs)

  numbers : Readings P xs
  numbers = λ i h. tt

  mutual
    unfolding interpret

    pub inside : (s : Scope) (f : Form) → InsideBoth (length xs) s → P (interpret xs s f)
    inside s (number z) h = tt
    inside s (variable v) h = inside-at (length xs) s (level_in v) h
    inside s (unbound x) h = tt
    inside s readings h = omega arith
    inside s (ask m f) h = closed-apply0 P (inside-closed (length xs)) m xs numbers tt (interpret xs s f) (given P (interpret xs s f) (inside s f h))
    inside s (call m f a) h =
        closed-apply1 P (inside-closed (length xs)) m xs numbers tt (λ x. ran xs s a x) (λ x _. given P (ran xs s a x) (inside-ran s a x h))
        (interpret xs s f) (interpret xs s a) (given P (interpret xs s f) (inside s f h)) (given P (interpret xs s a) (inside s a h))
    inside s (function v b) h =
        inside-judged (length xs) (is_open s (levels (function v b))) (interpret xs (with s (level_in v) Delayed) b)

    inside-ran : (s : Scope) (f : Form) (x : ℤ) → InsideBoth (length xs) s → P (ran xs s f x)
    inside-ran s (number z) x h = tt
    inside-ran s (variable v) x h = tt
    inside-ran s (unbound y) x h = tt
    inside-ran s readings x h = tt
    inside-ran s (ask m f) x h = tt
    inside-ran s (call m f a) x h = tt
    inside-ran s (function v b) x h = inside (with s (level_in v) (Number x)) b (inside-with (length xs) s (level_in v) (Number x) h tt)
