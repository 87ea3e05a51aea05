-- Let elimination replaces every let in each part of its body by capture-avoiding substitution, in a tree that keeps the limits and in which no
-- name in use packs to 0. Assumes nothing.
use Rattle.std.specs.Prelude.{◌≡◌, List, [], ◌∷◌, map, ℕ, suc, pos}
use Rattle.std.proofs.Math.Path.{refl}
use Rattle.std.proofs.Common.{sym, ap, ◌∙◌}
use Rattle.language.specs.Names.{bytes, pack_onto, data_word, is_data}
use Rattle.members.specs.Members.{arguments, spelled, same_bytes, named_in, member_of}
use Rattle.members.specs.declared.Member.TheVariants.{Add}
use Rattle.grammar.specs.Grammar.{Expression, Calls, Arguments, More, let_in, lambda, name, literal, bracket, done, call, none, first, last, next}
use Rattle.grammar.specs.Faults.{Around, outermost, opened, in_lambda}
use Rattle.grammar.specs.KeptLimits.{EverywhereE, EverywhereC, EverywhereA, EverywhereM, KeepsLimits}
use Rattle.grammar.proofs.SingleLimits.{FewLambdas}
use Rattle.grammar.proofs.KeptLimitsLaws.{keeps-each}
use Rattle.meaning.specs.Forms.{Form, number}
use Rattle.meaning.specs.Binding.{Meaning, lambdas, look_up, named, as_let, variable_of, as_lambda, member, form_e, called, places_e, places_c, places_a, places_m}
use Rattle.meaning.specs.Substitution.{hole, fill, NoneFree, AtLetsE, AtLetsC, AtLetsA, AtLetsM, NonzeroNames}
use Rattle.meaning.proofs.SubstitutionLaws.{Forms, of-name, fill_all, fill-lambdas, fill-named, fill-E, Whole, whole-variable, fill-whole, whole-E}
use Rattle.meaning.proofs.SubstitutionLaws.{not-free-E, Counts, Scoped, scoped-lambda, Clear, whole-clear, Within, within-lambda, lambda-new, clear-E}
use Rattle.meaning.specs.PartSubstitution.{AvoidsE, AvoidsC, AvoidsA, AvoidsM, PartsSubstituted}

-- ---- filling the parts of a tree is filling the forms of its environment

module _ (f : Form) where
  abbrev filled : List Form → List Form
  filled u = map (fill f) u

  fill-called : (a : Arguments) (m : List ℕ) (g : Form) (Γ : List Meaning) (d : Around) → EverywhereA NonzeroNames a d
      → fill f (called a m g Γ) ≡ called a m (fill f g) (fill_all f Γ)
  unfolding fill called
  fill-called (none r) m g Γ d n = refl
  fill-called (first e x) m g Γ d n = rw (fill-E f e Γ (opened d) n.0)

  mutual
    unfolding fill fill_all form_e places_e

    parts-E : (e : Expression) (Γ : List Meaning) (d : Around) (u : List Form) → EverywhereE NonzeroNames e d
        → filled (places_e e Γ u) ≡ places_e e (fill_all f Γ) (filled u)
    parts-E (let_in x a b) Γ d u n =
        rw (
          fill-E f (let_in x a b) Γ d n,
          parts-E a Γ (opened d) (places_e b (as_let x (form_e a Γ) Γ) u) n.1,
          parts-E b (as_let x (form_e a Γ) Γ) (opened d) u n.2,
          fill-E f a Γ (opened d) n.1,
        )
    parts-E (lambda x b) Γ d u n = rw (fill-E f (lambda x b) Γ d n, parts-E b (as_lambda x Γ) (in_lambda d) u n.1, fill-lambdas f Γ)
    parts-E (name x r) Γ d u n = rw (parts-C r (named x Γ) Γ d u n.1, fill-named f x Γ n.0)
    parts-E (literal z r) Γ d u n = rw (parts-C r (number z) Γ d u n.1)
    parts-E (bracket e r) Γ d u n =
        rw (parts-E e Γ (opened d) (places_c r (form_e e Γ) Γ u) n.1, parts-C r (form_e e Γ) Γ d u n.2, fill-E f e Γ (opened d) n.1)

    parts-C : (r : Calls) (g : Form) (Γ : List Meaning) (d : Around) (u : List Form) → EverywhereC NonzeroNames r d
        → filled (places_c r g Γ u) ≡ places_c r (fill f g) (fill_all f Γ) (filled u)
    parts-C done g Γ d u n = refl
    parts-C (call m a) g Γ d u n = rw (parts-A a (called a m g Γ) Γ d u n.1, fill-called a m g Γ d n.1)

    parts-A : (a : Arguments) (g : Form) (Γ : List Meaning) (d : Around) (u : List Form) → EverywhereA NonzeroNames a d
        → filled (places_a a g Γ u) ≡ places_a a (fill f g) (fill_all f Γ) (filled u)
    parts-A (none r) g Γ d u n = parts-C r g Γ d u n
    parts-A (first e x) g Γ d u n = rw (parts-E e Γ (opened d) (places_m x g Γ u) n.0, parts-M x g Γ d u n.1)

    parts-M : (x : More) (g : Form) (Γ : List Meaning) (d : Around) (u : List Form) → EverywhereM NonzeroNames x d
        → filled (places_m x g Γ u) ≡ places_m x (fill f g) (fill_all f Γ) (filled u)
    parts-M (last r) g Γ d u n = parts-C r g Γ d u n
    parts-M (next e x) g Γ d u n = rw (parts-E e Γ (opened d) (places_m x g Γ u) n.0, parts-M x g Γ d u n.1)

-- ---- nothing is captured in a part

module _ (f : Form) where
  -- below functions and lambdas whose variables are not free in f
  abbrev Free : List ℕ → Type 0
  Free ys = NoneFree ys f

  clear-called : (a : Arguments) (m : List ℕ) (g : Form) (Γ : List Meaning) (d : Around) → Within f d → Counts Γ d → EverywhereA FewLambdas a d → Forms (Clear f) Γ
      → Clear f g → Clear f (called a m g Γ)
  unfolding called opened
  clear-called (none r) m g Γ d i q n h c = c
  clear-called (first e x) m g Γ d i q n h c = λ ys k. (c ys k, clear-E f e Γ (opened d) i q n.0 h ys k)

  mutual
    unfolding form_e lambdas opened in_lambda

    avoids-E : (e : Expression) (ys : List ℕ) (Γ : List Meaning) (d : Around)
        → Within f d → Counts Γ d → EverywhereE FewLambdas e d → Forms (Clear f) Γ → Free ys
        → AvoidsE f e ys Γ
    avoids-E (let_in x a b) ys Γ d i q n h k = (
      clear-E f (let_in x a b) Γ d i q n h ys k,
      avoids-E a ys Γ (opened d) i q n.1 h k,
      avoids-E b ys (as_let x (form_e a Γ) Γ) (opened d) i q n.2 (clear-E f a Γ (opened d) i q n.1 h, h) k,
    )
    avoids-E (lambda x b) ys Γ d i q n h k = (
      clear-E f (lambda x b) Γ d i q n h ys k,
      avoids-E b (variable_of x Γ ∷ ys) (as_lambda x Γ) (in_lambda d) (within-lambda f d i) (ap suc q) n.1 (λ zs l. tt, h) (lambda-new f x Γ d i q n.0, k),
    )
    avoids-E (name x r) ys Γ d i q n h k =
        let c = of-name (Clear f) x Γ (λ ys k. tt) (λ ys k e. k) h in
        (c ys k, avoids-C r (named x Γ) ys Γ d i q n.1 h k c)
    avoids-E (literal z r) ys Γ d i q n h k = (tt, avoids-C r (number z) ys Γ d i q n.1 h k (λ ys k. tt))
    avoids-E (bracket e r) ys Γ d i q n h k =
        (avoids-E e ys Γ (opened d) i q n.1 h k, avoids-C r (form_e e Γ) ys Γ d i q n.2 h k (clear-E f e Γ (opened d) i q n.1 h))

    avoids-C : (r : Calls) (g : Form) (ys : List ℕ) (Γ : List Meaning) (d : Around)
        → Within f d → Counts Γ d → EverywhereC FewLambdas r d → Forms (Clear f) Γ → Free ys
        → Clear f g → AvoidsC f r g ys Γ
    avoids-C done g ys Γ d i q n h k c = tt
    avoids-C (call m a) g ys Γ d i q n h k c =
        let l = clear-called a m g Γ d i q n.1 h c in
        (l ys k, avoids-A a (called a m g Γ) ys Γ d i q n.1 h k l)

    avoids-A : (a : Arguments) (g : Form) (ys : List ℕ) (Γ : List Meaning) (d : Around)
        → Within f d → Counts Γ d → EverywhereA FewLambdas a d → Forms (Clear f) Γ → Free ys
        → Clear f g → AvoidsA f a g ys Γ
    avoids-A (none r) g ys Γ d i q n h k c = avoids-C r g ys Γ d i q n h k c
    avoids-A (first e x) g ys Γ d i q n h k c = (avoids-E e ys Γ (opened d) i q n.0 h k, avoids-M x g ys Γ d i q n.1 h k c)

    avoids-M : (x : More) (g : Form) (ys : List ℕ) (Γ : List Meaning) (d : Around)
        → Within f d → Counts Γ d → EverywhereM FewLambdas x d → Forms (Clear f) Γ → Free ys
        → Clear f g → AvoidsM f x g ys Γ
    avoids-M (last r) g ys Γ d i q n h k c = avoids-C r g ys Γ d i q n h k c
    avoids-M (next e x) g ys Γ d i q n h k c = (avoids-E e ys Γ (opened d) i q n.0 h k, avoids-M x g ys Γ d i q n.1 h k c)

-- ---- every let

parts-of : (x : List ℕ) (a b : Expression) (Γ : List Meaning) (d : Around)
    → Forms Whole Γ → Within (form_e a Γ) d → Counts Γ d → EverywhereE FewLambdas b (opened d)
    → EverywhereE NonzeroNames b (opened d) → PartsSubstituted x a b Γ
unfolding fill fill_all lambdas opened
parts-of x a b Γ d w i q l n =
    let f = form_e a Γ in
    record {
      filled = sym (parts-E f b (as_let x hole Γ) (opened d) [] n ∙ rw (fill-whole f Γ w));
      avoids = avoids-E f b [] (as_let x hole Γ) (opened d) i q l (λ ys k e. k, whole-clear f Γ w) tt;
    }

mutual
  unfolding lambdas opened in_lambda

  every-E : (e : Expression) (Γ : List Meaning) (d : Around) → Forms Whole Γ → Scoped Γ d → Counts Γ d → EverywhereE FewLambdas e d → EverywhereE NonzeroNames e d
      → AtLetsE PartsSubstituted e Γ
  every-E (let_in x a b) Γ d w s q l n =
      let i : Within (form_e a Γ) d = λ y o. not-free-E y a Γ (s y o) in (
        parts-of x a b Γ d w i q l.2 n.2,
        every-E a Γ (opened d) w s q l.1 n.1,
        every-E b (as_let x (form_e a Γ) Γ) (opened d) (whole-E Γ w a (opened d) n.1, w) (λ y o. (i y o, s y o)) q l.2 n.2,
      )
  every-E (lambda x b) Γ d w s q l n =
      every-E b (as_lambda x Γ) (in_lambda d) (whole-variable (variable_of x Γ), w) (scoped-lambda x Γ d q l.0 s) (ap suc q) l.1 n.1
  every-E (name x r) Γ d w s q l n = every-C r Γ d w s q l.1 n.1
  every-E (literal z r) Γ d w s q l n = every-C r Γ d w s q l.1 n.1
  every-E (bracket e r) Γ d w s q l n = (every-E e Γ (opened d) w s q l.1 n.1, every-C r Γ d w s q l.2 n.2)

  every-C : (r : Calls) (Γ : List Meaning) (d : Around) → Forms Whole Γ → Scoped Γ d → Counts Γ d → EverywhereC FewLambdas r d → EverywhereC NonzeroNames r d
      → AtLetsC PartsSubstituted r Γ
  every-C done Γ d w s q l n = tt
  every-C (call m a) Γ d w s q l n = every-A a Γ d w s q l.1 n.1

  every-A : (a : Arguments) (Γ : List Meaning) (d : Around) → Forms Whole Γ → Scoped Γ d → Counts Γ d → EverywhereA FewLambdas a d → EverywhereA NonzeroNames a d
      → AtLetsA PartsSubstituted a Γ
  every-A (none r) Γ d w s q l n = every-C r Γ d w s q l n
  every-A (first e x) Γ d w s q l n = (every-E e Γ (opened d) w s q l.0 n.0, every-M x Γ d w s q l.1 n.1)

  every-M : (x : More) (Γ : List Meaning) (d : Around) → Forms Whole Γ → Scoped Γ d → Counts Γ d → EverywhereM FewLambdas x d → EverywhereM NonzeroNames x d
      → AtLetsM PartsSubstituted x Γ
  every-M (last r) Γ d w s q l n = every-C r Γ d w s q l n
  every-M (next e x) Γ d w s q l n = (every-E e Γ (opened d) w s q l.0 n.0, every-M x Γ d w s q l.1 n.1)

pub parts-substituted : (e : Expression) → KeepsLimits e → EverywhereE NonzeroNames e outermost → AtLetsE PartsSubstituted e []
unfolding lambdas
parts-substituted e k n = every-E e [] outermost tt (λ y o. tt) refl (keeps-each e k).lambdas n

-- in `let x = 2 in let u = x.add(1) in 6` the body's parts with a hole for x: the let's own form has none, and the parts of u's value have it
unused-value : places_e (let_in (bytes "u") (name (bytes "x") (call (bytes "add") (first (literal (pos 1) done) (last done)))) (literal (pos 6) done))
    (as_let (bytes "x") hole []) [] ≡ number (pos 6) ∷ hole ∷ Form.call Add hole (number (pos 1)) ∷ number (pos 1) ∷ number (pos 6) ∷ []
unfolding places_e form_e called named look_up member member_of named_in same_bytes spelled arguments bytes pack_onto is_data data_word
unused-value = refl
