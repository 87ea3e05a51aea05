-- Each part of a text that is read has a bindable form. The variables that a form awaits are among those of the lambdas around its part, each
-- lambda has as its level the number of lambdas around it, and at most two are open: so each variable is the only one of its level, and no level
-- is above 1. Assumes nothing.
use Rattle.std.specs.Prelude.{◌≡◌, refl, ℕ, suc, ◌<◌, eqb, ℤ}
use Rattle.std.proofs.lemmas.Bool.{false≢true, or_right}
use Rattle.std.proofs.Common.{sym, ap, ◌∙◌, arith}
use mathlib.Core.List.{List, [], ◌∷◌}
use borrow.Author.Tests.{eqb-true, eq-eqb}
use Rattle.language.specs.Limits.{open_lambdas}
use Rattle.language.specs.Cases.{either}
use Rattle.members.specs.declared.Member.{Member}
use Rattle.grammar.specs.Grammar.{Expression, Calls, Arguments, More, let_in, lambda, name, literal, bracket, done, call, none, first, last, next}
use Rattle.grammar.specs.Faults.{Around, outermost, opened, in_lambda}
use Rattle.grammar.specs.KeptLimits.{Site, EverywhereE, EverywhereC, EverywhereA, EverywhereM, KeepsLimits, InRange}
use Rattle.grammar.proofs.SingleLimits.{FewLambdas, SmallNumbers}
use Rattle.grammar.proofs.KeptLimitsLaws.{keeps-each, Both, both}
use Rattle.meaning.specs.Forms.{Form, level_in, number, variable, ask, function}
use Rattle.meaning.specs.Binding.{Meaning, lambdas, named, as_let, variable_of, as_lambda, member, form_e, form_c, form_a, form_m, called}
use Rattle.meaning.specs.Binding.{places_e, places_c, places_a, places_m, forms_by_place}
use Rattle.meaning.specs.Evaluation.{has_name, awaited}
use Rattle.meaning.proofs.SubstitutionLaws.{Forms, of-name, level-is}
use Rattle.model.specs.Lists.{All}
use Rattle.meaning.proofs.HasLaws.{Has, has-joined, has-without}
use Rattle.direct.specs.Bindable.{OneEach, Bindable}

-- a variable of a list is its first or one of the others
has-cases : {A : Type 0} (y v : ℕ) (vs : List ℕ) → Has y (v ∷ vs) → (y ≡ v → A) → (Has y vs → A) → A
unfolding has_name
has-cases y v vs h p q = either (eqb y v) (has_name y vs) h (λ e. p (eqb-true y v e)) q

has_first : (y v : ℕ) (vs : List ℕ) → y ≡ v → Has y (v ∷ vs)
unfolding has_name
has_first y v vs e = rw (eq-eqb y v e)

has_more : (y v : ℕ) (vs : List ℕ) → Has y vs → Has y (v ∷ vs)
unfolding has_name
has_more y v vs h = or_right (eqb y v) _ h

-- no two of one level: also of some of these variables
one-among : (xs ns : List ℕ) → ((y : ℕ) → Has y xs → Has y ns) → OneEach ns → OneEach xs
one-among xs ns h one x y p q = one x y (h x p) (h y q)

-- a bindable form whose awaited variables are among ns
record Good (ns : List ℕ) (f : Form) : Type 0 where
  bindable : Bindable f
  within : (y : ℕ) → Has y (awaited f) → Has y ns

good_more : (v : ℕ) (ns : List ℕ) (f : Form) → Good ns f → Good (v ∷ ns) f
good_more v ns f g = record { bindable = g.bindable; within = λ y h. has_more y v ns (g.within y h) }

forms-more : (v : ℕ) (ns : List ℕ) (Γ : List Meaning) → Forms (Good ns) Γ → Forms (Good (v ∷ ns)) Γ
forms-more v ns [] h = tt
forms-more v ns (e ∷ Γ) h = (good_more v ns e.1 h.0, forms-more v ns Γ h.1)

-- the variables ns of the k lambdas around are of levels below k, no two of one level, and the forms that names stand for await these alone
record Scope (ns : List ℕ) (Γ : List Meaning) (k : ℕ) : Type 0 where
  counts : k ≡ lambdas Γ
  low : (y : ℕ) → Has y ns → level_in y < k
  one : OneEach ns
  forms : Forms (Good ns) Γ

-- each form from the forms that it is made of
module _ (ns : List ℕ) where
  good-number : (z : ℤ) → InRange z → Good ns (number z)
  unfolding awaited has_name
  good-number z h = record { bindable = h; within = λ y h. absurd (false≢true h) }

  good-variable : (v : ℕ) → level_in v < open_lambdas → Has v ns → Good ns (variable v)
  unfolding awaited has_name
  good-variable v l i = record { bindable = l; within = λ y h. has-cases y v [] h (λ e. rw e i) (λ e. absurd (false≢true e)) }

  good-named : (x : List ℕ) (Γ : List Meaning) → Forms (Good ns) Γ → Good ns (named x Γ)
  unfolding awaited has_name
  good-named x Γ h = of-name (Good ns) x Γ record { bindable = tt; within = λ y h. absurd (false≢true h) } record { bindable = tt; within = λ y h. absurd (false≢true h) } h

  good-ask : (m : Member) (f : Form) → Good ns f → Good ns (ask m f)
  unfolding awaited
  good-ask m f g = record { bindable = g.bindable; within = g.within }

  good-call : (m : Member) (f a : Form) → OneEach ns → Good ns f → Good ns a → Good ns (Form.call m f a)
  unfolding awaited
  good-call m f a one g h =
      let inside : (y : ℕ) → Has y (awaited (Form.call m f a)) → Has y ns = λ y. has-joined y (awaited f) (awaited a) ns g.within h.within in
      record { bindable = (g.bindable, h.bindable, one-among (awaited (Form.call m f a)) ns inside one); within = inside }

  good-function : (v : ℕ) (b : Form) → level_in v < open_lambdas → OneEach (v ∷ ns) → Good (v ∷ ns) b → Good ns (function v b)
  unfolding awaited
  good-function v b l one g =
      record {
        bindable = (l, one-among (v ∷ awaited b) (v ∷ ns) (λ y h. has-cases y v (awaited b) h (has_first y v ns) (g.within y)) one, g.bindable);
        within = λ y h.
            let r = has-without y v (awaited b) h in
            has-cases y v ns (g.within y r.0) (λ e. absurd (false≢true (sym r.1 ∙ eq-eqb v y (sym e)))) (λ i. i);
      }

-- and also with a variable of a level above theirs
one_more : (v k : ℕ) (ns : List ℕ) → level_in v ≡ k → ((y : ℕ) → Has y ns → level_in y < k) → OneEach ns → OneEach (v ∷ ns)
one_more v k ns l low one x y p q e =
    has-cases x v ns p
    (λ a. has-cases y v ns q (λ b. a ∙ sym b) (λ j. absurd (apart y j (sym e ∙ ap level_in a))))
    (λ i. has-cases y v ns q (λ b. absurd (apart x i (e ∙ ap level_in b))) (λ j. one x y i j e))
  where
    apart : (z : ℕ) → Has z ns → level_in z ≡ level_in v → ⊥
    apart z i h = let below = low z i in omega arith

-- the scope of a let's body, and of a lambda's
scope-let : (x : List ℕ) (f : Form) (ns : List ℕ) (Γ : List Meaning) (k : ℕ) → Scope ns Γ k → Good ns f → Scope ns (as_let x f Γ) k
unfolding lambdas
scope-let x f ns Γ k s g = record { counts = s.counts; low = s.low; one = s.one; forms = (g, s.forms) }

scope-lambda : (x ns : List ℕ) (Γ : List Meaning) (d : Around) → d.lambdas < open_lambdas → Scope ns Γ d.lambdas
    → Scope (variable_of x Γ ∷ ns) (as_lambda x Γ) (suc d.lambdas)
unfolding lambdas
scope-lambda x ns Γ d few s =
    let v = variable_of x Γ in
    let l = level-is x Γ d s.counts few in
    record {
      counts = ap suc s.counts;
      low = λ y h. has-cases y v ns h (λ e. let same = ap level_in e in omega arith) (λ i. let below = s.low y i in omega arith);
      one = one_more v d.lambdas ns l s.low s.one;
      forms = (good-variable (v ∷ ns) v (omega arith) (has_first v v ns refl), forms-more v ns Γ s.forms);
    }

-- the form f of an expression is good, and its parts, whose forms ps puts in front of others, have bindable forms
record Right (ns : List ℕ) (f : Form) (ps : List Form → List Form) : Type 0 where
  form : Good ns f
  places : (u : List Form) → All Bindable u → All Bindable (ps u)

-- a place in front
led : {ns : List ℕ} {f g : Form} {ps : List Form → List Form} → Good ns f → Right ns g ps → Right ns g (λ u. f ∷ ps u)
led a b = record { form = b.form; places = λ u p. (a.bindable, b.places u p) }

-- one after the other
after : {ns : List ℕ} {f g : Form} {ps qs : List Form → List Form} → Right ns f ps → Right ns g qs → Right ns g (λ u. ps (qs u))
after a b = record { form = b.form; places = λ u p. a.places _ (b.places u p) }

-- what is used of the limits: lambdas are few, and numbers are signed 32-bit
abbrev Kept : Site → Around → Type 0
Kept = Both FewLambdas SmallNumbers

-- of the tree, part by part; ns are the variables of the lambdas around
mutual
  unfolding form_e places_e called opened in_lambda

  right-E : (e : Expression) (d : Around) (ns : List ℕ) (Γ : List Meaning) → EverywhereE Kept e d → Scope ns Γ d.lambdas
      → Right ns (form_e e Γ) (places_e e Γ)
  right-E (let_in x a b) d ns Γ k s =
      let A = right-E a (opened d) ns Γ k.1 s in
      let B = right-E b (opened d) ns (as_let x (form_e a Γ) Γ) k.2 (scope-let x (form_e a Γ) ns Γ d.lambdas s A.form) in
      led B.form (after A B)
  right-E (lambda x b) d ns Γ k s =
      let v = variable_of x Γ in
      let few = k.0.0 in
      let t = scope-lambda x ns Γ d few s in
      let B = right-E b (in_lambda d) (v ∷ ns) (as_lambda x Γ) k.1 t in
      let F = good-function ns v (form_e b (as_lambda x Γ)) (rw (level-is x Γ d s.counts few) few) t.one B.form in
      record { form = F; places = λ u p. (F.bindable, B.places u p) }
  right-E (name x r) d ns Γ k s = let F = good-named ns x Γ s.forms in led F (right-C r d ns Γ (named x Γ) k.1 s F)
  right-E (literal z r) d ns Γ k s = let F = good-number ns z k.0.1 in led F (right-C r d ns Γ (number z) k.1 s F)
  right-E (bracket e r) d ns Γ k s = let E = right-E e (opened d) ns Γ k.1 s in after E (right-C r d ns Γ (form_e e Γ) k.2 s E.form)

  right-C : (r : Calls) (d : Around) (ns : List ℕ) (Γ : List Meaning) (f : Form) → EverywhereC Kept r d → Scope ns Γ d.lambdas → Good ns f
      → Right ns (form_c r f Γ) (places_c r f Γ)
  right-C done d ns Γ f k s g = record { form = g; places = λ u p. p }
  right-C (call m a) d ns Γ f k s g = right-A a m d ns Γ f k.1 s g

  right-A : (a : Arguments) (m : List ℕ) (d : Around) (ns : List ℕ) (Γ : List Meaning) (f : Form) → EverywhereA Kept a d → Scope ns Γ d.lambdas
      → Good ns f → Right ns (form_a a m f Γ) (λ u. called a m f Γ ∷ places_a a (called a m f Γ) Γ u)
  right-A (none r) m d ns Γ f k s g = let F = good-ask ns (member m) f g in led F (right-C r d ns Γ (ask (member m) f) k s F)
  right-A (first e x) m d ns Γ f k s g =
      let E = right-E e (opened d) ns Γ k.0 s in
      let F = good-call ns (member m) f (form_e e Γ) s.one g E.form in
      led F (after E (right-M x d ns Γ (Form.call (member m) f (form_e e Γ)) k.1 s F))

  right-M : (x : More) (d : Around) (ns : List ℕ) (Γ : List Meaning) (f : Form) → EverywhereM Kept x d → Scope ns Γ d.lambdas → Good ns f
      → Right ns (form_m x f Γ) (places_m x f Γ)
  right-M (last r) d ns Γ f k s g = right-C r d ns Γ f k s g
  right-M (next e x) d ns Γ f k s g = after (right-E e (opened d) ns Γ k.0 s) (right-M x d ns Γ f k.1 s g)

-- of a whole text
pub text-bindable : (e : Expression) → KeepsLimits e → All Bindable (forms_by_place e)
unfolding lambdas has_name
text-bindable e h =
    let k = keeps-each e h in
    (right-E e outermost [] [] (both e FewLambdas SmallNumbers k.lambdas k.numbers)
    record { counts = refl; low = λ y h. absurd (false≢true h); one = λ x y p. absurd (false≢true p); forms = tt }).places [] tt
