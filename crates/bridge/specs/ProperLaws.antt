-- Every form of a text that is read is proper. Assumes nothing.
use Rattle.std.specs.Prelude.{◌≡◌, refl, true, false, List, [], ◌∷◌, ℕ, suc, ◌<◌, ◌≤◌, eqb, ℤ, length}
use Rattle.std.proofs.lemmas.Bool.{false≢true, cond_both}
use Rattle.std.proofs.Common.{sym, ap, ◌∙◌, arith, eqb-true, eq-eqb, ne_eqb}
use Rattle.members.specs.MembersLaws.{few-arguments}
use Rattle.language.specs.Limits.{open_lambdas}
use Rattle.language.specs.Names.{packed, same_name, is_data, data_word}
use Rattle.members.specs.Members.{arguments}
use Rattle.language.specs.Cases.{split}
use Rattle.grammar.specs.Grammar.{Expression, Calls, Arguments, More, let_in, lambda, name, literal, bracket, done, call, none, first, last, next}
use Rattle.grammar.specs.Faults.{Around, outermost, opened, in_lambda}
use Rattle.grammar.specs.KeptLimits.{Site, a_let, a_lambda, a_bracket, a_name, a_number, a_call, given_a, given_m, EverywhereE, EverywhereC, EverywhereA}
use Rattle.grammar.specs.KeptLimits.{EverywhereM, KeepsLimits, InRange, NotData}
use Rattle.grammar.proofs.SingleLimits.{FewLambdas, ShortNames, DataUnbound, SmallNumbers, RightCalls}
use Rattle.grammar.proofs.KeptLimitsLaws.{keeps-each, weave-E, Both, both}
use Rattle.grammar.proofs.Words.{Worded}
use Rattle.meaning.specs.Forms.{Form, name_in, number, variable, unbound, readings, ask, function}
use Rattle.meaning.specs.Binding.{Meaning, lambdas, look_up, named, as_let, variable_of, as_lambda, member, form_e, form_c, form_a, form_m, called, order_e, order_c, order_a, order_m, forms_in_order}
use Rattle.meaning.specs.Evaluation.{has_name, awaited}
use Rattle.model.specs.Lists.{All}
use Rattle.layout.specs.Nodes.{is_name}
use Rattle.bridge.specs.Recorded.{given-right}
use Rattle.bridge.specs.Words.{word-name}
use Rattle.meaning.proofs.HasLaws.{Has, has-joined, has-without}
use Rattle.bridge.specs.Proper.{Shape, Proper, nodup-awaited, no_more}

-- what is known at each site of a tree that a text is read to
abbrev Known : Site → Around → Type 0
Known (a_let x) d = Unit {0}
Known (a_lambda x) d = (is_name (packed x) ≡ true) × (d.lambdas < open_lambdas)
Known a_bracket d = Unit {0}
Known (a_name x) d = is_data x ≡ false → is_name (packed x) ≡ true
Known (a_number z) d = InRange z
Known (a_call m n) d = arguments (member m) ≡ n

-- the sites known, from the limits and the words
no-data : (x : List ℕ) → NotData x → is_data x ≡ false
unfolding is_data
no-data x h = ne_eqb (packed x) (packed data_word) h

known-site : (s : Site) (d : Around) → Both (Both FewLambdas ShortNames) (Both DataUnbound SmallNumbers) s d → Both RightCalls Worded s d → Known s d
known-site (a_let x) d p q = tt
known-site (a_lambda x) d p q = (word-name x q.1 p.0.1 (no-data x p.1.0), p.0.0)
known-site a_bracket d p q = tt
known-site (a_name x) d p q = λ h. word-name x q.1 p.0.1 h
known-site (a_number z) d p q = p.1.1
known-site (a_call m n) d p q = given-right m n q.0.0 q.0.1

known : (e : Expression) → KeepsLimits e → EverywhereE Worded e outermost → EverywhereE Known e outermost
known e h w =
    let k = keeps-each e h in
    weave-E (Both (Both FewLambdas ShortNames) (Both DataUnbound SmallNumbers)) (Both RightCalls Worded) Known known-site e outermost
    (both e (Both FewLambdas ShortNames) (Both DataUnbound SmallNumbers)
    (both e FewLambdas ShortNames k.lambdas k.names)
    (both e DataUnbound SmallNumbers k.data_free k.numbers))
    (both e RightCalls Worded k.members w)

-- a proper form whose awaited variables are among ns
record Good (f : Form) (ns : List ℕ) : Type 0 where
  proper : Proper f
  within : (y : ℕ) → Has y (awaited f) → Has y ns

good : (f : Form) (ns : List ℕ) → length ns ≤ 2 → Shape f → ((y : ℕ) → Has y (awaited f) → Has y ns) → Good f ns
good f ns l s h = let k = no_more (awaited f) ns (nodup-awaited f) h in record { proper = record { shape = s; few = omega arith }; within = h }

good_more : (f : Form) (x : ℕ) (ns : List ℕ) → Good f ns → Good f (x ∷ ns)
unfolding has_name
good_more f x ns g = record { proper = g.proper; within = λ y h. let i = g.within y h in split (eqb y x) (λ e. rw e) (λ e. rw e i) }

abbrev GoodAll : List Meaning → List ℕ → Type 0
GoodAll Γ ns = All (λ (e : Meaning). Good e.1 ns) Γ

good-all-more : (Γ : List Meaning) (x : ℕ) (ns : List ℕ) → GoodAll Γ ns → GoodAll Γ (x ∷ ns)
good-all-more [] x ns h = tt
good-all-more (e ∷ Γ) x ns h = (good_more e.1 x ns h.0, good-all-more Γ x ns h.1)

-- each form from the forms that it is made of
good-leaf : (f : Form) (ns : List ℕ) → length ns ≤ 2 → Shape f → ((y : ℕ) → has_name y (awaited f) ≡ false) → Good f ns
good-leaf f ns l s h = good f ns l s (λ y e. absurd (false≢true (sym (h y) ∙ e)))

good-lookup : (x : List ℕ) (Γ : List Meaning) (ns : List ℕ) → length ns ≤ 2 → GoodAll Γ ns → is_name (packed x) ≡ true → Good (look_up x Γ) ns
unfolding look_up awaited has_name
good-lookup x [] ns l h n = good-leaf (unbound (packed x)) ns l n (λ y. refl)
good-lookup x (e ∷ Γ) ns l h n =
    cond_both (same_name x e.0) e.1 (look_up x Γ) (λ (f : Form). Good f ns) (λ q. h.0) (λ q. good-lookup x Γ ns l h.1 n)

good-named : (x : List ℕ) (Γ : List Meaning) (ns : List ℕ) → length ns ≤ 2 → GoodAll Γ ns → (is_data x ≡ false → is_name (packed x) ≡ true) → Good (named x Γ) ns
unfolding named awaited has_name
good-named x Γ ns l h n =
    cond_both (is_data x) readings (look_up x Γ) (λ (f : Form). Good f ns) (λ q. good-leaf readings ns l tt (λ y. refl))
    (λ q. good-lookup x Γ ns l h (n q))

good-number : (z : ℤ) (ns : List ℕ) → length ns ≤ 2 → InRange z → Good (number z) ns
unfolding awaited has_name
good-number z ns l h = good-leaf (number z) ns l h (λ y. refl)

good-ask : (m : List ℕ) (f : Form) (ns : List ℕ) → length ns ≤ 2 → arguments (member m) ≡ 0 → Good f ns → Good (ask (member m) f) ns
unfolding awaited
good-ask m f ns l e g = good (ask (member m) f) ns l e g.within

good-call : (m : List ℕ) (f a : Form) (ns : List ℕ) → length ns ≤ 2 → arguments (member m) ≡ 1 → Good f ns → Good a ns → Good (Form.call (member m) f a) ns
unfolding awaited
good-call m f a ns l e g h = good (Form.call (member m) f a) ns l e (λ y i. has-joined y (awaited f) (awaited a) ns g.within h.within i)

good-variable : (x : ℕ) (ns : List ℕ) → length ns ≤ 2 → is_name (name_in x) ≡ true → Has x ns → Good (variable x) ns
unfolding awaited has_name
good-variable x ns l n i = good (variable x) ns l n (λ y h. split (eqb y x) (λ e. rw (eqb-true y x e) i) (λ e. absurd (false≢true (rw e at h))))

good-function : (x : ℕ) (b : Form) (ns : List ℕ) → length ns ≤ 2 → is_name (name_in x) ≡ true → Good b (x ∷ ns) → Good (function x b) ns
unfolding awaited has_name
good-function x b ns l n g =
    good (function x b) ns l n
    (λ y h.
    let r = has-without y x (awaited b) h in
    let i = g.within y r.0 in
    split (eqb y x) (λ e. absurd (false≢true (sym r.1 ∙ eq-eqb x y (sym (eqb-true y x e))))) (λ e. rw e at i))

first-has : (x : ℕ) (ns : List ℕ) → Has x (x ∷ ns)
unfolding has_name
first-has x ns = rw (eq-eqb x x refl)

one_argument : (x : More) (k : ℕ) → k ≤ 1 → k ≡ given_a (first (name [] done) x) → k ≡ 1
unfolding given_a
one_argument x k h e = omega arith

-- the forms in order, each proper; ns are the variables of the lambdas around
-- as many variables as there are lambdas around, and at most two
abbrev Sized : List ℕ → List Meaning → Around → Type 0
Sized ns Γ d = (length ns ≡ d.lambdas) × (d.lambdas ≡ lambdas Γ) × (length ns ≤ 2)

mutual
  unfolding order_e form_e called lambdas opened in_lambda given_a given_m

  good_e : (e : Expression) (d : Around) (ns : List ℕ) (Γ : List Meaning) → EverywhereE Known e d → Sized ns Γ d → GoodAll Γ ns
      → (u : List Form) → All Proper u → Good (form_e e Γ) ns × All Proper (order_e e Γ u)
  good_e (let_in x a b) d ns Γ k l g u p =
      let gb = good_e b (opened d) ns (as_let x (form_e a Γ) Γ) k.2 l ((good_e a (opened d) ns Γ k.1 l g [] tt).0, g) u p in
      (gb.0, (good_e a (opened d) ns Γ k.1 l g (order_e b (as_let x (form_e a Γ) Γ) u) gb.1).1)
  good_e (lambda x b) d ns Γ k l g u p =
      let v = variable_of x Γ in
      let size = l.0 in
      let counts = l.1 in
      let room = k.0.1 in
      let n : name_in v ≡ packed x = omega arith in
      let name : is_name (name_in v) ≡ true = rw n k.0.0 in
      let more : Sized (v ∷ ns) (as_lambda x Γ) (in_lambda d) = (ap suc size, ap suc counts, omega arith) in
      let env : GoodAll (as_lambda x Γ) (v ∷ ns) = (good-variable v (v ∷ ns) more.2 name (first-has v ns), good-all-more Γ v ns g) in
      let f = good-function v (form_e b (as_lambda x Γ)) ns l.2 name (good_e b (in_lambda d) (v ∷ ns) (as_lambda x Γ) k.1 more env [] tt).0 in
      (f, (good_e b (in_lambda d) (v ∷ ns) (as_lambda x Γ) k.1 more env (function v (form_e b (as_lambda x Γ)) ∷ u) (f.proper, p)).1)
  good_e (name x r) d ns Γ k l g u p =
      let f = good-named x Γ ns l.2 g k.0 in
      let c = good_c r d (named x Γ) ns Γ k.1 l g f u p in
      (c.0, (f.proper, c.1))
  good_e (literal z r) d ns Γ k l g u p =
      let f = good-number z ns l.2 k.0 in
      let c = good_c r d (number z) ns Γ k.1 l g f u p in
      (c.0, (f.proper, c.1))
  good_e (bracket e r) d ns Γ k l g u p =
      let c = good_c r d (form_e e Γ) ns Γ k.2 l g (good_e e (opened d) ns Γ k.1 l g [] tt).0 u p in
      (c.0, (good_e e (opened d) ns Γ k.1 l g (order_c r (form_e e Γ) Γ u) c.1).1)

  good_c : (r : Calls) (d : Around) (f : Form) (ns : List ℕ) (Γ : List Meaning) → EverywhereC Known r d → Sized ns Γ d
      → GoodAll Γ ns → Good f ns
      → (u : List Form) → All Proper u → Good (form_c r f Γ) ns × All Proper (order_c r f Γ u)
  good_c done d f ns Γ k l g h u p = (h, p)
  good_c (call m a) d f ns Γ k l g h u p = good_a a m d f ns Γ k.0 k.1 l g h u p

  good_a : (a : Arguments) (m : List ℕ) (d : Around) (f : Form) (ns : List ℕ) (Γ : List Meaning) → arguments (member m) ≡ given_a a → EverywhereA Known a d → Sized ns Γ d
      → GoodAll Γ ns → Good f ns
      → (u : List Form) → All Proper u → Good (form_a a m f Γ) ns × All Proper (order_a a (called a m f Γ) Γ u)
  good_a (none r) m d f ns Γ e k l g h u p =
      let q = good-ask m f ns l.2 e h in
      let c = good_c r d (ask (member m) f) ns Γ k l g q u p in
      (c.0, (q.proper, c.1))
  good_a (first e' x) m d f ns Γ e k l g h u p =
      let few = few-arguments (member m) in
      let q = good-call m f (form_e e' Γ) ns l.2 (one_argument x (arguments (member m)) few e) h (good_e e' (opened d) ns Γ k.0 l g [] tt).0 in
      let c = good_m x d (Form.call (member m) f (form_e e' Γ)) ns Γ k.1 l g q u p in
      (c.0, (good_e e' (opened d) ns Γ k.0 l g (order_m x (Form.call (member m) f (form_e e' Γ)) Γ u) c.1).1)

  good_m : (x : More) (d : Around) (f : Form) (ns : List ℕ) (Γ : List Meaning) → EverywhereM Known x d → Sized ns Γ d
      → GoodAll Γ ns → Good f ns
      → (u : List Form) → All Proper u → Good (form_m x f Γ) ns × All Proper (order_m x f Γ u)
  good_m (last r) d f ns Γ k l g h u p = let c = good_c r d f ns Γ k l g h u p in (c.0, (h.proper, c.1))
  good_m (next e x) d f ns Γ k l g h u p =
      let c = good_m x d f ns Γ k.1 l g h u p in
      (c.0, (good_e e (opened d) ns Γ k.0 l g (order_m x f Γ u) c.1).1)

-- of a whole tree whose names are words
pub all-proper : (e : Expression) → KeepsLimits e → EverywhereE Worded e outermost → All Proper (forms_in_order e)
unfolding lambdas
all-proper e k w = (good_e e outermost [] [] (known e k w) (refl, refl, omega arith) tt [] tt).1
