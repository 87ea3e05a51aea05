-- What the machine's table of steps comes to: the trees of a state are those that its steps and its end make, and every state has trees.
-- Assumes nothing.
use Rattle.std.specs.Prelude.{◌≡◌, refl, Bool, List, [], ◌∷◌, ℕ}
use Rattle.std.proofs.Common.{sym, ap, subst, ◌∙◌, arith}
use Rattle.grammar.specs.Tokens.{Token, k_let, k_in, k_equals, k_lambda, k_arrow, k_dot, k_open, k_shut, k_comma, word, number}
use Rattle.grammar.specs.Grammar.{Expression, Calls, Arguments, More, let_in, lambda, name, literal, bracket, done, call, none, first, last, next}
use Rattle.grammar.specs.Faults.{Around}
use Rattle.grammar.specs.Machine.{Phase, expression, let_name, let_equals, lambda_name, lambda_arrow, calls, member, call_open, arguments, over}
use Rattle.grammar.specs.Machine.{Frame, value, brackets, argument, State, at, Own, Outer, Trees, spell, Step, stop, go, step, End, too_early, finished, finish}

-- the tree is made by the step, or is the end's
abbrev pub From : {s : State} {t : Token} → Step s t → Trees s → Type 0
From stop q = ⊥
From (go n b back p i) q = (r : Trees b) × (back r ≡ q)

abbrev pub AtEnd : {s : State} → End s → Trees s → Type 0
AtEnd too_early q = ⊥
AtEnd (finished r p i) q = r ≡ q

data View (s : State) (q : Trees s) : Type 0 where
  ends : AtEnd (finish s) q → View s q
  begins : (t : Token) → From (step s t) q → View s q

view_expression : (w : Bool) (d : Around) (F : List Frame) (e : Expression) (o : Outer F) → View (at (expression w d) F) (e, o)
unfolding step
view_expression w d F (let_in x a b) o = begins k_let (((x, a, b), o), refl)
view_expression w d F (lambda x b) o = begins k_lambda (((x, b), o), refl)
view_expression w d F (name x r) o = begins (word x) ((r, o), refl)
view_expression w d F (literal z r) o = begins (number z) ((r, o), refl)
view_expression w d F (bracket e r) o = begins k_open ((e, (r, o)), refl)

view_arguments : (k : ℕ) (d : Around) (F : List Frame) (a : Arguments) (o : Outer F) → View (at (arguments k d) F) (a, o)
unfolding step
view_arguments k d F (none r) o = begins k_shut ((r, o), refl)
view_arguments k d F (first (let_in x a b) y) o = begins k_let (((x, a, b), (y, o)), refl)
view_arguments k d F (first (lambda x b) y) o = begins k_lambda (((x, b), (y, o)), refl)
view_arguments k d F (first (name x r) y) o = begins (word x) ((r, (y, o)), refl)
view_arguments k d F (first (literal z r) y) o = begins (number z) ((r, (y, o)), refl)
view_arguments k d F (first (bracket e r) y) o = begins k_open ((e, (r, (y, o))), refl)

view_more : (k : ℕ) (d : Around) (F : List Frame) (x : More) (o : Outer F) → View (at over (argument k d ∷ F)) (tt, (x, o))
unfolding step
view_more k d F (last r) o = begins k_shut ((r, o), refl)
view_more k d F (next e x) o = begins k_comma ((e, (x, o)), refl)

view_over : (F : List Frame) (o : Outer F) → View (at over F) (tt, o)
unfolding step finish
view_over [] o = ends refl
view_over (value x d ∷ F) o = begins k_in (o, refl)
view_over (brackets d ∷ F) o = begins k_shut (o, refl)
view_over (argument k d ∷ F) o = view_more k d F o.0 o.1

-- an atom with no call behind it: as if the expression were over
view_done_more : (d' : Around) (k : ℕ) (d : Around) (F : List Frame) (x : More) (o : Outer F) → View (at (calls d') (argument k d ∷ F)) (done, (x, o))
unfolding step
view_done_more d' k d F (last r) o = begins k_shut ((r, o), refl)
view_done_more d' k d F (next e x) o = begins k_comma ((e, (x, o)), refl)

view_done : (d' : Around) (F : List Frame) (o : Outer F) → View (at (calls d') F) (done, o)
unfolding step finish
view_done d' [] o = ends refl
view_done d' (value x d ∷ F) o = begins k_in (o, refl)
view_done d' (brackets d ∷ F) o = begins k_shut (o, refl)
view_done d' (argument k d ∷ F) o = view_done_more d' k d F o.0 o.1

view_calls : (d : Around) (F : List Frame) (r : Calls) (o : Outer F) → View (at (calls d) F) (r, o)
unfolding step
view_calls d F done o = view_done d F o
view_calls d F (call m a) o = begins k_dot (((m, a), o), refl)

view : (s : State) (q : Trees s) → View s q
unfolding step
view (at (expression w d) F) q = view_expression w d F q.0 q.1
view (at (let_name d) F) q = begins (word q.0.0) (((q.0.1, q.0.2), q.1), refl)
view (at (let_equals x d) F) q = begins k_equals ((q.0.0, (q.0.1, q.1)), refl)
view (at (lambda_name d) F) q = begins (word q.0.0) ((q.0.1, q.1), refl)
view (at (lambda_arrow x d) F) q = begins k_arrow (q, refl)
view (at (calls d) F) q = view_calls d F q.0 q.1
view (at (member d) F) q = begins (word q.0.0) ((q.0.1, q.1), refl)
view (at (call_open k d) F) q = begins k_open (q, refl)
view (at (arguments k d) F) q = view_arguments k d F q.0 q.1
view (at over F) q = view_over F q.1

-- a tree's first token, and its rest
spell-from : {s : State} {t : Token} (x : Step s t) (q : Trees s) → From x q → (r : List Token) × (spell s q ≡ t ∷ r)
spell-from stop q f = absurd f
spell-from {s} (go n b back p i) q f = (spell b f.0, ap (spell s) (sym f.1) ∙ p f.0)

spell-end : {s : State} (x : End s) (q : Trees s) → AtEnd x q → spell s q ≡ []
spell-end too_early q f = absurd f
spell-end {s} (finished r p i) q f = ap (spell s) (sym f) ∙ p

pub no-cons : {A : Type 0} {x : A} {xs : List A} → [] ≡ x ∷ xs → ⊥
no-cons h = let z : ◌≡◌ {A = ℕ} 0 1 = cc in omega arith

-- so a tree that begins with a token is made by the step at that token, and a tree with no token is the end's
pub step-makes : (s : State) (q : Trees s) (t : Token) (ts : List Token) → spell s q ≡ t ∷ ts → From (step s t) q
step-makes s q t ts h = by (view s q)
  where
    by : View s q → From (step s t) q
    by (ends f) = absurd (no-cons (sym (spell-end (finish s) q f) ∙ h))
    by (begins t' f) =
        let z = spell-from (step s t') q f in
        let e : t' ∷ z.0 ≡ t ∷ ts = sym z.1 ∙ h in
        let g : t' ≡ t = cc in
        subst (λ (y : Token). From (step s y) q) g f

pub end-makes : (s : State) (q : Trees s) → spell s q ≡ [] → AtEnd (finish s) q
end-makes s q h = by (view s q)
  where
    by : View s q → AtEnd (finish s) q
    by (ends f) = f
    by (begins t f) = let z = spell-from (step s t) q f in absurd (no-cons (sym h ∙ z.1))

-- trees of a state, whatever it is, with x for each name
some_name : List ℕ
some_name = 120 ∷ []

sample_own : (p : Phase) → Own p
sample_own (expression w d) = name some_name done
sample_own (let_name d) = (some_name, name some_name done, name some_name done)
sample_own (let_equals x d) = (name some_name done, name some_name done)
sample_own (lambda_name d) = (some_name, name some_name done)
sample_own (lambda_arrow x d) = name some_name done
sample_own (calls d) = done
sample_own (member d) = (some_name, none done)
sample_own (call_open k d) = none done
sample_own (arguments k d) = none done
sample_own over = tt

sample_outer : (F : List Frame) → Outer F
sample_outer [] = tt
sample_outer (value x d ∷ F) = (name some_name done, sample_outer F)
sample_outer (brackets d ∷ F) = (done, sample_outer F)
sample_outer (argument k d ∷ F) = (last done, sample_outer F)

pub sample : (s : State) → Trees s
sample (at p F) = (sample_own p, sample_outer F)
