-- The forms of a text in the order of binding: dependencies come first, and every part is among them. Assumes nothing.
use Rattle.std.specs.Prelude.{◌≡◌, refl, Bool, true, false, cond, List, [], ◌∷◌, ℕ, ℤ}
use Rattle.std.proofs.lemmas.Bool.{false≢true, cond_both}
use Rattle.std.proofs.Common.{sym, ◌∙◌}
use Rattle.language.specs.Names.{packed, same_name, is_data}
use Rattle.language.specs.Cases.{split, either}
use Rattle.grammar.specs.Grammar.{Expression, Calls, Arguments, More, let_in, lambda, name, literal, bracket, done, call, none, first, last, next}
use Rattle.meaning.specs.Forms.{Form, number, variable, unbound, readings, ask, function, same, dependency}
use Rattle.meaning.proofs.FormsLaws.{same-eq, same_self}
use Rattle.meaning.specs.Binding.{Meaning, look_up, named, as_let, variable_of, as_lambda, member, form_e, form_c, form_a, form_m, called, places_e}
use Rattle.meaning.specs.Binding.{places_c, places_a, places_m, order_e, order_c, order_a, order_m, form_of, forms_by_place, forms_in_order}
use Rattle.model.specs.Lists.{All, member as is_in}
use Rattle.model.specs.Laws.{Ordered, Among}
use Rattle.formulas.specs.Formulas.{formulas}

-- f is in the list; the dependencies of f are in the list; each form of the first list is in the second
abbrev In : Form → List Form → Type 0
In f fs = is_in same f fs ≡ true

abbrev Based : Form → List Form → Type 0
Based f fs = (d : Form) → dependency d f ≡ true → In d fs

abbrev Sub : List Form → List Form → Type 0
Sub fs gs = (f : Form) → In f fs → In f gs

in-self : (f : Form) (fs : List Form) → In f (f ∷ fs)
unfolding is_in
in-self f fs = rw (same_self f)

in-more : (g : Form) (fs : List Form) → Sub fs (g ∷ fs)
unfolding is_in
in-more g fs f h = by (same g f)
  where
    by : (b : Bool) → cond b true (is_in same f fs) ≡ true
    by true = refl
    by false = h

based-more : (g f : Form) (fs : List Form) → Based f fs → Based f (g ∷ fs)
based-more g f fs h d e = in-more g fs d (h d e)

-- forms with no dependency
based-leaf : (f : Form) (fs : List Form) → ((d : Form) → dependency d f ≡ false) → Based f fs
based-leaf f fs h d e = absurd (false≢true (sym (h d) ∙ e))

-- every name stands for a form whose dependencies are in the list
abbrev Grounded : List Meaning → List Form → Type 0
Grounded Γ fs = All (λ (e : Meaning). Based e.1 fs) Γ

grounded-sub : (Γ : List Meaning) (fs gs : List Form) → Sub fs gs → Grounded Γ fs → Grounded Γ gs
grounded-sub [] fs gs s h = tt
grounded-sub (e ∷ Γ) fs gs s h = (λ d q. s d (h.0 d q), grounded-sub Γ fs gs s h.1)

based-lookup : (x : List ℕ) (Γ : List Meaning) (fs : List Form) → Grounded Γ fs → Based (look_up x Γ) fs
unfolding look_up dependency
based-lookup x [] fs h = based-leaf (unbound (packed x)) fs (λ d. refl)
based-lookup x (e ∷ Γ) fs h =
    cond_both (same_name x e.0) e.1 (look_up x Γ) (λ (f : Form). Based f fs) (λ _. h.0) (λ _. based-lookup x Γ fs h.1)

based-named : (x : List ℕ) (Γ : List Meaning) (fs : List Form) → Grounded Γ fs → Based (named x Γ) fs
unfolding named dependency
based-named x Γ fs h =
    cond_both (is_data x) readings (look_up x Γ) (λ (f : Form). Based f fs) (λ _. based-leaf readings fs (λ d. refl)) (λ _. based-lookup x Γ fs h)

grounded-lambda : (x : List ℕ) (Γ : List Meaning) (fs : List Form) → Grounded Γ fs → Grounded (as_lambda x Γ) fs
unfolding dependency
grounded-lambda x Γ fs h = (based-leaf (variable (variable_of x Γ)) fs (λ d. refl), h)

based-number : (z : ℤ) (fs : List Form) → Based (number z) fs
unfolding dependency
based-number z fs = based-leaf (number z) fs (λ d. refl)

based-ask : (m : List ℕ) (f : Form) (fs : List Form) → In f fs → Based (ask (member m) f) fs
unfolding dependency
based-ask m f fs h d e = rw (same-eq d f e) h

based-call : (m : List ℕ) (f a : Form) (fs : List Form) → In f fs → In a fs → Based (Form.call (member m) f a) fs
unfolding dependency
based-call m f a fs h k d e = either (same d f) (same d a) e (λ q. rw (same-eq d f q) h) (λ q. rw (same-eq d a q) k)

based-function : (x : ℕ) (b : Form) (fs : List Form) → In b fs → Based (function x b) fs
unfolding dependency
based-function x b fs h d e = rw (same-eq d b e) h

-- what follows, behind forms in which those of pre and f are, with f's dependencies
abbrev Then : List Form → Form → List Form → Type 0
Then pre f u = (q : List Form) → Sub pre q → In f q → Based f q → Ordered formulas q u

-- a form at the front, whose dependencies are there
emit : (pre : List Form) (f : Form) (u : List Form) → Based f pre → Then pre f u → Ordered formulas pre (f ∷ u)
emit pre f u h k = (h, k (f ∷ pre) (in-more f pre) (in-self f pre) (based-more f f pre h))

onward : (pre q : List Form) (f : Form) (u : List Form) → Sub pre q → Then pre f u → Then q f u
onward pre q f u s k q' s' = k q' (λ x i. s' x (s x i))

mutual
  unfolding order_e form_e called

  ordered_e : (e : Expression) (Γ : List Meaning) (u pre : List Form) → Grounded Γ pre → Then pre (form_e e Γ) u → Ordered formulas pre (order_e e Γ u)
  ordered_e (let_in x a b) Γ u pre g k =
      ordered_e a Γ (order_e b (as_let x (form_e a Γ) Γ) u) pre g
      (λ q s i h. ordered_e b (as_let x (form_e a Γ) Γ) u q (h, grounded-sub Γ pre q s g) (onward pre q _ u s k))
  ordered_e (lambda x b) Γ u pre g k =
      ordered_e b (as_lambda x Γ) (function (variable_of x Γ) (form_e b (as_lambda x Γ)) ∷ u) pre (grounded-lambda x Γ pre g)
      (λ q s i h. emit q (function (variable_of x Γ) (form_e b (as_lambda x Γ))) u (based-function (variable_of x Γ) _ q i) (onward pre q _ u s k))
  ordered_e (name x r) Γ u pre g k =
      emit pre (named x Γ) (order_c r (named x Γ) Γ u) (based-named x Γ pre g)
      (λ q s i h. ordered_c r (named x Γ) Γ u q (grounded-sub Γ pre q s g) i h (onward pre q _ u s k))
  ordered_e (literal z r) Γ u pre g k =
      emit pre (number z) (order_c r (number z) Γ u) (based-number z pre)
      (λ q s i h. ordered_c r (number z) Γ u q (grounded-sub Γ pre q s g) i h (onward pre q _ u s k))
  ordered_e (bracket e r) Γ u pre g k =
      ordered_e e Γ (order_c r (form_e e Γ) Γ u) pre g
      (λ q s i h. ordered_c r (form_e e Γ) Γ u q (grounded-sub Γ pre q s g) i h (onward pre q _ u s k))

  ordered_c : (r : Calls) (f : Form) (Γ : List Meaning) (u pre : List Form) → Grounded Γ pre → In f pre → Based f pre → Then pre (form_c r f Γ) u → Ordered formulas pre (order_c r f Γ u)
  ordered_c done f Γ u pre g i h k = k pre (λ x j. j) i h
  ordered_c (call m a) f Γ u pre g i h k = ordered_a a m f Γ u pre g i k

  ordered_a : (a : Arguments) (m : List ℕ) (f : Form) (Γ : List Meaning) (u pre : List Form) → Grounded Γ pre → In f pre → Then pre (form_a a m f Γ) u
      → Ordered formulas pre (order_a a (called a m f Γ) Γ u)
  ordered_a (none r) m f Γ u pre g i k =
      emit pre (ask (member m) f) (order_c r (ask (member m) f) Γ u) (based-ask m f pre i)
      (λ q s j h. ordered_c r (ask (member m) f) Γ u q (grounded-sub Γ pre q s g) j h (onward pre q _ u s k))
  ordered_a (first e x) m f Γ u pre g i k =
      ordered_e e Γ (order_m x (Form.call (member m) f (form_e e Γ)) Γ u) pre g
      (λ q s j h. ordered_m x (Form.call (member m) f (form_e e Γ)) Γ u q (grounded-sub Γ pre q s g) (based-call m f (form_e e Γ) q (s f i) j) (onward pre q _ u s k))

  ordered_m : (x : More) (f : Form) (Γ : List Meaning) (u pre : List Form) → Grounded Γ pre → Based f pre → Then pre (form_m x f Γ) u → Ordered formulas pre (order_m x f Γ u)
  ordered_m (last r) f Γ u pre g h k =
      emit pre f (order_c r f Γ u) h
      (λ q s j i. ordered_c r f Γ u q (grounded-sub Γ pre q s g) j i (onward pre q _ u s k))
  ordered_m (next e x) f Γ u pre g h k =
      ordered_e e Γ (order_m x f Γ u) pre g
      (λ q s j i. ordered_m x f Γ u q (grounded-sub Γ pre q s g) (λ d w. s d (h d w)) (onward pre q _ u s k))

-- dependencies come first
pub ordered : (e : Expression) → Ordered formulas [] (forms_in_order e)
ordered e = ordered_e e [] [] [] tt (λ q s i h. tt)

-- what is in u is in the list that goes on with u, and so is the form of the expression
mutual
  unfolding order_e form_e called

  rest_e : (e : Expression) (Γ : List Meaning) (u : List Form) → Sub u (order_e e Γ u)
  rest_e (let_in x a b) Γ u f i = rest_e a Γ (order_e b (as_let x (form_e a Γ) Γ) u) f (rest_e b (as_let x (form_e a Γ) Γ) u f i)
  rest_e (lambda x b) Γ u f i = rest_e b (as_lambda x Γ) _ f (in-more _ u f i)
  rest_e (name x r) Γ u f i = in-more (named x Γ) _ f (rest_c r (named x Γ) Γ u f i)
  rest_e (literal z r) Γ u f i = in-more (number z) _ f (rest_c r (number z) Γ u f i)
  rest_e (bracket e r) Γ u f i = rest_e e Γ _ f (rest_c r (form_e e Γ) Γ u f i)

  rest_c : (r : Calls) (g : Form) (Γ : List Meaning) (u : List Form) → Sub u (order_c r g Γ u)
  rest_c done g Γ u f i = i
  rest_c (call m a) g Γ u f i = rest_a a (called a m g Γ) Γ u f i

  rest_a : (a : Arguments) (g : Form) (Γ : List Meaning) (u : List Form) → Sub u (order_a a g Γ u)
  rest_a (none r) g Γ u f i = in-more g _ f (rest_c r g Γ u f i)
  rest_a (first e x) g Γ u f i = rest_e e Γ _ f (rest_m x g Γ u f i)

  rest_m : (x : More) (g : Form) (Γ : List Meaning) (u : List Form) → Sub u (order_m x g Γ u)
  rest_m (last r) g Γ u f i = in-more g _ f (rest_c r g Γ u f i)
  rest_m (next e x) g Γ u f i = rest_e e Γ _ f (rest_m x g Γ u f i)

-- the form of a receiver with its calls is in any list that has the receiver's and what its calls add
mutual
  unfolding order_e form_e called

  whole_e : (e : Expression) (Γ : List Meaning) (u : List Form) → In (form_e e Γ) (order_e e Γ u)
  whole_e (let_in x a b) Γ u = rest_e a Γ _ _ (whole_e b (as_let x (form_e a Γ) Γ) u)
  whole_e (lambda x b) Γ u = rest_e b (as_lambda x Γ) _ _ (in-self _ u)
  whole_e (name x r) Γ u = whole_c r (named x Γ) Γ u (named x Γ ∷ order_c r (named x Γ) Γ u) (in-more _ _) (in-self _ _)
  whole_e (literal z r) Γ u = whole_c r (number z) Γ u (number z ∷ order_c r (number z) Γ u) (in-more _ _) (in-self _ _)
  whole_e (bracket e r) Γ u = whole_c r (form_e e Γ) Γ u (order_e e Γ (order_c r (form_e e Γ) Γ u)) (rest_e e Γ _) (whole_e e Γ _)

  whole_c : (r : Calls) (f : Form) (Γ : List Meaning) (u l : List Form) → Sub (order_c r f Γ u) l → In f l → In (form_c r f Γ) l
  whole_c done f Γ u l s i = i
  whole_c (call m a) f Γ u l s i = whole_a a m f Γ u l s

  whole_a : (a : Arguments) (m : List ℕ) (f : Form) (Γ : List Meaning) (u l : List Form) → Sub (order_a a (called a m f Γ) Γ u) l → In (form_a a m f Γ) l
  whole_a (none r) m f Γ u l s = whole_c r (ask (member m) f) Γ u l (λ g i. s g (in-more _ _ g i)) (s _ (in-self _ _))
  whole_a (first e x) m f Γ u l s = whole_m x (Form.call (member m) f (form_e e Γ)) Γ u l (λ g i. s g (rest_e e Γ _ g i))

  whole_m : (x : More) (f : Form) (Γ : List Meaning) (u l : List Form) → Sub (order_m x f Γ u) l → In (form_m x f Γ) l
  whole_m (last r) f Γ u l s = whole_c r f Γ u l (λ g i. s g (in-more _ _ g i)) (s _ (in-self _ _))
  whole_m (next e x) f Γ u l s = whole_m x f Γ u l (λ g i. s g (rest_e e Γ _ g i))

-- the forms by place are all in it
abbrev AllIn : List Form → List Form → Type 0
AllIn l = All (λ (f : Form). In f l)

-- the call's own form is emitted
own_m : (x : More) (f : Form) (Γ : List Meaning) (u l : List Form) → Sub (order_m x f Γ u) l → In f l
unfolding order_e
own_m (last r) f Γ u l s = s _ (in-self _ _)
own_m (next e x) f Γ u l s = own_m x f Γ u l (λ g i. s g (rest_e e Γ _ g i))

own_a : (a : Arguments) (m : List ℕ) (f : Form) (Γ : List Meaning) (u l : List Form) → Sub (order_a a (called a m f Γ) Γ u) l → In (called a m f Γ) l
unfolding order_e called
own_a (none r) m f Γ u l s = s _ (in-self _ _)
own_a (first e x) m f Γ u l s = own_m x (Form.call (member m) f (form_e e Γ)) Γ u l (λ g i. s g (rest_e e Γ _ g i))

mutual
  unfolding order_e places_e form_e called

  placed_e : (e : Expression) (Γ : List Meaning) (u v l : List Form) → Sub (order_e e Γ u) l → AllIn l v → AllIn l (places_e e Γ v)
  placed_e (let_in x a b) Γ u v l s h = (
    s _ (whole_e (let_in x a b) Γ u),
    placed_e a Γ (order_e b (as_let x (form_e a Γ) Γ) u) _ l s
        (placed_e b (as_let x (form_e a Γ) Γ) u v l (λ f i. s f (rest_e a Γ _ f i)) h),
  )
  placed_e (lambda x b) Γ u v l s h = (s _ (whole_e (lambda x b) Γ u), placed_e b (as_lambda x Γ) _ v l s h)
  placed_e (name x r) Γ u v l s h = (s _ (in-self _ _), placed_c r (named x Γ) Γ u v l (λ f i. s f (in-more _ _ f i)) h)
  placed_e (literal z r) Γ u v l s h = (s _ (in-self _ _), placed_c r (number z) Γ u v l (λ f i. s f (in-more _ _ f i)) h)
  placed_e (bracket e r) Γ u v l s h = placed_e e Γ (order_c r (form_e e Γ) Γ u) _ l s (placed_c r (form_e e Γ) Γ u v l (λ f i. s f (rest_e e Γ _ f i)) h)

  placed_c : (r : Calls) (f : Form) (Γ : List Meaning) (u v l : List Form) → Sub (order_c r f Γ u) l → AllIn l v → AllIn l (places_c r f Γ v)
  placed_c done f Γ u v l s h = h
  placed_c (call m a) f Γ u v l s h = (own_a a m f Γ u l s, placed_a a (called a m f Γ) Γ u v l s h)

  placed_a : (a : Arguments) (f : Form) (Γ : List Meaning) (u v l : List Form) → Sub (order_a a f Γ u) l → AllIn l v → AllIn l (places_a a f Γ v)
  placed_a (none r) f Γ u v l s h = placed_c r f Γ u v l (λ g i. s g (in-more _ _ g i)) h
  placed_a (first e x) f Γ u v l s h = placed_e e Γ (order_m x f Γ u) _ l s (placed_m x f Γ u v l (λ g i. s g (rest_e e Γ _ g i)) h)

  placed_m : (x : More) (f : Form) (Γ : List Meaning) (u v l : List Form) → Sub (order_m x f Γ u) l → AllIn l v → AllIn l (places_m x f Γ v)
  placed_m (last r) f Γ u v l s h = placed_c r f Γ u v l (λ g i. s g (in-more _ _ g i)) h
  placed_m (next e x) f Γ u v l s h = placed_e e Γ (order_m x f Γ u) _ l s (placed_m x f Γ u v l (λ g i. s g (rest_e e Γ _ g i)) h)

all_among : (fs l : List Form) → AllIn l fs → Among formulas fs l
unfolding is_in
all_among [] l h f i = absurd (false≢true i)
all_among (g ∷ fs) l h f i = split (same g f) (λ e. rw (← same-eq g f e) h.0) (λ e. all_among fs l h.1 f (rw e at i))

-- the whole and every part are bound
pub bound : (e : Expression) → Among formulas (form_of e ∷ forms_by_place e) (forms_in_order e)
bound e = all_among (form_of e ∷ forms_by_place e) (forms_in_order e) (whole_e e [] [], placed_e e [] [] [] (forms_in_order e) (λ f i. i) tt)
