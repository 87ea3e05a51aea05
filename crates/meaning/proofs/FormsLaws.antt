-- The test `same` is equality of forms, and what lies within a form is the form itself or lies within a dependency. Assumes nothing.
use Rattle.std.specs.Prelude.{◌≡◌, refl, ◌↔◌, ◌⊎◌, true, ◌||◌, ℕ, zero, suc, ◌<◌, ℤ, pos, negsuc}
use Rattle.std.proofs.lemmas.Bool.{false≢true, or_right}
use Rattle.std.proofs.Common.{sym, ap, subst, inl, inr, arith, eqb-true, eq-eqb}
use Rattle.std.proofs.Math.Bool.{and-eq-true_iff}
use Rattle.language.specs.Cases.{either}
use Rattle.members.specs.Members.{member_number}
use Rattle.members.specs.MembersLaws.{number-injective}
use Rattle.members.specs.declared.Member.{Member}
use Rattle.rules.specs.Values.{sameℤ}
use Rattle.meaning.specs.Forms.{IsDependency, of_ask, receiver, argument, body, AtOrBelow, itself, through}
use Rattle.meaning.specs.Forms.{Form, number, variable, unbound, readings, ask, call, function, same, dependency, within, works}
use Rattle.meaning.specs.Forms.{level_base, with_level, name_in, level_in, same_member, shape_of, integer_of, name_of, member_of, first_of, second_of}

-- pieces
sameℤ-eq : (a b : ℤ) → sameℤ a b ≡ true → a ≡ b
sameℤ-eq (pos m) (pos n) h = ap pos (eqb-true m n h)
sameℤ-eq (pos m) (negsuc n) h = absurd (false≢true h)
sameℤ-eq (negsuc m) (pos n) h = absurd (false≢true h)
sameℤ-eq (negsuc m) (negsuc n) h = ap negsuc (eqb-true m n h)

sameℤ-self : (a : ℤ) → sameℤ a a ≡ true
sameℤ-self (pos m) = eq-eqb m m refl
sameℤ-self (negsuc m) = eq-eqb m m refl

same_member-eq : (m n : Member) → same_member m n ≡ true → m ≡ n
same_member-eq m n h = number-injective m n (eqb-true (member_number m) (member_number n) h)

-- a form is made of its pieces
remake : ℕ → ℤ → ℕ → Member → Form → Form → Form
remake zero z x m f a = number z
remake (suc zero) z x m f a = variable x
remake (suc (suc zero)) z x m f a = unbound x
remake (suc (suc (suc zero))) z x m f a = readings
remake (suc (suc (suc (suc zero)))) z x m f a = ask m f
remake (suc (suc (suc (suc (suc zero))))) z x m f a = call m f a
remake (suc (suc (suc (suc (suc (suc n)))))) z x m f a = function x f

remade : (g : Form) → remake (shape_of g) (integer_of g) (name_of g) (member_of g) (first_of g) (second_of g) ≡ g
unfolding remake shape_of integer_of name_of member_of first_of second_of
remade (number z) = refl
remade (variable x) = refl
remade (unbound x) = refl
remade readings = refl
remade (ask m f) = refl
remade (call m f a) = refl
remade (function x b) = refl

pub same-eq : (f g : Form) → same f g ≡ true → f ≡ g
unfolding same remake
same-eq (number z) g h =
    let p = (and-eq-true_iff _ _).0 h in
    let s = eqb-true 0 (shape_of g) p.0 in
    let i = sameℤ-eq z (integer_of g) p.1 in
    rw (← s, ← i) at (remade g)
same-eq (variable x) g h =
    let p = (and-eq-true_iff _ _).0 h in
    let s = eqb-true 1 (shape_of g) p.0 in
    let i = eqb-true x (name_of g) p.1 in
    rw (← s, ← i) at (remade g)
same-eq (unbound x) g h =
    let p = (and-eq-true_iff _ _).0 h in
    let s = eqb-true 2 (shape_of g) p.0 in
    let i = eqb-true x (name_of g) p.1 in
    rw (← s, ← i) at (remade g)
same-eq readings g h =
    let s = eqb-true 3 (shape_of g) h in
    rw (← s) at (remade g)
same-eq (ask m f) g h =
    let p = (and-eq-true_iff _ _).0 h in
    let q = (and-eq-true_iff _ _).0 p.1 in
    let s = eqb-true 4 (shape_of g) p.0 in
    let i = same_member-eq m (member_of g) q.0 in
    let j = same-eq f (first_of g) q.1 in
    rw (← s, ← i, ← j) at (remade g)
same-eq (call m f a) g h =
    let p = (and-eq-true_iff _ _).0 h in
    let q = (and-eq-true_iff _ _).0 p.1 in
    let r = (and-eq-true_iff _ _).0 q.1 in
    let s = eqb-true 5 (shape_of g) p.0 in
    let i = same_member-eq m (member_of g) q.0 in
    let j = same-eq f (first_of g) r.0 in
    let k = same-eq a (second_of g) r.1 in
    rw (← s, ← i, ← j, ← k) at (remade g)
same-eq (function x b) g h =
    let p = (and-eq-true_iff _ _).0 h in
    let q = (and-eq-true_iff _ _).0 p.1 in
    let s = eqb-true 6 (shape_of g) p.0 in
    let i = eqb-true x (name_of g) q.0 in
    let j = same-eq b (first_of g) q.1 in
    rw (← s, ← i, ← j) at (remade g)

pub same_self : (f : Form) → same f f ≡ true
unfolding same shape_of integer_of name_of member_of first_of second_of
same_self (number z) = sameℤ-self z
same_self (variable x) = eq-eqb x x refl
same_self (unbound x) = eq-eqb x x refl
same_self readings = refl
same_self (ask m f) = rw (eq-eqb (member_number m) (member_number m) refl, same_self f)
same_self (call m f a) = rw (eq-eqb (member_number m) (member_number m) refl, same_self f, same_self a)
same_self (function x b) = rw (eq-eqb x x refl, same_self b)

-- within
pub within-self : (f : Form) → within f f ≡ true
unfolding within
within-self (number z) = same_self (number z)
within-self (variable x) = same_self (variable x)
within-self (unbound x) = same_self (unbound x)
within-self readings = same_self readings
within-self (ask m f) = rw (same_self (ask m f))
within-self (call m f a) = rw (same_self (call m f a))
within-self (function x b) = rw (same_self (function x b))

-- a dependency of what lies within g lies within g
pub dependency-within : (d f : Form) → dependency d f ≡ true → within d f ≡ true
unfolding dependency within
dependency-within d (number z) h = absurd (false≢true h)
dependency-within d (variable x) h = absurd (false≢true h)
dependency-within d (unbound x) h = absurd (false≢true h)
dependency-within d readings h = absurd (false≢true h)
dependency-within d (ask m f) h = or_right (same d (ask m f)) _ (subst (λ x. within x f ≡ true) (sym (same-eq d f h)) (within-self f))
dependency-within d (call m f a) h =
    or_right (same d (call m f a)) _
    (either (same d f) (same d a) h
    (λ e. let q : within d f ≡ true = subst (λ x. within x f ≡ true) (sym (same-eq d f e)) (within-self f) in rw q)
    (λ e. or_right (within d f) _ (subst (λ x. within x a ≡ true) (sym (same-eq d a e)) (within-self a))))
dependency-within d (function x b) h = or_right (same d (function x b)) _ (subst (λ x. within x b ≡ true) (sym (same-eq d b h)) (within-self b))

-- what lies within something within g lies within g
pub within-trans : (d f g : Form) → within d f ≡ true → within f g ≡ true → within d g ≡ true
unfolding within
within-trans d f (number z) h k = rw (same-eq f (number z) k) at h
within-trans d f (variable x) h k = rw (same-eq f (variable x) k) at h
within-trans d f (unbound x) h k = rw (same-eq f (unbound x) k) at h
within-trans d f readings h k = rw (same-eq f readings k) at h
within-trans d f (ask m g) h k =
    either (same f (ask m g)) (within f g) k
    (λ e. rw (same-eq f (ask m g) e) at h)
    (λ e. or_right (same d (ask m g)) _ (within-trans d f g h e))
within-trans d f (call m g a) h k =
    either (same f (call m g a)) (within f g || within f a) k
    (λ e. rw (same-eq f (call m g a) e) at h)
    (λ e.
    or_right (same d (call m g a)) _
    (either (within f g) (within f a) e
    (λ i. rw (within-trans d f g h i))
    (λ i. or_right (within d g) _ (within-trans d f a h i))))
within-trans d f (function x b) h k =
    either (same f (function x b)) (within f b) k
    (λ e. rw (same-eq f (function x b) e) at h)
    (λ e. or_right (same d (function x b)) _ (within-trans d f b h e))

-- and nothing else does: it is the form, or within a dependency
pub within-only : (g f : Form) → within g f ≡ true → (g ≡ f) ⊎ ((d : Form) × (dependency d f ≡ true) × (within g d ≡ true))
unfolding within dependency
within-only g (number z) h = inl (same-eq g (number z) h)
within-only g (variable x) h = inl (same-eq g (variable x) h)
within-only g (unbound x) h = inl (same-eq g (unbound x) h)
within-only g readings h = inl (same-eq g readings h)
within-only g (ask m f) h =
    either (same g (ask m f)) (within g f) h
    (λ e. inl (same-eq g (ask m f) e))
    (λ e. inr (f, same_self f, e))
within-only g (call m f a) h =
    either (same g (call m f a)) (within g f || within g a) h
    (λ e. inl (same-eq g (call m f a) e))
    (λ e.
    either (within g f) (within g a) e
    (λ i. inr (f, rw (same_self f), i))
    (λ i. inr (a, or_right (same a f) _ (same_self a), i)))
within-only g (function x b) h =
    either (same g (function x b)) (within g b) h
    (λ e. inl (same-eq g (function x b) e))
    (λ e. inr (b, same_self b, e))

-- the tests, by what they mean
pub same-exactly : (f g : Form) → (same f g ≡ true) ↔ (f ≡ g)
same-exactly f g = (same-eq f g, λ e. rw e (same_self g))

is-dependency : (f g : Form) → dependency f g ≡ true → IsDependency f g
unfolding dependency
is-dependency f (number z) h = absurd (false≢true h)
is-dependency f (variable x) h = absurd (false≢true h)
is-dependency f (unbound x) h = absurd (false≢true h)
is-dependency f readings h = absurd (false≢true h)
is-dependency f (ask m g) h = rw (same-eq f g h) (of_ask m g)
is-dependency f (call m g a) h = either (same f g) (same f a) h (λ e. rw (same-eq f g e) (receiver m g a)) (λ e. rw (same-eq f a e) (argument m g a))
is-dependency f (function x b) h = rw (same-eq f b h) (body x b)

depends : (f g : Form) → IsDependency f g → dependency f g ≡ true
unfolding dependency
depends _ _ (of_ask m f) = same_self f
depends _ _ (receiver m f a) = rw (same_self f)
depends _ _ (argument m f a) = or_right (same a f) _ (same_self a)
depends _ _ (body x b) = same_self b

pub dependency-exactly : (f g : Form) → (dependency f g ≡ true) ↔ IsDependency f g
dependency-exactly f g = (is-dependency f g, depends f g)

is_below : (f g : Form) → within f g ≡ true → AtOrBelow f g
unfolding within
is_below f (number z) h = rw (same-eq f (number z) h) (itself (number z))
is_below f (variable x) h = rw (same-eq f (variable x) h) (itself (variable x))
is_below f (unbound x) h = rw (same-eq f (unbound x) h) (itself (unbound x))
is_below f readings h = rw (same-eq f readings h) (itself readings)
is_below f (ask m g) h =
    either (same f (ask m g)) (within f g) h
    (λ e. rw (same-eq f (ask m g) e) (itself (ask m g)))
    (λ e. through f g (ask m g) (is_below f g e) (of_ask m g))
is_below f (call m g a) h =
    either (same f (call m g a)) (within f g || within f a) h
    (λ e. rw (same-eq f (call m g a) e) (itself (call m g a)))
    (λ e.
    either (within f g) (within f a) e
    (λ i. through f g (call m g a) (is_below f g i) (receiver m g a))
    (λ i. through f a (call m g a) (is_below f a i) (argument m g a)))
is_below f (function x b) h =
    either (same f (function x b)) (within f b) h
    (λ e. rw (same-eq f (function x b) e) (itself (function x b)))
    (λ e. through f b (function x b) (is_below f b e) (body x b))

lies : (f g : Form) → AtOrBelow f g → within f g ≡ true
lies _ _ (itself f) = within-self f
lies _ _ (through f d g p q) = within-trans f d g (lies f d p) (dependency-within d g (depends d g q))

pub within-exactly : (f g : Form) → (within f g ≡ true) ↔ AtOrBelow f g
within-exactly f g = (is_below f g, lies f g)

-- the forms that are worked out are those that have a dependency
has-dependency : (f : Form) → works f ≡ true → (d : Form) × IsDependency d f
unfolding works
has-dependency (number z) h = absurd (false≢true h)
has-dependency (variable x) h = absurd (false≢true h)
has-dependency (unbound x) h = absurd (false≢true h)
has-dependency readings h = absurd (false≢true h)
has-dependency (ask m f) h = (f, of_ask m f)
has-dependency (call m f a) h = (f, receiver m f a)
has-dependency (function x b) h = (b, body x b)

dependent-works : (d f : Form) → IsDependency d f → works f ≡ true
unfolding works
dependent-works _ _ (of_ask m f) = refl
dependent-works _ _ (receiver m f a) = refl
dependent-works _ _ (argument m f a) = refl
dependent-works _ _ (body x b) = refl

pub works-exactly : (f : Form) → (works f ≡ true) ↔ ((d : Form) × IsDependency d f)
works-exactly f = (has-dependency f, λ p. dependent-works p.0 f p.1)

-- the number of a name and a level: both are found again, so that it loses neither
pub name_back : (x k : ℕ) → k < level_base → name_in (with_level x k) ≡ x
name_back x k h = omega arith

pub level-back : (x k : ℕ) → k < level_base → level_in (with_level x k) ≡ k
level-back x k h = omega arith

pub variable-exactly : (x y k l : ℕ) → k < level_base → l < level_base → (with_level x k ≡ with_level y l) ↔ ((x ≡ y) × (k ≡ l))
variable-exactly x y k l h i = (λ e. (omega arith, omega arith), λ e. let p = e.0 in let q = e.1 in omega arith)
