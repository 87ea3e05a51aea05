-- The names of lists joined, and of a list without one of them. Assumes nothing.
use Rattle.std.specs.Prelude.{◌≡◌, refl, true, false, List, [], ◌∷◌, ◌++◌, ℕ, eqb}
use Rattle.std.proofs.lemmas.Bool.{false≢true, or_right}
use Rattle.std.proofs.Common.{sym, ◌∙◌, eqb-true, eq-eqb}
use Rattle.language.specs.Cases.{split}
use Rattle.meaning.specs.Evaluation.{has_name, joined, without}

-- y is among the names
abbrev pub Has : ℕ → List ℕ → Type 0
Has y xs = has_name y xs ≡ true

has-snoc : (y x : ℕ) (xs : List ℕ) → Has y (xs ++ (x ∷ [])) → (Has y xs → ⊥) → x ≡ y
unfolding has_name
has-snoc y x [] h out = split (eqb y x) (λ e. sym (eqb-true y x e)) (λ e. absurd (false≢true (rw e at h)))
has-snoc y x (z ∷ xs) h out = split (eqb y z) (λ e. absurd (out (rw e))) (λ e. has-snoc y x xs (rw e at h) (λ q. out (rw e q)))

-- a name of two lists joined is one of the first or of the second
pub joined-cases : {A : Type 0} (z : ℕ) (xs ys : List ℕ) → Has z (joined xs ys) → (Has z xs → A) → (Has z ys → A) → A
unfolding joined has_name
joined-cases z xs [] h p q = p h
joined-cases z xs (y ∷ ys) h p q =
    split (has_name y xs)
    (λ e. joined-cases z xs ys (rw e at h) p (λ i. q (or_right (eqb z y) _ i)))
    (λ e.
    joined-cases z (xs ++ (y ∷ [])) ys (rw e at h)
    (λ i. split (has_name z xs) p (λ u. let k : y ≡ z = has-snoc z y xs i (λ v. absurd (false≢true (sym u ∙ v))) in q (rw (eq-eqb z y (sym k)))))
    (λ i. q (or_right (eqb z y) _ i)))

pub has-joined : (z : ℕ) (xs ys ns : List ℕ) → ((y : ℕ) → Has y xs → Has y ns) → ((y : ℕ) → Has y ys → Has y ns) → Has z (joined xs ys) → Has z ns
has-joined z xs ys ns p q h = joined-cases z xs ys h (p z) (q z)

-- and the other way round
has_left : (z x : ℕ) (xs : List ℕ) → Has z xs → Has z (xs ++ (x ∷ []))
unfolding has_name
has_left z x [] h = absurd (false≢true h)
has_left z x (y ∷ xs) h = split (eqb z y) (λ e. rw e) (λ e. rw e (has_left z x xs (rw e at h)))

has_last : (x : ℕ) (xs : List ℕ) → Has x (xs ++ (x ∷ []))
unfolding has_name
has_last x [] = rw (eq-eqb x x refl)
has_last x (y ∷ xs) = let i = has_last x xs in split (eqb x y) (λ e. rw e) (λ e. rw e i)

pub joined-left : (z : ℕ) (xs ys : List ℕ) → Has z xs → Has z (joined xs ys)
unfolding joined
joined-left z xs [] h = h
joined-left z xs (y ∷ ys) h = split (has_name y xs) (λ e. rw e (joined-left z xs ys h)) (λ e. rw e (joined-left z (xs ++ (y ∷ [])) ys (has_left z y xs h)))

pub joined-right : (z : ℕ) (xs ys : List ℕ) → Has z ys → Has z (joined xs ys)
unfolding joined has_name
joined-right z xs [] h = absurd (false≢true h)
joined-right z xs (y ∷ ys) h =
    split (has_name y xs)
    (λ e. rw e (split (eqb z y) (λ u. joined-left z xs ys (rw (eqb-true z y u) e)) (λ u. joined-right z xs ys (rw u at h))))
    (λ e. rw e (split (eqb z y) (λ u. joined-left z (xs ++ (y ∷ [])) ys (rw (eqb-true z y u) (has_last y xs))) (λ u. joined-right z (xs ++ (y ∷ [])) ys (rw u at h))))

pub has-without : (z x : ℕ) (ys : List ℕ) → Has z (without x ys) → Has z ys × (eqb x z ≡ false)
unfolding without has_name
has-without z x [] h = absurd (false≢true h)
has-without z x (y ∷ ys) h =
    split (eqb x y)
    (λ e. let r = has-without z x ys (rw e at h) in (or_right (eqb z y) _ r.0, r.1))
    (λ e.
    split (eqb z y)
    (λ q. (rw q, rw (eqb-true z y q) e))
    (λ q. let h' : Has z (y ∷ without x ys) = rw e at h in let r = has-without z x ys (rw q at h') in (rw q r.0, r.1)))

pub has_kept : (z x : ℕ) (ys : List ℕ) → Has z ys → eqb x z ≡ false → Has z (without x ys)
unfolding without has_name
has_kept z x [] h e = absurd (false≢true h)
has_kept z x (y ∷ ys) h e =
    split (eqb z y)
    (λ q. let k : eqb x y ≡ false = rw (← eqb-true z y q) e in rw (k, q))
    (λ q. let r = has_kept z x ys (rw q at h) e in split (eqb x y) (λ u. rw u r) (λ u. rw (u, q) r))
