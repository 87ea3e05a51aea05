-- What holds of every form of a text that is read: its names are names, its number is within signed 32 bits, its member has the arguments that
-- it takes, and it awaits at most two variables. Assumes nothing.
use Rattle.std.specs.Prelude.{◌≡◌, refl, true, false, List, [], ◌∷◌, ◌++◌, ℕ, ◌<◌, ◌≤◌, eqb, length}
use Rattle.std.proofs.lemmas.Bool.{false≢true, or_right}
use Rattle.std.proofs.Common.{sym, ◌∙◌, arith, eqb-true, eq-eqb}
use Rattle.members.specs.Members.{arguments}
use Rattle.language.specs.Cases.{split}
use Rattle.grammar.specs.KeptLimits.{InRange}
use Rattle.meaning.specs.Forms.{Form, name_in, number, variable, unbound, readings, ask, call, function}
use Rattle.meaning.specs.Evaluation.{has_name, joined, without, awaited}
use Rattle.meaning.proofs.HasLaws.{Has, has-without, has_kept}
use Rattle.layout.specs.Nodes.{is_name}

abbrev pub Shape : Form → Type 0
Shape (number z) = InRange z
Shape (variable v) = is_name (name_in v) ≡ true
Shape (unbound x) = is_name x ≡ true
Shape readings = Unit {0}
Shape (ask m f) = arguments m ≡ 0
Shape (call m f a) = arguments m ≡ 1
Shape (function v b) = is_name (name_in v) ≡ true

pub record Proper (f : Form) : Type 0 where
  pub shape : Shape f
  pub few : length (awaited f) ≤ 2

-- no name twice
abbrev NoDup : List ℕ → Type 0
NoDup [] = Unit {0}
NoDup (x ∷ xs) = (has_name x xs ≡ false) × NoDup xs

snoc-not : (y x : ℕ) (xs : List ℕ) → has_name y xs ≡ false → eqb y x ≡ false → has_name y (xs ++ (x ∷ [])) ≡ false
unfolding has_name
snoc-not y x [] h e = rw e
snoc-not y x (z ∷ xs) h e = split (eqb y z) (λ q. absurd (false≢true (sym h ∙ rw q))) (λ q. rw q (snoc-not y x xs (rw q at h) e))

nodup-snoc : (x : ℕ) (xs : List ℕ) → NoDup xs → has_name x xs ≡ false → NoDup (xs ++ (x ∷ []))
unfolding has_name
nodup-snoc x [] n h = (refl, tt)
nodup-snoc x (y ∷ xs) n h =
    split (eqb x y)
    (λ e. absurd (false≢true (sym h ∙ rw e)))
    (λ e. (snoc-not y x xs n.0 (split (eqb y x) (λ q. absurd (false≢true (rw e at (eq-eqb x y (sym (eqb-true y x q)))))) (λ q. q)), nodup-snoc x xs n.1 (rw e at h)))

nodup-joined : (xs ys : List ℕ) → NoDup xs → NoDup (joined xs ys)
unfolding joined
nodup-joined xs [] n = n
nodup-joined xs (y ∷ ys) n = split (has_name y xs) (λ e. rw e (nodup-joined xs ys n)) (λ e. rw e (nodup-joined (xs ++ (y ∷ [])) ys (nodup-snoc y xs n e)))

not-without : (z x : ℕ) (ys : List ℕ) → has_name z ys ≡ false → has_name z (without x ys) ≡ false
not-without z x ys h = split (has_name z (without x ys)) (λ e. absurd (false≢true (sym h ∙ (has-without z x ys e).0))) (λ e. e)

nodup-without : (x : ℕ) (ys : List ℕ) → NoDup ys → NoDup (without x ys)
unfolding without
nodup-without x [] n = tt
nodup-without x (y ∷ ys) n = split (eqb x y) (λ e. rw e (nodup-without x ys n.1)) (λ e. rw e (not-without y x ys n.0, nodup-without x ys n.1))

pub nodup-awaited : (f : Form) → NoDup (awaited f)
unfolding awaited has_name
nodup-awaited (number z) = tt
nodup-awaited (variable x) = (refl, tt)
nodup-awaited (unbound x) = tt
nodup-awaited readings = tt
nodup-awaited (ask m f) = nodup-awaited f
nodup-awaited (call m f a) = nodup-joined (awaited f) (awaited a) (nodup-awaited f)
nodup-awaited (function x b) = nodup-without x (awaited b) (nodup-awaited b)

-- fewer names where one is left out
without-short : (x : ℕ) (ys : List ℕ) → length (without x ys) ≤ length ys
unfolding without
without-short x [] = omega arith
without-short x (y ∷ ys) = let r = without-short x ys in split (eqb x y) (λ e. rw e (omega arith)) (λ e. rw e (omega arith))

without-less : (x : ℕ) (ys : List ℕ) → Has x ys → length (without x ys) < length ys
unfolding without has_name
without-less x [] h = absurd (false≢true h)
without-less x (y ∷ ys) h = split (eqb x y) (λ e. let r = without-short x ys in rw e (omega arith)) (λ e. let r = without-less x ys (rw e at h) in rw e (omega arith))

pub no_more : (xs ns : List ℕ) → NoDup xs → ((y : ℕ) → Has y xs → Has y ns) → length xs ≤ length ns
unfolding has_name
no_more [] ns n h = omega arith
no_more (x ∷ xs) ns n h =
    let i = h x (rw (eq-eqb x x refl)) in
    let l = without-less x ns i in
    let r = no_more xs (without x ns) n.1
    (λ y k. has_kept y x ns (h y (or_right (eqb y x) _ k)) (split (eqb x y) (λ e. absurd (false≢true (sym n.0 ∙ rw (eqb-true x y e) k))) (λ e. e))) in
    omega arith
