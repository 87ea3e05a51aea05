-- Laws of the names that entries await: lists of names put together, and the list of each entry by its number. Assumes nothing.
use Rattle.std.specs.Prelude.{◌≡◌, Bool, true, false, ◌&&◌, ◌||◌, eqb, length, get_or}
use Rattle.std.proofs.Math.Path.{refl, ap}
use Rattle.std.proofs.Common.{sym, ◌∙◌, subst, arith, eqb-true, eq-eqb, leb-true, length-append}
use Rattle.std.proofs.lemmas.Bool.{false≢true}
use Rattle.std.proofs.Math.Bool.{and-eq-true_iff, or-true}
use mathlib.Core.List.{List, [], ◌∷◌, ◌++◌}
use Prim.Native.Nat.{ℕ, zero, suc, ◌+◌, ◌≤◌, ◌<◌}
use Rattle.std.proofs.Math.Decide.{dec_lt}
use Rattle.std.proofs.Math.Dec.{leb}
use Rattle.std.proofs.Math.ListN.{get_or-append}
use Rattle.std.proofs.lemmas.List.{get_or_at}
use Rattle.language.specs.Cases.{split}
use Rattle.meaning.specs.Evaluation.{has_name, joined}
use Rattle.layout.specs.Memory.{Node}
use Rattle.table.specs.WellFormed.{every, awaits_few}
use Rattle.table.specs.Awaits.{awaited_by, awaited_after, few_awaited}
use Rattle.table.specs.AwaitedBuild.{few-is}
use Rattle.layout.specs.Numbered.{all_from, numbered}
use Rattle.table.specs.RightLaws.{all-at}
use Rattle.table.specs.ChainLaws.{numbered-zero, numbered-last, all-zero, all-last}

-- ---- names in joined lists
has-append : (y : ℕ) (xs ys : List ℕ) → has_name y (xs ++ ys) ≡ (has_name y xs || has_name y ys)
unfolding has_name
has-append y [] ys = refl
has-append y (x ∷ xs) ys = split (eqb y x) (λ p. rw p) (λ p. rw p (has-append y xs ys))

or_swap : (a b c : Bool) → ((a || (b || false)) || c) ≡ (a || (b || c))
or_swap true b c = refl
or_swap false true c = refl
or_swap false false c = refl

or-held : (a b c : Bool) → (b ≡ true → a ≡ true) → (a || c) ≡ (a || (b || c))
or-held true b c h = refl
or-held false true c h = absurd (false≢true (h refl))
or-held false false c h = refl

pub has-joined : (y : ℕ) (xs ys : List ℕ) → has_name y (joined xs ys) ≡ (has_name y xs || has_name y ys)
unfolding joined has_name
has-joined y xs [] = by (has_name y xs)
  where
    by : (a : Bool) → a ≡ (a || false)
    by true = refl
    by false = refl
has-joined y xs (x ∷ ys) =
    split (has_name x xs)
    (λ p.
    rw p (has-joined y xs ys
    ∙ or-held (has_name y xs) (eqb y x) (has_name y ys) (λ e. subst (λ (z : ℕ). has_name z xs ≡ true) (sym (eqb-true y x e)) p)))
    (λ p. rw p (has-joined y (xs ++ (x ∷ [])) ys ∙ rw (has-append y xs (x ∷ [])) (or_swap (has_name y xs) (eqb y x) (has_name y ys))))

-- every name of ys is one of xs
abbrev pub contains : List ℕ → List ℕ → Bool
contains xs [] = true
contains xs (y ∷ ys) = has_name y xs && contains xs ys

-- a joined list has all names of the second; it is the first list where that has them, and longer where not
pub joined-all : (xs ys : List ℕ) → contains (joined xs ys) ys ≡ true
unfolding has_name
joined-all xs ys = each ys (λ y e. has-joined y xs ys ∙ rw e (or-true (has_name y xs)))
  where
    each : (zs : List ℕ) → ((y : ℕ) → has_name y zs ≡ true → has_name y (joined xs ys) ≡ true) → contains (joined xs ys) zs ≡ true
    each [] h = refl
    each (z ∷ zs) h = rw (h z (rw (eq-eqb z z refl))) (each zs (λ y e. h y (rw e (or-true (eqb y z)))))

pub joined-held : (xs ys : List ℕ) → contains xs ys ≡ true → joined xs ys ≡ xs
unfolding joined
joined-held xs [] h = refl
joined-held xs (y ∷ ys) h = rw ((and-eq-true_iff (has_name y xs) _).0 h).0 (joined-held xs ys ((and-eq-true_iff (has_name y xs) _).0 h).1)

joined-longer : (xs ys : List ℕ) → length xs ≤ length (joined xs ys)
unfolding joined
joined-longer xs [] = omega arith
joined-longer xs (y ∷ ys) =
    split (has_name y xs) (λ p. rw p (joined-longer xs ys))
    (λ p. rw p (omega (arith, joined-longer (xs ++ (y ∷ [])) ys, length-append xs (y ∷ []))))

pub joined-more : (xs ys : List ℕ) → contains xs ys ≡ false → length xs < length (joined xs ys)
unfolding joined
joined-more xs [] h = absurd (false≢true (sym h))
joined-more xs (y ∷ ys) h =
    split (has_name y xs) (λ p. rw p (joined-more xs ys (rw p at h)))
    (λ p. rw p (omega (arith, joined-longer (xs ++ (y ∷ [])) ys, length-append xs (y ∷ []))))

-- ---- a test of every element of a list, at its end
every-snoc : {A : Type 0} (p : A → Bool) (i : ℕ) (xs : List A) (x : A)
    → every (λ (k : ℕ) (y : A). p y) i (xs ++ (x ∷ [])) ≡ (every (λ (k : ℕ) (y : A). p y) i xs && p x)
unfolding every
every-snoc p i [] x = by (p x)
  where
    by : (b : Bool) → (b && true) ≡ b
    by true = refl
    by false = refl
every-snoc p i (y ∷ ys) x = rw (every-snoc p (suc i) ys x) (by (p y) _ _)
  where
    by : (a b c : Bool) → (a && (b && c)) ≡ ((a && b) && c)
    by true b c = refl
    by false b c = refl

-- ---- the lists of names, by number
module _ (ν : ℕ → Node) where
  abbrev pub after : ℕ → List (List ℕ)
  after n = awaited_after [] (numbered ν 0 n)

  -- the names that node i awaits
  abbrev pub names_of : ℕ → List ℕ
  names_of i = awaited_by (after i) (ν i)

  pub after-snoc : (b : List (List ℕ)) (ns : List Node) (n : Node)
      → awaited_after b (ns ++ (n ∷ [])) ≡ awaited_after b ns ++ (awaited_by (awaited_after b ns) n ∷ [])
  unfolding awaited_after
  after-snoc b [] n = refl
  after-snoc b (m ∷ ns) n = after-snoc (b ++ (awaited_by b m ∷ [])) ns n

  after_last : (n : ℕ) → after (suc n) ≡ after n ++ (names_of n ∷ [])
  after_last n = rw (numbered-last ν n) (after-snoc [] (numbered ν 0 n) (ν n))

  after_none : after 0 ≡ []
  unfolding awaited_after
  after_none = rw (numbered-zero ν 0)

  after-length : (n : ℕ) → length (after n) ≡ n
  after-length zero = rw after_none
  after-length (suc n) = ap length (after_last n) ∙ length-append (after n) (names_of n ∷ []) ∙ (let ih = after-length n in omega arith)

  -- the names of number i hang on the nodes before it alone
  pub after-at : (i n : ℕ) → i < n → get_or (after n) i [] ≡ names_of i
  after-at i zero h = absurd (omega arith)
  after-at i (suc n) h =
      let z = after-length n in
      rw (after_last n)
      (elim (dec_lt i n) [
        | yes less ↦ get_or-append (after n) (names_of n ∷ []) [] i (omega arith) ∙ after-at i n less
        | no most ↦ let q : i ≡ n = omega arith in get_or_at (after n) (names_of n) [] [] i (z ∙ sym q) ∙ ap names_of (sym q)
      ])

  few-names : (n : ℕ) → few_awaited (numbered ν 0 n) ≡ all_from (λ i. leb (length (names_of i)) 2) n 0
  unfolding every
  few-names zero = rw (after_none, all-zero (λ i. leb (length (names_of i)) 2) 0)
  few-names (suc n) =
      ap (every (λ (k : ℕ) (x : List ℕ). leb (length x) 2) 0) (after_last n)
      ∙ every-snoc (λ (x : List ℕ). leb (length x) 2) 0 (after n) (names_of n)
      ∙ rw (few-names n) (sym (all-last (λ i. leb (length (names_of i)) 2) n))

  pub few-all : (n : ℕ) → awaits_few (numbered ν 0 n) ≡ all_from (λ i. leb (length (names_of i)) 2) n 0
  few-all n = sym (few-is (numbered ν 0 n)) ∙ few-names n

  pub few-at : (n i : ℕ) → awaits_few (numbered ν 0 n) ≡ true → i < n → length (names_of i) ≤ 2
  few-at n i h l =
      let z : 0 + i ≡ i = omega arith in
      leb-true (length (names_of i)) 2 (rw z at (all-at (λ i. leb (length (names_of i)) 2) n i 0 (sym (few-all n) ∙ h) l))
