-- Counting and searching in lists by a test: the definitions that the model's pages use. Assumes nothing.
use Rattle.std.specs.Prelude.{◌≡◌, Bool, true, false, cond, List, [], ◌∷◌, ◌++◌, ℕ, zero, suc}
use Rattle.std.proofs.Math.Option.{Option, none, some}

module _ {A : Type 0} where
  -- there is one
  abbrev pub is_some : Option A → Bool
  is_some none = false
  is_some (some x) = true

  -- P holds of each element
  abbrev pub All : (A → Type 0) → List A → Type 0
  All P [] = Unit {0}
  All P (x ∷ xs) = P x × All P xs

  -- how many elements pass the test p
  unfoldable pub count_if : (A → Bool) → List A → ℕ
  count_if p [] = 0
  count_if p (x ∷ xs) = cond (p x) (suc (count_if p xs)) (count_if p xs)

  -- the first n elements that pass the test p
  unfoldable pub firsts : (A → Bool) → ℕ → List A → List A
  firsts p n [] = []
  firsts p zero (x ∷ xs) = []
  firsts p (suc n) (x ∷ xs) = cond (p x) (x ∷ firsts p n xs) (firsts p (suc n) xs)

  -- the list with g applied to these
  unfoldable pub on_firsts : (A → Bool) → (A → A) → ℕ → List A → List A
  on_firsts p g n [] = []
  on_firsts p g zero (x ∷ xs) = x ∷ xs
  on_firsts p g (suc n) (x ∷ xs) = cond (p x) (g x ∷ on_firsts p g n xs) (x ∷ on_firsts p g (suc n) xs)

-- lists whose elements are told apart by a test
module _ {A : Type 0} (same : A → A → Bool) where
  -- x is in the list
  unfoldable pub member : A → List A → Bool
  member x [] = false
  member x (y ∷ ys) = cond (same y x) true (member x ys)

  -- the first place of x, counted from 0; the list's length where x is not in it
  unfoldable pub index : A → List A → ℕ
  index x [] = 0
  index x (y ∷ ys) = cond (same y x) 0 (suc (index x ys))

  -- how often x is in the list
  abbrev pub occurrences : A → List A → ℕ
  occurrences x = count_if (λ (y : A). same y x)

  -- x at the end, unless it is in the list
  unfoldable pub insert : A → List A → List A
  insert x xs = cond (member x xs) xs (xs ++ (x ∷ []))

  unfoldable pub insert_all : List A → List A → List A
  insert_all [] xs = xs
  insert_all (y ∷ ys) xs = insert_all ys (insert y xs)

  -- no element twice
  abbrev pub Distinct : List A → Type 0
  Distinct [] = Unit {0}
  Distinct (x ∷ xs) = (member x xs ≡ false) × Distinct xs
