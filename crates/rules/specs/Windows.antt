-- 01, "Members", and 02, T-06: what the members on a window are made of. A window is a start, counted in the recording, and a length.
-- Assumes nothing: these are definitions.
use Rattle.std.specs.Prelude.{◌≡◌, cond, List, [], ◌∷◌, ℕ, ◌+◌, ◌-◌, ◌≤◌, min, ltb, ℤ, pos, negsuc, ◌+ℤ◌, length, take, drop, get_or, ◌≤ℤ◌}
use Rattle.std.specs.Int.Signed.{lt_z}
use Rattle.rules.specs.declared.Value.{Value}
use Rattle.rules.specs.declared.Value.TheVariants.{Number, Window, Missing}
use Rattle.rules.specs.Values.{outside_window}

-- the readings of a window
abbrev pub readings_in : List ℤ → ℕ → ℕ → List ℤ
readings_in xs s l = take l (drop s xs)

-- 02, T-06: a count from either end of l readings, counted from the start: a negative one is from the end
abbrev pub from_start : ℤ → ℕ → ℤ
from_start (pos n) l = pos n
from_start (negsuc n) l = pos l +ℤ negsuc n

-- the number from 0 to l that is nearest
abbrev pub nearest : ℤ → ℕ → ℕ
nearest (pos k) l = min k l
nearest (negsuc k) l = 0

-- how many of l readings lie before a count from either end: past an end, none or all there are
abbrev pub clipped : ℤ → ℕ → ℕ
clipped n l = nearest (from_start n l) l

-- the clipping promise, of a clipping f: within the window; exact where the count fits; and a count which does not count to before another is not
-- clipped before it
pub record Clips (f : ℤ → ℕ → ℕ) : Type 0 where
  pub within : (n : ℤ) (l : ℕ) → f n l ≤ l
  pub exact : (n : ℤ) (l k : ℕ) → k ≤ l → from_start n l ≡ pos k → f n l ≡ k
  pub monotone : (m n : ℤ) (l : ℕ) → from_start m l ≤ℤ from_start n l → f m l ≤ f n l

-- skip moves the start on by what it skips; take keeps it
abbrev pub skipped : ℕ → ℕ → ℤ → Value
skipped s l n = Window (s + clipped n l) (l - clipped n l)

abbrev pub taken : ℕ → ℕ → ℤ → Value
taken s l n = Window s (clipped n l)

-- an index or a width that may be negative
abbrev pub unless_negative : ℤ → (ℕ → Value) → Value
unless_negative (pos n) f = f n
unless_negative (negsuc n) f = Missing outside_window

-- the reading at an index from the start, and at one from either end; reason 5 outside
abbrev pub reading : List ℤ → ℕ → Value
reading xs n = cond (ltb n (length xs)) (Number (get_or xs n (pos 0))) (Missing outside_window)

abbrev pub reading_from : List ℤ → ℤ → Value
reading_from xs n = unless_negative (from_start n (length xs)) (reading xs)

-- the exact sum
unfoldable pub total : List ℤ → ℤ
total [] = pos 0
total (x ∷ xs) = x +ℤ total xs

-- the lesser and the greater of two; the earlier where they are equal
abbrev pub lesser : ℤ → ℤ → ℤ
lesser a b = cond (lt_z b a) b a

abbrev pub greater : ℤ → ℤ → ℤ
greater a b = cond (lt_z a b) b a

unfoldable pub fold_from : (ℤ → ℤ → ℤ) → ℤ → List ℤ → ℤ
fold_from f a [] = a
fold_from f a (x ∷ xs) = fold_from f (f a x) xs

-- the least or the greatest; reason 5 for none
unfoldable pub extreme : (ℤ → ℤ → ℤ) → List ℤ → Value
extreme f [] = Missing outside_window
extreme f (x ∷ xs) = Number (fold_from f x xs)
