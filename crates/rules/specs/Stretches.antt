-- 02, T-01: the stretches of w readings next to each other in a window, by all of them. Assumes nothing: these are definitions.
use Rattle.std.specs.Prelude.{◌&&◌, cond, List, [], ◌∷◌, map, ℕ, zero, suc, ◌-◌, leb, ℤ, pos, length, take, drop}
use Rattle.rules.specs.declared.Value.{Value}
use Rattle.rules.specs.declared.Value.TheVariants.{Number, Missing}
use Rattle.rules.specs.Values.{ranged, sameℤ, outside_window}
use Rattle.rules.specs.Windows.{unless_negative, total, greater, fold_from}

-- k of them, which begin at i, i + 1 and so on
unfoldable pub stretches_from : List ℤ → ℕ → ℕ → ℕ → List (List ℤ)
stretches_from xs w i zero = []
stretches_from xs w i (suc k) = take w (drop i xs) ∷ stretches_from xs w (suc i) k

-- all of them: the first begins at 0, the last w before the end; none where w is above the length
abbrev pub stretches : List ℤ → ℕ → List (List ℤ)
stretches xs w = stretches_from xs w 0 (suc (length xs) - w)

-- their exact sums, in the order in which they begin
unfoldable pub sums : List ℤ → ℕ → List ℤ
sums xs w = map total (stretches xs w)

-- what the greatest of some numbers comes to; reason 5 for none
abbrev pub of_greatest : (ℤ → Value) → List ℤ → Value
of_greatest f [] = Missing outside_window
of_greatest f (z ∷ zs) = f (fold_from greater z zs)

-- where a number first stands in a list
unfoldable pub first_at : ℤ → List ℤ → ℕ
first_at z [] = 0
first_at z (y ∷ ys) = cond (sameℤ y z) 0 (suc (first_at z ys))

-- a width below 1 or above the length is reason 5
abbrev pub of_width : ℤ → ℕ → (ℕ → Value) → Value
of_width n l f = unless_negative n (λ w. cond (leb 1 w && leb w l) (f w) (Missing outside_window))

-- the greatest sum; it alone is tested for signed 32 bits, whatever the others are
unfoldable pub best_sum : List ℤ → ℤ → Value
best_sum xs n = of_width n (length xs) (λ w. of_greatest ranged (sums xs w))

-- the index within the readings where the first stretch of the greatest sum begins; no sum is tested
unfoldable pub best_at : List ℤ → ℤ → Value
best_at xs n = of_width n (length xs) (λ w. of_greatest (λ z. Number (pos (first_at z (sums xs w)))) (sums xs w))
