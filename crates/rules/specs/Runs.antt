-- 01, "Members": the results of a function's runs, reading by reading: the first missing one decides, and a result that is no number is
-- reason 2. Assumes nothing: these are definitions.
use Rattle.std.specs.Prelude.{Bool, not, cond, List, [], ◌∷◌, ℕ, suc, ◌+◌, max, ℤ, pos}
use Rattle.rules.specs.declared.Value.{Value}
use Rattle.rules.specs.declared.Value.TheVariants.{Number, Window, Function, Delayed, Missing}
use Rattle.rules.specs.Values.{sameℤ, wrong_kind}
use Rattle.rules.specs.Windows.{total}

-- the numbers that runs gave, or the reason of the first that gave none
pub data Results : Type 0 where
  numbers : List ℤ → Results
  because : ℕ → Results

abbrev pub with : ℤ → Results → Results
with z (numbers zs) = numbers (z ∷ zs)
with z (because r) = because r

unfoldable pub results : List Value → Results
results [] = numbers []
results (Number z ∷ vs) = with z (results vs)
results (Window s l ∷ vs) = because wrong_kind
results (Function ∷ vs) = because wrong_kind
results (Delayed ∷ vs) = because wrong_kind
results (Missing r ∷ vs) = because r

-- other than 0
abbrev pub is_nonzero : ℤ → Bool
is_nonzero z = not (sameℤ z (pos 0))

unfoldable pub count_of : List ℤ → ℕ
count_of [] = 0
count_of (z ∷ zs) = cond (is_nonzero z) 1 0 + count_of zs

-- the stretch at the front, and the longest stretch anywhere
unfoldable pub stretch : List ℤ → ℕ
stretch [] = 0
stretch (z ∷ zs) = cond (is_nonzero z) (suc (stretch zs)) 0

unfoldable pub longest : List ℤ → ℕ
longest [] = 0
longest (z ∷ zs) = max (stretch (z ∷ zs)) (longest zs)

-- what the members that run a function say of the numbers: how many hold, the longest stretch of those, and the exact total
pub record Summary : Type 0 where
  pub count : ℕ
  pub longest : ℕ
  pub total : ℤ

abbrev pub summary : List ℤ → Summary
summary zs = record { count = count_of zs; longest = longest zs; total = total zs }
