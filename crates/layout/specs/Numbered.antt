-- What numbers from i on come to under a function, and whether all of them pass a test. Assumes nothing: these are definitions.
use Rattle.std.specs.Prelude.{Bool, true, ◌&&◌, List, [], ◌∷◌, ℕ, zero, suc}

-- each of the k numbers from i on passes p
unfoldable pub all_from : (ℕ → Bool) → ℕ → ℕ → Bool
all_from p zero i = true
all_from p (suc k) i = p i && all_from p k (suc i)

-- what a function gives for the k numbers from i on
unfoldable pub numbered : {A : Type 0} → (ℕ → A) → ℕ → ℕ → List A
numbered ν i zero = []
numbered ν i (suc k) = ν i ∷ numbered ν (suc i) k
