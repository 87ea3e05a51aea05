-- What the loops of tokens.rt come to: a run of bytes that pass a test, and where the value of digits is cut off. Assumes nothing: these are definitions.
use Rattle.std.specs.Prelude.{◌≡◌, Bool, List, ℕ, ◌+◌, drop}
use Rattle.grammar.specs.Tokens.{leading}

-- a function, by what it may answer at a byte, is the test p
abbrev pub Tests : (ℕ → Bool → Type 0) → (ℕ → Bool) → Type 0
Tests answers p = (b : ℕ) (r : Bool) → answers b r → r ≡ p b

-- the place behind the run of bytes that pass a test, at a place
unfoldable pub run_end : (ℕ → Bool) → List ℕ → ℕ → ℕ
run_end p text at = at + leading p (drop at text)

-- one more than the greatest magnitude of a number
abbrev pub bound : ℕ
bound = 2147483649
