-- Which values can stand in memory, and which may be kept beside a recording of n readings. Assumes nothing: these are definitions.
use Rattle.std.specs.Prelude.{ℕ, ◌+◌, ◌≤◌, ◌<◌}
use Rattle.std.specs.Int.Signed.{mag}
use Rattle.rules.specs.declared.Value.{Value}
use Rattle.rules.specs.declared.Value.TheVariants.{Number, Window, Function, Delayed, Missing}

-- the fields are of their types: signed 32 bits, 16 bits, 8 bits
abbrev pub Storable : Value → Type 0
Storable (Number z) = mag z < 2147483648
Storable (Window s l) = (s < 65536) × (l < 65536)
Storable Function = Unit {0}
Storable Delayed = Unit {0}
Storable (Missing r) = r < 256

-- a window lies within n readings
abbrev pub Inside : ℕ → Value → Type 0
Inside n (Window s l) = s + l ≤ n
Inside n (Number z) = Unit {0}
Inside n Function = Unit {0}
Inside n Delayed = Unit {0}
Inside n (Missing r) = Unit {0}

-- its end can be counted in 16 bits, so that a start can move up to it
abbrev pub Bounded : Value → Type 0
Bounded v = Inside 65535 v

-- a reason is one of 01's
abbrev pub Reasoned : Value → Type 0
Reasoned (Missing r) = (1 ≤ r) × (r ≤ 5)
Reasoned (Number z) = Unit {0}
Reasoned (Window s l) = Unit {0}
Reasoned Function = Unit {0}
Reasoned Delayed = Unit {0}

-- 01, refusal 4: a kept number, window or reason within signed 32 bits, the recording, or 1 to 5
pub record Keepable (n : ℕ) (v : Value) : Type 0 where
  pub held : Storable v
  pub inside : Inside n v
  pub reasoned : Reasoned v
