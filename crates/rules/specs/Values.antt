-- 01, "Members": what an entry comes to, and the reasons why nothing is shown. Assumes nothing: these are definitions.
use Rattle.std.specs.Prelude.{Bool, true, false, cond, ℕ, eqb, ℤ, pos, negsuc}
use Rattle.std.specs.Int.Signed.{lt_z}
use Rattle.language.specs.Limits.{least_number, most_number}
use Rattle.rules.specs.declared.Value.{Value}
use Rattle.rules.specs.declared.Value.TheVariants.{Number, Window, Function, Delayed, Missing}

-- the reasons
abbrev pub unbound_name : ℕ
unbound_name = 1

abbrev pub wrong_kind : ℕ
wrong_kind = 2

abbrev pub division_by_zero : ℕ
division_by_zero = 3

abbrev pub beyond_number : ℕ
beyond_number = 4

abbrev pub outside_window : ℕ
outside_window = 5

-- by a value's kind: what is given for all others, and what becomes of a number, a window or a function
abbrev pub if_number : {A : Type 0} → A → Value → (ℤ → A) → A
if_number other (Number z) f = f z
if_number other (Window s l) f = other
if_number other Function f = other
if_number other Delayed f = other
if_number other (Missing r) f = other

abbrev pub if_window : {A : Type 0} → A → Value → (ℕ → ℕ → A) → A
if_window other (Number z) f = other
if_window other (Window s l) f = f s l
if_window other Function f = other
if_window other Delayed f = other
if_window other (Missing r) f = other

abbrev pub if_function : {A : Type 0} → A → Value → A → A
if_function other (Number z) x = other
if_function other (Window s l) x = other
if_function other Function x = x
if_function other Delayed x = other
if_function other (Missing r) x = other

-- a whole number as a value: reason 4 beyond signed 32 bits
unfoldable pub ranged : ℤ → Value
ranged z = cond (lt_z z least_number) (Missing beyond_number) (cond (lt_z most_number z) (Missing beyond_number) (Number z))

abbrev pub flag : Bool → Value
flag true = Number (pos 1)
flag false = Number (pos 0)

abbrev pub sameℤ : ℤ → ℤ → Bool
sameℤ (pos m) (pos n) = eqb m n
sameℤ (pos m) (negsuc n) = false
sameℤ (negsuc m) (pos n) = false
sameℤ (negsuc m) (negsuc n) = eqb m n
