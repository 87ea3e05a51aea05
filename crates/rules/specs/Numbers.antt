-- 01, "Members", and 02, T-02: division, over the integers. Assumes nothing: these are definitions.
use Rattle.std.specs.Prelude.{cond, ℕ, suc, ◌/◌, ℤ, pos, negsuc, neg_ℤ, ◌*ℤ◌, ◌≤ℤ◌, ◌<ℤ◌}
use Rattle.rules.specs.declared.Value.{Value}
use Rattle.rules.specs.declared.Value.TheVariants.{Missing}
use Rattle.rules.specs.Values.{ranged, sameℤ, division_by_zero}

-- z is not above the quotient of a by b, which is not zero: z times b is not above a, or, where b is negative, not below it
abbrev pub NotAbove : ℤ → ℤ → ℤ → Type 0
NotAbove a (pos b) z = (z *ℤ pos b) ≤ℤ a
NotAbove a (negsuc b) z = a ≤ℤ (z *ℤ negsuc b)

-- z is above it
abbrev pub Above : ℤ → ℤ → ℤ → Type 0
Above a (pos b) z = a <ℤ (z *ℤ pos b)
Above a (negsuc b) z = (z *ℤ negsuc b) <ℤ a

-- 02, T-02: q is the greatest whole number not above the quotient of a by b
pub record GreatestNotAbove (a b q : ℤ) : Type 0 where
  pub not-above : NotAbove a b q
  pub greatest : (z : ℤ) → NotAbove a b z → z ≤ℤ q

-- a divided by d, rounded down
abbrev pub rounded_down : ℤ → ℕ → ℤ
rounded_down (pos a) d = pos (a / d)
rounded_down (negsuc a) d = negsuc (a / d)

-- that number, computed, where the divisor is not zero
abbrev pub quotient : ℤ → ℤ → ℤ
quotient a (pos b) = rounded_down a b
quotient a (negsuc b) = rounded_down (neg_ℤ a) (suc b)

-- what div gives: by zero reason 3, and otherwise the quotient, which may be beyond signed 32 bits
unfoldable pub divided : ℤ → ℤ → Value
divided a b = cond (sameℤ b (pos 0)) (Missing division_by_zero) (ranged (quotient a b))
