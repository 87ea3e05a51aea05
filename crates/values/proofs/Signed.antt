-- A signed local is kept as its bits: `of_z w z` are the bits of z, and `to_z w` reads them. Where z is in the range of w, reading gives z
-- back, so a test, a cast or an operation on locals says of the numbers what it says of the bits. Assumes nothing.
use mathlib.Core.Path.{◌≡◌, sym, ap, ◌∙◌}
use native.Mathlib.Nat.{lt_of_lt_of_le, lt_of_le_of_lt}
use lib.Dec.{T, leb, lit<, lit≤}
use lib.IntN.{ℤ, pos, neg_ℤ, +ℤ_idl, ◌+ℤ◌, ◌-ℤ◌, ◌*ℤ◌}
use mir.Syntax.{Width, w32, w64}
use mir.Val.{SFits, to_z, of_z, hbits}
use mir.Facts.{sfits_widen, sfits_lit, to_z-of_z}
use Rattle.values.specs.Ranges.{sum-range, difference-range, product-range}

-- ---- casts between signed widths

module _ (w w' : Width) {z : ℤ} (f : SFits w z) where
  pub cast_fits : T (leb (hbits w) (hbits w')) → SFits w' (to_z w (of_z w z))
  cast_fits t = rw (to_z-of_z f) (sfits_widen t f)

  pub cast_is : SFits w' z → to_z w' (of_z w' (to_z w (of_z w z))) ≡ z
  cast_is g = ap (λ (y : ℤ). to_z w' (of_z w' y)) (to_z-of_z f) ∙ to_z-of_z g

pub widens : {z : ℤ} → SFits w32 z → SFits w64 (to_z w32 (of_z w32 z))
widens f = cast_fits w32 w64 f tt

-- an i32 as an i64
abbrev pub wide : ℤ → ℤ
wide z = to_z w64 (of_z w64 (to_z w32 (of_z w32 z)))

pub wide_is : {z : ℤ} → SFits w32 z → wide z ≡ z
wide_is f = cast_is w32 w64 f (sfits_widen tt f)

-- ---- an operation at 64 bits on two numbers of 32

module _ (op : ℤ → ℤ → ℤ) {a b : ℤ} (fa : SFits w32 a) (fb : SFits w32 b) (f : SFits w64 (op a b)) where
  result_is : to_z w64 (of_z w64 (op (wide a) (wide b))) ≡ op a b
  result_is = ap (λ (y : ℤ). to_z w64 (of_z w64 y)) (λ i. op (wide_is fa i) (wide_is fb i)) ∙ to_z-of_z f

module _ {a b : ℤ} (fa : SFits w32 a) (fb : SFits w32 b) where
  pub sum_fits : SFits w64 (a +ℤ b)
  sum_fits = record { sfits = lt_of_lt_of_le (sum-range 31 a b fa.sfits fb.sfits) (lit≤ tt) }

  difference_fits : SFits w64 (a -ℤ b)
  difference_fits = record { sfits = lt_of_lt_of_le (difference-range 31 a b fa.sfits fb.sfits) (lit≤ tt) }

  product_fits : SFits w64 (a *ℤ b)
  product_fits = record { sfits = lt_of_le_of_lt (product-range 31 a b fa.sfits fb.sfits) (lit< tt) }

  pub sum_is : to_z w64 (of_z w64 (wide a +ℤ wide b)) ≡ a +ℤ b
  sum_is = result_is ◌+ℤ◌ fa fb sum_fits

  pub difference_is : to_z w64 (of_z w64 (wide a -ℤ wide b)) ≡ a -ℤ b
  difference_is = result_is ◌-ℤ◌ fa fb difference_fits

  pub product_is : to_z w64 (of_z w64 (wide a *ℤ wide b)) ≡ a *ℤ b
  product_is = result_is ◌*ℤ◌ fa fb product_fits

-- and one of them turned about 0
module _ {a : ℤ} (fa : SFits w32 a) where
  pub minus_is : to_z w64 (of_z w64 (pos 0 -ℤ wide a)) ≡ neg_ℤ a
  minus_is =
      ap (λ (y : ℤ). to_z w64 (of_z w64 (pos 0 -ℤ y))) (wide_is fa)
      ∙ to_z-of_z (difference_fits {a = pos 0} (sfits_lit tt) fa)
      ∙ +ℤ_idl (neg_ℤ a)

-- ---- equality of two signed locals

pub read-eq : (w : Width) {a b : ℤ} (fa : SFits w a) (fb : SFits w b) → of_z w a ≡ of_z w b → a ≡ b
read-eq w fa fb e = sym (to_z-of_z fa) ∙ ap (to_z w) e ∙ to_z-of_z fb
