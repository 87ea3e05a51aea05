-- How large the members' results can be: a sum, a difference and a product of two numbers of k bits beside the sign, for
-- every k; and a total of numbers of any width. `mag z` is n at n and at -(n + 1), so `mag z < 2 ^ k` is the range from -2^k to 2^k - 1.
-- Each bound holds by cases on the signs and a linear bound on naturals. Assumes nothing.
use Rattle.std.specs.Prelude.{◌≡◌, refl, Bool, true, false, cond, ℕ, zero, suc, ◌+◌, ◌-◌, ◌*◌, ◌^◌, ◌≤◌, ◌<◌, T, ltb, ℤ, pos, negsuc, neg_ℤ, nat_abs, ◌+ℤ◌, ◌-ℤ◌, ◌*ℤ◌}
use Rattle.std.proofs.Common.{le_trans, mul-le-mul, arith, ltb-false, le-ltb}
use Rattle.std.specs.Int.Signed.{mag, lt_z, non_neg}

-- ---- sizes

pub mag-abs : (z : ℤ) → mag z ≤ nat_abs z
mag-abs (pos n) = omega arith
mag-abs (negsuc n) = omega arith

pub abs_mag : (z : ℤ) → nat_abs z ≤ suc (mag z)
abs_mag (pos n) = omega arith
abs_mag (negsuc n) = omega arith

abs_neg : (z : ℤ) → nat_abs (neg_ℤ z) ≡ nat_abs z
abs_neg (pos zero) = refl
abs_neg (pos (suc n)) = refl
abs_neg (negsuc n) = refl

-- a difference of naturals is negative or not
mag-either : (t : Bool) (x y : ℕ) → mag (cond t (negsuc x) (pos y)) ≤ x + y
mag-either true x y = omega arith
mag-either false x y = omega arith

abs-either : (t : Bool) (x y : ℕ) → nat_abs (cond t (negsuc x) (pos y)) ≤ suc x + y
abs-either true x y = omega arith
abs-either false x y = omega arith

mag_sum : (a b : ℤ) → mag (a +ℤ b) ≤ suc (mag a + mag b)
mag_sum (pos a) (pos b) = omega arith
mag_sum (pos a) (negsuc b) = omega (arith, mag-either (ltb a (suc b)) (suc b - suc a) (a - suc b))
mag_sum (negsuc a) (pos b) = omega (arith, mag-either (ltb b (suc a)) (suc a - suc b) (b - suc a))
mag_sum (negsuc a) (negsuc b) = omega arith

mag-difference : (a b : ℤ) → mag (a -ℤ b) ≤ suc (mag a + mag b)
mag-difference a (pos zero) = omega (arith, mag_sum a (pos zero))
mag-difference a (pos (suc b)) = omega (arith, mag_sum a (negsuc b))
mag-difference (pos a) (negsuc b) = omega arith
mag-difference (negsuc a) (negsuc b) = omega (arith, mag-either (ltb (suc b) (suc a)) (suc a - suc (suc b)) (suc b - suc a))

pub abs-sum : (a b : ℤ) → nat_abs (a +ℤ b) ≤ nat_abs a + nat_abs b
abs-sum (pos a) (pos b) = omega arith
abs-sum (pos a) (negsuc b) = omega (arith, abs-either (ltb a (suc b)) (suc b - suc a) (a - suc b))
abs-sum (negsuc a) (pos b) = omega (arith, abs-either (ltb b (suc a)) (suc a - suc b) (b - suc a))
abs-sum (negsuc a) (negsuc b) = omega arith

pub abs-difference : (a b : ℤ) → nat_abs (a -ℤ b) ≤ nat_abs a + nat_abs b
abs-difference a b = omega (arith, abs-sum a (neg_ℤ b), abs_neg b)

abs-product : (a b : ℤ) → nat_abs (a *ℤ b) ≡ nat_abs a * nat_abs b
abs-product (pos a) (pos b) = refl
abs-product (pos a) (negsuc b) = abs_neg (pos (a * suc b))
abs-product (negsuc a) (pos b) = abs_neg (pos (suc a * b))
abs-product (negsuc a) (negsuc b) = refl

-- ---- ranges

module _ (k : ℕ) (a b : ℤ) (ha : mag a < 2 ^ k) (hb : mag b < 2 ^ k) where
  pub sum-range : mag (a +ℤ b) < 2 ^ k + 2 ^ k
  sum-range = omega (arith, mag_sum a b)

  pub difference-range : mag (a -ℤ b) < 2 ^ k + 2 ^ k
  difference-range = omega (arith, mag-difference a b)

  pub product-range : mag (a *ℤ b) ≤ 2 ^ k * 2 ^ k
  product-range =
      le_trans (mag-abs (a *ℤ b)) (rw abs-product (mul-le-mul (omega (arith, abs_mag a)) (omega (arith, abs_mag b))))

-- a total of i numbers from -w to w - 1, and one more
pub total-range : (w i : ℕ) (t z : ℤ) → nat_abs t ≤ i * w → mag z < w → nat_abs (t +ℤ z) ≤ i * w + w
total-range w i t z ht hz = omega (arith, abs-sum t z, abs_mag z)

-- and one of them let out for another
pub slide-range : (w i : ℕ) (t x y : ℤ) → nat_abs t ≤ i * w → mag x < w → mag y < w → nat_abs (t +ℤ x -ℤ y) ≤ i * w + w + w
slide-range w i t x y ht hx hy = omega (arith, abs-difference (t +ℤ x) y, total-range w i t x ht hx, abs_mag y)

-- what passed both tests of a range is in it
pub in-range : (h : ℕ) (z : ℤ) → lt_z z (negsuc h) ≡ false → lt_z (pos h) z ≡ false → mag z < suc h
in-range h (pos n) p q = omega (arith, ltb-false h n q)
in-range h (negsuc n) p q = omega (arith, ltb-false h n p)

-- ---- a number from -h to h - 1, moved up by h, is one from 0 to 2h - 1; and back

pub up-non_neg : (h : ℕ) (z : ℤ) → mag z < h → T (non_neg (z +ℤ pos h))
up-non_neg h (pos n) k = tt
up-non_neg h (negsuc n) k = rw (le-ltb h (suc n) k) tt

pub up-size : (h : ℕ) (z : ℤ) → mag z < h → nat_abs (z +ℤ pos h) < h + h
up-size h (pos n) k = omega arith
up-size h (negsuc n) k = omega (arith, abs-either (ltb h (suc n)) (suc n - suc h) (h - suc n))

pub down-range : (h n : ℕ) → n < h + h → mag (pos n -ℤ pos h) < h
down-range zero n k = omega arith
down-range (suc h) n k = omega (arith, mag-either (ltb n (suc h)) (suc h - suc n) (n - suc h))
