-- Division by a number above 0 as round_down goes about it, by the library's quotient whose remainder is not negative: a number n below 0 is
-- turned up to -1 - n, which is not and is as far from 0; the quotient of that, turned down in the same way, is n's. Before it, a divisor below 0
-- is turned about 0 with the number. Assumes nothing.
use Rattle.std.specs.Prelude.{◌≡◌, refl, true, false, ℕ, zero, suc, ◌/◌, ◌≤◌, ℤ, pos, negsuc, neg_ℤ, ◌-ℤ◌, ◌<ℤ◌}
use Rattle.std.proofs.Common.{sym, ap, ◌∙◌, true≢false, div-le_self, arith, le-ltb, ltb-true, lt→ltb}
use Rattle.std.specs.Int.{int_div_euclid}
use Rattle.std.specs.Int.Signed.{lt_z, mag, quot_z}
use Rattle.language.specs.Cases.{split}
use Rattle.rules.specs.Numbers.{quotient}

-- ---- turned up, and down again

not-below-0 : (m : ℕ) → lt_z (pos m) (pos 0) ≡ true → ⊥
not-below-0 m h = omega (arith, ltb-true m 0 h)

turned_up : (m : ℕ) → negsuc 0 -ℤ negsuc m ≡ pos m
turned_up m = rw (le-ltb (suc m) 1 (omega arith)) (ap pos (omega arith))

turned_down : (m : ℕ) → negsuc 0 -ℤ pos m ≡ negsuc m
turned_down zero = refl
turned_down (suc m) = ap (λ (k : ℕ). negsuc (suc k)) (omega arith)

-- what is turned up is as far from 0
pub turned-mag : (n : ℤ) → lt_z n (pos 0) ≡ true → mag (negsuc 0 -ℤ n) ≡ mag n
turned-mag (pos m) h = absurd (not-below-0 m h)
turned-mag (negsuc m) h = ap mag (turned_up m)

-- and not below it
pub turned-high : (n : ℤ) → lt_z n (pos 0) ≡ true → lt_z (negsuc 0 -ℤ n) (pos 0) ≡ false
turned-high (pos m) h = absurd (not-below-0 m h)
turned-high (negsuc m) h = rw (turned_up m) (le-ltb m 0 (omega arith))

-- the quotient is no farther from 0 than what is divided
pub quotient-mag : (n d : ℤ) → pos 0 <ℤ d → mag (quotient n d) ≤ mag n
quotient-mag (pos m) (pos d) h = div-le_self m d
quotient-mag (negsuc m) (pos d) h = div-le_self m d
quotient-mag n (negsuc d) h = absurd h.lt

-- the quotient of a number below 0, and of any other
pub quotient-low : (n d : ℤ) → pos 0 <ℤ d → lt_z n (pos 0) ≡ true → negsuc 0 -ℤ quot_z (negsuc 0 -ℤ n) d ≡ quotient n d
quotient-low (pos m) d up h = absurd (not-below-0 m h)
quotient-low (negsuc m) (pos d) up h = rw (turned_up m) (turned_down (m / d))
quotient-low (negsuc m) (negsuc d) up h = absurd up.lt

pub quotient-high : (n d : ℤ) → pos 0 <ℤ d → lt_z n (pos 0) ≡ false → quot_z n d ≡ quotient n d
quotient-high (pos m) (pos d) up h = refl
quotient-high (pos m) (negsuc d) up h = absurd up.lt
quotient-high (negsuc m) d up h = cc

-- the library's quotient goes the same way, so it is that one
euclid-low : (n d : ℤ) → pos 0 <ℤ d → lt_z n (pos 0) ≡ true → int_div_euclid n d ≡ negsuc 0 -ℤ quot_z (negsuc 0 -ℤ n) d
euclid-low (pos m) d up h = absurd (not-below-0 m h)
euclid-low (negsuc m) (pos d) up h = rw (turned_up m) (sym (turned_down (m / d)))
euclid-low (negsuc m) (negsuc d) up h = absurd up.lt

euclid-high : (n d : ℤ) → pos 0 <ℤ d → lt_z n (pos 0) ≡ false → int_div_euclid n d ≡ quot_z n d
euclid-high (pos m) (pos d) up h = refl
euclid-high (pos m) (negsuc d) up h = absurd up.lt
euclid-high (negsuc m) d up h = cc

pub euclid-quotient : (n d : ℤ) → pos 0 <ℤ d → int_div_euclid n d ≡ quotient n d
euclid-quotient n d up =
    split (lt_z n (pos 0))
    (λ h. euclid-low n d up h ∙ quotient-low n d up h)
    (λ h. euclid-high n d up h ∙ quotient-high n d up h)

-- ---- turned about 0

-- a divisor turned about 0 is above it, and one that is neither below 0 nor 0 is above it as it is
pub above-minus : (b : ℤ) → lt_z b (pos 0) ≡ true → pos 0 <ℤ neg_ℤ b
above-minus (pos m) h = absurd (not-below-0 m h)
above-minus (negsuc m) h = record { lt = lt→ltb 0 (suc m) (omega arith) }

pub above_zero : (b : ℤ) → (b ≡ pos 0 → ⊥) → lt_z b (pos 0) ≡ false → pos 0 <ℤ b
above_zero (pos zero) h k = absurd (h refl)
above_zero (pos (suc m)) h k = record { lt = lt→ltb 0 (suc m) (omega arith) }
above_zero (negsuc m) h k = absurd (true≢false k)

-- the quotient of two numbers turned about 0 is theirs
pub quotient-turned : (a b : ℤ) → lt_z b (pos 0) ≡ true → quotient (neg_ℤ a) (neg_ℤ b) ≡ quotient a b
quotient-turned a (pos m) h = absurd (not-below-0 m h)
quotient-turned a (negsuc m) h = refl
