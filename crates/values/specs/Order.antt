-- The tests of two integers: what it tells that they are the same, or that one is less. Each by cases on the signs. Assumes nothing.
use Rattle.std.specs.Prelude.{◌≡◌, refl, true, false, ℤ, pos, negsuc}
use Rattle.std.proofs.Common.{ap, subst, arith, eq-eqb, ne_eqb, ltb-true, ltb-false, le-ltb}
use Rattle.std.specs.Int.Signed.{lt_z}
use Rattle.rules.specs.Values.{sameℤ}

same_self : (a : ℤ) → sameℤ a a ≡ true
same_self (pos n) = eq-eqb n n refl
same_self (negsuc n) = eq-eqb n n refl

pub same-yes : (a b : ℤ) → a ≡ b → sameℤ a b ≡ true
same-yes a b e = subst (λ (y : ℤ). sameℤ a y ≡ true) e (same_self a)

pub same-no : (a b : ℤ) → (a ≡ b → ⊥) → sameℤ a b ≡ false
same-no (pos m) (pos n) h = ne_eqb m n (λ e. h (ap pos e))
same-no (pos m) (negsuc n) h = refl
same-no (negsuc m) (pos n) h = refl
same-no (negsuc m) (negsuc n) h = ne_eqb m n (λ e. h (ap negsuc e))

-- nothing is less than itself
pub lt-self : (a : ℤ) → lt_z a a ≡ false
lt-self (pos n) = le-ltb n n (omega arith)
lt-self (negsuc n) = le-ltb n n (omega arith)

-- two of which neither is less are the same
pub lt-neither : (a b : ℤ) → lt_z a b ≡ false → lt_z b a ≡ false → a ≡ b
lt-neither (pos m) (pos n) p q = let e : m ≡ n = omega (arith, ltb-false m n p, ltb-false n m q) in ap pos e
lt-neither (pos m) (negsuc n) p q = cc
lt-neither (negsuc m) (pos n) p q = cc
lt-neither (negsuc m) (negsuc n) p q = let e : m ≡ n = omega (arith, ltb-false n m p, ltb-false m n q) in ap negsuc e

-- what is not less than the greater of two is not less than the other
pub lt-through : (a b c : ℤ) → lt_z a b ≡ true → lt_z c b ≡ false → lt_z c a ≡ false
lt-through (pos l) (pos m) (pos n) p q = le-ltb n l (omega (arith, ltb-true l m p, ltb-false n m q))
lt-through (pos l) (pos m) (negsuc n) p q = cc
lt-through (pos l) (negsuc m) c p q = cc
lt-through (negsuc l) b (pos n) p q = refl
lt-through (negsuc l) (pos m) (negsuc n) p q = cc
lt-through (negsuc l) (negsuc m) (negsuc n) p q = le-ltb l n (omega (arith, ltb-true m l p, ltb-false m n q))
