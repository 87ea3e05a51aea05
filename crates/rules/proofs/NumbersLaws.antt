-- 02, T-02: the quotient that is computed is the greatest whole number not above a / b, and the one with q · b ≤ a < (q + 1) · b, the other way
-- round for a negative b. Both follow from one law, `below_quotient`: not above a / b are just the numbers up to the quotient; so `div` gives it.
-- Assumes nothing.
use Rattle.std.specs.Prelude.{◌≡◌, ◌↔◌, List, ℕ, zero, suc, ◌+◌, ◌*◌, ◌/◌, ◌≤◌, ◌<◌, ℤ, negsuc, neg_ℤ, ◌+ℤ◌, ◌*ℤ◌, ◌≤ℤ◌, ◌<ℤ◌}
use Rattle.std.proofs.Math.Path.{refl, ap}
use Rattle.std.proofs.Common.{sym, subst, suc-le-suc, le-div_iff_mul-le, div-lt_iff_lt-mul, zero-lt-suc, le_of_suc-le-suc, lt_of_not-le, arith, ne_eqb, leb→le, le→leb, ltb→lt, lt→ltb}
use Rattle.std.proofs.Math.IntN.{pos, suc_ℤ, +ℤ_one, *ℤ-negsuc}
use Rattle.std.specs.Int.Signed.{≤ℤ_refl}
use Rattle.members.specs.declared.Member.TheVariants.{Div}
use Rattle.rules.specs.declared.Value.{Value}
use Rattle.rules.specs.declared.Value.TheVariants.{Number, Missing}
use Rattle.rules.specs.Values.{ranged, division_by_zero}
use Rattle.rules.specs.Numbers.{NotAbove, Above, GreatestNotAbove, rounded_down, quotient, divided}
use Rattle.rules.specs.Rules.{rule}
use Rattle.rules.specs.Apply.{apply1}

-- ---- the order of the integers

antisym : (a b : ℤ) → a ≤ℤ b → b ≤ℤ a → a ≡ b
antisym (pos m) (pos n) h k = let e : m ≡ n = omega (arith, leb→le m n h.le, leb→le n m k.le) in ap pos e
antisym (pos m) (negsuc n) h k = absurd h.le
antisym (negsuc m) (pos n) h k = absurd k.le
antisym (negsuc m) (negsuc n) h k = let e : m ≡ n = omega (arith, leb→le n m h.le, leb→le m n k.le) in ap negsuc e

-- the negatives stand the other way round
turned : (a x : ℤ) → a ≤ℤ neg_ℤ x → x ≤ℤ neg_ℤ a
turned (pos zero) (pos zero) h = h
turned (pos zero) (pos (suc n)) h = absurd h.le
turned (pos zero) (negsuc n) h = record { le = tt }
turned (pos (suc m)) (pos zero) h = omega (arith, leb→le (suc m) 0 h.le)
turned (pos (suc m)) (pos (suc n)) h = absurd h.le
turned (pos (suc m)) (negsuc n) h = record { le = le→leb m n (omega (arith, leb→le (suc m) (suc n) h.le)) }
turned (negsuc m) (pos zero) h = record { le = le→leb 0 (suc m) (omega arith) }
turned (negsuc m) (pos (suc n)) h = record { le = le→leb (suc n) (suc m) (omega (arith, leb→le n m h.le)) }
turned (negsuc m) (negsuc n) h = record { le = tt }

-- no number is above the next one, and one that is not above b is b if its next one is
next-above : (a : ℤ) → suc_ℤ a ≤ℤ a → ⊥
next-above (pos m) h = omega (arith, leb→le (suc m) m h.le)
next-above (negsuc zero) h = h.le
next-above (negsuc (suc m)) h = omega (arith, leb→le (suc m) m h.le)

last-below : (a b : ℤ) → a ≤ℤ b → (suc_ℤ a ≤ℤ b → ⊥) → a ≡ b
last-below (pos m) (pos n) h k =
    let l : n < suc m = lt_of_not-le (λ (g : suc m ≤ n). k (record { le = le→leb (suc m) n g })) in
    let e : m ≡ n = omega (arith, leb→le m n h.le) in
    ap pos e
last-below (pos m) (negsuc n) h k = absurd h.le
last-below (negsuc zero) (pos n) h k = absurd (k (record { le = le→leb 0 n (omega arith) }))
last-below (negsuc (suc m)) (pos n) h k = absurd (k (record { le = tt }))
last-below (negsuc zero) (negsuc n) h k = let e : zero ≡ n = omega (arith, leb→le n 0 h.le) in ap negsuc e
last-below (negsuc (suc m)) (negsuc n) h k =
    let l : m < n = lt_of_not-le (λ (g : n ≤ m). k (record { le = le→leb n m g })) in
    let e : suc m ≡ n = omega (arith, leb→le n (suc m) h.le) in
    ap negsuc e

-- minus x against a number below 0, and against one that is not
minus-negative : (x n : ℕ) → (neg_ℤ (pos x) ≤ℤ negsuc n) ↔ (n < x)
minus-negative zero n = (λ h. absurd h.le, λ (h : n < 0). omega (arith, h))
minus-negative (suc x) n = (λ h. omega (arith, leb→le n x h.le), λ (h : n < suc x). record { le = le→leb n x (omega (arith, h)) })

minus-not : (x n : ℕ) → neg_ℤ (pos x) ≤ℤ pos n
minus-not zero n = record { le = le→leb 0 n (omega arith) }
minus-not (suc x) n = record { le = tt }

-- less is not above
less : (x y : ℤ) → (x <ℤ y) ↔ (y ≤ℤ x → ⊥)
less (pos m) (pos n) = (
  λ h k. omega (arith, ltb→lt m n h.lt, leb→le n m k.le),
  λ h. record { lt = lt→ltb m n (lt_of_not-le (λ (g : n ≤ m). h (record { le = le→leb n m g }))) },
)
less (pos m) (negsuc n) = (λ h. absurd h.lt, λ h. absurd (h (record { le = tt })))
less (negsuc m) (pos n) = (λ h k. k.le, λ h. record { lt = tt })
less (negsuc m) (negsuc n) = (
  λ h k. omega (arith, ltb→lt n m h.lt, leb→le m n k.le),
  λ h. record { lt = lt→ltb n m (lt_of_not-le (λ (g : m ≤ n). h (record { le = le→leb m n g }))) },
)

-- ---- rounding down

module _ (d : ℕ) where
  below-rounded : (a z : ℤ) → ((z *ℤ pos (suc d)) ≤ℤ a) ↔ (z ≤ℤ rounded_down a (suc d))
  below-rounded (pos n) (pos m) = (
    λ h. record { le = le→leb m (n / suc d) ((le-div_iff_mul-le (zero-lt-suc d)).1 (leb→le (m * suc d) n h.le)) },
    λ h. record { le = le→leb (m * suc d) n ((le-div_iff_mul-le (zero-lt-suc d)).0 (leb→le m (n / suc d) h.le)) },
  )
  below-rounded (pos n) (negsuc m) = (λ h. record { le = tt }, λ h. minus-not (suc m * suc d) n)
  below-rounded (negsuc n) (pos m) = (λ h. absurd h.le, λ h. absurd h.le)
  below-rounded (negsuc n) (negsuc m) = (
    λ h. record { le = le→leb (n / suc d) m (le_of_suc-le-suc ((div-lt_iff_lt-mul (zero-lt-suc d)).1 ((minus-negative (suc m * suc d) n).0 h))) },
    λ h. (minus-negative (suc m * suc d) n).1 ((div-lt_iff_lt-mul (zero-lt-suc d)).0 (suc-le-suc (leb→le (n / suc d) m h.le))),
  )

-- not above a / b are just the numbers up to the quotient
pub below_quotient : (a b z : ℤ) → (b ≡ pos 0 → ⊥) → NotAbove a b z ↔ (z ≤ℤ quotient a b)
below_quotient a (pos zero) z h = absurd (h refl)
below_quotient a (pos (suc d)) z h = below-rounded d a z
below_quotient a (negsuc d) z h =
    let e : z *ℤ negsuc d ≡ neg_ℤ (z *ℤ pos (suc d)) = *ℤ-negsuc z d in (
      λ k. (below-rounded d (neg_ℤ a) z).0 (turned a (z *ℤ pos (suc d)) (subst (λ (y : ℤ). a ≤ℤ y) e k)),
      λ k. subst (λ (y : ℤ). a ≤ℤ y) (sym e) (turned (z *ℤ pos (suc d)) a ((below-rounded d (neg_ℤ a) z).1 k)),
    )

-- ---- what is above is what is not not above

above : (a b z : ℤ) → Above a b z ↔ (NotAbove a b z → ⊥)
above a (pos b) z = less a (z *ℤ pos b)
above a (negsuc b) z = less (z *ℤ negsuc b) a

-- ---- the quotient, in the words of the request and between its bounds

module _ (a b : ℤ) (h : b ≡ pos 0 → ⊥) where
  pub quotient-greatest : GreatestNotAbove a b (quotient a b)
  quotient-greatest = record {
    not-above = (below_quotient a b (quotient a b) h).1 (≤ℤ_refl (quotient a b));
    greatest = λ z k. (below_quotient a b z h).0 k;
  }

  pub quotient-exactly : (q : ℤ) → (quotient a b ≡ q) ↔ GreatestNotAbove a b q
  quotient-exactly q = (
    λ e. subst (GreatestNotAbove a b) e quotient-greatest,
    λ g. antisym (quotient a b) q (g.greatest (quotient a b) quotient-greatest.not-above) ((below_quotient a b q h).0 g.not-above),
  )

  -- the next number after q is not above a / b exactly if it is up to the quotient
  next-below : (q : ℤ) → NotAbove a b (q +ℤ pos 1) ↔ (suc_ℤ q ≤ℤ quotient a b)
  next-below q = rw (+ℤ_one q) (below_quotient a b (suc_ℤ q) h)

  pub quotient-between : (q : ℤ) → (quotient a b ≡ q) ↔ (NotAbove a b q × Above a b (q +ℤ pos 1))
  quotient-between q = (
    λ e. (((quotient-exactly q).0 e).not-above, (above a b (q +ℤ pos 1)).1 (λ k. next-above q (subst (λ (y : ℤ). suc_ℤ q ≤ℤ y) e ((next-below q).0 k)))),
    λ g. sym (last-below q (quotient a b) ((below_quotient a b q h).0 g.0) (λ k. (above a b (q +ℤ pos 1)).0 g.1 ((next-below q).1 k))),
  )

-- ---- the member, on two numbers

module _ (xs : List ℤ) (a : ℤ) (run : ℤ → Value) where
  pub by_zero : apply1 Div xs (Number a) (Number (pos 0)) run ≡ Missing division_by_zero
  unfolding apply1 rule divided
  by_zero = refl

  pub goes_down : (b q : ℤ) → (b ≡ pos 0 → ⊥) → GreatestNotAbove a b q → apply1 Div xs (Number a) (Number b) run ≡ ranged q
  unfolding apply1 rule divided
  goes_down (pos zero) q h g = absurd (h refl)
  goes_down (pos (suc d)) q h g = rw (ne_eqb (suc d) 0 (λ e. h (ap pos e))) (ap ranged ((quotient-exactly a (pos (suc d)) h q).1 g))
  goes_down (negsuc d) q h g = ap ranged ((quotient-exactly a (negsuc d) h q).1 g)
