-- What holds of the dependencies' values and of the readings holds of the member's value, for any property that the members' own results
-- have: numbers in range, 01's reasons, windows and counts within a window that has it. So a window stays inside, and what may be kept stays
-- so. One law a member, by its rule. Assumes nothing.
use Rattle.std.specs.Prelude.{◌≡◌, Bool, true, false, ◌&&◌, cond, ℕ, suc, ◌+◌, ◌-◌, min, ◌≤◌, ◌<◌, leb, ltb, ℤ, pos, negsuc, length, drop, get_or}
use Rattle.std.proofs.lemmas.Bool.{cond_both}
use Rattle.std.proofs.Math.Path.{refl}
use Rattle.std.proofs.Common.{ap, ◌∙◌, arith, ltb-true, leb-true, length-take, length-drop, get_or-take, get_or-drop}
use Rattle.std.proofs.Math.Bool.{and-eq-true_iff}
use mathlib.Core.List.{List, [], ◌∷◌}
use Rattle.std.specs.Int.Signed.{mag, lt_z}
use Rattle.language.specs.Limits.{least_number, most_number}
use Rattle.members.specs.declared.Member.{Member}
use Rattle.members.specs.declared.Member.TheVariants.{Add, Sub, Mul, Div, Gt, Eq, Skip, Take, Count, Sum, Min, Max, At, CountWhere, LongestRun, SumBy, BestSum, BestAt}
use Rattle.rules.specs.declared.Value.{Value}
use Rattle.rules.specs.declared.Value.TheVariants.{Number, Window, Function, Delayed, Missing}
use Rattle.rules.specs.Values.{ranged, flag, sameℤ}
use Rattle.rules.specs.Numbers.{quotient, divided}
use Rattle.rules.specs.Windows.{readings_in, from_start, clipped, reading, unless_negative, lesser, greater, fold_from, extreme}
use Rattle.rules.specs.Stretches.{sums, of_greatest, first_at, of_width, best_sum, best_at}
use Rattle.rules.specs.Runs.{Results, numbers, because, with, results, is_nonzero, count_of, stretch, longest, summary, Summary}
use Rattle.rules.specs.Rules.{Rule, two_numbers, window, window_number, window_runs, rule, by_runs, concluded, of_runs}
use Rattle.rules.specs.Apply.{concluded_by}
use Rattle.rules.proofs.WindowsLaws.{clips}
use Rattle.values.specs.Ranges.{in-range}
use Rattle.values.specs.WindowLaws.{readings-short}
use Rattle.values.specs.SlidingLaws.{first_short, sums-length}
use Rattle.values.specs.TallyLaws.{if-most}

-- the members' own results have the property P
pub record Closed (P : Value → Type 0) : Type 0 where
  pub small : (z : ℤ) → mag z < 2147483648 → P (Number z)
  pub reason : (r : ℕ) → 1 ≤ r → r ≤ 5 → P (Missing r)
  pub part : (s l s' l' : ℕ) → s' + l' ≤ s + l → P (Window s l) → P (Window s' l')
  pub count : (s l k : ℕ) → k ≤ l → P (Window s l) → P (Number (pos k))

-- a recording whose readings have it
abbrev pub Readings : (Value → Type 0) → List ℤ → Type 0
Readings P xs = (i : ℕ) → i < length xs → P (Number (get_or xs i (pos 0)))

-- a dependency or a result that has it as far as that matters: a window or a reason is taken over
abbrev pub Given : (Value → Type 0) → Value → Type 0
Given P (Window s l) = P (Window s l)
Given P (Missing r) = P (Missing r)
Given P (Number z) = Unit {0}
Given P Function = Unit {0}
Given P Delayed = Unit {0}

pub given : (P : Value → Type 0) (v : Value) → P v → Given P v
given P (Window s l) p = p
given P (Missing r) p = p
given P (Number z) p = tt
given P Function p = tt
given P Delayed p = tt

-- values all of which have it
abbrev pub Each : (Value → Type 0) → List Value → Type 0
Each P [] = Unit {0}
Each P (v ∷ vs) = P v × Each P vs

-- ---- there are at most as many as there are results

count-short : (zs : List ℤ) → count_of zs ≤ length zs
unfolding count_of
count-short [] = omega arith
count-short (z ∷ zs) = omega (arith, if-most (is_nonzero z) 1, count-short zs)

stretch-short : (zs : List ℤ) → stretch zs ≤ length zs
unfolding stretch
stretch-short [] = omega arith
stretch-short (z ∷ zs) = omega (arith, if-most (is_nonzero z) (suc (stretch zs)), stretch-short zs)

longest-short : (zs : List ℤ) → longest zs ≤ length zs
unfolding longest
longest-short [] = omega arith
longest-short (z ∷ zs) = omega (arith, stretch-short (z ∷ zs), longest-short zs)

module _ (P : Value → Type 0) (C : Closed P) where
  pub wrong : P (Missing 2)
  wrong = C.reason 2 (omega arith) (omega arith)

  outside : P (Missing 5)
  outside = C.reason 5 (omega arith) (omega arith)

  beyond : P (Missing 4)
  beyond = C.reason 4 (omega arith) (omega arith)

  -- signed 32-bit readings have it
  pub readings-small : (xs : List ℤ) → ((i : ℕ) → i < length xs → mag (get_or xs i (pos 0)) < 2147483648) → Readings P xs
  readings-small xs h i k = C.small (get_or xs i (pos 0)) (h i k)

  -- ---- the members on numbers

  closed-ranged : (z : ℤ) → P (ranged z)
  unfolding ranged
  closed-ranged z =
      cond_both (lt_z z least_number) _ _ P (λ h. beyond)
      (λ low. cond_both (lt_z most_number z) _ _ P (λ h. beyond) (λ high. C.small z (in-range 2147483647 z low high)))

  closed-flag : (b : Bool) → P (flag b)
  closed-flag true = C.small (pos 1) (omega arith)
  closed-flag false = C.small (pos 0) (omega arith)

  -- ---- the members on a window

  pub readings-of : (xs : List ℤ) (s l : ℕ) → Readings P xs → Readings P (readings_in xs s l)
  readings-of xs s l R i h =
      let k : i < min l (length xs - s) = simp (length-take, length-drop) at h in
      rw (get_or-take l (drop s xs) i (pos 0) (omega arith) ∙ get_or-drop s xs i (pos 0)) (R (s + i) (omega arith))

  closed-fold : (f : ℤ → ℤ → ℤ) → ((a b : ℤ) → P (Number a) → P (Number b) → P (Number (f a b)))
      → (a : ℤ) (xs : List ℤ) → P (Number a) → Readings P xs → P (Number (fold_from f a xs))
  unfolding fold_from
  closed-fold f F a [] p R = p
  closed-fold f F a (x ∷ xs) p R = closed-fold f F (f a x) xs (F a x p (R 0 (omega arith))) (λ i h. R (suc i) (omega arith))

  closed-extreme : (f : ℤ → ℤ → ℤ) → ((a b : ℤ) → P (Number a) → P (Number b) → P (Number (f a b))) → (xs : List ℤ) → Readings P xs → P (extreme f xs)
  unfolding extreme
  closed-extreme f F [] R = outside
  closed-extreme f F (x ∷ xs) R = closed-fold f F x xs (R 0 (omega arith)) (λ i h. R (suc i) (omega arith))

  either : (b : Bool) (x y : ℤ) → P (Number x) → P (Number y) → P (Number (cond b x y))
  either true x y p q = p
  either false x y p q = q

  closed-unless : (n : ℤ) (f : ℕ → Value) → ((k : ℕ) → P (f k)) → P (unless_negative n f)
  closed-unless (pos k) f p = p k
  closed-unless (negsuc k) f p = outside

  closed-width : (n : ℤ) (l : ℕ) (f : ℕ → Value) → ((w : ℕ) → 1 ≤ w → w ≤ l → P (f w)) → P (of_width n l f)
  closed-width (pos w) l f p =
      cond_both (leb 1 w && leb w l) _ _ P (λ h. let b = (and-eq-true_iff (leb 1 w) (leb w l)).0 h in p w (leb-true 1 w b.0) (leb-true w l b.1)) (λ h. outside)
  closed-width (negsuc n) l f p = outside

  closed-greatest : (f : ℤ → Value) (zs : List ℤ) → ((z : ℤ) → P (f z)) → P (of_greatest f zs)
  closed-greatest f [] p = outside
  closed-greatest f (z ∷ zs) p = p (fold_from greater z zs)

  closed-reading : (xs : List ℤ) → Readings P xs → (k : ℕ) → P (reading xs k)
  closed-reading xs R k = cond_both (ltb k (length xs)) _ _ P (λ h. R k (ltb-true k _ h)) (λ h. outside)

  -- ---- the members

  -- a rule gives values that have it
  abbrev pub Closes : Rule → Type 0
  Closes (two_numbers f) = (a b : ℤ) → P (f a b)
  Closes (window f) = (xs : List ℤ) (s l : ℕ) → Readings P xs → P (Window s l) → P (f xs s l)
  Closes (window_number f) = (xs : List ℤ) (s l : ℕ) (n : ℤ) → Readings P xs → P (Window s l) → P (f xs s l n)
  Closes (window_runs f) = (s l : ℕ) (zs : List ℤ) → P (Window s l) → length zs ≤ l → P (f (summary zs))

  pub closed-rule : (m : Member) → Closes (rule m)
  unfolding rule divided best_sum best_at
  closed-rule Add = λ a b. closed-ranged _
  closed-rule Sub = λ a b. closed-ranged _
  closed-rule Mul = λ a b. closed-ranged _
  closed-rule Div = λ a b. cond_both (sameℤ b (pos 0)) _ _ P (λ h. C.reason 3 (omega arith) (omega arith)) (λ h. closed-ranged (quotient a b))
  closed-rule Gt = λ a b. closed-flag (lt_z b a)
  closed-rule Eq = λ a b. closed-flag (sameℤ a b)
  closed-rule Skip = λ xs s l n R W. C.part s l (s + clipped n l) (l - clipped n l) (omega (arith, clips.within n l)) W
  closed-rule Take = λ xs s l n R W. C.part s l s (clipped n l) (omega (arith, clips.within n l)) W
  closed-rule Count = λ xs s l R W. C.count s l l (omega arith) W
  closed-rule Sum = λ xs s l R W. closed-ranged _
  closed-rule Min = λ xs s l R W. closed-extreme lesser (λ a b p q. either (lt_z b a) b a q p) (readings_in xs s l) (readings-of xs s l R)
  closed-rule Max = λ xs s l R W. closed-extreme greater (λ a b p q. either (lt_z a b) b a q p) (readings_in xs s l) (readings-of xs s l R)
  closed-rule At = λ xs s l n R W. closed-unless (from_start n (length (readings_in xs s l))) _ (closed-reading (readings_in xs s l) (readings-of xs s l R))
  closed-rule CountWhere = λ s l zs W h. C.count s l (count_of zs) (omega (arith, count-short zs)) W
  closed-rule LongestRun = λ s l zs W h. C.count s l (longest zs) (omega (arith, longest-short zs)) W
  closed-rule SumBy = λ s l zs W h. closed-ranged _
  closed-rule BestSum = λ xs s l n R W. closed-width n _ _ (λ w p q. closed-greatest ranged (sums (readings_in xs s l) w) closed-ranged)
  closed-rule BestAt = λ xs s l n R W.
      closed-width n _ _ (λ w p q. closed-greatest _ (sums (readings_in xs s l) w)
      (λ z. C.count s l (first_at z (sums (readings_in xs s l) w))
      (omega (arith, first_short z (sums (readings_in xs s l) w), sums-length (readings_in xs s l) w, readings-short xs s l)) W))

  -- ---- the members that run a function

  -- as many numbers as results, or a reason that one of them has
  abbrev pub Told : ℕ → Results → Type 0
  Told k (numbers zs) = length zs ≡ k
  Told k (because r) = P (Missing r)

  told_with : (z : ℤ) (k : ℕ) (rs : Results) → Told k rs → Told (suc k) (with z rs)
  told_with z k (numbers zs) e = ap suc e
  told_with z k (because r) p = p

  pub told : (vs : List Value) → Each (Given P) vs → Told (length vs) (results vs)
  unfolding results
  told [] e = refl
  told (Number z ∷ vs) e = told_with z (length vs) (results vs) (told vs e.1)
  told (Window s l ∷ vs) e = wrong
  told (Function ∷ vs) e = wrong
  told (Delayed ∷ vs) e = wrong
  told (Missing r ∷ vs) e = e.0

  -- a rule that runs a function, on the results
  pub closed-concluded : (f : Summary → Value) → Closes (window_runs f) → (s l : ℕ) → P (Window s l) → (rs : Results) (k : ℕ) → k ≤ l → Told k rs → P (concluded_by f rs)
  closed-concluded f h s l W (numbers zs) k b e = h s l zs W (omega arith)
  closed-concluded f h s l W (because r) k b p = p

  module _ (s l : ℕ) (W : P (Window s l)) where
    pub closed-told : (m : Member) (rs : Results) (k : ℕ) → k ≤ l → Told k rs → P (concluded m rs)
    closed-told m (numbers zs) k h e = by (rule m) (closed-rule m)
      where
        by : (r : Rule) → Closes r → P (by_runs r (summary zs))
        by (two_numbers f) q = wrong
        by (window f) q = wrong
        by (window_number f) q = wrong
        by (window_runs f) q = q s l zs W (omega arith)
    closed-told m (because r) k h p = p

    pub closed-results : (m : Member) (vs : List Value) → length vs ≤ l → Each (Given P) vs → P (of_runs m vs)
    unfolding of_runs
    closed-results m vs h e = closed-told m (results vs) (length vs) h (told vs e)

    pub closed-runs : (m : Member) (vs : List Value) → length vs ≤ l → Each P vs → P (of_runs m vs)
    closed-runs m vs h e = closed-results m vs h (each-given vs e)
      where
        each-given : (us : List Value) → Each P us → Each (Given P) us
        each-given [] e = tt
        each-given (u ∷ us) e = (given P u e.0, each-given us e.1)
