-- Gathering the results one at a time comes to what Runs says of the whole list: a tally that goes on counts, measures and adds the numbers
-- so far, and one that has stopped stays. By induction on the results. Assumes nothing.
use Rattle.std.specs.Prelude.{◌≡◌, refl, Bool, true, false, cond, List, [], ◌∷◌, ℕ, suc, ◌+◌, max, ◌≤◌, ◌<◌, ℤ, ◌+ℤ◌}
use Rattle.std.proofs.Common.{sym, ap, ◌∙◌, arith}
use Rattle.std.proofs.Math.IntN.{+ℤ_idl, +ℤ_idr, +ℤ_assoc}
use Rattle.std.specs.Int.Signed.{mag}
use Rattle.members.specs.declared.Member.{Member}
use Rattle.rules.specs.declared.Value.{Value}
use Rattle.rules.specs.declared.Value.TheVariants.{Number, Window, Function, Delayed, Missing}
use Rattle.values.specs.declared.runs.Tally.{Tally}
use Rattle.rules.specs.Values.{wrong_kind}
use Rattle.rules.specs.Windows.{total}
use Rattle.rules.specs.Runs.{Results, numbers, because, with, results, is_nonzero, count_of, stretch, longest, summary}
use Rattle.rules.specs.Rules.{rule, by_runs, concluded, of_runs}
use Rattle.values.specs.Ranges.{total-range}
use Rattle.values.specs.Tallies.{begun, noted, halted, entered, stepped, gathered, summed, finished, Within}

-- ---- a tally that has stopped stays, so the rest of the results need not be worked out

pub stopped-steps : (t : Tally) (v : Value) → t.stopped ≡ true → stepped t v ≡ t
unfolding stepped
stopped-steps t v h = ap (λ (b : Bool). cond b t (entered t v)) h

pub stopped-stays : (t : Tally) (vs : List Value) → t.stopped ≡ true → gathered t vs ≡ t
unfolding gathered
stopped-stays t [] h = refl
stopped-stays t (v ∷ vs) h = ap (λ (u : Tally). gathered u vs) (stopped-steps t v h) ∙ stopped-stays t vs h

pub going_steps : (t : Tally) (v : Value) → t.stopped ≡ false → stepped t v ≡ entered t v
unfolding stepped
going_steps t v h = ap (λ (b : Bool). cond b t (entered t v)) h

-- ---- the numbers alone

noted_all : Tally → List ℤ → Tally
noted_all t [] = t
noted_all t (z ∷ zs) = noted_all (noted t z) zs

after : Tally → Results → Tally
after t (numbers zs) = noted_all t zs
after t (because r) = halted r

after-with : (t : Tally) (z : ℤ) (rs : Results) → after (noted t z) rs ≡ after t (with z rs)
unfolding after noted_all
after-with t z (numbers zs) = refl
after-with t z (because r) = refl

gathered-is : (t : Tally) (vs : List Value) → t.stopped ≡ false → gathered t vs ≡ after t (results vs)
unfolding gathered results after noted_all entered noted
gathered-is t [] h = refl
gathered-is t (Number z ∷ vs) h =
    ap (λ (u : Tally). gathered u vs) (going_steps t (Number z) h) ∙ gathered-is (noted t z) vs refl ∙ after-with t z (results vs)
gathered-is t (Window s l ∷ vs) h =
    ap (λ (u : Tally). gathered u vs) (going_steps t (Window s l) h) ∙ stopped-stays (halted wrong_kind) vs refl
gathered-is t (Function ∷ vs) h =
    ap (λ (u : Tally). gathered u vs) (going_steps t Function h) ∙ stopped-stays (halted wrong_kind) vs refl
gathered-is t (Delayed ∷ vs) h =
    ap (λ (u : Tally). gathered u vs) (going_steps t Delayed h) ∙ stopped-stays (halted wrong_kind) vs refl
gathered-is t (Missing r ∷ vs) h =
    ap (λ (u : Tally). gathered u vs) (going_steps t (Missing r) h) ∙ stopped-stays (halted r) vs refl

-- ---- what the numbers come to

going : (t : Tally) (zs : List ℤ) → t.stopped ≡ false → (noted_all t zs).stopped ≡ false
unfolding noted_all noted
going t [] h = h
going t (z ∷ zs) h = going (noted t z) zs refl

counted : (t : Tally) (zs : List ℤ) → (noted_all t zs).count ≡ t.count + count_of zs
unfolding noted_all noted count_of
counted t [] = omega arith
counted t (z ∷ zs) = omega (arith, counted (noted t z) zs)

added : (t : Tally) (zs : List ℤ) → (noted_all t zs).total ≡ t.total +ℤ total zs
unfolding noted_all noted total
added t [] = sym (+ℤ_idr t.total)
added t (z ∷ zs) = added (noted t z) zs ∙ +ℤ_assoc t.total z (total zs)

stretch-long : (zs : List ℤ) → stretch zs ≤ longest zs
unfolding stretch longest
stretch-long [] = omega arith
stretch-long (z ∷ zs) = omega arith

-- the stretch at the end, of n, goes on into the rest or ends
joined : (b : Bool) (l n s g : ℕ) → n ≤ l → s ≤ g
    → max (max l (cond b (n + 1) 0)) (max (cond b (n + 1) 0 + s) g) ≡ max l (max (n + cond b (suc s) 0) (max (cond b (suc s) 0) g))
joined true l n s g h k = omega arith
joined false l n s g h k = omega arith

measured : (t : Tally) (zs : List ℤ) → t.stretch ≤ t.longest → (noted_all t zs).longest ≡ max t.longest (max (t.stretch + stretch zs) (longest zs))
unfolding noted_all noted stretch longest
measured t [] h = omega arith
measured t (z ∷ zs) h = measured (noted t z) zs (omega arith) ∙ joined (is_nonzero z) t.longest t.stretch (stretch zs) (longest zs) h (stretch-long zs)

-- ---- the law: a member is concluded from the tally as Runs concludes it from the results

summed-is : (zs : List ℤ) → summed (noted_all begun zs) ≡ summary zs
summed-is zs =
    let count : (noted_all begun zs).count ≡ count_of zs = omega (arith, counted begun zs) in
    let most : (noted_all begun zs).longest ≡ longest zs = omega (arith, measured begun zs (omega arith), stretch-long zs) in
    let sum : (noted_all begun zs).total ≡ total zs = added begun zs ∙ +ℤ_idl (total zs) in
    λ i. record { count = count i; longest = most i; total = sum i }

finished-after : (m : Member) (rs : Results) → finished m (after begun rs) ≡ concluded m rs
unfolding finished after
finished-after m (numbers zs) =
    ap (λ (b : Bool). cond b (Missing (noted_all begun zs).reason) (by_runs (rule m) (summed (noted_all begun zs)))) (going begun zs refl)
    ∙ ap (by_runs (rule m)) (summed-is zs)
finished-after m (because r) = refl

pub finished-is : (m : Member) (vs : List Value) → finished m (gathered begun vs) ≡ of_runs m vs
unfolding of_runs
finished-is m vs = ap (finished m) (gathered-is begun vs refl) ∙ finished-after m (results vs)

-- ---- how large a tally can be after k results

pub within_none : Within 0 begun
within_none = record { count = omega arith; stretch = omega arith; longest = omega arith; total = omega arith }

pub if-most : (b : Bool) (n : ℕ) → cond b n 0 ≤ n
if-most true n = omega arith
if-most false n = omega arith

pub within-noted : (k : ℕ) (t : Tally) (z : ℤ) → mag z < 2147483648 → Within k t → Within (k + 1) (noted t z)
unfolding noted
within-noted k t z h w = record {
  count = omega (arith, if-most (is_nonzero z) 1);
  stretch = omega (arith, if-most (is_nonzero z) (t.stretch + 1));
  longest = omega (arith, if-most (is_nonzero z) (t.stretch + 1));
  total = omega (arith, total-range 2147483648 k t.total z w.total h);
}

within-halted : (k r : ℕ) → Within k (halted r)
within-halted k r = record { count = omega arith; stretch = omega arith; longest = omega arith; total = omega arith }

pub within_more : (j k : ℕ) (t : Tally) → j ≤ k → Within j t → Within k t
within_more j k t h w = record { count = omega arith; stretch = omega arith; longest = omega arith; total = omega arith }

-- a number within signed 32 bits, or no number
abbrev pub Small : Value → Type 0
Small (Number z) = mag z < 2147483648
Small (Window s l) = Unit {0}
Small Function = Unit {0}
Small Delayed = Unit {0}
Small (Missing r) = Unit {0}

within-entered : (k : ℕ) (t : Tally) (v : Value) → Small v → Within k t → Within (k + 1) (entered t v)
unfolding entered
within-entered k t (Number z) h w = within-noted k t z h w
within-entered k t (Window s l) h w = within-halted (k + 1) wrong_kind
within-entered k t Function h w = within-halted (k + 1) wrong_kind
within-entered k t Delayed h w = within-halted (k + 1) wrong_kind
within-entered k t (Missing r) h w = within-halted (k + 1) r

pub within-stepped : (k : ℕ) (t : Tally) (v : Value) → Small v → Within k t → Within (k + 1) (stepped t v)
unfolding stepped
within-stepped k t v h w = either t.stopped
  where
    either : (b : Bool) → Within (k + 1) (cond b t (entered t v))
    either true = within_more k (k + 1) t (omega arith) w
    either false = within-entered k t v h w
