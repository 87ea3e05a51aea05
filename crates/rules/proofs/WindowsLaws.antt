-- 02, T-06: clipping keeps its promise, and no other function does; skip and take clip, and at(n) is the reading that n counts to. What is said
-- of minus k comes from `clipped-end` and, for at, from `end-inside` and `end-outside`. Assumes nothing.
use Rattle.std.specs.Prelude.{◌≡◌, List, [], ◌∷◌, ℕ, zero, suc, ◌+◌, ◌-◌, ◌≤◌, ◌<◌, min, ltb, ℤ, pos, negsuc, neg_ℤ, length, take, drop, get_or, ◌≤ℤ◌}
use Rattle.std.proofs.Math.Path.{refl, ap}
use Rattle.std.proofs.Common.{sym, ◌∙◌, subst, arith, ltb-true, ltb-false, lt-ltb, le-ltb, leb→le, le→leb, take-take, drop-drop}
use Rattle.std.proofs.Math.Seq.{take-nil, drop-nil}
use Rattle.std.specs.Int.Signed.{lt_z}
use Rattle.language.specs.Cases.{split}
use Rattle.members.specs.declared.Member.TheVariants.{Skip, Take, At}
use Rattle.rules.specs.declared.Value.{Value}
use Rattle.rules.specs.declared.Value.TheVariants.{Number, Window, Missing}
use Rattle.rules.specs.Values.{outside_window}
use Rattle.rules.specs.Windows.{readings_in, from_start, nearest, clipped, Clips, unless_negative, reading}
use Rattle.rules.specs.Rules.{rule}
use Rattle.rules.specs.Apply.{apply1}

-- ---- the promise

pub nearest-within : (z : ℤ) (l : ℕ) → nearest z l ≤ l
nearest-within (pos k) l = omega arith
nearest-within (negsuc k) l = omega arith

nearest-exact : (z : ℤ) (l k : ℕ) → k ≤ l → z ≡ pos k → nearest z l ≡ k
nearest-exact z l k h e =
    let m : nearest (pos k) l ≡ k = omega arith in
    ap (λ (y : ℤ). nearest y l) e ∙ m

nearest-monotone : (y z : ℤ) (l : ℕ) → y ≤ℤ z → nearest y l ≤ nearest z l
nearest-monotone (pos j) (pos k) l h = omega (arith, leb→le j k h.le)
nearest-monotone (pos j) (negsuc k) l h = absurd h.le
nearest-monotone (negsuc j) z l h = omega arith

pub clips : Clips clipped
clips = record {
  within = λ n l. nearest-within (from_start n l) l;
  exact = λ n l. nearest-exact (from_start n l) l;
  monotone = λ m n l. nearest-monotone (from_start m l) (from_start n l) l;
}

-- ---- and nothing else keeps it: before the first it is as at 0, past the end as at l

module _ (f : ℤ → ℕ → ℕ) (c : Clips f) (n : ℤ) (l : ℕ) where
  by_count : (z : ℤ) → from_start n l ≡ z → f n l ≡ nearest z l
  by_count (pos k) e =
      split (ltb l k)
      (λ h.
      omega (
        arith,
        ltb-true l k h,
        c.within n l,
        c.exact (pos l) l l (omega arith) refl,
        c.monotone (pos l) n l (subst (λ (y : ℤ). pos l ≤ℤ y) (sym e) (record { le = le→leb l k (omega (arith, ltb-true l k h)) })),
      ))
      (λ h. omega (arith, ltb-false l k h, c.exact n l k (ltb-false l k h) e))
  by_count (negsuc k) e =
      omega (
        arith,
        c.exact (pos 0) l 0 (omega arith) refl,
        c.monotone n (pos 0) l (subst (λ (y : ℤ). y ≤ℤ pos 0) (sym e) (record { le = tt })),
      )

  pub clips-only : f n l ≡ clipped n l
  clips-only = by_count (from_start n l) refl

-- ---- from the end

module _ (k l : ℕ) where
  pub end-inside : k < l → from_start (negsuc k) l ≡ pos (l - suc k)
  end-inside h = simp (le-ltb l (suc k) h)

  pub end-outside : l ≤ k → from_start (negsuc k) l ≡ negsuc (suc k - suc l)
  end-outside h = simp (lt-ltb l (suc k) (omega arith))

  pub clipped-end : clipped (negsuc k) l ≡ l - suc k
  clipped-end =
      split (ltb l (suc k))
      (λ h. let z : 0 ≡ l - suc k = omega (arith, ltb-true l (suc k) h) in simp h z)
      (λ h. let z : min (l - suc k) l ≡ l - suc k = omega arith in simp h z)

-- ---- the order of counts from one end, and of lengths

pub clips-ordered : (m n : ℤ) (l : ℕ) → lt_z m (pos 0) ≡ lt_z n (pos 0) → m ≤ℤ n → clipped m l ≤ clipped n l
clips-ordered (pos m) (pos n) l e h = omega (arith, leb→le m n h.le)
clips-ordered (pos m) (negsuc n) l e h = absurd h.le
clips-ordered (negsuc m) (pos n) l e h = omega (arith, ltb-true n 0 (sym e))
clips-ordered (negsuc m) (negsuc n) l e h = omega (arith, leb→le n m h.le, clipped-end m l, clipped-end n l)

pub clips-wider : (n : ℤ) (k l : ℕ) → k ≤ l → clipped n k ≤ clipped n l
clips-wider (pos n) k l h = omega arith
clips-wider (negsuc n) k l h = omega (arith, clipped-end n k, clipped-end n l)

-- ---- skip and take

drop-take : (c l : ℕ) (ys : List ℤ) → c ≤ l → take (l - c) (drop c ys) ≡ drop c (take l ys)
drop-take zero l ys h = let all : l - 0 ≡ l = omega arith in ap (λ (k : ℕ). take k ys) all
drop-take (suc c) zero ys h = absurd (omega arith)
drop-take (suc c) (suc l) [] h = simp (drop-nil, take-nil)
drop-take (suc c) (suc l) (y ∷ ys) h =
    let less : suc l - suc c ≡ l - c = omega arith in
    ap (λ (k : ℕ). take k (drop c ys)) less ∙ drop-take c l ys (omega arith)

module _ (xs : List ℤ) (s l : ℕ) where
  -- the readings that are left
  pub take-readings : (n : ℤ) → readings_in xs s (clipped n l) ≡ take (clipped n l) (readings_in xs s l)
  take-readings n = sym (take-take (clipped n l) l (drop s xs) (clips.within n l))

  pub skip-readings : (n : ℤ) → readings_in xs (s + clipped n l) (l - clipped n l) ≡ drop (clipped n l) (readings_in xs s l)
  skip-readings n =
      ap (take (l - clipped n l)) (sym (drop-drop (clipped n l) s xs)) ∙ drop-take (clipped n l) l (drop s xs) (clips.within n l)

  module _ (run : ℤ → Value) where
    pub skip-clips : (n : ℤ) → apply1 Skip xs (Window s l) (Number n) run ≡ Window (s + clipped n l) (l - clipped n l)
    unfolding apply1 rule
    skip-clips n = refl

    pub take-clips : (n : ℤ) → apply1 Take xs (Window s l) (Number n) run ≡ Window s (clipped n l)
    unfolding apply1 rule
    take-clips n = refl

    -- minus k, for k from 1
    pub skip-last : (k : ℕ) → 1 ≤ k → k ≤ l → apply1 Skip xs (Window s l) (Number (neg_ℤ (pos k))) run ≡ Window (s + (l - k)) k
    skip-last zero h g = absurd (omega arith)
    skip-last (suc k) h g =
        let left : l - (l - suc k) ≡ suc k = omega arith in
        skip-clips (negsuc k) ∙ ap (λ (c : ℕ). Window (s + c) (l - c)) (clipped-end k l) ∙ ap (Window (s + (l - suc k))) left

    pub take_last : (k : ℕ) → 1 ≤ k → k ≤ l → apply1 Take xs (Window s l) (Number (neg_ℤ (pos k))) run ≡ Window s (l - k)
    take_last zero h g = absurd (omega arith)
    take_last (suc k) h g = take-clips (negsuc k) ∙ ap (Window s) (clipped-end k l)

    -- and from the length on
    beyond : (k : ℕ) → l ≤ k → clipped (neg_ℤ (pos k)) l ≡ clipped (neg_ℤ (pos l)) l
    beyond k h = none k h ∙ sym (none l (omega arith))
      where
        none : (k : ℕ) → l ≤ k → clipped (neg_ℤ (pos k)) l ≡ 0
        none zero h = omega arith
        none (suc k) h = let z : l - suc k ≡ 0 = omega arith in clipped-end k l ∙ z

    pub skip-beyond : (k : ℕ) → l ≤ k
        → apply1 Skip xs (Window s l) (Number (neg_ℤ (pos k))) run ≡ apply1 Skip xs (Window s l) (Number (neg_ℤ (pos l))) run
    skip-beyond k h =
        skip-clips (neg_ℤ (pos k)) ∙ ap (λ (c : ℕ). Window (s + c) (l - c)) (beyond k h) ∙ sym (skip-clips (neg_ℤ (pos l)))

    pub take_beyond : (k : ℕ) → l ≤ k
        → apply1 Take xs (Window s l) (Number (neg_ℤ (pos k))) run ≡ apply1 Take xs (Window s l) (Number (neg_ℤ (pos l))) run
    take_beyond k h = take-clips (neg_ℤ (pos k)) ∙ ap (Window s) (beyond k h) ∙ sym (take-clips (neg_ℤ (pos l)))

-- ---- at

module _ (xs : List ℤ) (s l : ℕ) (run : ℤ → Value) where
  abbrev readings : List ℤ
  readings = readings_in xs s l

  module _ (n : ℤ) where
    by_index : (z : ℤ) → from_start n (length readings) ≡ z → apply1 At xs (Window s l) (Number n) run ≡ unless_negative z (reading readings)
    unfolding apply1 rule
    by_index z e = ap (λ (y : ℤ). unless_negative y (reading readings)) e

    pub at-inside : (k : ℕ) → k < length readings → from_start n (length readings) ≡ pos k
        → apply1 At xs (Window s l) (Number n) run ≡ Number (get_or readings k (pos 0))
    at-inside k h e = by_index (pos k) e ∙ simp (lt-ltb k (length readings) h)

    pub at-outside : ((k : ℕ) → k < length readings → from_start n (length readings) ≡ pos k → ⊥)
        → apply1 At xs (Window s l) (Number n) run ≡ Missing outside_window
    at-outside h = by (from_start n (length readings)) refl
      where
        by : (z : ℤ) → from_start n (length readings) ≡ z → apply1 At xs (Window s l) (Number n) run ≡ Missing outside_window
        by (pos k) e = by_index (pos k) e ∙ split (ltb k (length readings)) (λ t. absurd (h k (ltb-true k (length readings) t) e)) (λ t. simp t)
        by (negsuc k) e = by_index (negsuc k) e

  -- minus k, for k from 1, and past the first reading
  pub at_last : (k : ℕ) → 1 ≤ k → k ≤ length readings
      → apply1 At xs (Window s l) (Number (neg_ℤ (pos k))) run ≡ Number (get_or readings (length readings - k) (pos 0))
  at_last zero h g = absurd (omega arith)
  at_last (suc k) h g = at-inside (negsuc k) (length readings - suc k) (omega arith) (end-inside k (length readings) g)

  pub at-beyond : (k : ℕ) → length readings < k → apply1 At xs (Window s l) (Number (neg_ℤ (pos k))) run ≡ Missing outside_window
  at-beyond zero h = absurd (omega arith)
  at-beyond (suc k) h = by_index (negsuc k) _ (end-outside k (length readings) (omega arith))
