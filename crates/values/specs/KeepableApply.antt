-- A member on dependencies that have a property which the members' own results have comes to a value that has it: so windows stay inside the
-- recording, and what may be kept stays so. By the tests of apply0 and apply1, in their order. Assumes nothing.
use Rattle.std.specs.Prelude.{◌≡◌, refl, ◌||◌, cond, List, [], ◌∷◌, map, ℕ, suc, ◌≤◌, ◌<◌, ℤ, pos, length, get_or}
use Rattle.std.proofs.lemmas.Bool.{cond_both}
use Rattle.std.proofs.Common.{arith}
use Rattle.std.proofs.lemmas.List.{length-map}
use Rattle.std.specs.Int.Signed.{mag}
use Rattle.members.specs.declared.Member.{Member}
use Rattle.rules.specs.declared.Value.{Value}
use Rattle.rules.specs.declared.Value.TheVariants.{Number, Window, Function, Delayed, Missing}
use Rattle.values.specs.declared.apply.Applied.{Applied}
use Rattle.values.specs.declared.apply.Applied.TheVariants.{Done, Run}
use Rattle.rules.specs.Windows.{readings_in}
use Rattle.rules.specs.Values.{wrong_kind, if_number, if_window, if_function}
use Rattle.rules.specs.Runs.{results, Summary}
use Rattle.rules.specs.Rules.{Rule, two_numbers, window, window_number, window_runs, rule, if_runs}
use Rattle.rules.specs.Apply.{by_rule0, by_rule1, is_missing, is_delayed, apply0, apply1}
use Rattle.values.specs.Applied.{applied1}
use Rattle.values.specs.WindowLaws.{readings-short}
use Rattle.values.specs.Keepable.{Keepable}
use Rattle.values.specs.KeepableLaws.{Closed, Readings, Given, given, Each, Closes, Told, wrong, readings-of, readings-small, closed-rule, told, closed-concluded}

-- the property of what a member comes to, or of the window that it runs over
abbrev pub Settled : (Value → Type 0) → Applied → Type 0
Settled P (Done v) = P v
Settled P (Run s l) = P (Window s l)

-- ---- by the kind of a value

module _ {A : Type 0} (Q : A → Type 0) (other : A) (q : Q other) where
  pub if-number : (v : Value) (f : ℤ → A) → ((z : ℤ) → v ≡ Number z → Q (f z)) → Q (if_number other v f)
  if-number (Number z) f p = p z refl
  if-number (Window s l) f p = q
  if-number Function f p = q
  if-number Delayed f p = q
  if-number (Missing r) f p = q

  pub if-window : (v : Value) (f : ℕ → ℕ → A) → ((s l : ℕ) → v ≡ Window s l → Q (f s l)) → Q (if_window other v f)
  if-window (Number z) f p = q
  if-window (Window s l) f p = p s l refl
  if-window Function f p = q
  if-window Delayed f p = q
  if-window (Missing r) f p = q

  pub if-function : (v : Value) (x : A) → (v ≡ Function → Q x) → Q (if_function other v x)
  if-function (Number z) x p = q
  if-function (Window s l) x p = q
  if-function Function x p = p refl
  if-function Delayed x p = q
  if-function (Missing r) x p = q

  pub if-runs : (r : Rule) (g : (Summary → Value) → A) → ((f : Summary → Value) → Q (g f)) → Q (if_runs other r g)
  if-runs (two_numbers f) g p = q
  if-runs (window f) g p = q
  if-runs (window_number f) g p = q
  if-runs (window_runs f) g p = p f

module _ (P : Value → Type 0) (C : Closed P) (m : Member) (xs : List ℤ) (R : Readings P xs) where
  given-window : (v : Value) (s l : ℕ) → v ≡ Window s l → Given P v → P (Window s l)
  given-window v s l e p = rw e at p

  pub closed-rule0 : (v : Value) → Given P v → P (by_rule0 (rule m) xs v)
  closed-rule0 v p = by (rule m) (closed-rule P C m)
    where
      by : (r : Rule) → Closes P C r → P (by_rule0 r xs v)
      by (two_numbers f) h = wrong P C
      by (window f) h = if-window P (Missing wrong_kind) (wrong P C) v (f xs) (λ s l e. h xs s l R (given-window v s l e p))
      by (window_number f) h = wrong P C
      by (window_runs f) h = wrong P C

  -- ---- with the runs, each of which gives a value that has the property as far as that matters

  module _ (run : ℤ → Value) (F : (x : ℤ) → P (Number x) → Given P (run x)) where
    each : (ys : List ℤ) → Readings P ys → Each (Given P) (map run ys)
    each [] Y = tt
    each (y ∷ ys) Y = (F y (Y 0 (omega arith)), each ys (λ i h. Y (suc i) (omega arith)))

    ran : (s l : ℕ) → Told P C (length (map run (readings_in xs s l))) (results (map run (readings_in xs s l)))
    ran s l = told P C (map run (readings_in xs s l)) (each (readings_in xs s l) (readings-of P C xs s l R))

    pub closed-rule1 : (v w : Value) → Given P v → P (by_rule1 (rule m) xs v w run)
    closed-rule1 v w p = by (rule m) (closed-rule P C m)
      where
        by : (r : Rule) → Closes P C r → P (by_rule1 r xs v w run)
        by (two_numbers f) h = if-number P (Missing wrong_kind) (wrong P C) v _ (λ a e. if-number P (Missing wrong_kind) (wrong P C) w (f a) (λ b e. h a b))
        by (window f) h = wrong P C
        by (window_number f) h =
            if-window P (Missing wrong_kind) (wrong P C) v _
            (λ s l e. if-number P (Missing wrong_kind) (wrong P C) w (f xs s l) (λ n e'. h xs s l n R (given-window v s l e p)))
        by (window_runs f) h =
            if-window P (Missing wrong_kind) (wrong P C) v _
            (λ s l e. if-function P (Missing wrong_kind) (wrong P C) w _
            (λ e'. closed-concluded P C f h s l (given-window v s l e p) (results (map run (readings_in xs s l))) (length (map run (readings_in xs s l)))
            (simp length-map (readings-short xs s l)) (ran s l)))

  -- ---- the tests before the rule

  module _ (D : P Delayed) where
    missing-given : (v w : Value) → Given P v → P w → P (cond (is_missing v) v w)
    missing-given (Missing r) w p q = p
    missing-given (Number z) w p q = q
    missing-given (Window s l) w p q = q
    missing-given Function w p q = q
    missing-given Delayed w p q = q

    pub closed-apply0 : (v : Value) → Given P v → P (apply0 m xs v)
    unfolding apply0
    closed-apply0 v p = missing-given v _ p (cond_both (is_delayed v) _ _ P (λ h. D) (λ h. closed-rule0 v p))

    pub closed-apply1 : (run : ℤ → Value) → ((x : ℤ) → P (Number x) → Given P (run x)) → (v w : Value) → Given P v → Given P w → P (apply1 m xs v w run)
    unfolding apply1
    closed-apply1 run F v w p q =
        missing-given v _ p
        (missing-given w _ q
        (cond_both (is_delayed v || is_delayed w) _ _ P (λ h. D) (λ h. closed-rule1 run F v w p)))

    pub closed-applied1 : (v w : Value) → P v → P w → Settled P (applied1 m xs v w)
    unfolding applied1
    closed-applied1 v w p q =
        if-window (Settled P) _ done v _
        (λ s l e. if-function (Settled P) _ done w _
        (λ e'. if-runs (Settled P) _ done (rule m) _ (λ f. rw e at p)))
      where
        done : P (apply1 m xs v w (λ z. Missing wrong_kind))
        done = closed-apply1 (λ z. Missing wrong_kind) (λ x h. wrong P C) v w (given P v p) (given P w q)

-- ---- what may be kept

pub kept-closed : (n : ℕ) → n ≤ 65535 → Closed (Keepable n)
kept-closed n b = record {
  small = λ z h. record { held = h; inside = tt; reasoned = tt };
  reason = λ r h q. record { held = omega arith; inside = tt; reasoned = (h, q) };
  part = λ s l s' l' h w. record { held = (omega (arith, w.inside), omega (arith, w.inside)); inside = omega (arith, w.inside); reasoned = tt };
  count = λ s l j h w. record { held = omega (arith, w.inside); inside = tt; reasoned = tt };
}

module _ (n : ℕ) (b : n ≤ 65535) (m : Member) (xs : List ℤ) (small : (i : ℕ) → i < length xs → mag (get_or xs i (pos 0)) < 2147483648) where
  readings : Readings (Keepable n) xs
  readings = readings-small (Keepable n) (kept-closed n b) xs small

  delay : Keepable n Delayed
  delay = record { held = tt; inside = tt; reasoned = tt }

  pub kept-apply0 : (v : Value) → Keepable n v → Keepable n (apply0 m xs v)
  kept-apply0 v k = closed-apply0 (Keepable n) (kept-closed n b) m xs readings delay v (given (Keepable n) v k)

  pub kept-applied1 : (v w : Value) → Keepable n v → Keepable n w → Settled (Keepable n) (applied1 m xs v w)
  kept-applied1 = closed-applied1 (Keepable n) (kept-closed n b) m xs readings delay

  pub kept-apply1 : (run : ℤ → Value) → ((x : ℤ) → Keepable n (Number x) → Keepable n (run x)) → (v w : Value) → Keepable n v → Keepable n w → Keepable n (apply1 m xs v w run)
  kept-apply1 run F v w k j =
      closed-apply1 (Keepable n) (kept-closed n b) m xs readings delay run (λ x h. given (Keepable n) (run x) (F x h)) v w (given (Keepable n) v k) (given (Keepable n) w j)
