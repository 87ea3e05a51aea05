-- A member's value up to the runs, completed by them, is apply1: only a rule that runs a function, on a window and with a function, gives a window
-- to run over, and all others come to the same whatever a run would give. Assumes nothing.
use Rattle.std.specs.Prelude.{◌≡◌, true, false, ◌||◌, List, map, ℕ, ℤ}
use Rattle.std.proofs.lemmas.Bool.{false≢true}
use Rattle.std.proofs.Math.Path.{refl, ap}
use Rattle.std.proofs.Common.{sym}
use Rattle.std.proofs.Math.Bool.{cond}
use Rattle.members.specs.declared.Member.{Member}
use Rattle.rules.specs.declared.Value.{Value}
use Rattle.rules.specs.declared.Value.TheVariants.{Number, Window, Function, Delayed, Missing}
use Rattle.values.specs.declared.apply.Applied.TheVariants.{Done, Run}
use Rattle.rules.specs.Values.{wrong_kind, if_window, if_function}
use Rattle.rules.specs.Windows.{readings_in}
use Rattle.rules.specs.Runs.{Results, numbers, because, results, Summary, summary}
use Rattle.rules.specs.Rules.{Rule, two_numbers, window, window_number, window_runs, rule, if_runs, by_runs, concluded, of_runs}
use Rattle.rules.specs.Apply.{concluded_by, is_missing, is_delayed, by_rule1, apply1}
use Rattle.values.specs.Applied.{applied1, completed}

module _ (m : Member) (xs : List ℤ) (run : ℤ → Value) where
  -- nothing is run unless a function is used on a window
  same-rule : (r : Rule) (v w : Value) → if_window false v (λ s l. if_function false w true) ≡ false
      → by_rule1 r xs v w (λ z. Missing wrong_kind) ≡ by_rule1 r xs v w run
  same-rule (two_numbers f) v w e = refl
  same-rule (window f) v w e = refl
  same-rule (window_number f) v w e = refl
  same-rule (window_runs f) (Number z) w e = refl
  same-rule (window_runs f) (Window s l) (Number z) e = refl
  same-rule (window_runs f) (Window s l) (Window s' l') e = refl
  same-rule (window_runs f) (Window s l) Function e = absurd (false≢true (sym e))
  same-rule (window_runs f) (Window s l) Delayed e = refl
  same-rule (window_runs f) (Window s l) (Missing r) e = refl
  same-rule (window_runs f) Function w e = refl
  same-rule (window_runs f) Delayed w e = refl
  same-rule (window_runs f) (Missing r) w e = refl

  same-apply : (v w : Value) → if_window false v (λ s l. if_function false w true) ≡ false → apply1 m xs v w (λ z. Missing wrong_kind) ≡ apply1 m xs v w run
  unfolding apply1
  same-apply v w e =
      ap (λ (u : Value). cond (is_missing v) v (cond (is_missing w) w (cond (is_delayed v || is_delayed w) Delayed u))) (same-rule (rule m) v w e)

  concluded-by : (f : Summary → Value) → rule m ≡ window_runs f → (rs : Results) → concluded m rs ≡ concluded_by f rs
  concluded-by f e (numbers zs) = ap (λ (r : Rule). by_runs r (summary zs)) e
  concluded-by f e (because r) = refl

  run_is : (s l : ℕ) (r : Rule) → rule m ≡ r
      → completed m xs run (if_runs (Done (by_rule1 r xs (Window s l) Function (λ z. Missing wrong_kind))) r (λ f. Run s l)) ≡ by_rule1 r xs (Window s l) Function run
  unfolding completed of_runs
  run_is s l (two_numbers f) e = refl
  run_is s l (window f) e = refl
  run_is s l (window_number f) e = refl
  run_is s l (window_runs f) e = concluded-by f e (results (map run (readings_in xs s l)))

  pub completed-is : (v w : Value) → completed m xs run (applied1 m xs v w) ≡ apply1 m xs v w run
  unfolding applied1 completed apply1
  completed-is (Number z) w = same-apply (Number z) w refl
  completed-is (Window s l) (Number z) = same-apply (Window s l) (Number z) refl
  completed-is (Window s l) (Window s' l') = same-apply (Window s l) (Window s' l') refl
  completed-is (Window s l) Function = run_is s l (rule m) refl
  completed-is (Window s l) Delayed = refl
  completed-is (Window s l) (Missing r) = refl
  completed-is Function w = same-apply Function w refl
  completed-is Delayed w = same-apply Delayed w refl
  completed-is (Missing r) w = refl
