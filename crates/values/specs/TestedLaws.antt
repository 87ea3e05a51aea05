-- What the code tests is what a member comes to: the kinds in the member table are those of the member's rule (RulesLaws), which gives reason 2
-- on all others. By the kinds of the dependencies and of the rule. Assumes nothing.
use Rattle.std.specs.Prelude.{◌≡◌, ◌&&◌, cond, List, ℕ, eqb, ℤ}
use Rattle.std.proofs.Math.Path.{refl}
use Rattle.members.specs.Members.{kind_number}
use Rattle.members.specs.declared.Member.{Member}
use Rattle.rules.specs.declared.Value.{Value}
use Rattle.rules.specs.declared.Value.TheVariants.{Number, Window, Function, Delayed, Missing}
use Rattle.values.specs.declared.apply.Applied.{Applied}
use Rattle.values.specs.declared.apply.Applied.TheVariants.{Done, Run}
use Rattle.rules.specs.Values.{wrong_kind}
use Rattle.rules.specs.Rules.{Rule, two_numbers, window, window_number, window_runs, rule, if_runs, by_numbers, by_window, by_window_number, on_numbers, of_window, on_window}
use Rattle.rules.proofs.RulesLaws.{receiver_of, argument_of, receiver-kind, argument-kind}
use Rattle.rules.specs.Apply.{by_rule0, by_rule1, apply0, apply1}
use Rattle.values.specs.Applied.{applied1}
use Rattle.values.specs.Tested.{rule0, ruled_window, ruled1, tested0, tested1}

-- a test of the receiver's kind, and of both kinds, by a rule's: a is the number of what is there
abbrev Kind0 : ℕ → (Rule → Value) → (Rule → Value) → Type 0
Kind0 a u v = (r : Rule) → cond (eqb a (kind_number (receiver_of r))) (u r) (Missing wrong_kind) ≡ v r

abbrev Kinds : ℕ → ℕ → (Rule → Applied) → (Rule → Applied) → Type 0
Kinds a b u v = (r : Rule) → cond (eqb a (kind_number (receiver_of r)) && eqb b (kind_number (argument_of r))) (u r) (Done (Missing wrong_kind)) ≡ v r

module _ (m : Member) (xs : List ℤ) where
  pub tested0-is : (v : Value) → tested0 m xs v ≡ apply0 m xs v
  unfolding tested0 apply0 rule0 of_window
  tested0-is (Number z) = rw (receiver-kind m) (by (rule m))
    where
      by : Kind0 1 (λ r. Missing wrong_kind) (λ r. by_rule0 r xs (Number z))
      by (two_numbers f) = refl
      by (window f) = refl
      by (window_number f) = refl
      by (window_runs f) = refl
  tested0-is (Window s l) = rw (receiver-kind m) (by (rule m))
    where
      by : Kind0 2 (λ r. by_window r xs s l) (λ r. by_rule0 r xs (Window s l))
      by (two_numbers f) = refl
      by (window f) = refl
      by (window_number f) = refl
      by (window_runs f) = refl
  tested0-is Function = rw (receiver-kind m) (by (rule m))
    where
      by : Kind0 3 (λ r. Missing wrong_kind) (λ r. by_rule0 r xs Function)
      by (two_numbers f) = refl
      by (window f) = refl
      by (window_number f) = refl
      by (window_runs f) = refl
  tested0-is Delayed = refl
  tested0-is (Missing r) = refl

  pub tested1-is : (v w : Value) → tested1 m xs v w ≡ applied1 m xs v w
  unfolding tested1 applied1 apply1 ruled1 ruled_window on_numbers on_window
  tested1-is (Number a) (Number b) = rw (receiver-kind m, argument-kind m) (by (rule m))
    where
      by : Kinds 1 1 (λ r. Done (by_numbers r a b)) (λ r. Done (by_rule1 r xs (Number a) (Number b) (λ z. Missing wrong_kind)))
      by (two_numbers f) = refl
      by (window f) = refl
      by (window_number f) = refl
      by (window_runs f) = refl
  tested1-is (Number a) (Window s' l') = rw (receiver-kind m, argument-kind m) (by (rule m))
    where
      by : Kinds 1 2 (λ r. Done (Missing wrong_kind)) (λ r. Done (by_rule1 r xs (Number a) (Window s' l') (λ z. Missing wrong_kind)))
      by (two_numbers f) = refl
      by (window f) = refl
      by (window_number f) = refl
      by (window_runs f) = refl
  tested1-is (Number a) Function = rw (receiver-kind m, argument-kind m) (by (rule m))
    where
      by : Kinds 1 3 (λ r. Done (Missing wrong_kind)) (λ r. Done (by_rule1 r xs (Number a) Function (λ z. Missing wrong_kind)))
      by (two_numbers f) = refl
      by (window f) = refl
      by (window_number f) = refl
      by (window_runs f) = refl
  tested1-is (Number a) Delayed = refl
  tested1-is (Number a) (Missing r) = refl
  tested1-is (Window s l) (Number b) = rw (receiver-kind m, argument-kind m) (by (rule m))
    where
      by : Kinds 2 1 (λ r. Done (by_window_number r xs s l b)) (λ r. Done (by_rule1 r xs (Window s l) (Number b) (λ z. Missing wrong_kind)))
      by (two_numbers f) = refl
      by (window f) = refl
      by (window_number f) = refl
      by (window_runs f) = refl
  tested1-is (Window s l) (Window s' l') = rw (receiver-kind m, argument-kind m) (by (rule m))
    where
      by : Kinds 2 2 (λ r. Done (Missing wrong_kind)) (λ r. Done (by_rule1 r xs (Window s l) (Window s' l') (λ z. Missing wrong_kind)))
      by (two_numbers f) = refl
      by (window f) = refl
      by (window_number f) = refl
      by (window_runs f) = refl
  tested1-is (Window s l) Function = rw (receiver-kind m, argument-kind m) (by (rule m))
    where
      by : Kinds 2 3 (λ r. Run s l) (λ r. if_runs (Done (by_rule1 r xs (Window s l) Function (λ z. Missing wrong_kind))) r (λ f. Run s l))
      by (two_numbers f) = refl
      by (window f) = refl
      by (window_number f) = refl
      by (window_runs f) = refl
  tested1-is (Window s l) Delayed = refl
  tested1-is (Window s l) (Missing r) = refl
  tested1-is Function (Number b) = rw (receiver-kind m, argument-kind m) (by (rule m))
    where
      by : Kinds 3 1 (λ r. Done (Missing wrong_kind)) (λ r. Done (by_rule1 r xs Function (Number b) (λ z. Missing wrong_kind)))
      by (two_numbers f) = refl
      by (window f) = refl
      by (window_number f) = refl
      by (window_runs f) = refl
  tested1-is Function (Window s' l') = rw (receiver-kind m, argument-kind m) (by (rule m))
    where
      by : Kinds 3 2 (λ r. Done (Missing wrong_kind)) (λ r. Done (by_rule1 r xs Function (Window s' l') (λ z. Missing wrong_kind)))
      by (two_numbers f) = refl
      by (window f) = refl
      by (window_number f) = refl
      by (window_runs f) = refl
  tested1-is Function Function = rw (receiver-kind m, argument-kind m) (by (rule m))
    where
      by : Kinds 3 3 (λ r. Done (Missing wrong_kind)) (λ r. Done (by_rule1 r xs Function Function (λ z. Missing wrong_kind)))
      by (two_numbers f) = refl
      by (window f) = refl
      by (window_number f) = refl
      by (window_runs f) = refl
  tested1-is Function Delayed = refl
  tested1-is Function (Missing r) = refl
  tested1-is Delayed (Number b) = refl
  tested1-is Delayed (Window s' l') = refl
  tested1-is Delayed Function = refl
  tested1-is Delayed Delayed = refl
  tested1-is Delayed (Missing r) = refl
  tested1-is (Missing r) w = refl
