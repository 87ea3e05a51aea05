-- A member on its dependencies, as the code tests them: the kinds of the member table first, then the rule on what it is given, up to the runs
-- of a function. That this comes to apply0 and applied1 is in TestedLaws. Assumes nothing: these are definitions.
use Rattle.std.specs.Prelude.{Bool, ◌&&◌, ◌||◌, cond, List, ℕ, eqb, ℤ}
use Rattle.members.specs.Members.{row, kind_number}
use Rattle.members.specs.declared.Kind.{Kind}
use Rattle.members.specs.declared.Kind.TheVariants as Kinds
use Rattle.members.specs.declared.Member.{Member}
use Rattle.rules.specs.declared.Value.{Value}
use Rattle.rules.specs.declared.Value.TheVariants.{Number, Window, Function, Delayed, Missing}
use Rattle.values.specs.declared.apply.Applied.{Applied}
use Rattle.values.specs.declared.apply.Applied.TheVariants.{Done, Run}
use Rattle.rules.specs.Values.{wrong_kind}
use Rattle.rules.specs.Rules.{on_numbers, of_window, on_window}
use Rattle.rules.specs.Apply.{is_missing, is_delayed}

-- the kind that a member can take; what is delayed or missing has none
abbrev pub kind_of : Value → Kind
kind_of (Number z) = Kinds.Number
kind_of (Window s l) = Kinds.Window
kind_of Function = Kinds.Function
kind_of Delayed = Kinds.Nothing
kind_of (Missing r) = Kinds.Nothing

abbrev pub is_kind : Value → Kind → Bool
is_kind v k = eqb (kind_number (kind_of v)) (kind_number k)

-- ---- the rules, where the kinds are right

unfoldable pub rule0 : Member → List ℤ → Value → Value
rule0 m xs (Window s l) = of_window m xs s l
rule0 m xs (Number z) = Missing wrong_kind
rule0 m xs Function = Missing wrong_kind
rule0 m xs Delayed = Missing wrong_kind
rule0 m xs (Missing r) = Missing wrong_kind

abbrev pub rule_number : Member → ℤ → Value → Value
rule_number m a (Number b) = on_numbers m a b
rule_number m a (Window s l) = Missing wrong_kind
rule_number m a Function = Missing wrong_kind
rule_number m a Delayed = Missing wrong_kind
rule_number m a (Missing r) = Missing wrong_kind

unfoldable pub ruled_window : Member → List ℤ → ℕ → ℕ → Value → Applied
ruled_window m xs s l (Number n) = Done (on_window m xs s l n)
ruled_window m xs s l Function = Run s l
ruled_window m xs s l (Window s' l') = Done (Missing wrong_kind)
ruled_window m xs s l Delayed = Done (Missing wrong_kind)
ruled_window m xs s l (Missing r) = Done (Missing wrong_kind)

unfoldable pub ruled1 : Member → List ℤ → Value → Value → Applied
ruled1 m xs (Number a) w = Done (rule_number m a w)
ruled1 m xs (Window s l) w = ruled_window m xs s l w
ruled1 m xs Function w = Done (Missing wrong_kind)
ruled1 m xs Delayed w = Done (Missing wrong_kind)
ruled1 m xs (Missing r) w = Done (Missing wrong_kind)

-- ---- the tests before them

unfoldable pub tested0 : Member → List ℤ → Value → Value
tested0 m xs v =
    cond (is_missing v) v
    (cond (is_delayed v) Delayed
    (cond (is_kind v (row m).receiver) (rule0 m xs v)
    (Missing wrong_kind)))

unfoldable pub tested1 : Member → List ℤ → Value → Value → Applied
tested1 m xs v w =
    cond (is_missing v) (Done v)
    (cond (is_missing w) (Done w)
    (cond (is_delayed v || is_delayed w) (Done Delayed)
    (cond (is_kind v (row m).receiver && is_kind w (row m).argument) (ruled1 m xs v w)
    (Done (Missing wrong_kind)))))
