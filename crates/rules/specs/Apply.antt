-- 01, "Members": a member on its dependencies. The reason of the first missing one; otherwise, with one delayed, delayed; otherwise
-- the kinds are tested; then the rule. Assumes nothing: these are definitions.
use Rattle.std.specs.Prelude.{Bool, true, false, ◌||◌, cond, List, map, ℤ}
use Rattle.members.specs.declared.Member.{Member}
use Rattle.rules.specs.declared.Value.{Value}
use Rattle.rules.specs.declared.Value.TheVariants.{Number, Window, Function, Delayed, Missing}
use Rattle.rules.specs.Values.{wrong_kind, if_number, if_window, if_function}
use Rattle.rules.specs.Windows.{readings_in}
use Rattle.rules.specs.Runs.{Results, numbers, because, results, Summary, summary}
use Rattle.rules.specs.Rules.{Rule, two_numbers, window, window_number, window_runs, rule}

-- the numbers of a function's runs by the rule, or the reason of the first that gave none
abbrev pub concluded_by : (Summary → Value) → Results → Value
concluded_by f (numbers zs) = f (summary zs)
concluded_by f (because r) = Missing r

-- a rule with no argument, and with one: reason 2 where it is used on or with other kinds
abbrev pub by_rule0 : Rule → List ℤ → Value → Value
by_rule0 (two_numbers f) xs v = Missing wrong_kind
by_rule0 (window f) xs v = if_window (Missing wrong_kind) v (f xs)
by_rule0 (window_number f) xs v = Missing wrong_kind
by_rule0 (window_runs f) xs v = Missing wrong_kind

-- run: what the function w gives for a reading
abbrev pub by_rule1 : Rule → List ℤ → Value → Value → (ℤ → Value) → Value
by_rule1 (two_numbers f) xs v w run = if_number (Missing wrong_kind) v (λ a. if_number (Missing wrong_kind) w (f a))
by_rule1 (window f) xs v w run = Missing wrong_kind
by_rule1 (window_number f) xs v w run = if_window (Missing wrong_kind) v (λ s l. if_number (Missing wrong_kind) w (f xs s l))
by_rule1 (window_runs f) xs v w run =
    if_window (Missing wrong_kind) v (λ s l. if_function (Missing wrong_kind) w (concluded_by f (results (map run (readings_in xs s l)))))

-- is it missing, or delayed
abbrev pub is_missing : Value → Bool
is_missing (Missing r) = true
is_missing (Number z) = false
is_missing (Window s l) = false
is_missing Function = false
is_missing Delayed = false

abbrev pub is_delayed : Value → Bool
is_delayed Delayed = true
is_delayed (Number z) = false
is_delayed (Window s l) = false
is_delayed Function = false
is_delayed (Missing r) = false

-- a member with no argument
unfoldable pub apply0 : Member → List ℤ → Value → Value
apply0 m xs v = cond (is_missing v) v (cond (is_delayed v) Delayed (by_rule0 (rule m) xs v))

-- a member with one argument
unfoldable pub apply1 : Member → List ℤ → Value → Value → (ℤ → Value) → Value
apply1 m xs v w run =
    cond (is_missing v) v
    (cond (is_missing w) w
    (cond (is_delayed v || is_delayed w) Delayed
    (by_rule1 (rule m) xs v w run)))
