-- 01, "Members", and 02, T-01, T-02 and T-06: small examples of the rules, each a member on what its dependencies came to, with what it comes
-- to; one computed check over each list. Assumes nothing.
use Rattle.std.specs.Prelude.{◌≡◌, refl, cond, List, [], ◌∷◌, ◌++◌, map, ℤ, pos, negsuc, ◌-ℤ◌}
use Rattle.members.specs.declared.Member.{Member}
use Rattle.members.specs.declared.Member.TheVariants.{Add, Sub, Mul, Div, Gt, Eq, Skip, Take, Count, Sum, Min, Max, At, CountWhere, LongestRun, SumBy, BestSum, BestAt}
use Rattle.rules.specs.declared.Value.{Value}
use Rattle.rules.specs.declared.Value.TheVariants.{Number, Window, Function, Delayed, Missing}
use Rattle.rules.specs.Values
use Rattle.rules.specs.Values.{sameℤ}
use Rattle.rules.specs.Numbers
use Rattle.rules.specs.Windows
use Rattle.rules.specs.Stretches
use Rattle.rules.specs.Runs
use Rattle.rules.specs.Rules
use Rattle.rules.specs.Rules.{on_numbers}
use Rattle.rules.specs.Apply
use Rattle.rules.specs.Apply.{apply0, apply1}

-- a member over a recording, with no argument, with a value, or with a function that gives a value for each reading
pub data Application : Type 0 where
  alone : Member → List ℤ → Value → Application
  with : Member → List ℤ → Value → Value → Application
  runs : Member → List ℤ → Value → (ℤ → Value) → Application

unfoldable pub comes_to : Application → Value
unfolding Values.ranged Numbers.divided Windows.total Windows.fold_from Windows.extreme Stretches.stretches_from Stretches.sums Stretches.first_at
    Stretches.best_sum Stretches.best_at Runs.results Runs.count_of Runs.stretch
    Runs.longest Rules.rule Rules.on_numbers Apply.apply0 Apply.apply1
comes_to (alone m xs v) = apply0 m xs v
comes_to (with m xs v w) = apply1 m xs v w (λ z. Missing 2)
comes_to (runs m xs v f) = apply1 m xs v Function f

-- ---- what the examples are made of

abbrev recording : List ℤ
recording = pos 140 ∷ pos 152 ∷ pos 160 ∷ pos 148 ∷ pos 155 ∷ []

abbrev whole : Value
whole = Window 0 5

-- readings whose sum passes beyond signed 32 bits and comes back
abbrev high : List ℤ
high = pos 2147483647 ∷ pos 1 ∷ negsuc 0 ∷ []

abbrev numbers : Member → ℤ → ℤ → Application
numbers m a b = with m [] (Number a) (Number b)

-- whether a reading is over 150
abbrev over150 : ℤ → Value
over150 z = on_numbers Gt z (pos 150)

abbrev Example : Type 0
Example = Application × Value

-- each comes to what is said of it
abbrev Holds : List Example → Type 0
Holds es = map (λ (e : Example). comes_to e.0) es ≡ map (λ (e : Example). e.1) es

-- ---- numbers
abbrev on_numbers_list : List Example
on_numbers_list =
    (numbers Add (pos 2147483646) (pos 1), Number (pos 2147483647))
    ∷ (numbers Add (pos 2147483647) (pos 1), Missing 4)
    ∷ (numbers Sub (negsuc 2147483646) (pos 1), Number (negsuc 2147483647))
    ∷ (numbers Sub (negsuc 2147483647) (pos 1), Missing 4)
    ∷ (numbers Sub (pos 1) (pos 2), Number (negsuc 0))
    ∷ (numbers Mul (negsuc 2) (pos 7), Number (negsuc 20))
    ∷ (numbers Mul (pos 65536) (pos 32768), Missing 4)
    ∷ (numbers Div (negsuc 6) (pos 2), Number (negsuc 3))
    ∷ (numbers Div (pos 7) (negsuc 1), Number (negsuc 3))
    ∷ (numbers Div (negsuc 6) (negsuc 1), Number (pos 3))
    ∷ (numbers Div (pos 7) (pos 2), Number (pos 3))
    ∷ (numbers Div (negsuc 5) (pos 3), Number (negsuc 1))
    ∷ (numbers Div (pos 6) (negsuc 2), Number (negsuc 1))
    ∷ (numbers Div (negsuc 6) (pos 3), Number (negsuc 2))
    ∷ (numbers Div (negsuc 0) (pos 2147483647), Number (negsuc 0))
    ∷ (numbers Div (negsuc 2147483647) (pos 1), Number (negsuc 2147483647))
    ∷ (numbers Div (negsuc 2147483647) (negsuc 2147483647), Number (pos 1))
    ∷ (numbers Div (negsuc 2147483647) (negsuc 0), Missing 4)
    ∷ (numbers Div (pos 0) (negsuc 2), Number (pos 0))
    ∷ (numbers Div (pos 7) (pos 0), Missing 3)
    ∷ (numbers Gt (pos 151) (pos 150), Number (pos 1))
    ∷ (numbers Gt (pos 150) (pos 150), Number (pos 0))
    ∷ (numbers Gt (negsuc 0) (pos 0), Number (pos 0))
    ∷ (numbers Eq (negsuc 0) (negsuc 0), Number (pos 1))
    ∷ (numbers Eq (pos 1) (negsuc 1), Number (pos 0))
    ∷ []

pub numbers-hold : Holds on_numbers_list
unfolding comes_to
numbers-hold = refl

-- ---- windows
abbrev on_windows : List Example
on_windows =
    (with Skip recording whole (Number (pos 1)), Window 1 4)
    ∷ (with Skip recording (Window 1 4) (Number (pos 9)), Window 5 0)
    ∷ (with Take recording (Window 1 4) (Number (pos 2)), Window 1 2)
    ∷ (with Take recording (Window 1 4) (Number (pos 9)), Window 1 4)
    ∷ (alone Count recording (Window 1 4), Number (pos 4))
    ∷ (alone Sum recording whole, Number (pos 755))
    ∷ (alone Sum recording (Window 1 2), Number (pos 312))
    ∷ (alone Sum recording (Window 5 0), Number (pos 0))
    ∷ (alone Sum high (Window 0 3), Number (pos 2147483647))
    ∷ (alone Sum high (Window 0 2), Missing 4)
    ∷ (alone Sum (negsuc 0 ∷ pos 1 ∷ pos 2147483647 ∷ []) (Window 0 3), Number (pos 2147483647))
    ∷ (alone Min recording whole, Number (pos 140))
    ∷ (alone Max recording whole, Number (pos 160))
    ∷ (alone Min recording (Window 5 0), Missing 5)
    ∷ (alone Max recording (Window 5 0), Missing 5)
    ∷ (with At recording (Window 1 4) (Number (pos 0)), Number (pos 152))
    ∷ (with At recording (Window 1 2) (Number (pos 2)), Missing 5)
    ∷ []

pub windows-hold : Holds on_windows
unfolding comes_to
windows-hold = refl

-- ---- counts from either end

-- by skip, take and at
abbrev by_skip_take_at : Value → ℤ → Value → Value → Value → List Example
by_skip_take_at v n skip take at =
    (with Skip recording v (Number n), skip) ∷ (with Take recording v (Number n), take) ∷ (with At recording v (Number n), at) ∷ []

-- four readings from 152 on: inside, at both ends and past them, and the least and the greatest number; then none
abbrev on_ends : List Example
on_ends =
    by_skip_take_at (Window 1 4) (pos 0) (Window 1 4) (Window 1 0) (Number (pos 152))
    ++ by_skip_take_at (Window 1 4) (pos 3) (Window 4 1) (Window 1 3) (Number (pos 155))
    ++ by_skip_take_at (Window 1 4) (pos 4) (Window 5 0) (Window 1 4) (Missing 5)
    ++ by_skip_take_at (Window 1 4) (pos 5) (Window 5 0) (Window 1 4) (Missing 5)
    ++ by_skip_take_at (Window 1 4) (pos 2147483647) (Window 5 0) (Window 1 4) (Missing 5)
    ++ by_skip_take_at (Window 1 4) (negsuc 0) (Window 4 1) (Window 1 3) (Number (pos 155))
    ++ by_skip_take_at (Window 1 4) (negsuc 1) (Window 3 2) (Window 1 2) (Number (pos 148))
    ++ by_skip_take_at (Window 1 4) (negsuc 2) (Window 2 3) (Window 1 1) (Number (pos 160))
    ++ by_skip_take_at (Window 1 4) (negsuc 3) (Window 1 4) (Window 1 0) (Number (pos 152))
    ++ by_skip_take_at (Window 1 4) (negsuc 4) (Window 1 4) (Window 1 0) (Missing 5)
    ++ by_skip_take_at (Window 1 4) (negsuc 2147483647) (Window 1 4) (Window 1 0) (Missing 5)
    ++ by_skip_take_at (Window 2 0) (pos 0) (Window 2 0) (Window 2 0) (Missing 5)
    ++ by_skip_take_at (Window 2 0) (pos 1) (Window 2 0) (Window 2 0) (Missing 5)
    ++ by_skip_take_at (Window 2 0) (pos 2147483647) (Window 2 0) (Window 2 0) (Missing 5)
    ++ by_skip_take_at (Window 2 0) (negsuc 0) (Window 2 0) (Window 2 0) (Missing 5)
    ++ by_skip_take_at (Window 2 0) (negsuc 2147483647) (Window 2 0) (Window 2 0) (Missing 5)

pub ends-hold : Holds on_ends
unfolding comes_to
ends-hold = refl

-- ---- stretches

-- two stretches of two that are 4, and one whose sum is below signed 32 bits before them
abbrev tied : List ℤ
tied = negsuc 2147483647 ∷ negsuc 2147483647 ∷ pos 3 ∷ pos 1 ∷ pos 3 ∷ []

-- the greatest stretch of two is 2147483647, and one of three is beyond signed 32 bits
abbrev most : List ℤ
most = negsuc 4 ∷ pos 2147483640 ∷ pos 7 ∷ pos 1 ∷ []

abbrev low : List ℤ
low = negsuc 4 ∷ negsuc 1 ∷ negsuc 6 ∷ []

-- the first and the last would be the greatest stretch of two, if they were next to each other
abbrev ends : List ℤ
ends = pos 9 ∷ pos 1 ∷ pos 8 ∷ []

-- every stretch of two is below signed 32 bits
abbrev lowest : List ℤ
lowest = negsuc 2147483647 ∷ negsuc 0 ∷ negsuc 2147483647 ∷ []

abbrev both : List ℤ → Value → ℤ → Value → Value → List Example
both xs v w sum at = (with BestSum xs v (Number w), sum) ∷ (with BestAt xs v (Number w), at) ∷ []

abbrev on_stretches : List Example
on_stretches =
    both recording whole (pos 2) (Number (pos 312)) (Number (pos 1))
    ++ both recording whole (pos 5) (Number (pos 755)) (Number (pos 0))
    ++ both recording whole (pos 1) (Number (pos 160)) (Number (pos 2))
    ++ both recording whole (pos 0) (Missing 5) (Missing 5)
    ++ both recording whole (negsuc 0) (Missing 5) (Missing 5)
    ++ both recording whole (pos 6) (Missing 5) (Missing 5)
    ++ both recording (Window 3 2) (pos 1) (Number (pos 155)) (Number (pos 1))
    ++ both recording (Window 3 2) (pos 3) (Missing 5) (Missing 5)
    ++ both recording (Window 5 0) (pos 1) (Missing 5) (Missing 5)
    ++ both tied whole (pos 2) (Number (pos 4)) (Number (pos 2))
    ++ both tied whole (pos 1) (Number (pos 3)) (Number (pos 2))
    ++ both low (Window 0 3) (pos 2) (Number (negsuc 6)) (Number (pos 0))
    ++ both low (Window 0 3) (pos 1) (Number (negsuc 1)) (Number (pos 1))
    ++ both most (Window 0 4) (pos 2) (Number (pos 2147483647)) (Number (pos 1))
    ++ both most (Window 0 4) (pos 3) (Missing 4) (Number (pos 1))
    ++ both most (Window 0 4) (pos 4) (Number (pos 2147483643)) (Number (pos 0))
    ++ both high (Window 0 3) (pos 3) (Number (pos 2147483647)) (Number (pos 0))
    ++ both ends (Window 0 3) (pos 2) (Number (pos 10)) (Number (pos 0))
    ++ both lowest (Window 0 3) (pos 2) (Missing 4) (Number (pos 0))
    ++ both lowest (Window 0 3) (pos 1) (Number (negsuc 0)) (Number (pos 1))

pub stretches-hold : Holds on_stretches
unfolding comes_to
stretches-hold = refl

-- ---- runs: by reading, and the first that gives no number decides

-- 152 divides by zero
abbrev divides : ℤ → Value
divides z = on_numbers Div (pos 1) (z -ℤ pos 152)

-- 152 gives no number, and 160, which comes later, divides by zero
abbrev window_first : ℤ → Value
window_first z = cond (sameℤ z (pos 152)) whole (on_numbers Div (pos 1) (z -ℤ pos 160))

abbrev on_runs : List Example
on_runs =
    (runs CountWhere recording whole over150, Number (pos 3))
    ∷ (runs CountWhere recording whole Number, Number (pos 5))
    ∷ (runs LongestRun recording whole over150, Number (pos 2))
    ∷ (runs SumBy recording whole Number, Number (pos 755))
    ∷ (runs SumBy high (Window 0 3) Number, Number (pos 2147483647))
    ∷ (runs SumBy high (Window 0 2) Number, Missing 4)
    ∷ (runs CountWhere recording whole divides, Missing 3)
    ∷ (runs LongestRun recording whole divides, Missing 3)
    ∷ (runs SumBy recording whole window_first, Missing 2)
    ∷ (runs SumBy recording (Window 2 3) divides, Number (negsuc 0))
    ∷ (runs CountWhere recording (Window 5 0) divides, Number (pos 0))
    ∷ []

pub runs-hold : Holds on_runs
unfolding comes_to
runs-hold = refl

-- ---- the first missing dependency, receiver first; then a delayed one; then the kinds
abbrev on_others : List Example
on_others =
    (with Add [] (Missing 1) (Missing 3), Missing 1)
    ∷ (with Add [] Delayed (Missing 3), Missing 3)
    ∷ (with Add [] (Missing 1) Delayed, Missing 1)
    ∷ (with Add [] Delayed whole, Delayed)
    ∷ (with Add [] whole Delayed, Delayed)
    ∷ (with Add recording (Number (pos 1)) whole, Missing 2)
    ∷ (with Skip recording (Number (pos 1)) (Number (pos 1)), Missing 2)
    ∷ (with CountWhere recording whole (Number (pos 1)), Missing 2)
    ∷ (alone Sum recording (Number (pos 1)), Missing 2)
    ∷ (alone Sum recording Delayed, Delayed)
    ∷ (alone Sum recording (Missing 5), Missing 5)
    ∷ []

pub others-hold : Holds on_others
unfolding comes_to
others-hold = refl
