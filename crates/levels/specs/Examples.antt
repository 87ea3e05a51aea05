-- 02, T-07: what let-free forms show by the interpreter, over the recording 0, 2, 3; one computed check over each list. Assumes nothing.
use Rattle.std.specs.Prelude.{◌≡◌, refl, List, [], ◌∷◌, map, ℕ, pos}
use Prim.Native.String.{String}
use Rattle.language.specs.Names
use Rattle.language.specs.Names.{bytes, packed}
use Rattle.members.specs.declared.Member.TheVariants.{Add, Sub, Mul, Div, Skip, Take, Count, CountWhere, SumBy}
use Rattle.rules.specs.Values
use Rattle.rules.specs.Numbers
use Rattle.rules.specs.Windows
use Rattle.rules.specs.Runs
use Rattle.rules.specs.Rules
use Rattle.rules.specs.Apply
use Rattle.meaning.specs.Forms
use Rattle.meaning.specs.Forms.{Form, with_level, number, variable, unbound, readings, ask, call, function}
use Rattle.meaning.specs.Evaluation
use Rattle.meaning.specs.Evaluation.{Shown, a_number, a_function, a_delay, a_reason}
use Rattle.levels.specs.Interpreting
use Rattle.levels.specs.Interpreting.{shown_by}

-- what a form shows, as a definition that computes
unfoldable is_shown : Form → Shown
unfolding Values.ranged Numbers.divided Windows.total Runs.results Runs.count_of Rules.rule Apply.apply0 Apply.apply1 Forms.name_of Evaluation.has_name
    Evaluation.joined Evaluation.without Interpreting.levels Interpreting.is_open Interpreting.interpret Interpreting.variable_at Interpreting.shown_by
is_shown f = shown_by (pos 0 ∷ pos 2 ∷ pos 3 ∷ []) f

-- a form, and what it shows
abbrev Example : Type 0
Example = Form × Shown

shown : List Example → List Shown
shown xs = map (λ (x : Example). is_shown x.0) xs

expected : List Example → List Shown
expected xs = map (λ (x : Example). x.1) xs

-- ---- forms: a number; a variable and a function, by name and level

abbrev literal : ℕ → Form
literal n = number (pos n)

unfoldable at : String → ℕ → ℕ
unfolding Names.bytes Names.pack_onto
at x k = with_level (packed (bytes x)) k

var : String → ℕ → Form
var x k = variable (at x k)

fun : String → ℕ → Form → Form
fun x k b = function (at x k) b

-- ---- runs

runs : List Example
runs =
    -- 1 + 3 + 4
    (call SumBy readings next, a_number (pos 8))
    -- a function of level 0 in a run of another of level 0, whose variable is used behind it: 8 times 0, 2 and 3
    ∷ (call SumBy readings (fun "x" 0 (call Mul (call SumBy readings next) (var "x" 0))), a_number (pos 40))
    -- a function is not judged by the run around it, which here is on 0: 6 by 2 and by 3, three times
    ∷ (call SumBy readings (fun "x" 0 (call SumBy later six_by)), a_number (pos 15))
    -- levels 0 and 1: 2 and 3, each less each of 0, 2 and 3
    ∷ (call SumBy later (fun "a" 0 (call SumBy readings (fun "b" 1 (call Sub (var "a" 0) (var "b" 1))))), a_number (pos 5))
    -- level 1 where no function of level 0 runs
    ∷ (call SumBy readings (fun "b" 1 (var "b" 1)), a_number (pos 5))
    -- levels 0 and 1 in a run of another of level 0: 0, 2 and 3, then 3, and then none, each by 2 and by 3
    ∷ (call SumBy readings (fun "x" 0 (call SumBy (call Skip readings (var "x" 0)) shares)), a_number (pos 5))
    -- a run that gives no number
    ∷ (call SumBy readings (fun "a" 0 (fun "b" 1 (var "b" 1))), a_reason 2)
    ∷ (call SumBy readings (fun "a" 0 readings), a_reason 2)
    ∷ []
  where
    -- 2 and 3
    later : Form
    later = call Skip readings (literal 1)

    -- \y -> y.add(1), \y -> 6.div(y) and \y -> data.skip(1).sumBy(\x -> y.div(x))
    next : Form
    next = fun "y" 0 (call Add (var "y" 0) (literal 1))

    six_by : Form
    six_by = fun "y" 0 (call Div (literal 6) (var "y" 0))

    shares : Form
    shares = fun "y" 0 (call SumBy later (fun "x" 1 (call Div (var "y" 0) (var "x" 1))))

runs-hold : shown runs ≡ expected runs
unfolding runs var fun at shown expected is_shown
runs-hold = refl

-- ---- functions

functions : List Example
functions =
    (fun "a" 0 (var "a" 0), a_function 97)
    -- one that awaits an outer variable, also of its own spelling; what runs it; and the outer function
    ∷ (fun "b" 1 (call Add (var "a" 0) (var "b" 1)), a_delay (97 ∷ []))
    ∷ (fun "a" 1 (call Add (var "a" 0) (var "a" 1)), a_delay (97 ∷ []))
    ∷ (call SumBy readings (fun "b" 1 (call Add (var "a" 0) (var "b" 1))), a_delay (97 ∷ []))
    ∷ (fun "a" 0 (fun "b" 1 (call Add (var "a" 0) (var "b" 1))), a_function 97)
    -- a missing body, whatever else is awaited, and even if it is never run
    ∷ (fun "a" 0 (unbound 98), a_reason 1)
    ∷ (fun "b" 1 (call Add (var "a" 0) (call Div (literal 1) (literal 0))), a_reason 3)
    ∷ (call CountWhere (call Take readings (literal 0)) (fun "a" 0 (call Div (literal 1) (literal 0))), a_reason 3)
    -- a body that is missing in a run alone
    ∷ (fun "a" 0 (call Div (var "a" 0) (literal 0)), a_function 97)
    ∷ (call CountWhere (call Take readings (literal 0)) (fun "a" 0 (call Div (var "a" 0) (literal 0))), a_number (pos 0))
    ∷ (call CountWhere readings (fun "a" 0 (call Div (var "a" 0) (literal 0))), a_reason 3)
    ∷ []

functions-hold : shown functions ≡ expected functions
unfolding functions var fun at shown expected is_shown
functions-hold = refl

-- ---- awaited names

awaits : List Example
awaits =
    (var "a" 0, a_delay (97 ∷ []))
    ∷ (ask Count (call Skip readings (var "b" 1)), a_delay (98 ∷ []))
    -- by first occurrence: both orders, and a name that occurs twice
    ∷ (call Add (var "a" 0) (var "b" 1), a_delay (97 ∷ 98 ∷ []))
    ∷ (call Add (var "b" 1) (var "a" 0), a_delay (98 ∷ 97 ∷ []))
    ∷ (call Sub (call Add (var "b" 1) (var "a" 0)) (var "b" 1), a_delay (98 ∷ 97 ∷ []))
    -- two variables of one spelling
    ∷ (call Add (var "a" 0) (var "a" 1), a_delay (97 ∷ 97 ∷ []))
    -- a function's own variable is not awaited; one of its level behind it is
    ∷ (call Add (call SumBy readings (fun "a" 0 (var "a" 0))) (var "b" 0), a_delay (98 ∷ []))
    ∷ []

awaits-hold : shown awaits ≡ expected awaits
unfolding awaits var fun at shown expected is_shown
awaits-hold = refl
