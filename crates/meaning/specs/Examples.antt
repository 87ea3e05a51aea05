-- 02, T-05: trees with their let-free forms, in which each lambda has its level, and what such forms show; one computed check over each list.
-- Assumes nothing.
use Rattle.std.specs.Prelude.{◌≡◌, refl, List, [], ◌∷◌, map, ℕ, pos}
use Prim.Native.String.{String}
use Rattle.language.specs.Names
use Rattle.language.specs.Names.{bytes, packed}
use Rattle.members.specs.Members
use Rattle.members.specs.declared.Member.TheVariants.{Add, SumBy}
use Rattle.rules.specs.Rules
use Rattle.rules.specs.Runs
use Rattle.rules.specs.Windows
use Rattle.rules.specs.Values
use Rattle.rules.specs.Apply
use Rattle.grammar.specs.Grammar.{Expression, let_in, lambda, name, done, first, last}
use Rattle.grammar.specs.Grammar as Grammar
use Rattle.meaning.specs.Forms
use Rattle.meaning.specs.Forms.{Form, with_level, variable, unbound, readings, call, function}
use Rattle.meaning.specs.Binding
use Rattle.meaning.specs.Binding.{form_of}
use Rattle.meaning.specs.Evaluation
use Rattle.meaning.specs.Evaluation.{Shown, a_number, a_function, a_delay, shows}

-- the form of a tree, and what a form shows over a recording of two readings, as definitions that compute
unfoldable form_is : Expression → Form
unfolding Names.bytes Names.pack_onto Names.data_word Names.is_data Members.spelled Members.arguments Members.same_bytes Members.named_in Members.member_of
    Binding.look_up Binding.named Binding.lambdas Binding.member Binding.form_e
form_is e = form_of e

unfoldable is_shown : Form → Shown
unfolding Members.spelled Members.arguments Values.ranged Windows.total Runs.results Rules.rule Apply.apply0 Apply.apply1 Forms.name_of Evaluation.value_of
    Evaluation.run_of Evaluation.lookup Evaluation.settled Evaluation.evaluate Evaluation.has_name Evaluation.joined Evaluation.without Evaluation.awaited
    Evaluation.shows
is_shown f = shows (pos 3 ∷ pos 4 ∷ []) f

-- ---- trees

used : String → Expression
used x = name (bytes x) done

-- a call with one argument
with : String → String → Expression → Expression
with x m e = name (bytes x) (Grammar.call (bytes m) (first e (last done)))

-- the variable of a name at a level
unfoldable at : String → ℕ → ℕ
unfolding Names.bytes Names.pack_onto
at x k = with_level (packed (bytes x)) k

own : Form
own = function (at "a" 0) (variable (at "a" 0))

inner : Form
inner = function (at "a" 1) (variable (at "a" 1))

trees : List (Expression × Form)
trees =
    -- a function inside another lambda is not its twin outside any
    (lambda (bytes "a") (used "a"), own)
    ∷ (lambda (bytes "b") (with "data" "sumBy" (lambda (bytes "a") (used "a"))), function (at "b" 0) (call SumBy readings inner))
    -- a let's value has the levels of the place where it is written, wherever its name is used; a let is no level
    ∷ (let_in (bytes "f") (lambda (bytes "a") (used "a")) (lambda (bytes "b") (with "data" "sumBy" (used "f"))), function (at "b" 0) (call SumBy readings own))
    ∷ (let_in (bytes "x") (used "data") (lambda (bytes "a") (used "a")), own)
    -- an inner lambda hides an outer one of its name, and a let between them keeps the outer variable
    ∷ (lambda (bytes "a") (lambda (bytes "a") (used "a")), function (at "a" 0) inner)
    ∷ (
      lambda (bytes "a") (let_in (bytes "x") (used "a") (lambda (bytes "a") (with "x" "add" (used "a")))),
      function (at "a" 0) (function (at "a" 1) (call Add (variable (at "a" 0)) (variable (at "a" 1)))),
    )
    -- an unbound name has no level
    ∷ (let_in (bytes "y") (used "a") (lambda (bytes "a") (used "y")), function (at "a" 0) (unbound (packed (bytes "a"))))
    ∷ []

trees-bound : map (λ (x : Expression × Form). form_is x.0) trees ≡ map (λ (x : Expression × Form). x.1) trees
unfolding trees form_is with own inner used at Names.bytes Names.pack_onto
trees-bound = refl

-- ---- what is shown

both : Form
both = call Add (variable (at "a" 0)) (variable (at "a" 1))

forms : List (Form × Shown)
forms =
    -- a function shows its name; a part that waits for two variables of one spelling names it twice; a function binds its own
    (own, a_function 97)
    ∷ (both, a_delay (97 ∷ 97 ∷ []))
    ∷ (function (at "a" 1) both, a_delay (97 ∷ []))
    ∷ (function (at "a" 0) (function (at "a" 1) both), a_function 97)
    -- a run puts the number for the function's own variable: the sum of each reading with each, 6 + 7 + 7 + 8
    ∷ (call SumBy readings (function (at "a" 0) (call SumBy readings (function (at "a" 1) both))), a_number (pos 28))
    ∷ []

forms-shown : map (λ (x : Form × Shown). is_shown x.0) forms ≡ map (λ (x : Form × Shown). x.1) forms
unfolding forms is_shown both own at
forms-shown = refl
