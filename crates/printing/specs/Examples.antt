-- 02, T-04 and T-05: forms with their texts, and forms with the refusals of their texts, and one computed check over each list. Assumes nothing.
use Rattle.std.specs.Prelude.{◌≡◌, refl, List, [], ◌∷◌, map, ℕ, zero, suc, pos, negsuc}
use Prim.Native.String.{String}
use Rattle.language.specs.Names
use Rattle.language.specs.Names.{bytes, packed}
use Rattle.members.specs.Members
use Rattle.members.specs.declared.Member.TheVariants.{Add, Div, Skip, Take, Count, SumBy, LongestRun}
use Rattle.meaning.specs.Forms.{Form, with_level, number, variable, unbound, readings, ask, call, function}
use Rattle.meaning.specs.Evaluation
use Rattle.printing.specs.Printed
use Rattle.printing.specs.Printed.{text_of}
use Rattle.printing.specs.Bound
use Rattle.printing.specs.Judging
use Rattle.printing.specs.Judging.{verdict}

-- the text of a form, and a name's number, as definitions that compute
unfoldable computed : Form → List ℕ
unfolding Names.bytes Names.data_word Members.spelled Printed.digits_onto Printed.decimals Printed.unpack_onto Printed.text_of
computed f = text_of f

unfoldable spelt : String → List ℕ
unfolding Names.bytes
spelt t = bytes t

unfoldable named : String → ℕ
unfolding Names.bytes Names.pack_onto
named x = packed (bytes x)

-- the variable of this name of a function that stands within none, within one, within two
abbrev at0 : String → ℕ
at0 x = with_level (named x) 0

abbrev at1 : String → ℕ
at1 x = with_level (named x) 1

abbrev at2 : String → ℕ
at2 x = with_level (named x) 2

examples : List (Form × String)
examples =
    -- shortest decimals, - directly before
    (number (pos 0), "0")
    ∷ (number (pos 10), "10")
    ∷ (number (negsuc 6), "-7")
    ∷ (number (negsuc 2147483647), "-2147483648")
    ∷ (unbound (named "a"), "a")
    ∷ (unbound (named "abcdEF09"), "abcdEF09")
    -- a chain has no brackets and no blanks
    ∷ (ask Count readings, "data.count()")
    ∷ (call Take (call Skip readings (number (pos 1))) (number (negsuc 1)), "data.skip(1).take(-2)")
    -- a number is a receiver as it stands, also one with -
    ∷ (call Div (number (negsuc 6)) (number (pos 2)), "-7.div(2)")
    -- one blank on either side of ->
    ∷ (call SumBy readings (function (at0 "a") (call Add (variable (at0 "a")) (number (negsuc 0)))), "data.sumBy(\\a -> a.add(-1))")
    ∷ (call LongestRun readings (function (at0 "a") (number (negsuc 0))), "data.longestRun(\\a -> -1)")
    -- a function that is a receiver stands in brackets, and no other function
    ∷ (call Add (function (at0 "a") (number (negsuc 0))) (function (at0 "b") (unbound (named "c"))), "(\\a -> -1).add(\\b -> c)")
    ∷ (function (at0 "p") (function (at1 "q") (ask Count (function (at2 "r") readings))), "\\p -> \\q -> (\\r -> data).count()")
    -- a variable's level is not printed
    ∷ (function (at1 "a") (variable (at0 "a")), "\\a -> a")
    ∷ []

examples-printed : map (λ (e : Form × String). computed e.0) examples ≡ map (λ (e : Form × String). spelt e.1) examples
unfolding examples computed spelt named
examples-printed = refl

-- ---- refusals 15 and 16

unfoldable judged : Form → ℕ
unfolding Evaluation.has_name Bound.is_innermost Judging.counted Judging.looked Judging.opening Judging.walked Judging.refusal_of
judged f = verdict f

-- so many calls in one another's arguments, the last with the argument f, and so many in a chain
unfoldable nested : ℕ → Form → Form
nested zero f = f
nested (suc k) f = call Skip readings (nested k f)

unfoldable chain : ℕ → Form
chain zero = readings
chain (suc k) = ask Count (chain k)

verdicts : List (Form × ℕ)
verdicts =
    -- each variable has a function around it, and no unbound name has
    (function (at0 "a") (call Add (variable (at0 "a")) (unbound (named "b"))), 0)
    ∷ (variable (at0 "a"), 16)
    ∷ (call Add (function (at0 "a") (variable (at0 "a"))) (variable (at0 "a")), 16)
    ∷ (function (at0 "a") (unbound (named "a")), 16)
    -- two functions, and no third
    ∷ (function (at0 "a") (function (at1 "b") (call Add (variable (at0 "a")) (variable (at1 "b")))), 0)
    ∷ (function (at0 "a") (function (at1 "b") (function (at2 "c") readings)), 15)
    -- an inner function hides an outer one of its name
    ∷ (function (at0 "a") (function (at1 "a") readings), 0)
    ∷ (function (at0 "a") (function (at1 "a") (variable (at1 "a"))), 0)
    ∷ (function (at0 "a") (function (at1 "a") (variable (at0 "a"))), 16)
    -- a function has as its level how many are around it
    ∷ (function (at1 "a") readings, 16)
    ∷ (function (at0 "a") (function (at0 "b") readings), 16)
    ∷ (call Add (call SumBy readings (function (at0 "a") (variable (at0 "a")))) (call SumBy readings (function (at0 "a") (variable (at0 "a")))), 0)
    -- 16 open marks: a call's brackets are one, a function is one, and two where it is a receiver
    ∷ (nested 16 readings, 0)
    ∷ (nested 17 readings, 15)
    ∷ (nested 15 (function (at0 "a") readings), 0)
    ∷ (nested 16 (function (at0 "a") readings), 15)
    ∷ (nested 14 (ask Count (function (at0 "a") readings)), 0)
    ∷ (nested 15 (ask Count (function (at0 "a") readings)), 15)
    -- 128 parts
    ∷ (chain 127, 0)
    ∷ (chain 128, 15)
    -- 15 before 16
    ∷ (nested 17 (variable (at0 "a")), 15)
    ∷ []

verdicts-given : map (λ (e : Form × ℕ). judged e.0) verdicts ≡ map (λ (e : Form × ℕ). e.1) verdicts
unfolding verdicts judged nested chain named
verdicts-given = refl
