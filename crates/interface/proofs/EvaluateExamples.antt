-- 02, T-07: evaluate on small texts, computed: what it answers for a place, and which refusal comes first; one computed check over each list.
-- Assumes nothing.
use Rattle.std.specs.Prelude.{◌≡◌, refl, List, [], ◌∷◌, ◌++◌, map, ℕ, ℤ, pos, replicate}
use Prim.Native.String.{String}
use Rattle.language.specs.Names
use Rattle.language.specs.Names.{bytes}
use Rattle.members.specs.Members
use Rattle.grammar.specs.Tokens
use Rattle.grammar.specs.Faults
use Rattle.grammar.specs.Reading
use Rattle.grammar.specs.Machine
use Rattle.grammar.proofs.Refusals.{times}
use Rattle.rules.specs.Values
use Rattle.rules.specs.Numbers
use Rattle.rules.specs.Windows
use Rattle.rules.specs.Runs
use Rattle.rules.specs.Rules
use Rattle.rules.specs.Apply
use Rattle.meaning.specs.Forms
use Rattle.meaning.specs.Binding
use Rattle.meaning.specs.Evaluation
use Rattle.schedule.specs.declared.View.{View}
use Rattle.interface.specs.declared.answers.Evaluated.{Evaluated}
use Rattle.std.specs.Prelude.{Result, Ok, Err}
use Rattle.language.specs.declared.refusals.Refusal.{Refusal}
use Rattle.language.specs.declared.refusals.Refusal.TheVariants.{TextTooLong, RecordingTooLong, Ungrammatical, WrongCall, NoSuchEntry}
use Rattle.language.specs.declared.refusals.Refused.{Refused}
use Rattle.language.specs.Refusals
use Rattle.interface.specs.Answers.{declined}
use Rattle.interface.specs.Views
use Rattle.interface.specs.Calls
use Rattle.interface.specs.Calls.{evaluated}

abbrev Answer : Type 0
Answer = Result Evaluated Refused

-- what a part shows, with the number of the text's parts; or the refusal and its place
abbrev done : (parts : ℕ) → View → Answer
done n v = Ok (record { parts = n; shown = v })

abbrev refuses : Refusal → (place : ℕ) → Answer
refuses e at = Err (declined e at)

-- evaluate as a definition that computes
unfoldable answer : List ℕ → List ℤ → ℕ → Answer
unfolding Calls.evaluated Calls.read_evaluated Views.view_of Refusals.text_refusal
    Names.bytes Names.pack_onto Names.let_word Names.word_in Names.data_word Names.is_data Members.spelled Members.arguments Members.same_bytes
    Members.named_in Members.member_of Members.takes Tokens.when Tokens.leading Tokens.decimal_onto Tokens.word_token Tokens.word_at Tokens.digits_at
    Tokens.minus_at Tokens.mark_token Tokens.token_at Tokens.scan Faults.fault_number Faults.opened Faults.in_lambda Faults.mark_fault
    Faults.lambda_fault Faults.binder_fault Faults.name_fault Faults.literal_fault Faults.call_fault Faults.fault Faults.counted
    Reading.place_in Machine.step Machine.finish Machine.further Machine.ended Machine.judge Machine.read_from Machine.read Machine.read_text
    Values.ranged Numbers.divided Windows.total Windows.extreme Runs.results Runs.count_of Rules.rule Apply.apply0 Apply.apply1
    Forms.name_of Binding.look_up Binding.named Binding.lambdas Binding.member Binding.form_e Binding.called Binding.places_e
    Evaluation.value_of Evaluation.run_of Evaluation.lookup Evaluation.settled Evaluation.evaluate Evaluation.has_name Evaluation.joined
    Evaluation.without Evaluation.awaited Evaluation.shows
answer text r p = evaluated text r p

-- a text, a recording, a place, and what is answered
abbrev Example : Type 0
Example = List ℕ × List ℤ × ℕ × Answer

answers : List Example → List Answer
answers xs = map (λ (x : Example). answer x.0 x.1 x.2) xs

expected : List Example → List Answer
expected xs = map (λ (x : Example). x.3) xs

-- over the recording 0, 2, 3, and over the empty one
over : String → ℕ → Answer → Example
over text p a = (bytes text, pos 0 ∷ pos 2 ∷ pos 3 ∷ [], p, a)

over_none : String → ℕ → Answer → Example
over_none text p a = (bytes text, [], p, a)

-- ---- what is shown: a number, a window, a function, a delay and a reason

abbrev number : ℕ → View
number n = record { kind = 1; first = pos n; second = 0; name = 0; other = 0 }

abbrev window : (start length : ℕ) → View
window s l = record { kind = 2; first = pos s; second = l; name = 0; other = 0 }

abbrev function : (name : ℕ) → View
function x = record { kind = 3; first = pos 0; second = 0; name = x; other = 0 }

abbrev delay : (name other : ℕ) → View
delay x y = record { kind = 4; first = pos 0; second = 0; name = x; other = y }

abbrev missing : (reason : ℕ) → View
missing r = record { kind = 5; first = pos r; second = 0; name = 0; other = 0 }

-- ---- parts of readable texts

-- the value of a let that is not used does not decide, and is shown at its own place; one that is used; an inner let hides an outer one
lets : List Example
lets =
    over "let x = y in 1" 0 (done 3 (number 1))
    ∷ over "let x = y in 1" 1 (done 3 (missing 1))
    ∷ over "let u = 1.div(0) in 6" 0 (done 5 (number 6))
    ∷ over "let u = 1.div(0) in 6" 2 (done 5 (missing 3))
    ∷ over "let x = 1 in data.skip(x).take(x)" 0 (done 7 (window 1 1))
    ∷ over "let x = 1 in data.skip(x).take(x)" 2 (done 7 (window 0 3))
    ∷ over "let x = 1 in data.skip(x).take(x)" 3 (done 7 (window 1 2))
    ∷ over "let x = 1 in data.skip(x).take(x)" 6 (done 7 (number 1))
    ∷ over "let x = 1 in let x = 2 in x" 0 (done 5 (number 2))
    ∷ []

lets-hold : answers lets ≡ expected lets
unfolding lets over answers expected answer
lets-hold = refl

-- a function handed out of its let: 5 + 7 + 8
handed : List Example
handed =
    over "data.sumBy(let a = 5 in \\x -> x.add(a))" 1 (done 8 (number 20))
    ∷ over "data.sumBy(let a = 5 in \\x -> x.add(a))" 2 (done 8 (function 120))
    ∷ over "data.sumBy(let a = 5 in \\x -> x.add(a))" 5 (done 8 (delay 120 0))
    ∷ over "data.sumBy(let a = 5 in \\x -> x.add(a))" 7 (done 8 (number 5))
    ∷ []

handed-hold : answers handed ≡ expected handed
unfolding handed over answers expected answer
handed-hold = refl

-- a function of level 0 in a run of another of level 0, whose variable is used behind it: 1 + 3 + 4, times 0, 2 and 3
hidden : List Example
hidden =
    over "let f = \\y -> y.add(1) in data.sumBy(\\x -> data.sumBy(f).mul(x))" 0 (done 13 (number 40))
    ∷ over "let f = \\y -> y.add(1) in data.sumBy(\\x -> data.sumBy(f).mul(x))" 9 (done 13 (number 8))
    ∷ over "let f = \\y -> y.add(1) in data.sumBy(\\x -> data.sumBy(f).mul(x))" 10 (done 13 (function 121))
    ∷ over "let f = \\y -> y.add(1) in data.sumBy(\\x -> data.sumBy(f).mul(x))" 11 (done 13 (delay 120 0))
    ∷ []

hidden-hold : answers hidden ≡ expected hidden
unfolding hidden over answers expected answer
hidden-hold = refl

runs : List Example
runs =
    -- a function is not judged by the run around it, which here is on 0: 6 by 2 and by 3, three times; its own run on 0 is missing
    over "let f = \\y -> 6.div(y) in data.sumBy(\\x -> data.skip(1).sumBy(f))" 0 (done 13 (number 15))
    ∷ over "let f = \\y -> 6.div(y) in data.sumBy(f)" 0 (done 8 (missing 3))
    -- levels 0 and 1: 2 and 3, each less each of 0, 2 and 3
    ∷ over "data.skip(1).sumBy(\\a -> data.sumBy(\\b -> a.sub(b)))" 3 (done 11 (number 5))
    ∷ over "data.skip(1).sumBy(\\a -> data.sumBy(\\b -> a.sub(b)))" 6 (done 11 (delay 97 0))
    -- a run that gives no number
    ∷ over "data.sumBy(\\a -> data)" 1 (done 4 (missing 2))
    ∷ over "data.sumBy(\\a -> \\b -> b)" 1 (done 5 (missing 2))
    ∷ []

runs-hold : answers runs ≡ expected runs
unfolding runs over answers expected answer
runs-hold = refl

functions : List Example
functions =
    -- the names awaited, by first occurrence in the let-free form; a function that awaits an outer variable
    over "\\a -> \\b -> b.sub(a)" 3 (done 5 (delay 98 97))
    ∷ over "\\a -> \\b -> b.sub(a)" 1 (done 5 (delay 97 0))
    ∷ over "\\a -> \\b -> b.sub(a)" 0 (done 5 (function 97))
    ∷ over "\\a -> \\b -> let x = b in a.add(x)" 2 (done 7 (delay 97 98))
    -- two variables of one spelling
    ∷ over "\\a -> let x = a in \\a -> x.add(a)" 5 (done 7 (delay 97 97))
    ∷ over "\\a -> let x = a in \\a -> x.add(a)" 3 (done 7 (delay 97 0))
    -- a missing body, also where it is never run; an unbound name is no lambda variable of that spelling
    ∷ over "\\a -> y" 0 (done 2 (missing 1))
    ∷ over "let y = b in \\b -> y" 0 (done 4 (missing 1))
    ∷ over "data.take(0).countWhere(\\b -> 1.div(0))" 3 (done 8 (missing 3))
    -- a body that is missing in a run alone
    ∷ over "data.take(0).countWhere(\\b -> b.div(0))" 3 (done 8 (number 0))
    ∷ over "data.take(0).countWhere(\\b -> b.div(0))" 4 (done 8 (function 98))
    ∷ over "data.countWhere(\\b -> b.div(0))" 1 (done 6 (missing 3))
    ∷ []

functions-hold : answers functions ≡ expected functions
unfolding functions over answers expected answer
functions-hold = refl

-- over the empty recording a function is never run, and yet missing where its body is
empty : List Example
empty =
    over_none "data" 0 (done 1 (window 0 0))
    ∷ over_none "data.sum()" 1 (done 2 (number 0))
    ∷ over_none "data.min()" 1 (done 2 (missing 5))
    ∷ over_none "data.sumBy(\\a -> data)" 1 (done 4 (number 0))
    ∷ over_none "data.countWhere(\\b -> 1.div(0))" 1 (done 6 (missing 3))
    ∷ []

empty_holds : answers empty ≡ expected empty
unfolding empty over_none answers expected answer
empty_holds = refl

-- ---- refusals

zeros : ℕ → List ℤ
zeros n = replicate n (pos 0)

spaces : ℕ → List ℕ
spaces n = replicate n 32

-- 1 before 2, and 2 before the reader's and 14; the reader's numbers and places, also for a place that no text has; 14 for the number of parts and
-- beyond
refusals : List Example
refusals =
    (spaces 1025, zeros 1025, 200, refuses TextTooLong 0)
    ∷ (bytes "data.", zeros 1025, 200, refuses RecordingTooLong 0)
    ∷ (bytes "1", zeros 1025, 1, refuses RecordingTooLong 0)
    ∷ over_none "data." 200 (refuses Ungrammatical 5)
    ∷ over_none "data.skip()" 128 (refuses WrongCall 10)
    ∷ over_none "data.sum()" 2 (refuses NoSuchEntry 0)
    ∷ over_none "let x = y in 1" 3 (refuses NoSuchEntry 0)
    ∷ over_none "1" 4294967295 (refuses NoSuchEntry 0)
    ∷ []

refusals-ordered : answers refusals ≡ expected refusals
unfolding refusals over_none zeros spaces answers expected answer
refusals-ordered = refl

-- 1,024 bytes and 1,024 readings are taken
limits : List Example
limits =
    (spaces 1023 ++ bytes "1", zeros 1024, 0, done 1 (number 1))
    ∷ (bytes "data.count()", zeros 1024, 1, done 2 (number 1024))
    ∷ []

limits-taken : answers limits ≡ expected limits
unfolding limits zeros spaces answers expected answer Names.bytes
limits-taken = refl

-- a text of 128 parts, its last place and the one behind it
longest : List ℕ
longest = bytes "data.sum()" ++ times 63 (bytes ".eq(1)")

last-place : answer longest [] 127 ≡ done 128 (number 1)
unfolding longest times answer Names.bytes
last-place = refl

no_place : answer longest [] 128 ≡ refuses NoSuchEntry 0
unfolding longest times answer Names.bytes
no_place = refl
