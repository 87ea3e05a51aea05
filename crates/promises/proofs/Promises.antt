-- What the engine promises, on one page. The calls are those of interface's Calls, which the contracts of the exported functions cite; what each
-- of these theorems says is written out where it is named. Assumes nothing.
--   1. Any call gets a result or a numbered refusal: the definitions of Calls are total, and the exported functions ask for nothing. When a call
--      is accepted and with which numbers it is refused is said exactly (interface's Acceptance; of a print, Printing; of an evaluate, Evaluating).
--      A refusal changes no lent memory (Declined), and cells beyond the sizes keep their contents (Outside), as do lent bytes behind a printed
--      text (Printing). A cache that a call accepts, whatever was in it, is accepted by the next one (Accepting).
--   2. A text is read exactly if a tree of the grammar spells its tokens and keeps the limits, and is refused exactly where 01 says; an edit is
--      declined for its text exactly if that is too long or is not read. Packed names are equal exactly if their bytes are (Naming), and lambda
--      variables exactly if their names and levels are; number 11 never comes up. What a finished preview of a part shows is what evaluation
--      gives for its let-free form, and what is delayed shows the names of Figure 5 (Awaiting). Division goes down (rules' NumbersLaws), and a
--      count from either end is clipped (WindowsLaws). Evaluate, without a cache, answers for each place of a readable text what a fresh cache
--      finally shows there, and what a finished preview of that part shows in any session (Evaluating). What is printed of an entry is read as
--      the entry's form again and printed as the same bytes (Printing).
--   3. Over every list of calls after an opening the engine answers as the reference model does, and ends holding what it holds (model's
--      Demand), and so over every run of a program in C (Boundary).
use Rattle.std.specs.Prelude.{Some, Result, Ok, Err}
use Rattle.std.specs.Prelude.{◌≡◌, refl, true, false, ◌&&◌, ◌↔◌, ◌⊎◌, List, [], map, ℕ, ◌+◌, ◌-◌, ◌^◌, ◌≤◌, ◌<◌, ℤ, pos, neg_ℤ, ◌+ℤ◌, length, take, drop, get_or, ◌≤ℤ◌}
use Rattle.std.proofs.Common.{sym, ap}
use Rattle.std.specs.Int.Signed.{lt_z}
use Rattle.language.specs.Limits.{text_bytes, text_parts, open_lambdas, name_bytes, table_readings}
use Rattle.language.specs.Names.{packed, same_name, is_data, data_word}
use Rattle.grammar.specs.Grammar.{Expression, spell_e, Spells}
use Rattle.grammar.specs.Faults.{outermost}
use Rattle.grammar.specs.KeptLimits.{parts_e, KeepsLimits}
use Rattle.grammar.specs.Reading.{tree, refused as refused_at, RefusedBy, place_of, tokens_of}
use Rattle.grammar.specs.Machine.{read_text}
use Rattle.grammar.proofs.Theorems.{text-read-plainly, text-refused, text-number}
use Rattle.model.specs.Lists.{All}
use Rattle.model.specs.Model.{refused, opened, edited, printed, said}
use Rattle.model.specs.Since.{Part, Sendable}
use Rattle.model.specs.Engine.{Sent, told}
use Rattle.model.specs.Demand.{last, Given, Finishes, Demand}
use Rattle.model.specs.DemandLaws.{demand}
use Rattle.formulas.specs.Formulas.{IsReading, formulas}
use Rattle.members.specs.declared.Member.{Member}
use Rattle.members.specs.declared.Member.TheVariants.{Div, Skip, Take, At}
use Rattle.members.specs.Members.{spelled, member_of}
use Rattle.rules.specs.declared.Value.{Value}
use Rattle.rules.specs.declared.Value.TheVariants.{Number, Window, Function, Missing}
use Rattle.rules.specs.Values.{ranged, division_by_zero, outside_window}
use Rattle.rules.specs.Numbers.{NotAbove, Above, GreatestNotAbove, quotient}
use Rattle.rules.proofs.NumbersLaws as Division
use Rattle.rules.specs.Windows.{readings_in, from_start, clipped, Clips}
use Rattle.rules.proofs.WindowsLaws as Windows
use Rattle.meaning.specs.Forms.{Form, readings, level_base, with_level, name_in, level_in, variable, function, same, IsDependency, dependency, AtOrBelow, within, works}
use Rattle.meaning.proofs.FormsLaws as Forms
use Rattle.rules.specs.Apply.{is_delayed, apply1}
use Rattle.meaning.specs.Binding.{Meaning, named, variable_of, as_lambda, form_of, forms_by_place}
use Rattle.meaning.specs.Evaluation.{value_of, run_of, Environment, bind, lookup, settled, evaluate, put_for, has_name, awaited, Shown, a_window, a_delay, a_reason, shows}
use Rattle.meaning.proofs.EvaluationLaws.{evaluate-put}
use Rattle.meaning.specs.Levels.{LevelledE}
use Rattle.meaning.proofs.LevelsLaws as Written
use Rattle.meaning.specs.Substitution.{Substituted, AtLetsE}
use Rattle.meaning.specs.PartSubstitution.{PartsSubstituted}
use Rattle.printing.specs.Trees.{tree_of}
use Rattle.printing.specs.Bound.{Closed}
use Rattle.bridge.specs.FormulaLaws.{parts-placed, formula-laws}
use Rattle.bridge.specs.LetLaws.{text-lets, text-parts}
use Rattle.layout.specs.Memory.{Memory, fits, entry_count, reading_count, recording_of, entries_of}
use Rattle.table.specs.WellFormed.{done_at, well_formed}
use Rattle.schedule.specs.declared.View.{View}
use Rattle.schedule.specs.Works.{show_of}
use Rattle.interface.specs.Views.{view_of}
use Rattle.language.specs.declared.refusals.Refusal.{Refusal}
use Rattle.language.specs.declared.refusals.Refusal.TheVariants.{TextTooLong, RecordingTooLong, NoSuchEntry}
use Rattle.language.specs.declared.refusals.Refused.{Refused}
use Rattle.language.specs.Refusals.{refusal_number}
use Rattle.interface.specs.declared.answers.Edited.{Edited}
use Rattle.interface.specs.declared.answers.Previewed.{Previewed}
use Rattle.interface.specs.declared.answers.Previewed.TheVariants.{Finished}
use Rattle.interface.specs.declared.answers.Evaluated.{Evaluated}
use Rattle.interface.specs.declared.answers.EditAnswer.{EditAnswer}
use Rattle.interface.specs.declared.answers.PreviewAnswer.{PreviewAnswer}
use Rattle.interface.specs.declared.answers.PrintAnswer.{PrintAnswer}
use Rattle.interface.specs.declared.answers.EvaluateAnswer.{EvaluateAnswer}
use Rattle.interface.specs.Answers.{Opened, open_reply, edit_reply, preview_reply, PrintReply, printed_as, declined, shown_of}
use Rattle.interface.specs.Calls.{open_answer, open_memory, edit_answer, edit_memory, edit_places, previewed, preview_answer, preview_memory, part_of, fetched}
use Rattle.interface.specs.Calls.{form_at, print_answer, print_bytes, evaluated}
use Rattle.interface.specs.Effects.{Opens, Edits, Previews, Prints, OpensForC, EditsForC, PreviewsForC, PrintsForC, EvaluatesForC}
use Rattle.interface.specs.Acceptance.{OpenRefusal, EditRefusal, PreviewRefusal, PrintRefusal, EvaluateRefusal}
use Rattle.interface.specs.Acceptance.{IsEdited, InLanguage, TextDeclined, Held, text_at}
use Rattle.interface.proofs.AcceptanceLaws as Acceptance
use Rattle.interface.proofs.EvaluateLaws as EvaluateLaws
use Rattle.demand.specs.Holds.{holds, worked_out}
use Rattle.promises.specs.Lending.{lend, FirstOf, back}
use Rattle.promises.proofs.LendingLaws as Lending
use Rattle.promises.proofs.Implementing.{implements}
use Rattle.promises.specs.Engine.{engine}
use Rattle.promises.specs.Boundary.{ForC, Run, DemandForC}
use Rattle.promises.proofs.BoundaryLaws as Boundary
use Rattle.promises.proofs.Awaiting as Awaiting
use Rattle.promises.proofs.Levels as Levels
use Rattle.promises.specs.Terms.{HasWord, beyond, CanEdit, CanPrint, TextFits, readings_of, previews, AwaitedNames}
use Rattle.promises.proofs.Naming as Naming
use Rattle.promises.proofs.Declined as Declined
use Rattle.promises.proofs.Outside as Outside
use Rattle.promises.proofs.Showing as Showing
use Rattle.promises.proofs.Fetching as Fetching
use Rattle.promises.proofs.Accepting as Accepting
use Rattle.promises.proofs.Printing as Printing
use Rattle.promises.proofs.Evaluating as Evaluating

-- What the functions answer is, by 01's numbers of the refusals and the values of their answers, the answer of Calls.
pub open-answers : (m : Memory) (r : List ℤ) (m' : Memory) (x : Opened) → Opens m r m' x → open_reply x ≡ open_answer m r
open-answers m r m' x p = p.answer

pub edit-answers : (m : Memory) (places text : List ℕ) (m' : Memory) (places' : List ℕ) (x : Result Edited Refused) → Edits m places text m' places' x
    → edit_reply x places' ≡ edit_answer m places text
edit-answers m places text m' places' x p = p.answer

pub preview-answers : (m : Memory) (n a : ℕ) (m' : Memory) (x : Result Previewed Refusal) → Previews m n a m' x → preview_reply x ≡ preview_answer m n a
preview-answers m n a m' x p = ap preview_reply p.answer

-- A print answers its text's length. Its contract has no memory afterwards: the cache is only read.
pub print-answers : (m : Memory) (n : ℕ) (bytes bytes' : List ℕ) (x : Result ℕ Refusal) → Prints m n bytes bytes' x → PrintReply x (print_answer m n bytes)
print-answers m n bytes bytes' x p = p.answer

-- The same as an equation: it is the answer of Calls, with a text by its length and a refusal by its number.
pub print-equals : (m : Memory) (n : ℕ) (bytes bytes' : List ℕ) (x : Result ℕ Refusal) → Prints m n bytes bytes' x → x ≡ printed_as (print_answer m n bytes)
print-equals m n bytes bytes' x p = p.same

-- 1. When a call is accepted. An open: the memory fits, and the recording has at most 1,024 readings.
pub open-accepted : (m : Memory) (r : List ℤ) → (open_answer m r ≡ opened) ↔ ((fits m ≡ true) × (length r ≤ table_readings))
open-accepted = Acceptance.open-accepted

-- An edit: the text has at most 1,024 bytes, the memory fits with 128 places, the cache is well-formed, the reader reads the text, and the
-- entries held and the new ones are at most 512.
pub edit-accepted : (m : Memory) (places text : List ℕ) → IsEdited (edit_answer m places text) ↔ CanEdit m places text
edit-accepted = Accepting.edit-accepted

-- A preview: the memory fits, the cache is well-formed, and it holds the entry.
pub preview-accepted : (m : Memory) (n a : ℕ)
    → ((e : Refusal) → ¬ (previewed m n a ≡ Err e)) ↔ ((fits m ≡ true) × (well_formed m ≡ true) × (n < entry_count m))
preview-accepted = Acceptance.preview-accepted

-- 02, T-04: a print: the memory fits, the cache is well-formed, and it holds the entry; the text of the entry's let-free form fits the lent bytes
-- and has at most 1,024 bytes; and it is read, with that form.
pub print-accepted : (m : Memory) (n : ℕ) (bytes t : List ℕ) → (print_answer m n bytes ≡ printed t) ↔ CanPrint m n bytes t
print-accepted = Printing.print-accepted

-- For an entry that is held, 15 is exactly that the text exceeds the lent bytes, or that it is over 1,024 bytes or no tree of the grammar spells
-- its tokens and keeps the limits: an edit would be declined for it with 1 or a number from 5 to 12 (text-declined, below).
pub print-fifteen : (m : Memory) (n : ℕ) (bytes : List ℕ)
    → (print_answer m n bytes ≡ refused 15 0) ↔ (Held m n × ((length bytes < length (text_at m n)) ⊎ (¬ InLanguage (text_at m n))))
print-fifteen = Printing.print-fifteen

-- And 16 is exactly that neither is so, and that what is read has another form.
pub print-sixteen : (m : Memory) (n : ℕ) (bytes : List ℕ)
    → (print_answer m n bytes ≡ refused 16 0)
    ↔ (Held m n × (length (text_at m n) ≤ length bytes) × InLanguage (text_at m n)
    × ((e : Expression) → read_text (text_at m n) ≡ tree e → ¬ (form_of e ≡ form_at m n)))
print-sixteen = Printing.print-sixteen

-- 02, T-07: an evaluate: the text has at most 1,024 bytes and the recording at most 1,024 readings, the reader reads the text, and the place is
-- below the number of its parts.
pub evaluate-accepted : (text : List ℕ) (r : List ℤ) (p : ℕ)
    → ((x : Evaluated) × (evaluated text r p ≡ Ok x))
    ↔ ((length text ≤ text_bytes) × (length r ≤ table_readings) × ((e : Expression) × (read_text text ≡ tree e) × (p < parts_e e)))
evaluate-accepted = Evaluating.evaluate-accepted

-- Its refusals come in this order, each exactly where none before it does: 1, the text is too long; 2, the recording is; 5 to 12, the reader's
-- numbers with their places; and last 14, there is no such place.
pub evaluate-one : (text : List ℕ) (r : List ℤ) (p : ℕ) → (evaluated text r p ≡ Err (declined TextTooLong 0)) ↔ (text_bytes < length text)
evaluate-one = EvaluateLaws.evaluate-one

pub evaluate-two : (text : List ℕ) (r : List ℤ) (p : ℕ)
    → (evaluated text r p ≡ Err (declined RecordingTooLong 0)) ↔ ((length text ≤ text_bytes) × (table_readings < length r))
evaluate-two = EvaluateLaws.evaluate-two

pub evaluate-read : (text : List ℕ) (r : List ℤ) (p : ℕ) (e : Refusal) (at : ℕ) → 5 ≤ refusal_number e → refusal_number e ≤ 12
    → (evaluated text r p ≡ Err (declined e at))
    ↔ ((length text ≤ text_bytes) × (length r ≤ table_readings) × (read_text text ≡ refused_at (refusal_number e) at))
evaluate-read = EvaluateLaws.evaluate-read

pub evaluate-fourteen : (text : List ℕ) (r : List ℤ) (p : ℕ)
    → (evaluated text r p ≡ Err (declined NoSuchEntry 0))
    ↔ ((length text ≤ text_bytes) × (length r ≤ table_readings) × ((e : Expression) × (read_text text ≡ tree e) × (parts_e e ≤ p)))
evaluate-fourteen = Evaluating.evaluate-fourteen

-- One of the numbered refusals and no other: of an open 2 or 3; of an edit 1, 3, 4 or 13, or 5 to 12 without 11 with a place in the text or at its
-- end; of a preview 3, 4 or 14; of a print these, 15 or 16; of an evaluate 1, 2 or 14, or 5 to 12 as of an edit. The place of all others is 0.
pub open-refusals : (m : Memory) (r : List ℤ) (n at : ℕ) → open_answer m r ≡ refused n at → OpenRefusal n at
open-refusals = Acceptance.open-refusals

pub edit-refusals : (m : Memory) (places text : List ℕ) (n at : ℕ) → edit_answer m places text ≡ refused n at → EditRefusal text n at
edit-refusals = Acceptance.edit-refusals

pub preview-refusals : (m : Memory) (n a : ℕ) (e : Refusal) → previewed m n a ≡ Err e → PreviewRefusal (refusal_number e)
preview-refusals = Acceptance.preview-refusals

pub print-refusals : (m : Memory) (n : ℕ) (bytes : List ℕ) (k at : ℕ) → print_answer m n bytes ≡ refused k at → PrintRefusal k × (at ≡ 0)
print-refusals = Acceptance.print-refusals

pub evaluate-refusals : (text : List ℕ) (r : List ℤ) (p : ℕ) (e : Refusal) (at : ℕ) → evaluated text r p ≡ Err (declined e at)
    → EvaluateRefusal text (refusal_number e) at
evaluate-refusals = EvaluateLaws.evaluate-refusals

-- The number that a caller in C gets is 0 exactly if the call was accepted.
pub open-zero : (m : Memory) (r : List ℤ) (m' : Memory) (c : ℕ) → OpensForC m r m' c → (c ≡ 0) ↔ (open_answer m r ≡ opened)
open-zero = Acceptance.open-zero

pub edit-zero : (m : Memory) (places text : List ℕ) (m' : Memory) (places' : List ℕ) (c : EditAnswer) → EditsForC m places text m' places' c
    → (c.refusal ≡ 0) ↔ IsEdited (edit_answer m places text)
edit-zero = Acceptance.edit-zero

pub preview-zero : (m : Memory) (n a : ℕ) (m' : Memory) (c : PreviewAnswer) → PreviewsForC m n a m' c
    → (c.refusal ≡ 0) ↔ ((e : Refusal) → ¬ (previewed m n a ≡ Err e))
preview-zero = Acceptance.preview-zero

pub print-zero : (m : Memory) (n : ℕ) (bytes bytes' : List ℕ) (c : PrintAnswer) → PrintsForC m n bytes bytes' c
    → (c.refusal ≡ 0) ↔ ((t : List ℕ) × (print_answer m n bytes ≡ printed t))
print-zero = Acceptance.print-zero

pub evaluate-zero : (text : List ℕ) (r : List ℤ) (p : ℕ) (c : EvaluateAnswer) → EvaluatesForC text r p c
    → (c.refusal ≡ 0) ↔ ((x : Evaluated) × (evaluated text r p ≡ Ok x))
evaluate-zero = EvaluateLaws.evaluate-zero

-- A declined call changes nothing.
pub open-declined : (m : Memory) (r : List ℤ) (n at : ℕ) → open_answer m r ≡ refused n at → open_memory m r ≡ m
open-declined = Declined.open-declined

pub edit-declined : (m : Memory) (places text : List ℕ) (n at : ℕ) → edit_answer m places text ≡ refused n at
    → (edit_memory m places text ≡ m) × (edit_places m places text ≡ places)
edit-declined = Declined.edit-declined

pub preview-declined : (m : Memory) (n a : ℕ) (e : Refusal) → previewed m n a ≡ Err e → preview_memory m n a ≡ m
preview-declined = Declined.preview-declined

pub print-declined : (m : Memory) (n : ℕ) (bytes : List ℕ) (k at : ℕ) → print_answer m n bytes ≡ refused k at → print_bytes m n bytes ≡ bytes
print-declined = Printing.print-declined

-- Cells beyond the sizes keep their contents.
pub open-outside : (m : Memory) (r : List ℤ) → beyond (open_memory m r) ≡ beyond m
open-outside = Outside.open-outside

pub edit-outside : (m : Memory) (places text : List ℕ) → beyond (edit_memory m places text) ≡ beyond m
edit-outside = Outside.edit-outside

pub preview-outside : (m : Memory) (n a : ℕ) → beyond (preview_memory m n a) ≡ beyond m
preview-outside = Outside.preview-outside

-- The first lent bytes are the printed text, and all others keep their contents.
pub print-outside : (m : Memory) (n : ℕ) (bytes t : List ℕ) → print_answer m n bytes ≡ printed t
    → (take (length t) (print_bytes m n bytes) ≡ t) × (drop (length t) (print_bytes m n bytes) ≡ drop (length t) bytes)
print-outside = Printing.print-outside

-- What an open leaves is well-formed, and so is what an edit or a preview leaves of a cache that is, whatever was in it.
pub open-well : (m : Memory) (r : List ℤ) → open_answer m r ≡ opened → well_formed (open_memory m r) ≡ true
open-well = Accepting.open-well

pub edit-well : (m : Memory) (places text : List ℕ) → well_formed m ≡ true → well_formed (edit_memory m places text) ≡ true
edit-well = Accepting.edit-well

-- The readings of a lent slice are within signed 32 bits.
pub preview-well : (m : Memory) (n a : ℕ) → well_formed m ≡ true → All IsReading (recording_of m) → well_formed (preview_memory m n a) ≡ true
preview-well = Accepting.preview-well

-- The memory fits where it did before.
pub open-fits : (m : Memory) (r : List ℤ) → fits (open_memory m r) ≡ fits m
open-fits = Accepting.open-fits

pub edit-fits : (m : Memory) (places text : List ℕ) → fits (edit_memory m places text) ≡ fits m
edit-fits = Accepting.edit-fits

pub preview-fits : (m : Memory) (n a : ℕ) → fits (preview_memory m n a) ≡ fits m
preview-fits = Accepting.preview-fits

-- The count that a preview answers is the rise in entries with a kept value.
pub preview-rise : (m : Memory) (n a : ℕ) → All IsReading (recording_of m)
    → worked_out (preview_memory m n a) ≡ worked_out m + (said formulas (preview_answer m n a)).worked
preview-rise = Accepting.preview-rise

-- 2. The reader.
pub read-exactly : (text : List ℕ) (e : Expression) → (read_text text ≡ tree e) ↔ (Spells e (tokens_of text) × KeepsLimits e)
read-exactly = text-read-plainly

pub refused-exactly : (text : List ℕ) (n p : ℕ) → (read_text text ≡ refused_at n p) ↔ ((j : ℕ) × RefusedBy (tokens_of text) n j × (p ≡ place_of text j))
refused-exactly = text-refused

-- A text has a place for each of its parts.
pub parts-exactly : (e : Expression) → parts_e e ≡ length (forms_by_place e)
parts-exactly = parts-placed

-- 02, T-03: names are packed from the text where they stand. A word of a text is the text's own bytes from its place on, as many as it has.
pub word-in-place : (text : List ℕ) (p : ℕ) (w : List ℕ) → HasWord text p w → take (length w) (drop p text) ≡ w
word-in-place = Naming.word-in-place

-- Two words, of one text or of two, have equal packed numbers exactly if their bytes are equal. That of a word of at most 8 bytes fits in 64 bits.
pub packed-exactly : (text text' : List ℕ) (p p' : ℕ) (v w : List ℕ) → HasWord text p v → HasWord text' p' w → (packed v ≡ packed w) ↔ (v ≡ w)
packed-exactly = Naming.packed-exactly

pub packed-fits : (text : List ℕ) (p : ℕ) (w : List ℕ) → HasWord text p w → length w ≤ name_bytes → packed w < 2 ^ 64
packed-fits = Naming.packed-fits

-- So a name in use is that of a let or a lambda, or is `data`, exactly if it is spelled alike; and a word names a member exactly if it is.
pub same-name-exactly : (text text' : List ℕ) (p p' : ℕ) (v w : List ℕ) → HasWord text p v → HasWord text' p' w → (same_name v w ≡ true) ↔ (v ≡ w)
same-name-exactly = Naming.same-name-exactly

pub data-exactly : (text : List ℕ) (p : ℕ) (w : List ℕ) → HasWord text p w → (is_data w ≡ true) ↔ (w ≡ data_word)
data-exactly = Naming.data-exactly

pub member-exactly : (w : List ℕ) (m : Member) → (member_of w ≡ Some m) ↔ (w ≡ spelled m)
member-exactly = Naming.member-exactly

-- Where neither 3 nor 4 comes up, an edit is declined with 1 or a number from 5 to 12 exactly if the text is over 1,024 bytes or no tree of the
-- grammar spells its tokens and keeps the limits.
pub text-declined : (m : Memory) (places text : List ℕ) → fits m ≡ true → text_parts ≤ length places → well_formed m ≡ true
    → TextDeclined (edit_answer m places text) ↔ (¬ InLanguage text)
text-declined = Acceptance.text-declined

-- 02, T-05: an inner lambda hides an outer one of its name: in its body the name, which is never `data`, is its own variable, whatever is bound
-- around it. So no text is refused with 11, and no edit is, at any place.
pub lambda-hides : (x : List ℕ) (Γ : List Meaning) → is_data x ≡ false → named x (as_lambda x Γ) ≡ variable (variable_of x Γ)
lambda-hides = Written.lambda-hides

pub never-eleven : (text : List ℕ) (p : ℕ) → ¬ (read_text text ≡ refused_at 11 p)
never-eleven text p h = (text-number text 11 p h).2 refl

pub edit-never-eleven : (m : Memory) (places text : List ℕ) (at : ℕ) → ¬ (edit_answer m places text ≡ refused 11 at)
edit-never-eleven = Acceptance.edit-never-eleven

-- Each lambda of a text that is read has its own name and, as its level, the number of lambdas that are open around it, lets not replaced.
pub levels-written : (text : List ℕ) (e : Expression) → read_text text ≡ tree e → LevelledE e [] outermost
levels-written text e h = Written.levels-written e ((text-read-plainly text e).0 h).1

-- A lambda variable is its name and its level: the number that stands for both loses neither, for levels below 256, and those of an entry are 0
-- or 1.
pub variable-exactly : (x y k l : ℕ) → k < level_base → l < level_base → (with_level x k ≡ with_level y l) ↔ ((x ≡ y) × (k ≡ l))
variable-exactly = Forms.variable-exactly

pub levels-low : (m : Memory) (n v : ℕ) (b : Form) → well_formed m ≡ true → n < entry_count m → (form_at m n ≡ variable v) ⊎ (form_at m n ≡ function v b)
    → level_in v < open_lambdas
levels-low = Levels.levels-low

-- Every let of a text that is read is replaced by capture-avoiding substitution, also where an inner lambda hides an outer one.
pub lets-replaced : (text : List ℕ) (e : Expression) → read_text text ≡ tree e → AtLetsE Substituted e []
lets-replaced = text-lets

-- And so in each part of its body, with the lambdas around the part: also in one that the let's own form does not have, as a part of the value
-- of an unused let.
pub parts-replaced : (text : List ℕ) (e : Expression) → read_text text ≡ tree e → AtLetsE PartsSubstituted e []
parts-replaced = text-parts

-- The tests of forms mean what they say: the one is the other, is a dependency of it, is it or lies below it; and what is worked out has a
-- dependency: members and functions.
pub same-exactly : (f g : Form) → (same f g ≡ true) ↔ (f ≡ g)
same-exactly = Forms.same-exactly

pub dependency-exactly : (f g : Form) → (dependency f g ≡ true) ↔ IsDependency f g
dependency-exactly = Forms.dependency-exactly

pub within-exactly : (f g : Form) → (within f g ≡ true) ↔ AtOrBelow f g
within-exactly = Forms.within-exactly

pub works-exactly : (f : Form) → (works f ≡ true) ↔ ((d : Form) × IsDependency d f)
works-exactly = Forms.works-exactly

-- 02, T-02: division goes down. By zero it is reason 3. Otherwise it is the greatest whole number not above the quotient, and reason 4 where
-- that is beyond signed 32 bits.
pub division-by-zero : (xs : List ℤ) (a : ℤ) (run : ℤ → Value) → apply1 Div xs (Number a) (Number (pos 0)) run ≡ Missing division_by_zero
division-by-zero = Division.by_zero

pub division-goes-down : (xs : List ℤ) (a : ℤ) (run : ℤ → Value) (b q : ℤ) → ¬ (b ≡ pos 0) → GreatestNotAbove a b q
    → apply1 Div xs (Number a) (Number b) run ≡ ranged q
division-goes-down = Division.goes_down

-- There is just one such number, the one that is computed, and a lies from q times b up to, and without, q + 1 times b; the other way round
-- where b is negative.
pub quotient-exactly : (a b : ℤ) → ¬ (b ≡ pos 0) → (q : ℤ) → (quotient a b ≡ q) ↔ GreatestNotAbove a b q
quotient-exactly = Division.quotient-exactly

pub quotient-between : (a b : ℤ) → ¬ (b ≡ pos 0) → (q : ℤ) → (quotient a b ≡ q) ↔ (NotAbove a b q × Above a b (q +ℤ pos 1))
quotient-between = Division.quotient-between

-- 02, T-06: a negative number in skip, take and at counts from the end of the window. Skip and take clip, and clipping keeps its promise: within
-- the window, exact where the count fits, monotone. No other function of a count and a length keeps it.
pub clipping : Clips clipped
clipping = Windows.clips

pub clipping-only : (f : ℤ → ℕ → ℕ) → Clips f → (n : ℤ) (l : ℕ) → f n l ≡ clipped n l
clipping-only = Windows.clips-only

-- Monotone means that a count which does not count to before another is not clipped before it, whichever ends the two are from. So of counts from
-- one end the greater is not clipped before the other; and in a longer window no count is clipped to fewer.
pub clipping-ordered : (m n : ℤ) (l : ℕ) → lt_z m (pos 0) ≡ lt_z n (pos 0) → m ≤ℤ n → clipped m l ≤ clipped n l
clipping-ordered = Windows.clips-ordered

pub clipping-wider : (n : ℤ) (k l : ℕ) → k ≤ l → clipped n k ≤ clipped n l
clipping-wider = Windows.clips-wider

-- Skip moves the start on by what is clipped; take keeps it.
pub skip-clips : (xs : List ℤ) (s l : ℕ) (run : ℤ → Value) (n : ℤ)
    → apply1 Skip xs (Window s l) (Number n) run ≡ Window (s + clipped n l) (l - clipped n l)
skip-clips = Windows.skip-clips

pub take-clips : (xs : List ℤ) (s l : ℕ) (run : ℤ → Value) (n : ℤ) → apply1 Take xs (Window s l) (Number n) run ≡ Window s (clipped n l)
take-clips = Windows.take-clips

-- So of the window's readings take keeps the first ones and skip leaves those behind them, whichever end the count is from.
pub take-readings : (xs : List ℤ) (s l : ℕ) (n : ℤ) → readings_in xs s (clipped n l) ≡ take (clipped n l) (readings_in xs s l)
take-readings = Windows.take-readings

pub skip-readings : (xs : List ℤ) (s l : ℕ) (n : ℤ) → readings_in xs (s + clipped n l) (l - clipped n l) ≡ drop (clipped n l) (readings_in xs s l)
skip-readings = Windows.skip-readings

-- Minus k, for a k from 1 to the length: skip leaves the last k and take all but these. From the length on it is as minus the length.
pub skip-last : (xs : List ℤ) (s l : ℕ) (run : ℤ → Value) (k : ℕ) → 1 ≤ k → k ≤ l
    → apply1 Skip xs (Window s l) (Number (neg_ℤ (pos k))) run ≡ Window (s + (l - k)) k
skip-last = Windows.skip-last

pub take_last : (xs : List ℤ) (s l : ℕ) (run : ℤ → Value) (k : ℕ) → 1 ≤ k → k ≤ l
    → apply1 Take xs (Window s l) (Number (neg_ℤ (pos k))) run ≡ Window s (l - k)
take_last = Windows.take_last

pub skip-beyond : (xs : List ℤ) (s l : ℕ) (run : ℤ → Value) (k : ℕ) → l ≤ k
    → apply1 Skip xs (Window s l) (Number (neg_ℤ (pos k))) run ≡ apply1 Skip xs (Window s l) (Number (neg_ℤ (pos l))) run
skip-beyond = Windows.skip-beyond

pub take_beyond : (xs : List ℤ) (s l : ℕ) (run : ℤ → Value) (k : ℕ) → l ≤ k
    → apply1 Take xs (Window s l) (Number (neg_ℤ (pos k))) run ≡ apply1 Take xs (Window s l) (Number (neg_ℤ (pos l))) run
take_beyond = Windows.take_beyond

-- at(n) is the reading that n counts to, from either end, and reason 5 where it counts to none.
pub at-inside : (xs : List ℤ) (s l : ℕ) (run : ℤ → Value) (n : ℤ) (k : ℕ)
    → k < length (readings_in xs s l) → from_start n (length (readings_in xs s l)) ≡ pos k
    → apply1 At xs (Window s l) (Number n) run ≡ Number (get_or (readings_in xs s l) k (pos 0))
at-inside = Windows.at-inside

pub at-outside : (xs : List ℤ) (s l : ℕ) (run : ℤ → Value) (n : ℤ)
    → ((k : ℕ) → k < length (readings_in xs s l) → ¬ (from_start n (length (readings_in xs s l)) ≡ pos k))
    → apply1 At xs (Window s l) (Number n) run ≡ Missing outside_window
at-outside = Windows.at-outside

-- So minus 1 is the last reading, minus the length the first, and what is beyond that reason 5.
pub at_last : (xs : List ℤ) (s l : ℕ) (run : ℤ → Value) (k : ℕ) → 1 ≤ k → k ≤ length (readings_in xs s l)
    → apply1 At xs (Window s l) (Number (neg_ℤ (pos k))) run ≡ Number (get_or (readings_in xs s l) (length (readings_in xs s l) - k) (pos 0))
at_last = Windows.at_last

pub at-beyond : (xs : List ℤ) (s l : ℕ) (run : ℤ → Value) (k : ℕ) → length (readings_in xs s l) < k
    → apply1 At xs (Window s l) (Number (neg_ℤ (pos k))) run ≡ Missing outside_window
at-beyond = Windows.at-beyond

-- A run of a function on a reading puts the number for its variable, by name and level, in the let-free body.
pub run-puts : (xs : List ℤ) (ρ : Environment) (x : ℕ) (b : Form) (z : ℤ) → value_of (evaluate xs ρ (function x b)) ≡ Function
    → run_of (evaluate xs ρ (function x b)) z ≡ value_of (evaluate xs ρ (put_for x z b))
run-puts = Awaiting.run-puts

pub body-put : (xs : List ℤ) (x : ℕ) (z : ℤ) (ρ : Environment) (b : Form) → evaluate xs (bind x (Number z) ρ) b ≡ evaluate xs ρ (put_for x z b)
body-put = evaluate-put

-- The variables that a form awaits are joined from its dependencies as in Figure 5.
pub awaited-names : AwaitedNames
awaited-names = Awaiting.awaited-names

-- A form is not settled exactly if one of these stands for nothing.
pub settled-exactly : (ρ : Environment) (f : Form)
    → (settled ρ f ≡ false) ↔ ((y : ℕ) × (has_name y (awaited f) ≡ true) × (is_delayed (lookup ρ y) ≡ true))
settled-exactly = Awaiting.settled-exactly

-- A form that has a free lambda variable is delayed, and shows the names of the variables that it awaits, two of one spelling twice, or missing; one
-- that is delayed shows them, and there is one.
pub free-shown : (xs : List ℤ) (f : Form) (y : ℕ) → has_name y (awaited f) ≡ true
    → (shows xs f ≡ a_delay (map name_in (awaited f))) ⊎ ((r : ℕ) × (shows xs f ≡ a_reason r))
free-shown = Awaiting.free-shown

pub delay-free : (xs : List ℤ) (f : Form) (names : List ℕ) → shows xs f ≡ a_delay names
    → (names ≡ map name_in (awaited f)) × ((y : ℕ) × (has_name y (awaited f) ≡ true))
delay-free = Awaiting.delay-free

-- A field of an answer that has no value is 0: what a finished preview gives are the numbers and names of what it shows.
pub preview-plain : (m : Memory) (n a k : ℕ) (v : View) → previewed m n a ≡ Ok (Finished k v) → All IsReading (recording_of m) → v ≡ view_of (shown_of v)
preview-plain = Showing.preview-plain

-- Fetch hands out the readings of the window that the entry shows, and so those that a finished preview showed; the empty part at the start
-- for an entry that shows no window, one that is not worked out or does not exist, and for a cache that is refused.
pub fetch-shown : (m : Memory) (n : ℕ) → fits m ≡ true → well_formed m ≡ true → n < entry_count m
    → fetched m n ≡ readings_of m.readings (show_of (reading_count m) m.links m.cells n)
fetch-shown = Fetching.fetch-shown

pub fetch-previewed : (m : Memory) (n a k : ℕ) (v : View) → previewed m n a ≡ Ok (Finished k v) → All IsReading (recording_of m)
    → fetched (preview_memory m n a) n ≡ readings_of m.readings v
fetch-previewed = Fetching.fetch-previewed

pub fetch-windowless : (m : Memory) (n : ℕ) → ((s l : ℕ) → ¬ (shown_of (show_of (reading_count m) m.links m.cells n) ≡ a_window s l))
    → part_of m n ≡ record { start = 0; length = 0 }
fetch-windowless = Fetching.fetch-windowless

pub fetch-none : (m : Memory) (n : ℕ) → (fits m && (well_formed m && done_at (entries_of m) n)) ≡ false → part_of m n ≡ record { start = 0; length = 0 }
fetch-none = Fetching.fetch-none

-- 02, T-07: evaluate answers the number of parts, and of the part at the place what evaluation gives for its let-free form, as the numbers and names
-- that a finished preview gives.
pub evaluate-shows : (text : List ℕ) (r : List ℤ) (p : ℕ) (e : Expression) → length text ≤ text_bytes → length r ≤ table_readings
    → read_text text ≡ tree e → p < parts_e e → evaluated text r p ≡ Ok (record { parts = parts_e e; shown = view_of (shows r (get_or (forms_by_place e) p readings)) })
evaluate-shows = Evaluating.evaluate-shows

-- It is what a fresh cache finally shows there. Memory of any contents is opened with the recording and edited with the text, both are accepted,
-- and the number written at the place is previewed again and again, with any allowance from 1 on: in the end the preview is finished and shows it.
pub evaluate-finally : (m : Memory) (r : List ℤ) (places text : List ℕ) (p : ℕ) (x : Evaluated) (a : ℕ) → fits m ≡ true → text_parts ≤ length places
    → All IsReading r → 1 ≤ a → evaluated text r p ≡ Ok x
    → let n : ℕ = get_or (edit_places (open_memory m r) places text) p 0 in
    (open_answer m r ≡ opened) × IsEdited (edit_answer (open_memory m r) places text)
    × ((times : ℕ) × (worked : ℕ) × (previewed (previews times (edit_memory (open_memory m r) places text) n a) n a ≡ Ok (Finished worked x.shown)))
evaluate-finally = Evaluating.evaluate-finally

-- And no finished preview of that number, however often it is sent, shows anything else.
pub evaluate-only : (m : Memory) (r : List ℤ) (places text : List ℕ) (p : ℕ) (x : Evaluated) (a : ℕ) → fits m ≡ true → text_parts ≤ length places
    → All IsReading r → 1 ≤ a → evaluated text r p ≡ Ok x
    → let n : ℕ = get_or (edit_places (open_memory m r) places text) p 0 in
    (times worked : ℕ) (w : View) → previewed (previews times (edit_memory (open_memory m r) places text) n a) n a ≡ Ok (Finished worked w) → w ≡ x.shown
evaluate-only = Evaluating.evaluate-only

-- Nor does one in any session: memory of any contents is opened, and then any calls are sent. Whenever a preview of a part is finished, it shows what
-- evaluate answers for the part's text and place over the recording that the cache then holds.
pub evaluate-in-session : (m : Memory) (r : List ℤ) (cs : List (Sent engine)) → open_answer m r ≡ opened → All IsReading r
    → Sendable formulas (map (told engine) cs) → (x : Part formulas) → Given formulas engine m r cs x
    → (c : Sent engine) (v : Shown) → Finishes formulas engine (last formulas engine m r cs) c x.number v
    → (k : ℕ) × (evaluated x.text (holds (last formulas engine m r cs)).recording x.place ≡ Ok (record { parts = k; shown = view_of v }))
evaluate-in-session = Evaluating.evaluate-in-session

-- 02, T-04. Of any cache that passes 4: the text of an entry's form has, longest first, the tokens that the form's tree spells; so the reader
-- reads it as that tree, exactly if the tree keeps the limits, and never declines it with 5. The tree's let-free form is the entry's exactly if
-- each function has as its level the number of functions around it, each variable is that of the innermost function of its name, and no unbound
-- name is one of theirs.
pub print-tokens : (m : Memory) (n : ℕ) → well_formed m ≡ true → n < entry_count m → tokens_of (text_at m n) ≡ spell_e (tree_of (form_at m n)) []
print-tokens = Printing.print-tokens

pub print-limits : (m : Memory) (n : ℕ) → well_formed m ≡ true → n < entry_count m → (e : Expression)
    → (read_text (text_at m n) ≡ tree e) ↔ ((e ≡ tree_of (form_at m n)) × KeepsLimits (tree_of (form_at m n)))
print-limits = Printing.print-limits

pub print-closed : (m : Memory) (n : ℕ) → well_formed m ≡ true → n < entry_count m → (form_of (tree_of (form_at m n)) ≡ form_at m n) ↔ Closed [] (form_at m n)
print-closed = Printing.print-closed

-- So in plain words a print is accepted, and is 15 and 16.
pub print-plainly : (m : Memory) (n : ℕ) (bytes : List ℕ)
    → ((t : List ℕ) × (print_answer m n bytes ≡ printed t)) ↔ (Held m n × TextFits m n bytes × Closed [] (form_at m n))
print-plainly = Printing.print-plainly

pub fifteen-plainly : (m : Memory) (n : ℕ) (bytes : List ℕ) → (print_answer m n bytes ≡ refused 15 0) ↔ (Held m n × (¬ TextFits m n bytes))
fifteen-plainly = Printing.fifteen-plainly

pub sixteen-plainly : (m : Memory) (n : ℕ) (bytes : List ℕ)
    → (print_answer m n bytes ≡ refused 16 0) ↔ (Held m n × TextFits m n bytes × (¬ Closed [] (form_at m n)))
sixteen-plainly = Printing.sixteen-plainly

-- What is printed of an entry is read, and its let-free form is the entry's.
pub print-read : (m : Memory) (n : ℕ) (bytes t : List ℕ) → print_answer m n bytes ≡ printed t
    → (e : Expression) × (read_text t ≡ tree e) × (form_of e ≡ form_at m n)
print-read = Printing.print-read

-- So an edit of the same cache with the printed text gives the whole the entry's number, adds nothing, and changes nothing in the cache.
pub print-edited : (m : Memory) (n : ℕ) (bytes t places : List ℕ) → print_answer m n bytes ≡ printed t → text_parts ≤ length places
    → (p : ℕ) × (ns : List ℕ) × (edit_answer m places t ≡ edited n p 0 ns) × (edit_memory m places t ≡ m)
print-edited = Printing.print-edited

-- And printing what was read gives back the printed bytes, over this cache or any other that the edit accepts.
pub print-again : (m : Memory) (n : ℕ) (bytes t : List ℕ) → print_answer m n bytes ≡ printed t
    → (m' : Memory) (places bytes' : List ℕ) (w p k : ℕ) (ns : List ℕ) → edit_answer m' places t ≡ edited w p k ns → length t ≤ length bytes'
    → print_answer (edit_memory m' places t) w bytes' ≡ printed t
print-again = Printing.print-again

-- 3. Each call is lent any memory whose cells, as far as the cache's sizes go, are the cache's: longer or shorter than the last time.
pub lent_any : (m n : Memory) → FirstOf m n → lend n m ≡ n
lent_any = Lending.any_lent

-- What comes back as it was lent, as after a print, leaves the cache as it was.
pub lent_back : (n m : Memory) → fits m ≡ true → back m (lend n m) ≡ m
lent_back = Lending.restored

-- A call that is lent the very memory of the cache leaves the cache as its contract says.
pub lent-itself : (m : Memory) → lend m m ≡ m
lent-itself = Lending.itself

pub open-back : (m : Memory) (r : List ℤ) → fits m ≡ true → back m (open_memory m r) ≡ open_memory m r
open-back = Lending.open-back

pub edit-back : (m : Memory) (places text : List ℕ) → fits m ≡ true → back m (edit_memory m places text) ≡ edit_memory m places text
edit-back = Lending.edit-back

pub preview-back : (m : Memory) (n a : ℕ) → fits m ≡ true → back m (preview_memory m n a) ≡ preview_memory m n a
preview-back = Lending.preview-back

-- The model is told whether the memory that a call is lent has the cache's size.
pub told-enough : (m : Memory) (c : Sent engine) → fits m ≡ true → (told engine c).enough ≡ fits (lend c.lent m)
told-enough m c f = sym (Lending.lent_fits c.lent m f)

-- Memory of any contents is opened, and then any calls are sent. The readings of a recording are within signed 32 bits.
pub demand-three : (m : Memory) (r : List ℤ) (cs : List (Sent engine)) → open_answer m r ≡ opened → All IsReading r
    → Sendable formulas (map (told engine) cs) → Demand formulas engine m r cs
demand-three = demand formulas formula-laws engine implements

-- The same of the exported functions: a program in C opens memory m of any contents, gets 0, and then makes any run of calls, whose steps are
-- the functions' contracts. What the calls give is, call by call, what the model answers, as the C structs; and the cache holds what the model
-- holds. That all readings are within signed 32 bits is the range of the C type of a recording.
pub demand-three-for-c : (m : Memory) (r : List ℤ) (m₁ : Memory) → OpensForC m r m₁ 0 → All IsReading r
    → (cs : List (Sent engine)) (xs : List ForC) (n : Memory) → Sendable formulas (map (told engine) cs) → Run m₁ cs xs n → DemandForC m r cs xs n
demand-three-for-c = Boundary.run-demand
