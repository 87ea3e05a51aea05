-- 01's number and values of each answer of the calls, and of what is shown. Assumes nothing: these are definitions.
use Rattle.std.specs.Prelude.{◌≡◌, cond, List, [], ◌∷◌, ℕ, eqb, ℤ, pos, negsuc, length, take, Result, Ok, Err}
use Rattle.meaning.specs.Evaluation.{Shown, a_number, a_window, a_function, a_delay, a_reason}
use Rattle.model.specs.Model.{Answer, refused, opened, edited, not_yet, finished, printed}
use Rattle.formulas.specs.Formulas.{formulas}
use Rattle.schedule.specs.declared.View.{View}
use Rattle.language.specs.declared.refusals.Refusal.{Refusal}
use Rattle.language.specs.declared.refusals.Refusal.TheVariants as R
use Rattle.language.specs.Refusals.{refusal_number, text_refusal}
use Rattle.language.specs.declared.refusals.Refused.{Refused}
use Rattle.interface.specs.declared.answers.Edited.{Edited}
use Rattle.interface.specs.declared.answers.Previewed.{Previewed}
use Rattle.interface.specs.declared.answers.Previewed.TheVariants as P
use Rattle.interface.specs.declared.answers.Evaluated.{Evaluated}
use Rattle.interface.specs.declared.answers.EditAnswer.{EditAnswer}
use Rattle.interface.specs.declared.answers.PreviewAnswer.{PreviewAnswer}
use Rattle.interface.specs.declared.answers.PrintAnswer.{PrintAnswer}
use Rattle.interface.specs.declared.answers.EvaluateAnswer.{EvaluateAnswer}

-- the answers of the reference model
abbrev pub Reply : Type 0
Reply = Answer formulas

-- a text that is declined, with the place of the byte where that was found
abbrev pub declined : Refusal → (place : ℕ) → Refused
declined e at = record { refusal = e; place = at }

-- an open is done, or refused
abbrev pub Opened : Type 0
Opened = Result (Unit {0}) Refusal

abbrev pub open_reply : Opened → Reply
open_reply (Ok done) = opened
open_reply (Err e) = refused (refusal_number e) 0

-- an accepted edit has written each part's number to the lent places
abbrev pub edit_reply : Result Edited Refused → (places : List ℕ) → Reply
edit_reply (Ok x) places = edited x.whole x.parts x.added (take x.parts places)
edit_reply (Err e) places = refused (refusal_number e.refusal) e.place

-- the names of a delay, up to the first that is 0
abbrev pub names_of : ℕ → ℕ → List ℕ
names_of name other = cond (eqb name 0) [] (cond (eqb other 0) (name ∷ []) (name ∷ other ∷ []))

-- a start or a reason; a negative number is none of them, and stands for one that is never shown
abbrev pub natural : ℤ → ℕ
natural (pos n) = n
natural (negsuc n) = 4294967296

-- what is shown: 1 a number, 2 a window, 3 a function, 4 a delay, 5 a reason; any other kind is that of no value: there is no reason 0
unfoldable pub shown_of : View → Shown
shown_of v =
    cond (eqb v.kind 1) (a_number v.first)
    (cond (eqb v.kind 2) (a_window (natural v.first) v.second)
    (cond (eqb v.kind 3) (a_function v.name)
    (cond (eqb v.kind 4) (a_delay (names_of v.name v.other))
    (cond (eqb v.kind 5) (a_reason (natural v.first))
    (a_reason 0)))))

-- a preview says 'not yet' or what the entry shows, each with how many entries it worked out
abbrev pub preview_reply : Result Previewed Refusal → Reply
preview_reply (Ok (P.NotYet k)) = not_yet k
preview_reply (Ok (P.Finished k v)) = finished k (shown_of v)
preview_reply (Err e) = refused (refusal_number e) 0

-- a print answers the length of its text
abbrev pub PrintReply : Result ℕ Refusal → Reply → Type 0
PrintReply (Ok n) x = (text : List ℕ) × (x ≡ printed text) × (n ≡ length text)
PrintReply (Err e) x = x ≡ refused (refusal_number e) 0

-- the refusal that has this number, one from 5 to 12 as a text's; a number that no refusal has is read as 12
unfoldable pub refusal_of_number : ℕ → Refusal
refusal_of_number n =
    cond (eqb n 1) R.TextTooLong
    (cond (eqb n 2) R.RecordingTooLong
    (cond (eqb n 3) R.MemoryTooSmall
    (cond (eqb n 4) R.CacheIllFormed
    (cond (eqb n 13) R.TableFull
    (cond (eqb n 14) R.NoSuchEntry
    (cond (eqb n 15) R.TextUnfit
    (cond (eqb n 16) R.OtherForm
    (text_refusal n))))))))

-- the same as a function of what is replied: the answers of other calls are none of a print's, and there is no refusal 0
abbrev pub printed_as : Reply → Result ℕ Refusal
printed_as (printed text) = Ok (length text)
printed_as (refused n at) = Err (refusal_of_number n)
printed_as opened = Err (refusal_of_number 0)
printed_as (edited whole parts added numbers) = Err (refusal_of_number 0)
printed_as (not_yet k) = Err (refusal_of_number 0)
printed_as (finished k v) = Err (refusal_of_number 0)

-- the answers as plain numbers, for callers in C: a refusal's number, 0 for an accepted call, and then its values
abbrev pub open_number : Opened → ℕ
open_number (Ok done) = 0
open_number (Err e) = refusal_number e

abbrev pub edit_numbers : Result Edited Refused → EditAnswer
edit_numbers (Ok x) = record { refusal = 0; place = 0; whole = x.whole; parts = x.parts; added = x.added }
edit_numbers (Err e) = record { refusal = refusal_number e.refusal; place = e.place; whole = 0; parts = 0; added = 0 }

abbrev pub preview_numbers : Result Previewed Refusal → PreviewAnswer
preview_numbers (Ok (P.NotYet k)) =
    record { refusal = 0; finished = 0; worked = k; kind = 0; first = pos 0; second = 0; name = 0; other = 0 }
preview_numbers (Ok (P.Finished k v)) =
    record { refusal = 0; finished = 1; worked = k; kind = v.kind; first = v.first; second = v.second; name = v.name; other = v.other }
preview_numbers (Err e) =
    record { refusal = refusal_number e; finished = 0; worked = 0; kind = 0; first = pos 0; second = 0; name = 0; other = 0 }

abbrev pub print_numbers : Result ℕ Refusal → PrintAnswer
print_numbers (Ok n) = record { refusal = 0; length = n }
print_numbers (Err e) = record { refusal = refusal_number e; length = 0 }

abbrev pub evaluate_numbers : Result Evaluated Refused → EvaluateAnswer
evaluate_numbers (Ok x) =
    record {
      refusal = 0;
      place = 0;
      parts = x.parts;
      kind = x.shown.kind;
      first = x.shown.first;
      second = x.shown.second;
      name = x.shown.name;
      other = x.shown.other;
    }
evaluate_numbers (Err e) =
    record { refusal = refusal_number e.refusal; place = e.place; parts = 0; kind = 0; first = pos 0; second = 0; name = 0; other = 0 }
