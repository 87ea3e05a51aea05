-- The calls of a program in C: what each gives it, as the C structs, and the runs that it can make. A step of a run is the contract of the
-- exported function (interface's Effects) and nothing else. Assumes nothing: these are definitions.
use Rattle.std.specs.Prelude.{◌≡◌, List, [], ◌∷◌, map, ℕ, ℤ, length}
use Rattle.model.specs.Model.{Request, Open, Edit, Preview, Print, start, refused, opened, edited, not_yet, finished, printed, written, filled}
use Rattle.model.specs.Runs.{model, answers, after}
use Rattle.model.specs.Engine.{Sent, told}
use Rattle.model.specs.Demand.{last, Demand}
use Rattle.formulas.specs.Formulas.{formulas}
use Rattle.meaning.specs.Evaluation.{Shown}
use Rattle.layout.specs.Memory.{Memory}
use Rattle.interface.specs.Views.{view_of}
use Rattle.std.specs.Prelude.{Ok, Err}
use Rattle.language.specs.declared.refusals.Refusal.{Refusal}
use Rattle.language.specs.declared.refusals.Refused.{Refused}
use Rattle.language.specs.Refusals.{refusal_number}
use Rattle.interface.specs.declared.answers.Edited.{Edited}
use Rattle.interface.specs.declared.answers.Previewed.TheVariants as Preview
use Rattle.interface.specs.declared.answers.EditAnswer.{EditAnswer}
use Rattle.interface.specs.declared.answers.PreviewAnswer.{PreviewAnswer}
use Rattle.interface.specs.declared.answers.PrintAnswer.{PrintAnswer}
use Rattle.interface.specs.Answers.{Reply, edit_numbers, preview_numbers, print_numbers}
use Rattle.interface.specs.Effects.{OpensForC, EditsForC, PreviewsForC, PrintsForC}
use Rattle.demand.specs.Holds.{holds}
use Rattle.promises.specs.Lending.{lend, back}
use Rattle.promises.specs.Engine.{engine}

-- What a call gives: an open its number, an edit its answer and the lent places afterwards, a preview its answer, a print its answer and the lent
-- bytes afterwards.
pub data ForC : Type 0 where
  from_open : (number : ℕ) → ForC
  from_edit : (answer : EditAnswer) (places : List ℕ) → ForC
  from_preview : (answer : PreviewAnswer) → ForC
  from_print : (answer : PrintAnswer) (bytes : List ℕ) → ForC

-- One call over lent memory m: its arguments, the memory m' afterwards, and what it gives. A print only reads the memory.
pub data Step : Memory → Request formulas → Memory → ForC → Type 0 where
  opens : (m : Memory) (recording : List ℤ) (m' : Memory) (number : ℕ) → OpensForC m recording m' number
      → Step m (Open recording) m' (from_open number)
  edits : (m : Memory) (places text : List ℕ) (m' : Memory) (places' : List ℕ) (answer : EditAnswer) → EditsForC m places text m' places' answer
      → Step m (Edit places text) m' (from_edit answer places')
  previews : (m : Memory) (entry allowance : ℕ) (m' : Memory) (answer : PreviewAnswer) → PreviewsForC m entry allowance m' answer
      → Step m (Preview entry allowance) m' (from_preview answer)
  prints : (m : Memory) (entry : ℕ) (bytes bytes' : List ℕ) (answer : PrintAnswer) → PrintsForC m entry bytes bytes' answer
      → Step m (Print entry bytes) m (from_print answer bytes')

-- A run from the cache m: calls, each with what it is lent, what each gives, and the cache n afterwards. Each call is lent the cache as the
-- last one left it, or too little of it.
pub data Run : Memory → List (Sent engine) → List ForC → Memory → Type 0 where
  none : (m : Memory) → Run m [] [] m
  next : (m : Memory) (c : Sent engine) (m' : Memory) (x : ForC) (cs : List (Sent engine)) (xs : List ForC) (n : Memory)
      → Step (lend c.lent m) c.request m' x → Run (back m m') cs xs n → Run m (c ∷ cs) (x ∷ xs) n

-- The model's answer to a call as C is given it: a refusal's number and place, or 0 and the values, and an edit's places or a print's bytes
-- afterwards.
pub data AsC : Request formulas → Reply → ForC → Type 0 where
  open_done : (r : List ℤ) → AsC (Open r) opened (from_open 0)
  open_refused : (r : List ℤ) (n at : ℕ) → AsC (Open r) (refused n at) (from_open n)
  edit_done : (ps t : List ℕ) (x : Edited) (ns : List ℕ)
      → AsC (Edit ps t) (edited x.whole x.parts x.added ns) (from_edit (edit_numbers (Ok x)) (written formulas (edited x.whole x.parts x.added ns) ps))
  edit_refused : (ps t : List ℕ) (e : Refused) → AsC (Edit ps t) (refused (refusal_number e.refusal) e.place) (from_edit (edit_numbers (Err e)) ps)
  preview_left : (n a k : ℕ) → AsC (Preview n a) (not_yet k) (from_preview (preview_numbers (Ok (Preview.NotYet k))))
  preview_done : (n a k : ℕ) (v : Shown) → AsC (Preview n a) (finished k v) (from_preview (preview_numbers (Ok (Preview.Finished k (view_of v)))))
  preview_refused : (n a : ℕ) (e : Refusal) → AsC (Preview n a) (refused (refusal_number e) 0) (from_preview (preview_numbers (Err e)))
  print_done : (n : ℕ) (bs t : List ℕ) → AsC (Print n bs) (printed t) (from_print (print_numbers (Ok (length t))) (filled formulas (printed t) bs))
  print_refused : (n : ℕ) (bs : List ℕ) (e : Refusal) → AsC (Print n bs) (refused (refusal_number e) 0) (from_print (print_numbers (Err e)) bs)

-- of a list of calls
pub data AllAsC : List (Sent engine) → List Reply → List ForC → Type 0 where
  none : AllAsC [] [] []
  next : (c : Sent engine) (y : Reply) (x : ForC) (cs : List (Sent engine)) (ys : List Reply) (xs : List ForC)
      → AsC c.request y x → AllAsC cs ys xs → AllAsC (c ∷ cs) (y ∷ ys) (x ∷ xs)

-- Demand 3 of a run: memory m, of any contents, was opened with r, and then the calls cs gave xs and left the cache n. Each call gives what the
-- model answers, the cache holds what the model holds, and all else is as demand 3 says.
pub record DemandForC (m : Memory) (r : List ℤ) (cs : List (Sent engine)) (xs : List ForC) (n : Memory) : Type 0 where
  pub answered : AllAsC cs (answers (model formulas) (start formulas r) (map (told engine) cs)) xs
  pub held : holds n ≡ after (model formulas) (start formulas r) (map (told engine) cs)
  pub left : n ≡ last formulas engine m r cs
  pub demand : Demand formulas engine m r cs
