-- Every run of a program in C gives what the reference model answers and leaves what it holds: a contract fixes what the call gives and leaves,
-- and that is what the engine's definitions say, which implement the model. Assumes nothing.
use Rattle.std.specs.Prelude.{◌≡◌, refl, true, List, map, ℕ, ℤ, take}
use Rattle.std.proofs.lemmas.Bool.{false≢true}
use Rattle.std.proofs.Common.{sym, ap, ◌∙◌, subst}
use Rattle.language.specs.Cases.{split}
use Rattle.model.specs.Lists.{All}
use Rattle.model.specs.Model.{State, Request, Open, Edit, Preview, Print, finished, written, filled}
use Rattle.model.specs.Since.{Sendable}
use Rattle.model.specs.Runs.{answers, after}
use Rattle.model.specs.Engine.{Sent, told, machine}
use Rattle.model.specs.Agreement.{accepted, Cache, opens as opens-cache, agree}
use Rattle.model.specs.DemandLaws.{demand}
use Rattle.formulas.specs.Formulas.{IsReading, formulas}
use Rattle.bridge.specs.FormulaLaws.{formula-laws}
use Rattle.layout.specs.Memory.{Memory, fits, recording_of}
use Rattle.std.specs.Prelude.{Result, Ok, Err}
use Rattle.language.specs.declared.refusals.Refusal.{Refusal}
use Rattle.language.specs.declared.refusals.Refused.{Refused}
use Rattle.language.specs.Refusals.{refusal_number}
use Rattle.interface.specs.declared.answers.Edited.{Edited}
use Rattle.interface.specs.declared.answers.Previewed.{Previewed}
use Rattle.interface.specs.declared.answers.Previewed.TheVariants as P
use Rattle.interface.specs.Answers.{Reply, Opened, shown_of, open_reply, edit_reply, preview_reply, PrintReply, open_number, edit_numbers, preview_numbers, print_numbers}
use Rattle.interface.specs.Calls.{previewed, print_answer}
use Rattle.interface.specs.Effects.{OpensForC}
use Rattle.interface.proofs.AcceptanceLaws.{open-zero}
use Rattle.promises.specs.Lending.{lend, back}
use Rattle.promises.proofs.LendingLaws.{lent_fits}
use Rattle.promises.proofs.Implementing.{implements}
use Rattle.promises.specs.Engine.{says, leaves, engine}
use Rattle.promises.proofs.Showing.{preview-plain}
use Rattle.promises.specs.Boundary.{ForC, from_open, from_edit, from_preview, from_print, Step, opens, edits, previews, prints, Run, none, next}
use Rattle.promises.specs.Boundary.{AsC, open_done, open_refused, edit_done, edit_refused, preview_left, preview_done, preview_refused, print_done, print_refused, AllAsC, DemandForC}

-- the numbers of an answer are those of the model's
open-numbers : (r : List ℤ) (x : Opened) → AsC (Open r) (open_reply x) (from_open (open_number x))
open-numbers r (Ok done) = open_done r
open-numbers r (Err e) = open_refused r (refusal_number e) 0

edit-numbers : (ps t : List ℕ) (x : Result Edited Refused) (places : List ℕ)
    → AsC (Edit ps t) (edit_reply x places) (from_edit (edit_numbers x) (written formulas (edit_reply x places) ps))
unfolding written
edit-numbers ps t (Ok x) places = edit_done ps t x (take x.parts places)
edit-numbers ps t (Err e) places = edit_refused ps t e

-- a finished preview is of memory of the cache's size
module _ (m : Memory) (n a : ℕ) (sound : fits m ≡ true → All IsReading (recording_of m)) where
  preview-numbers : (x : Result Previewed Refusal) → previewed m n a ≡ x → AsC (Preview n a) (preview_reply x) (from_preview (preview_numbers x))
  preview-numbers (Ok (P.NotYet k)) e = preview_left n a k
  preview-numbers (Ok (P.Finished k v)) e =
      split (fits m)
      (λ f.
      let p = preview-plain m n a k v e (sound f) in
      subst (λ u. AsC (Preview n a) (finished k (shown_of v)) (from_preview (preview_numbers (Ok (P.Finished k u))))) (sym p) (preview_done n a k (shown_of v)))
      (λ f. absurd (false≢true (unfold previewed in let z = rw f at e in cc)))
  preview-numbers (Err f) e = preview_refused n a f

moved : (q : Request formulas) {y z : Reply} {u x : ForC} → y ≡ z → u ≡ x → AsC q y u → AsC q z x
moved q e f h = rw (← e, ← f) h

-- a print is declined, or gives its text
print-numbers : (n : ℕ) (bs : List ℕ) (x : Result ℕ Refusal) (y : Reply) → PrintReply x y
    → AsC (Print n bs) y (from_print (print_numbers x) (filled formulas y bs))
unfolding filled
print-numbers n bs (Ok l) y h = rw (h.1, h.2) (print_done n bs h.0)
print-numbers n bs (Err e) y h = rw h (print_refused n bs e)

-- one call
step_given : (m : Memory) (q : Request formulas) (m' : Memory) (x : ForC) → (fits m ≡ true → All IsReading (recording_of m)) → Step m q m' x
    → AsC q (says m q) x × (m' ≡ leaves m q)
step_given _ _ _ _ sound (opens m r m' x s) =
    (moved (Open r) s.opens.answer (ap from_open (sym s.numbers)) (open-numbers r s.answer), s.opens.memory)
step_given _ _ _ _ sound (edits m places text m' places' x s) =
    let p = ap (λ (y : Reply). written formulas y places) s.edits.answer ∙ sym s.edits.placed in
    let e : ◌≡◌ {A = ForC} (from_edit (edit_numbers s.answer) (written formulas (edit_reply s.answer places') places)) (from_edit x places') = λ t. from_edit (sym s.numbers t) (p t) in
    (moved (Edit places text) s.edits.answer e (edit-numbers places text s.answer places'), s.edits.memory)
step_given _ _ _ _ sound (previews m n a m' x s) =
    let e = s.previews.answer in
    (moved (Preview n a) (ap preview_reply e) (ap from_preview (sym s.numbers)) (preview-numbers m n a sound s.answer (sym e)), s.previews.memory)
step_given _ _ _ _ sound (prints m n bs bs' x s) =
    let e : ◌≡◌ {A = ForC} (from_print (print_numbers s.answer) (filled formulas (print_answer m n bs) bs)) (from_print x bs') =
    λ t. from_print (sym s.numbers t) (sym s.prints.filled t) in
    (moved (Print n bs) refl e (print-numbers n bs s.answer (print_answer m n bs) s.prints.answer), refl)

abbrev IsCache : Memory → Type 0
IsCache = Cache formulas formula-laws engine implements

-- the readings that a call finds in what is lent of a cache
lent-sound : (n m : Memory) → IsCache m → fits (lend n m) ≡ true → All IsReading (recording_of (lend n m))
lent-sound n m k f =
    let o = k.ok in
    let e = (implements.lent n m (sym (lent_fits n m (implements.kept-fits m o)) ∙ f) o k.invariant).holds in
    subst (All IsReading) (sym (ap (λ (s : State formulas). s.recording) e)) k.invariant.sound

-- a run
run-given : (m : Memory) (cs : List (Sent engine)) (xs : List ForC) (n : Memory) → Sendable formulas (map (told engine) cs) → IsCache m → Run m cs xs n
    → AllAsC cs (answers (machine engine) m cs) xs × (n ≡ after (machine engine) m cs)
unfolding answers after
run-given _ _ _ _ sent k (none m) = (AllAsC.none, refl)
run-given _ _ _ _ sent k (next m c m' x cs xs n s more) =
    let one = step_given (lend c.lent m) c.request m' x (lent-sound c.lent m k) s in
    let e = one.1 in
    let a = agree formulas formula-laws engine implements m c sent.0 k in
    let rest = run-given (back m m') cs xs n sent.1 (rw e a.cache) more in
    let w = rw e at rest.0 in
    (AllAsC.next c _ x cs _ xs one.0 w, rw e at rest.1)

pub run-demand : (m : Memory) (r : List ℤ) (m₁ : Memory) → OpensForC m r m₁ 0 → All IsReading r
    → (cs : List (Sent engine)) (xs : List ForC) (n : Memory) → Sendable formulas (map (told engine) cs) → Run m₁ cs xs n → DemandForC m r cs xs n
run-demand m r m₁ s sound cs xs n sent run =
    let acc = (open-zero m r m₁ 0 s).0 refl in
    let e = s.opens.memory in
    let ready = accepted formulas formula-laws engine implements m r acc in
    let k = (opens-cache formulas formula-laws engine implements m r ready.0 ready.1 sound).0 in
    let d = demand formulas formula-laws engine implements m r cs acc sound sent in
    let given = run-given m₁ cs xs n sent (rw e k) run in
    let w = rw e at given.0 in
    let l = rw e at given.1 in
    record { answered = rw d.answered at w; held = rw l d.held; left = l; demand = d }
