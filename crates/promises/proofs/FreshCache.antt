-- A fresh cache: memory of any contents is opened, a text is its first edit, and the entry at one of the text's places is previewed again and again.
-- In the end it shows what the form of the part at that place shows, and no finished preview before or after shows anything else. Assumes nothing.
use Rattle.std.specs.Prelude.{◌≡◌, refl, true, ℤ, length, drop}
use Rattle.std.proofs.lemmas.Bool.{false≢true}
use Rattle.std.proofs.Common.{sym, ◌∙◌}
use Rattle.std.proofs.Math.Path.{ap, subst}
use mathlib.Core.List.{List, [], map}
use Rattle.std.proofs.Math.Option.{some}
use Prim.Native.Nat.{ℕ, zero, suc, ◌-◌, ◌≤◌, ◌<◌, min}
use native.Mathlib.Omega.{arith}
use Rattle.std.proofs.Math.ListN.{get_or, get_elem?, length-map, get_or-append}
use Rattle.language.specs.Limits.{text_bytes, text_parts, table_readings}
use Rattle.grammar.specs.Grammar.{Expression}
use Rattle.grammar.specs.Reading.{tree}
use Rattle.grammar.specs.Machine.{read_text}
use Rattle.model.specs.Lists.{All}
use Rattle.model.specs.ListLaws.{nth-has, nth-map, getD-nth, member-tail, member-nth, nth-index, insert_all-has}
use Rattle.model.specs.Language.{parts}
use Rattle.model.specs.Model.{Entry, State, forms, start, finished, hold_all, number_of, left, written, Outcome, edited_to, on_request, respond}
use Rattle.model.specs.Responses.{answer, next}
use Rattle.model.specs.Implements.{Agrees}
use Rattle.model.specs.Invariant.{Invariant}
use Rattle.model.specs.Entries.{forms-hold_all, length-hold_all, forms-work_out, left-work_out}
use Rattle.model.specs.Steps.{accepts-edit, accepts-preview}
use Rattle.model.specs.Preserved.{invariant-next}
use Rattle.model.specs.Progress.{previewing, finishes, finished-is}
use Rattle.model.specs.Fresh.{editing}
use Rattle.model.specs.Agreement.{Cache, opens as opens-cache}
use Rattle.formulas.specs.Formulas.{IsReading, formulas, parsed}
use Rattle.bridge.specs.FormulaLaws.{formula-laws}
use Rattle.meaning.specs.Forms.{Form, readings}
use Rattle.meaning.specs.Binding.{form_of, forms_by_place, forms_in_order}
use Rattle.meaning.specs.Evaluation.{shows}
use Rattle.layout.specs.Memory.{Memory, fits}
use Rattle.schedule.specs.declared.View.{View}
use Rattle.interface.specs.Views.{view_of}
use Rattle.std.specs.Prelude.{Result, Ok, Err}
use Rattle.language.specs.declared.refusals.Refusal.{Refusal}
use Rattle.interface.specs.declared.answers.Previewed.{Previewed}
use Rattle.interface.specs.declared.answers.Previewed.TheVariants.{NotYet, Finished}
use Rattle.interface.specs.Answers.{Reply, shown_of, preview_reply}
use Rattle.interface.specs.Calls.{open_memory, edit_answer, edit_memory, edit_places, previewed, preview_answer, preview_memory}
use Rattle.interface.specs.Acceptance.{IsEdited}
use Rattle.interface.proofs.Outcomes.{is-edited}
use Rattle.demand.specs.Holds.{holds}
use Rattle.promises.proofs.Implementing.{implements}
use Rattle.promises.specs.Engine.{engine}
use Rattle.promises.proofs.Showing.{preview-plain}
use Rattle.promises.specs.Terms.{previews}

abbrev IsCache : Memory → Type 0
IsCache = Cache formulas formula-laws engine implements

-- ---- an entry that is previewed again and again

-- a cache over the recording r whose entry n is the form f, with at most k entries left at or below it
record Holding (r : List ℤ) (f : Form) (n k : ℕ) (m : Memory) : Type 0 where
  cache : IsCache m
  recorded : (holds m).recording ≡ r
  stands : get_elem? (forms formulas (holds m).entries) n ≡ some f
  rest : left formulas f (holds m).entries ≤ k

-- the previews of entry n in the cache m, repeated with any allowance: one of them shows v, and none shows anything else
pub record Shows (m : Memory) (n : ℕ) (v : View) : Type 0 where
  pub ends : (a : ℕ) → 1 ≤ a → (times : ℕ) × (worked : ℕ) × (previewed (previews times m n a) n a ≡ Ok (Finished worked v))
  pub only : (a : ℕ) → 1 ≤ a → (times worked : ℕ) (w : View) → previewed (previews times m n a) n a ≡ Ok (Finished worked w) → w ≡ v

module _ (r : List ℤ) (f : Form) (n a : ℕ) where
  says : (m : Memory) → IsCache m → preview_answer m n a ≡ answer formulas (holds m) (previewing formulas n a)
  says m c = unfold on_request in (implements.preview m n a c.ok c.invariant).answer

  -- one more is worked out, at least, while any is left
  turn : 1 ≤ a → (k : ℕ) (m : Memory) → Holding r f n k m → Holding r f n (k - 1) (preview_memory m n a)
  turn h k m c =
      let o = implements.preview m n a c.cache.ok c.cache.invariant in
      let e : holds (preview_memory m n a) ≡ next formulas (holds m) (previewing formulas n a) = unfold on_request in o.holds in
      let i = invariant-next formulas formula-laws (holds m) (previewing formulas n a) tt c.cache.invariant in
      let z = e ∙ ap (λ (o : Outcome formulas). o.state) (accepts-preview formulas (holds m) n a f c.stands) in
      let w = forms-work_out formulas (holds m).recording a f (holds m).entries in
      let l = left-work_out formulas (holds m).recording a f (holds m).entries in
      let u = c.rest in
      record {
        cache = record { ok = o.ok; invariant = subst (Invariant formulas formula-laws) (sym e) i };
        recorded = ap (λ (s : State formulas). s.recording) z ∙ c.recorded;
        stands = ap (λ (s : State formulas). get_elem? (forms formulas s.entries) n) z ∙ rw w c.stands;
        rest = subst (λ (s : State formulas). left formulas f s.entries ≤ k - 1) (sym z) (omega arith);
      }

  turns : 1 ≤ a → (times k : ℕ) (m : Memory) → Holding r f n k m → Holding r f n (k - times) (previews times m n a)
  unfolding previews
  turns h zero k m c = let e : k - 0 ≡ k = omega arith in rw e c
  turns h (suc times) k m c = let e : k - suc times ≡ k - 1 - times = omega arith in rw e (turns h times (k - 1) (preview_memory m n a) (turn h k m c))

  -- what is shown if it is finished, and that it is if nothing is left
  shown : (k : ℕ) (m : Memory) → Holding r f n k m → (worked : ℕ) (w : View) → previewed m n a ≡ Ok (Finished worked w) → w ≡ view_of (shows r f)
  shown k m c worked w e =
      let x = sym (says m c.cache) ∙ ap preview_reply e in
      let y = (finished-is formulas formula-laws (holds m) (previewing formulas n a) n a f worked (shown_of w) refl c.stands x).shown in
      preview-plain m n a worked w e c.cache.invariant.sound ∙ ap view_of (y ∙ ap (λ (s : List ℤ). shows s f) c.recorded)

  at-end : (m : Memory) → Holding r f n 0 m → (worked : ℕ) × (previewed m n a ≡ Ok (Finished worked (view_of (shows r f))))
  at-end m c = by (previewed m n a) refl
    where
      end : preview_answer m n a ≡ finished (min a (left formulas f (holds m).entries)) (shows (holds m).recording f)
      end = says m c.cache ∙ finishes formulas n a f (holds m) c.stands (let z = c.rest in omega arith)

      by : (x : Result Previewed Refusal) → previewed m n a ≡ x → (worked : ℕ) × (previewed m n a ≡ Ok (Finished worked (view_of (shows r f))))
      by (Ok (NotYet k)) e = let z = rw e at end in absurd (false≢true (cc))
      by (Err k) e = let z = rw e at end in absurd (false≢true (cc))
      by (Ok (Finished k w)) e = (k, e ∙ ap (λ v. Ok (Finished k v)) (shown 0 m c k w e))

repeated : (r : List ℤ) (f : Form) (n k : ℕ) (m : Memory) → Holding r f n k m → Shows m n (view_of (shows r f))
repeated r f n k m c =
    let e : k - k ≡ 0 = omega arith in
    record {
      ends = λ a h. let x = at-end r f n a (previews k m n a) (rw e at (turns r f n a h k k m c)) in (k, x.0, x.1);
      only = λ a h times worked w q. shown r f n a (k - times) (previews times m n a) (turns r f n a h times k m c) worked w q;
    }

-- ---- the first edit after an opening

module _ (m : Memory) (r : List ℤ) (places text : List ℕ) (p : ℕ) (e : Expression) (whole : fits m ≡ true) (few : length r ≤ table_readings)
    (sound : All IsReading r) (room : text_parts ≤ length places) (short : length text ≤ text_bytes) (read : read_text text ≡ tree e)
    (inside : p < length (forms_by_place e)) where
  abbrev before : Memory
  before = open_memory m r

  abbrev after : Memory
  after = edit_memory before places text

  -- the form of the part at the place, and the entries that the text's forms make
  abbrev part : Form
  part = get_or (forms_by_place e) p readings

  abbrev entries : List (Entry formulas)
  entries = hold_all formulas (forms_in_order e) []

  is_read : parsed (read_text text) ≡ parts (forms_in_order e) (forms_by_place e) (form_of e)
  unfolding parsed
  is_read = ap parsed read

  at_place : get_elem? (forms_by_place e) p ≡ some part
  at_place = let x = nth-has (forms_by_place e) p inside in x.1 ∙ ap some (sym (getD-nth (forms_by_place e) p x.0 readings x.1))

  opens : IsCache before × (holds before ≡ start formulas r)
  opens = opens-cache formulas formula-laws engine implements m r whole few sound

  -- what the model makes of the edit: there is room for every readable text
  abbrev bound : Outcome formulas
  bound = edited_to formulas (start formulas r) entries (forms_by_place e) (form_of e)

  binds : respond formulas (holds before) (editing formulas formula-laws places text) ≡ bound
  binds =
      let b = (formula-laws.readable text (forms_in_order e) (forms_by_place e) (form_of e) short is_read).few in
      let l = length-hold_all formulas (forms_in_order e) [] in
      ap (λ (s : State formulas). respond formulas s (editing formulas formula-laws places text)) opens.1
      ∙ accepts-edit formulas (start formulas r) places text (forms_in_order e) (forms_by_place e) (form_of e) short room is_read (omega arith)

  edits : Agrees engine implements.Ok bound (edit_answer before places text) after
  edits =
      subst (λ (o : Outcome formulas). Agrees engine implements.Ok o (edit_answer before places text) after) binds
      (unfold on_request in implements.edit before places text opens.0.ok opens.0.invariant)

  numbered : get_or (edit_places before places text) p 0 ≡ number_of formulas entries part
  unfolding written
  numbered =
      let ns : List ℕ = map (number_of formulas entries) (forms_by_place e) in
      let l = length-map (forms_by_place e) (number_of formulas entries) in
      ap (λ (x : Reply). get_or (written formulas x places) p 0) edits.answer
      ∙ get_or-append ns (drop (length ns) places) 0 p (omega arith)
      ∙ getD-nth ns p (number_of formulas entries part) 0 (nth-map (number_of formulas entries) (forms_by_place e) p part at_place)

  stands : get_elem? (forms formulas entries) (number_of formulas entries part) ≡ some part
  stands =
      let tests = formula-laws.tests.equality in
      let t = formula-laws.readable text (forms_in_order e) (forms_by_place e) (form_of e) short is_read in
      let b = t.bound part (member-tail tests (form_of e) part (forms_by_place e) (member-nth tests (forms_by_place e) p part at_place)) in
      nth-index tests part (forms formulas entries) (rw (forms-hold_all formulas (forms_in_order e) []) (insert_all-has tests part (forms_in_order e) [] b))

  holding : Holding r part (number_of formulas entries part) (left formulas part (holds after).entries) after
  holding =
      let k = edits.holds in
      let i = invariant-next formulas formula-laws (holds before) (editing formulas formula-laws places text) tt opens.0.invariant in
      let s = ap (λ (o : Outcome formulas). o.state) binds ∙ sym k in
      record {
        cache = record { ok = edits.ok; invariant = subst (Invariant formulas formula-laws) s i };
        recorded = ap (λ (s : State formulas). s.recording) k;
        stands = ap (λ (s : State formulas). get_elem? (forms formulas s.entries) (number_of formulas entries part)) k ∙ stands;
        rest = omega arith;
      }

  -- it is accepted, and the entry whose number it writes at the place shows what the part's form shows
  pub first-edited : IsEdited (edit_answer before places text)
  first-edited = is-edited edits.answer

  pub first-shows : Shows after (get_or (edit_places before places text) p 0) (view_of (shows r part))
  first-shows = rw numbered (repeated r part (number_of formulas entries part) (left formulas part (holds after).entries) after holding)
