-- 02, T-07: what evaluate answers, by the number of parts, and that a cache shows the same: a fresh one in the end, and any in the midst of a session
-- whenever a preview of the part is finished. Assumes nothing.
use Rattle.std.specs.Prelude.{◌≡◌, refl, ◌↔◌, true, ℕ, ◌≤◌, ◌<◌, ℤ, length, get_or}
use Rattle.std.proofs.lemmas.Bool.{false≢true}
use Rattle.std.proofs.Common.{sym, ap, ◌∙◌, subst}
use Rattle.std.proofs.Math.Logic.Iff as Iff
use mathlib.Core.List.{List, [], map, Memᴰ}
use Rattle.std.proofs.Math.Option.{some}
use Rattle.std.proofs.Math.ListN.{get_elem?}
use Rattle.language.specs.Limits.{text_bytes, text_parts, table_readings}
use Rattle.grammar.specs.Grammar.{Expression}
use Rattle.grammar.specs.KeptLimits.{parts_e}
use Rattle.grammar.specs.Reading.{Reading, tree, refused as refused_at}
use Rattle.grammar.specs.Machine.{read_text}
use Rattle.model.specs.Lists.{All}
use Rattle.model.specs.ListLaws.{nth-below, getD-nth}
use Rattle.model.specs.Language.{parts}
use Rattle.model.specs.Model.{State, Answer, start, opened}
use Rattle.model.specs.Since.{Part, parts_given, Sendable}
use Rattle.model.specs.Engine.{Sent, told}
use Rattle.model.specs.Preserved.{invariant-after, invariant-start}
use Rattle.model.specs.Numbers.{known}
use Rattle.model.specs.Demand.{calls, last, Given, Finishes}
use Rattle.model.specs.DemandLaws.{demand}
use Rattle.formulas.specs.Formulas.{IsReading, formulas, parsed}
use Rattle.bridge.specs.FormulaLaws.{parts-placed, formula-laws}
use Rattle.meaning.specs.Forms.{Form, readings}
use Rattle.meaning.specs.Binding.{forms_by_place}
use Rattle.meaning.specs.Evaluation.{Shown, shows}
use Rattle.layout.specs.Memory.{Memory, fits}
use Rattle.schedule.specs.declared.View.{View}
use Rattle.interface.specs.Views.{view_of}
use Rattle.interface.specs.declared.answers.Previewed.TheVariants.{Finished}
use Rattle.std.specs.Prelude.{Ok, Err}
use Rattle.language.specs.declared.refusals.Refusal.TheVariants.{NoSuchEntry}
use Rattle.interface.specs.declared.answers.Evaluated.{Evaluated}
use Rattle.interface.specs.Answers.{declined}
use Rattle.interface.specs.Calls.{open_answer, open_memory, edit_answer, edit_memory, edit_places, previewed, evaluated}
use Rattle.interface.specs.Acceptance.{IsEdited, ReadWith}
use Rattle.interface.proofs.AcceptanceLaws.{open-accepted}
use Rattle.interface.proofs.EvaluateLaws as Laws
use Rattle.demand.specs.Holds.{holds}
use Rattle.promises.proofs.Implementing.{implements}
use Rattle.promises.specs.Engine.{engine}
use Rattle.promises.specs.Terms.{previews}
use Rattle.promises.proofs.FreshCache.{Shows, first-edited, first-shows}

-- ---- the answer, by the number of parts

by_parts : (text : List ℕ) (r : List ℤ) (P : ℕ → Type 0) → ReadWith text r (λ e. P (length (forms_by_place e))) ↔ ReadWith text r (λ e. P (parts_e e))
by_parts text r P = (
  λ c. (c.0, c.1, (c.2.0, c.2.1, rw (parts-placed c.2.0) c.2.2)),
  λ c. (c.0, c.1, (c.2.0, c.2.1, rw (parts-placed c.2.0) at c.2.2)),
)

pub evaluate-accepted : (text : List ℕ) (r : List ℤ) (p : ℕ)
    → ((x : Evaluated) × (evaluated text r p ≡ Ok x)) ↔ ReadWith text r (λ e. p < parts_e e)
evaluate-accepted text r p = Iff.trans (Laws.evaluate-accepted text r p) (by_parts text r (λ k. p < k))

pub evaluate-fourteen : (text : List ℕ) (r : List ℤ) (p : ℕ) → (evaluated text r p ≡ Err (declined NoSuchEntry 0)) ↔ ReadWith text r (λ e. parts_e e ≤ p)
evaluate-fourteen text r p = Iff.trans (Laws.evaluate-fourteen text r p) (by_parts text r (λ k. k ≤ p))

pub evaluate-shows : (text : List ℕ) (r : List ℤ) (p : ℕ) (e : Expression) → length text ≤ text_bytes → length r ≤ table_readings
    → read_text text ≡ tree e → p < parts_e e → evaluated text r p ≡ Ok (record { parts = parts_e e; shown = view_of (shows r (get_or (forms_by_place e) p readings)) })
evaluate-shows text r p e short few read inside = let z = parts-placed e in rw z (Laws.evaluate-shows text r p e short few read (rw z at inside))

-- ---- a fresh cache

-- memory m of any contents is opened with the recording and edited with the text, and the number written at place p is previewed again and again
module _ (m : Memory) (r : List ℤ) (places text : List ℕ) (p : ℕ) (x : Evaluated) (a : ℕ) (whole : fits m ≡ true) (room : text_parts ≤ length places)
    (sound : All IsReading r) (least : 1 ≤ a) (h : evaluated text r p ≡ Ok x) where
  abbrev number : ℕ
  number = get_or (edit_places (open_memory m r) places text) p 0

  abbrev cache : Memory
  cache = edit_memory (open_memory m r) places text

  fresh : (open_answer m r ≡ opened) × IsEdited (edit_answer (open_memory m r) places text) × Shows cache number x.shown
  fresh =
      let c = (Laws.evaluate-accepted text r p).0 (x, h) in
      let e = c.2.0 in
      let y = Laws.evaluate-shows text r p e c.0 c.1 c.2.1 c.2.2 in
      let z : view_of (shows r (get_or (forms_by_place e) p readings)) ≡ x.shown = (let u : record { parts = length (forms_by_place e); shown = view_of (shows r (get_or (forms_by_place e) p readings)) } ≡ x = cc in ap (λ (u : Evaluated). u.shown) u) in (
        (open-accepted m r).1 (whole, c.1),
        first-edited m r places text p e whole c.1 sound room c.0 c.2.1 c.2.2,
        rw z at (first-shows m r places text p e whole c.1 sound room c.0 c.2.1 c.2.2),
      )

  pub evaluate-finally : (open_answer m r ≡ opened) × IsEdited (edit_answer (open_memory m r) places text)
      × ((times : ℕ) × (worked : ℕ) × (previewed (previews times cache number a) number a ≡ Ok (Finished worked x.shown)))
  evaluate-finally = let c = fresh in (c.0, c.1, c.2.ends a least)

  pub evaluate-only : (times worked : ℕ) (w : View) → previewed (previews times cache number a) number a ≡ Ok (Finished worked w) → w ≡ x.shown
  evaluate-only = fresh.2.only a least

-- ---- any cache in a session

-- a part of a text that can be read
part_evaluated : (text : List ℕ) (r : List ℤ) (p : ℕ) (f : Form) (order places : List Form) (whole : Form) → length text ≤ text_bytes
    → length r ≤ table_readings → parsed (read_text text) ≡ parts order places whole → get_elem? places p ≡ some f
    → (k : ℕ) × (evaluated text r p ≡ Ok (record { parts = k; shown = view_of (shows r f) }))
unfolding parsed
part_evaluated text r p f order places whole short few h stands = by (read_text text) refl h
  where
    by : (x : Reading) → read_text text ≡ x → parsed x ≡ parts order places whole → (k : ℕ) × (evaluated text r p ≡ Ok (record { parts = k; shown = view_of (shows r f) }))
    by (refused_at n at) g q = absurd (false≢true (cc))
    by (tree e) g q =
        let z : forms_by_place e ≡ places = cc in
        let s = rw (← z) at stands in
        let u = getD-nth (forms_by_place e) p f readings s in
        (length (forms_by_place e), Laws.evaluate-shows text r p e short few g (nth-below (forms_by_place e) p f s) ∙ rw u)

pub evaluate-in-session : (m : Memory) (r : List ℤ) (cs : List (Sent engine)) → open_answer m r ≡ opened → All IsReading r
    → Sendable formulas (map (told engine) cs) → (x : Part formulas) → Given formulas engine m r cs x
    → (c : Sent engine) (v : Shown) → Finishes formulas engine (last formulas engine m r cs) c x.number v
    → (k : ℕ) × (evaluated x.text (holds (last formulas engine m r cs)).recording x.place ≡ Ok (record { parts = k; shown = view_of v }))
evaluate-in-session m r cs acc sound sent x given c v fin =
    let d = demand formulas formula-laws engine implements m r cs acc sound sent in
    let ds = calls formulas engine m r cs in
    let g = subst (λ (xs : List (Answer formulas)). Memᴰ x (parts_given formulas [] ds xs)) d.answered given in
    let y = known formulas formula-laws r ds x g in
    let s = invariant-start formulas formula-laws r ((open-accepted m r).0 acc).1 sound in
    let i = invariant-after formulas formula-laws (start formulas r) ds sent s in
    let few = subst (λ (s : State formulas). length s.recording ≤ table_readings) (sym d.held) i.short in
    let z =
    part_evaluated x.text (holds (last formulas engine m r cs)).recording x.place x.form y.order y.places y.whole y.short few
    y.reads y.stands in
    (z.0, z.1 ∙ ap (λ (w : Shown). Ok (record { parts = z.0; shown = view_of w })) (sym (d.shown x given c v fin)))
