-- The invariant holds after an opening and is kept by every call. Assumes nothing.
use Rattle.std.specs.Prelude.{◌≡◌, ℕ, ◌≤◌, eqb, length}
use Rattle.std.proofs.lemmas.Bool.{false≢true}
use Rattle.std.proofs.Math.Bool.{false≢true}
use mathlib.Core.List.{List, [], ◌∷◌}
use Rattle.std.proofs.Common.{arith}
use Rattle.language.specs.Cases.{split}
use Rattle.language.specs.Limits.{text_bytes, table_readings, table_entries}
use Rattle.model.specs.Lists.{All, member}
use Rattle.model.specs.ListLaws.{distinct-insert_all, all-insert_all}
use Rattle.model.specs.Language.{Language, parts}
use Rattle.model.specs.Model.{State, forms, start, Call, Answer, refused, hold_all, left, work_out}
use Rattle.model.specs.Responses.{answer, next}
use Rattle.model.specs.Since.{SoundRequest, Sendable}
use Rattle.model.specs.Runs.{model, answers, after}
use Rattle.model.specs.Laws.{Laws}
use Rattle.model.specs.Forms.{ordered-insert_all}
use Rattle.model.specs.Invariant.{Invariant}
use Rattle.model.specs.Entries.{forms-hold_all, kept-hold_all, settled-hold_all, forms-work_out, length-work_out, kept-work_out, settled-work_out}
use Rattle.model.specs.Steps.{Step, declines, opens, edits, previews, prints, step}

module _ (L : Language) (H : Laws L) where
  open L use {Form, Reading, Sound, same, read}

  abbrev extended : State L → List Form → State L
  extended s order = record { recording = s.recording; entries = hold_all L order s.entries }

  abbrev worked : State L → ℕ → Form → State L
  worked s a f = record { recording = s.recording; entries = work_out L s.recording a f s.entries }

  pub invariant-start : (r : List Reading) → length r ≤ table_readings → Sound r → Invariant L H (start L r)
  invariant-start r h sound = record { short = h; sound = sound; few = omega arith; ordered = tt; distinct = tt; proper = tt; kept = tt; settled = tt }

  invariant-edit : (s : State L) (t : List ℕ) (order places : List Form) (whole : Form) → length t ≤ text_bytes → read t ≡ parts order places whole
      → length (hold_all L order s.entries) ≤ table_entries → Invariant L H s → Invariant L H (extended s order)
  unfolding member
  invariant-edit s t order places whole l e h i =
      let text = H.readable t order places whole l e in
      let fh = forms-hold_all L order s.entries in
      record {
        short = i.short;
        sound = i.sound;
        few = h;
        ordered = rw fh (ordered-insert_all L H.tests [] order (forms L s.entries) text.ordered (λ f z. absurd (false≢true z)) i.ordered);
        distinct = rw fh (distinct-insert_all H.tests.equality order (forms L s.entries) i.distinct);
        proper = rw fh (all-insert_all H.tests.equality H.Proper order (forms L s.entries) text.proper i.proper);
        kept = kept-hold_all L s.recording order s.entries i.kept;
        settled = settled-hold_all L order s.entries i.settled;
      }

  invariant-preview : (s : State L) (a : ℕ) (f : Form) → Invariant L H s → Invariant L H (worked s a f)
  unfolding member
  invariant-preview s a f i =
      let fw = forms-work_out L s.recording a f s.entries in
      record {
        short = i.short;
        sound = i.sound;
        few = rw (length-work_out L s.recording a f s.entries) i.few;
        ordered = rw fw i.ordered;
        distinct = rw fw i.distinct;
        proper = rw fw i.proper;
        kept = kept-work_out L s.recording a f s.entries i.kept;
        settled = settled-work_out L H.tests s.recording a f [] [] s.entries (λ d z. z) (λ d q z n. absurd (false≢true z)) i.ordered i.settled;
      }

  pub invariant-next : (s : State L) (c : Call L) → SoundRequest L c.request → Invariant L H s → Invariant L H (next L s c)
  invariant-next s c sound i = go (step L H s c)
    where
      go : Step L s c → Invariant L H (next L s c)
      go (declines n at four e) = rw (e, next) i
      go (opens r q z e) = rw (e, next) (invariant-start r z (rw q at sound))
      go (edits ps t order places whole q l room rd z e) = rw (e, next) (invariant-edit s t order places whole l rd z i)
      go (previews n a f q z e) = rw (e, next) (invariant-preview s a f i)
      go (prints n bs t q e) = rw (e, next) i

  pub invariant-after : (s : State L) (cs : List (Call L)) → Sendable L cs → Invariant L H s → Invariant L H (after (model L) s cs)
  unfolding after
  invariant-after s [] sound i = i
  invariant-after s (c ∷ cs) sound i = invariant-after (next L s c) cs sound.1 (invariant-next s c sound.0 i)

  -- number 4 never comes up
  pub never-four : (s : State L) (cs : List (Call L)) → All (λ (x : Answer L). (place : ℕ) → x ≡ refused 4 place → ⊥) (answers (model L) s cs)
  unfolding answers
  never-four s [] = tt
  never-four s (c ∷ cs) = (λ place e. go place e (step L H s c), never-four (next L s c) cs)
    where
      go : (place : ℕ) → answer L s c ≡ refused 4 place → Step L s c → ⊥
      go place e (declines n at four x) = let y = rw (x, answer) at e in let z : n ≡ 4 = cc in four z
      go place e (opens r q z x) = let y = rw (x, answer) at e in false≢true (cc)
      go place e (edits ps t order places whole q l room rd z x) = let y = rw (x, answer) at e in false≢true (cc)
      go place e (previews n a f q z x) =
          let y = rw (x, answer) at e in
          split (eqb (left L f (work_out L s.recording a f s.entries)) 0)
          (λ p. let w = rw p at y in false≢true (cc)) (λ p. let w = rw p at y in false≢true (cc))
      go place e (prints n bs t q x) = let y = rw (x, answer) at e in false≢true (cc)
