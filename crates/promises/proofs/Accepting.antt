-- A cache that a call accepts, whatever was in it, is accepted by the next call: none leaves a cache that refusal 4 declines or that no longer
-- fits. And a preview of any cache works out as many entries as it says. Assumes nothing.
use Rattle.std.specs.Prelude.{◌≡◌, true, ◌&&◌, ◌↔◌, List, ℕ, ◌+◌, leb, ltb, ℤ, length}
use Rattle.std.proofs.lemmas.Bool.{false≢true}
use Rattle.std.proofs.Common.{sym, ap, ◌∙◌, arith, ltb-true, ltb-false}
use Rattle.std.proofs.Math.Bool.{and-eq-true_iff}
use Rattle.std.proofs.Math.Logic.Iff as Iff
use Rattle.language.specs.Limits.{text_bytes, text_parts, table_readings}
use Rattle.language.specs.Cases.{split}
use Rattle.grammar.specs.Grammar.{Expression}
use Rattle.grammar.specs.Reading.{tree}
use Rattle.grammar.specs.Machine.{read_text}
use Rattle.grammar.proofs.Theorems.{text-read-plainly}
use Rattle.meaning.specs.Binding.{forms_in_order}
use Rattle.model.specs.Lists.{All}
use Rattle.model.specs.Model.{refused, opened, said, hold_all}
use Rattle.layout.specs.Memory.{Memory, fits, entry_count, recording_of}
use Rattle.table.specs.WellFormed.{well_formed}
use Rattle.binder.specs.AppendedLaws.{well-parts, well-from, well-empty}
use Rattle.formulas.specs.Formulas.{IsReading, formulas}
use Rattle.records.specs.Records.{records_of}
use Rattle.schedule.specs.Works.{Work}
use Rattle.interface.specs.Acceptance.{IsEdited}
use Rattle.interface.proofs.AcceptanceLaws as Acceptance
use Rattle.std.specs.Prelude.{Ok}
use Rattle.interface.specs.Calls.{open_answer, open_memory, opened_memory, bound_to, edit_answer, edit_memory, work_on, worked_memory, previewed_as, previewed, preview_answer, preview_memory}
use Rattle.interface.specs.Answers.{preview_reply}
use Rattle.demand.proofs.Appended.{lengths, long-enough}
use Rattle.demand.proofs.Opening.{count-zero, count-readings, longer}
use Rattle.demand.proofs.Grown.{held-and-new, read-well, read_fits}
use Rattle.demand.specs.Holds.{holds, worked_out}
use Rattle.demand.proofs.AnyCache.{worked-well, worked-fits, worked-rise}
use Rattle.promises.specs.Terms.{CanEdit}

-- ---- open

pub open-fits : (m : Memory) (r : List ℤ) → fits (open_memory m r) ≡ fits m
unfolding open_memory
open-fits m r =
    split (ltb table_readings (length r)) (λ p. rw p)
    (λ p. split (fits m)
    (λ q. rw (p, q) (long-enough (opened_memory m r) (longer m r (lengths m q) (ltb-false table_readings (length r) p))))
    (λ q. rw (p, q) q))

pub open-well : (m : Memory) (r : List ℤ) → open_answer m r ≡ opened → well_formed (open_memory m r) ≡ true
unfolding open_answer open_memory
open-well m r h =
    split (ltb table_readings (length r)) (λ p. absurd (false≢true (let z : refused 2 0 ≡ opened = rw p at h in cc)))
    (λ p. split (fits m)
    (λ q.
    let short = ltb-false table_readings (length r) p in
    let n = count-readings m r (lengths m q) short in
    rw (p, q) (well-empty (opened_memory m r) (count-zero m r (lengths m q) short) (omega arith)))
    (λ q. absurd (false≢true (let z : refused 3 0 ≡ opened = rw (p, q) at h in cc))))

-- ---- edit

pub edit-fits : (m : Memory) (places text : List ℕ) → fits (edit_memory m places text) ≡ fits m
unfolding edit_memory
edit-fits m places text =
    split (ltb text_bytes (length text)) (λ p. rw p)
    (λ p. split (fits m && leb text_parts (length places))
    (λ q. split (well_formed m) (λ w. rw (p, q, w) (read_fits m (read_text text))) (λ w. rw (p, q, w)))
    (λ q. rw (p, q)))

pub edit-well : (m : Memory) (places text : List ℕ) → well_formed m ≡ true → well_formed (edit_memory m places text) ≡ true
unfolding edit_memory
edit-well m places text w =
    split (ltb text_bytes (length text)) (λ p. rw p w)
    (λ p. split (fits m && leb text_parts (length places))
    (λ q. rw (p, q, w) (read-well m text ((and-eq-true_iff (fits m) _).0 q).0 w))
    (λ q. rw (p, q) w))

-- the records bound to the entries held are the forms that the model then holds
pub edit-accepted : (m : Memory) (places text : List ℕ) → IsEdited (edit_answer m places text) ↔ CanEdit m places text
edit-accepted m places text = Iff.trans (Acceptance.edit-accepted m places text) (
  λ c. record {
    short = c.ready.short;
    whole = c.ready.whole;
    room = c.ready.room;
    well = c.ready.well;
    expression = c.expression;
    read = c.read;
    held = rw (size c.ready.well c.expression c.read) at c.held;
  },
  λ c. record {
    ready = record { short = c.short; whole = c.whole; room = c.room; well = c.well };
    expression = c.expression;
    read = c.read;
    held = rw (size c.well c.expression c.read) c.held;
  },
)
  where
    size : well_formed m ≡ true → (e : Expression) → read_text text ≡ tree e
        → length (bound_to m (records_of e)).nodes ≡ length (hold_all formulas (forms_in_order e) (holds m).entries)
    size w e h = held-and-new m w e ((text-read-plainly text e).0 h).1

-- ---- preview

pub preview-fits : (m : Memory) (n a : ℕ) → fits (preview_memory m n a) ≡ fits m
unfolding preview_memory
preview-fits m n a = split (fits m && (well_formed m && ltb n (entry_count m))) (λ p. rw p (worked-fits m n a)) (λ p. rw p)

pub preview-well : (m : Memory) (n a : ℕ) → well_formed m ≡ true → All IsReading (recording_of m) → well_formed (preview_memory m n a) ≡ true
unfolding preview_memory
preview-well m n a w sound =
    split (fits m && (well_formed m && ltb n (entry_count m)))
    (λ p.
    let b = (and-eq-true_iff (fits m) _).0 p in
    rw p (well-from (worked_memory m (work_on m n a)) (worked-well m b.0 (well-parts m w) sound n (ltb-true n (entry_count m) ((and-eq-true_iff (well_formed m) _).0 b.1).1) a)))
    (λ p. rw p w)

pub preview-rise : (m : Memory) (n a : ℕ) → All IsReading (recording_of m) → worked_out (preview_memory m n a) ≡ worked_out m + (said formulas (preview_answer m n a)).worked
unfolding preview_memory previewed
preview-rise m n a sound =
    split (fits m)
    (λ f. split (well_formed m)
    (λ w. split (ltb n (entry_count m))
    (λ l. rw (f, w, l) (worked-rise m f (well-parts m w) sound n (ltb-true n (entry_count m) l) a ∙ ap (λ (k : ℕ). worked_out m + k) (sym (says (work_on m n a)))))
    (λ l. rw (f, w, l) (omega arith)))
    (λ w. rw (f, w) (omega arith)))
    (λ f. rw f (omega arith))
  where
    says : (w : Work) → (said formulas (preview_reply (Ok (previewed_as m n w)))).worked ≡ w.count
    says w = split w.left (λ p. rw p) (λ p. rw p)
