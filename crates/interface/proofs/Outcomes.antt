-- Each call's answer, case by case, with what is known in each: the tests of Calls in their order. Assumes nothing.
use Rattle.std.specs.Prelude.{◌≡◌, true, false, cond, ◌&&◌, leb, ltb, ℤ, length, get_or}
use Rattle.std.proofs.lemmas.Bool.{false≢true}
use Rattle.std.proofs.Math.Path.{refl}
use Rattle.std.proofs.Common.{sym, ◌∙◌, leb-true, ltb-true, ltb-false}
use Rattle.std.proofs.Math.Bool.{and-eq-true_iff}
use mathlib.Core.List.{List}
use Prim.Native.Nat.{ℕ, ◌≤◌, ◌<◌}
use Rattle.language.specs.Cases.{split}
use Rattle.language.specs.Limits.{text_bytes, text_parts, table_entries, table_readings}
use Rattle.grammar.specs.Grammar.{Expression}
use Rattle.grammar.specs.Reading.{Reading, tree, refused as refused_at}
use Rattle.grammar.specs.Machine.{read_text}
use Rattle.meaning.specs.Forms.{same, readings}
use Rattle.meaning.proofs.FormsLaws.{same-exactly}
use Rattle.meaning.specs.Binding.{form_of, forms_by_place}
use Rattle.meaning.specs.Evaluation.{shows}
use Rattle.model.specs.Model.{refused, opened, edited, printed, rejects, reads_as, printing}
use Rattle.layout.specs.Memory.{Memory, fits, entry_count, reading_count}
use Rattle.table.specs.WellFormed.{well_formed}
use Rattle.records.specs.Records.{records_of}
use Rattle.formulas.specs.Formulas.{formulas, parsed}
use Rattle.schedule.specs.declared.View.{View}
use Rattle.schedule.specs.Works.{show_of}
use Rattle.std.specs.Prelude.{Ok, Err}
use Rattle.language.specs.declared.refusals.Refusal.TheVariants.{TextTooLong, RecordingTooLong, MemoryTooSmall, CacheIllFormed, NoSuchEntry}
use Rattle.language.specs.Refusals.{text_refusal}
use Rattle.interface.specs.declared.answers.Previewed.TheVariants.{NotYet, Finished}
use Rattle.interface.specs.Answers.{Reply, declined}
use Rattle.interface.specs.Views.{view_of}
use Rattle.interface.specs.Acceptance.{IsEdited, Ready, Held, text_at}
use Rattle.interface.specs.Calls.{bound_to, read_answer, open_answer, edit_answer, work_on, previewed, form_at, print_answer, read_evaluated, evaluated}

-- ---- open

pub data OpenOutcome (m : Memory) (r : List ℤ) : Type 0 where
  long : table_readings < length r → open_answer m r ≡ refused 2 0 → OpenOutcome m r
  little : fits m ≡ false → open_answer m r ≡ refused 3 0 → OpenOutcome m r
  taken : fits m ≡ true → length r ≤ table_readings → open_answer m r ≡ opened → OpenOutcome m r

pub open-outcome : (m : Memory) (r : List ℤ) → OpenOutcome m r
unfolding open_answer
open-outcome m r =
    split (ltb table_readings (length r)) (λ p. long (ltb-true table_readings (length r) p) (rw p))
    (λ p. split (fits m) (λ q. taken q (ltb-false table_readings (length r) p) (rw (p, q))) (λ q. little q (rw (p, q))))

-- ---- edit

pub is-edited : {x : Reply} {w p k : ℕ} {ns : List ℕ} → x ≡ edited w p k ns → IsEdited x
is-edited {x} {w} {p} {k} {ns} e = (w, p, k, ns, e)

pub data EditOutcome (m : Memory) (places text : List ℕ) : Type 0 where
  long : text_bytes < length text → edit_answer m places text ≡ refused 1 0 → EditOutcome m places text
  little : (fits m && leb text_parts (length places)) ≡ false → edit_answer m places text ≡ refused 3 0 → EditOutcome m places text
  ill : well_formed m ≡ false → edit_answer m places text ≡ refused 4 0 → EditOutcome m places text
  unread : (n at : ℕ) → Ready m places text → read_text text ≡ refused_at n at → edit_answer m places text ≡ refused n at → EditOutcome m places text
  full : (e : Expression) → Ready m places text → read_text text ≡ tree e → table_entries < length (bound_to m (records_of e)).nodes
      → edit_answer m places text ≡ refused 13 0 → EditOutcome m places text
  taken : (e : Expression) → Ready m places text → read_text text ≡ tree e → length (bound_to m (records_of e)).nodes ≤ table_entries
      → IsEdited (edit_answer m places text) → EditOutcome m places text

-- once the text is read
read-outcome : (m : Memory) (places text : List ℕ) → Ready m places text → (x : Reading) → read_text text ≡ x
    → edit_answer m places text ≡ read_answer m x → EditOutcome m places text
unfolding read_answer
read-outcome m places text ready (refused_at n at) h e = unread n at ready h e
read-outcome m places text ready (tree t) h e =
    let all : ℕ = length (bound_to m (records_of t)).nodes in
    split (ltb table_entries all)
    (λ p. full t ready h (ltb-true table_entries all p) (rw p at e))
    (λ p. taken t ready h (ltb-false table_entries all p) (is-edited (rw p at e)))

pub edit-outcome : (m : Memory) (places text : List ℕ) → EditOutcome m places text
unfolding edit_answer
edit-outcome m places text =
    split (ltb text_bytes (length text)) (λ p. long (ltb-true text_bytes (length text) p) (rw p))
    (λ p. split (fits m && leb text_parts (length places))
    (λ q. split (well_formed m)
    (λ w.
    let b = (and-eq-true_iff (fits m) _).0 q in
    let ready : Ready m places text =
    record { short = ltb-false text_bytes (length text) p; whole = b.0; room = leb-true text_parts (length places) b.1; well = w } in
    read-outcome m places text ready (read_text text) refl (rw (p, q, w)))
    (λ w. ill w (rw (p, q, w))))
    (λ q. little q (rw (p, q))))

-- ---- preview

pub data PreviewOutcome (m : Memory) (n a : ℕ) : Type 0 where
  little : fits m ≡ false → previewed m n a ≡ Err MemoryTooSmall → PreviewOutcome m n a
  ill : well_formed m ≡ false → previewed m n a ≡ Err CacheIllFormed → PreviewOutcome m n a
  none : entry_count m ≤ n → previewed m n a ≡ Err NoSuchEntry → PreviewOutcome m n a
  unfinished : fits m ≡ true → well_formed m ≡ true → n < entry_count m → (k : ℕ) → previewed m n a ≡ Ok (NotYet k) → PreviewOutcome m n a
  finished : fits m ≡ true → well_formed m ≡ true → n < entry_count m → (k : ℕ) (v : View) → previewed m n a ≡ Ok (Finished k v) → PreviewOutcome m n a

pub preview-outcome : (m : Memory) (n a : ℕ) → PreviewOutcome m n a
unfolding previewed
preview-outcome m n a =
    split (fits m)
    (λ f. split (well_formed m)
    (λ w. split (ltb n (entry_count m))
    (λ l. split (work_on m n a).left
    (λ t. unfinished f w (ltb-true n (entry_count m) l) (work_on m n a).count (rw (f, w, l, t)))
    (λ t.
    finished f w (ltb-true n (entry_count m) l) (work_on m n a).count (show_of (reading_count m) m.links (work_on m n a).cells n) (rw (f, w, l, t))))
    (λ l. none (ltb-false n (entry_count m) l) (rw (f, w, l))))
    (λ w. ill w (rw (f, w))))
    (λ f. little f (rw f))

-- ---- print

-- the text of entry n fits the lent bytes, and is read
pub record ReadsBack (m : Memory) (n : ℕ) (bytes : List ℕ) : Type 0 where
  pub held : Held m n
  pub room : length (text_at m n) ≤ length bytes
  pub short : length (text_at m n) ≤ text_bytes
  pub expression : Expression
  pub read : read_text (text_at m n) ≡ tree expression

pub data PrintOutcome (m : Memory) (n : ℕ) (bytes : List ℕ) : Type 0 where
  little : fits m ≡ false → print_answer m n bytes ≡ refused 3 0 → PrintOutcome m n bytes
  ill : well_formed m ≡ false → print_answer m n bytes ≡ refused 4 0 → PrintOutcome m n bytes
  none : entry_count m ≤ n → print_answer m n bytes ≡ refused 14 0 → PrintOutcome m n bytes
  cramped : Held m n → length bytes < length (text_at m n) → print_answer m n bytes ≡ refused 15 0 → PrintOutcome m n bytes
  long : Held m n → text_bytes < length (text_at m n) → print_answer m n bytes ≡ refused 15 0 → PrintOutcome m n bytes
  unread : Held m n → (k at : ℕ) → read_text (text_at m n) ≡ refused_at k at → print_answer m n bytes ≡ refused 15 0 → PrintOutcome m n bytes
  other : (r : ReadsBack m n bytes) → ¬ (form_of r.expression ≡ form_at m n) → print_answer m n bytes ≡ refused 16 0 → PrintOutcome m n bytes
  taken : (r : ReadsBack m n bytes) → form_of r.expression ≡ form_at m n → print_answer m n bytes ≡ printed (text_at m n) → PrintOutcome m n bytes

-- of an entry that is held, whose text is short enough, once that is read
module _ (m : Memory) (n : ℕ) (bytes : List ℕ) (h : Held m n) where
  again-outcome : length (text_at m n) ≤ length bytes → length (text_at m n) ≤ text_bytes → (x : Reading) → read_text (text_at m n) ≡ x
      → print_answer m n bytes
      ≡ cond (rejects formulas (parsed x)) (refused 15 0) (cond (reads_as formulas (form_at m n) (parsed x)) (printed (text_at m n)) (refused 16 0))
      → PrintOutcome m n bytes
  unfolding parsed
  again-outcome room short (refused_at k at) r e = unread h k at r e
  again-outcome room short (tree t) r e =
      let b : ReadsBack m n bytes = record { held = h; room = room; short = short; expression = t; read = r } in
      split (same (form_of t) (form_at m n))
      (λ s. taken b ((same-exactly (form_of t) (form_at m n)).0 s) (rw s at e))
      (λ s. other b (λ q. absurd (false≢true (sym s ∙ (same-exactly (form_of t) (form_at m n)).1 q))) (rw s at e))

  held-outcome : print_answer m n bytes ≡ printing formulas (form_at m n) (length bytes) → PrintOutcome m n bytes
  unfolding printing
  held-outcome e =
      let t : List ℕ = text_at m n in
      split (ltb (length bytes) (length t)) (λ a. cramped h (ltb-true _ _ a) (rw a at e))
      (λ a. split (ltb text_bytes (length t)) (λ b. long h (ltb-true _ _ b) (rw (a, b) at e))
      (λ b. again-outcome (ltb-false _ _ a) (ltb-false _ _ b) (read_text t) refl (rw (a, b) at e)))

pub print-outcome : (m : Memory) (n : ℕ) (bytes : List ℕ) → PrintOutcome m n bytes
unfolding print_answer
print-outcome m n bytes =
    split (fits m)
    (λ f. split (well_formed m)
    (λ w. split (ltb n (entry_count m))
    (λ l. held-outcome m n bytes (record { whole = f; well = w; inside = ltb-true n (entry_count m) l }) (rw (f, w, l)))
    (λ l. none (ltb-false n (entry_count m) l) (rw (f, w, l))))
    (λ w. ill w (rw (f, w))))
    (λ f. little f (rw f))

-- ---- evaluate

-- neither 1 nor 2 comes up
pub record Sized (text : List ℕ) (r : List ℤ) : Type 0 where
  pub short : length text ≤ text_bytes
  pub few : length r ≤ table_readings

pub data EvaluateOutcome (text : List ℕ) (r : List ℤ) (p : ℕ) : Type 0 where
  long : text_bytes < length text → evaluated text r p ≡ Err (declined TextTooLong 0) → EvaluateOutcome text r p
  many : length text ≤ text_bytes → table_readings < length r → evaluated text r p ≡ Err (declined RecordingTooLong 0) → EvaluateOutcome text r p
  unread : (n at : ℕ) → Sized text r → read_text text ≡ refused_at n at → evaluated text r p ≡ Err (declined (text_refusal n) at) → EvaluateOutcome text r p
  none : (e : Expression) → Sized text r → read_text text ≡ tree e → length (forms_by_place e) ≤ p → evaluated text r p ≡ Err (declined NoSuchEntry 0)
      → EvaluateOutcome text r p
  taken : (e : Expression) → Sized text r → read_text text ≡ tree e → p < length (forms_by_place e)
      → evaluated text r p ≡ Ok (record { parts = length (forms_by_place e); shown = view_of (shows r (get_or (forms_by_place e) p readings)) }) → EvaluateOutcome text r p

-- once the text is read
part-outcome : (text : List ℕ) (r : List ℤ) (p : ℕ) → Sized text r → (x : Reading) → read_text text ≡ x → evaluated text r p ≡ read_evaluated r p x
    → EvaluateOutcome text r p
unfolding read_evaluated
part-outcome text r p sized (refused_at n at) h e = unread n at sized h e
part-outcome text r p sized (tree t) h e =
    let parts : ℕ = length (forms_by_place t) in
    split (ltb p parts) (λ l. taken t sized h (ltb-true p parts l) (rw l at e)) (λ l. none t sized h (ltb-false p parts l) (rw l at e))

pub evaluate-outcome : (text : List ℕ) (r : List ℤ) (p : ℕ) → EvaluateOutcome text r p
unfolding evaluated
evaluate-outcome text r p =
    split (ltb text_bytes (length text)) (λ l. long (ltb-true text_bytes (length text) l) (rw l))
    (λ l. split (ltb table_readings (length r))
    (λ q. many (ltb-false text_bytes (length text) l) (ltb-true table_readings (length r) q) (rw (l, q)))
    (λ q.
    let sized : Sized text r = record { short = ltb-false text_bytes (length text) l; few = ltb-false table_readings (length r) q } in
    part-outcome text r p sized (read_text text) refl (rw (l, q))))
