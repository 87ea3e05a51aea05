-- When a call is accepted, exactly, and with which numbers it is refused where it is not: by the cases of Outcomes. Assumes nothing.
use Rattle.std.specs.Prelude.{◌≡◌, refl, ◌↔◌, true, false, ◌&&◌, List, ℕ, ◌≤◌, ◌<◌, leb, ℤ, length}
use Rattle.std.proofs.lemmas.Bool.{false≢true}
use Rattle.std.proofs.Common.{sym, ap, ◌∙◌, inl, inr, ⊎_elim, arith, le-leb}
use Rattle.language.specs.Limits.{text_bytes, text_parts, table_readings}
use Rattle.grammar.specs.Grammar.{Expression}
use Rattle.grammar.specs.Reading.{IsTextRefusal, tree, refused as refused_at}
use Rattle.grammar.proofs.Places.{place_inside}
use Rattle.grammar.specs.Machine.{read_text}
use Rattle.grammar.proofs.Theorems.{text-read-plainly, text-refused, text-number}
use Rattle.model.specs.Model.{refused, opened}
use Rattle.layout.specs.Memory.{Memory, fits, entry_count}
use Rattle.table.specs.WellFormed.{well_formed}
use Rattle.records.specs.Records.{records_of}
use Rattle.std.specs.Prelude.{Result, Ok, Err}
use Rattle.language.specs.declared.refusals.Refusal.{Refusal}
use Rattle.language.specs.declared.refusals.Refusal.TheVariants.{MemoryTooSmall, CacheIllFormed, NoSuchEntry}
use Rattle.language.specs.declared.refusals.Refused.{Refused}
use Rattle.language.specs.Refusals.{refusal_number}
use Rattle.interface.specs.declared.answers.Edited.{Edited}
use Rattle.interface.specs.declared.answers.EditAnswer.{EditAnswer}
use Rattle.interface.specs.declared.answers.PreviewAnswer.{PreviewAnswer}
use Rattle.interface.specs.declared.answers.PrintAnswer.{PrintAnswer}
use Rattle.interface.specs.declared.answers.Previewed.{Previewed}
use Rattle.interface.specs.declared.answers.Previewed.TheVariants.{NotYet, Finished}
use Rattle.interface.specs.Answers.{Reply, Opened, open_reply, edit_reply, PrintReply, open_number, edit_numbers, preview_numbers, print_numbers}
use Rattle.interface.specs.Calls.{bound_to, open_answer, edit_answer, previewed, print_answer}
use Rattle.interface.specs.Effects.{OpensForC, EditsForC, PreviewsForC, PrintsForC}
use Rattle.interface.specs.Acceptance.{OpenRefusal, EditRefusal, PreviewRefusal, PrintRefusal, IsEdited, Ready, CanBind, InLanguage, TextDeclined, IsPrinted}
use Rattle.language.specs.RefusalsLaws.{refusal-some}
use Rattle.interface.proofs.Outcomes.{OpenOutcome, open-outcome, is-edited, EditOutcome, edit-outcome, PreviewOutcome, preview-outcome, PrintOutcome, print-outcome}

-- ---- open

pub open-accepted : (m : Memory) (r : List ℤ) → (open_answer m r ≡ opened) ↔ ((fits m ≡ true) × (length r ≤ table_readings))
open-accepted m r = by (open-outcome m r)
  where
    by : OpenOutcome m r → (open_answer m r ≡ opened) ↔ ((fits m ≡ true) × (length r ≤ table_readings))
    by (OpenOutcome.long l e) = (λ h. absurd (false≢true (cc)), λ c. absurd (omega arith))
    by (OpenOutcome.little f e) = (λ h. absurd (false≢true (cc)), λ c. absurd (false≢true (sym f ∙ c.0)))
    by (OpenOutcome.taken f l e) = (λ h. (f, l), λ c. e)

pub open-refusals : (m : Memory) (r : List ℤ) (n at : ℕ) → open_answer m r ≡ refused n at → OpenRefusal n at
open-refusals m r n at h = by (open-outcome m r)
  where
    by : OpenOutcome m r → OpenRefusal n at
    by (OpenOutcome.long l e) = (inl (cc), cc)
    by (OpenOutcome.little f e) = (inr (cc), cc)
    by (OpenOutcome.taken f l e) = absurd (false≢true (cc))

-- ---- edit

not-little : (m : Memory) (places text : List ℕ) → (fits m && leb text_parts (length places)) ≡ false → Ready m places text → false ≡ true
not-little m places text q c = sym q ∙ rw (c.whole, le-leb text_parts (length places) c.room)

-- a refusal is no accepted edit
not-edited : {x : Reply} {n at : ℕ} → x ≡ refused n at → IsEdited x → false ≡ true
not-edited e h = let z = h.4 in cc

-- what is read is one thing
same-tree : (m : Memory) (text : List ℕ) (e e' : Expression) → read_text text ≡ tree e → read_text text ≡ tree e'
    → length (bound_to m (records_of e)).nodes ≡ length (bound_to m (records_of e')).nodes
same-tree m text e e' h h' = let z : e ≡ e' = cc in rw z

pub edit-accepted : (m : Memory) (places text : List ℕ) → IsEdited (edit_answer m places text) ↔ CanBind m places text
edit-accepted m places text = by (edit-outcome m places text)
  where
    by : EditOutcome m places text → IsEdited (edit_answer m places text) ↔ CanBind m places text
    by (EditOutcome.long l e) = (λ h. absurd (false≢true (not-edited e h)), λ c. let z = c.ready.short in absurd (omega arith))
    by (EditOutcome.little q e) = (λ h. absurd (false≢true (not-edited e h)), λ c. absurd (false≢true (not-little m places text q c.ready)))
    by (EditOutcome.ill w e) = (λ h. absurd (false≢true (not-edited e h)), λ c. absurd (false≢true (sym w ∙ c.ready.well)))
    by (EditOutcome.unread n at r u e) = (λ h. absurd (false≢true (not-edited e h)), λ c. let z = c.read in absurd (false≢true (cc)))
    by (EditOutcome.full t r u l e) =
        (λ h. absurd (false≢true (not-edited e h)), λ c. let s = same-tree m text t c.expression u c.read in let z = c.held in absurd (omega arith))
    by (EditOutcome.taken t r u l e) = (λ h. record { ready = r; expression = t; read = u; held = l }, λ c. e)

pub unread-range : (text : List ℕ) (n at : ℕ) → read_text text ≡ refused_at n at → IsTextRefusal n × (at ≤ length text)
unread-range text n at h =
    let r = (text-refused text n at).0 h in
    let p = r.2 in
    (text-number text n at h, rw p (place_inside text r.0))

pub edit-refusals : (m : Memory) (places text : List ℕ) (n at : ℕ) → edit_answer m places text ≡ refused n at → EditRefusal text n at
edit-refusals m places text n at h = by (edit-outcome m places text)
  where
    by : EditOutcome m places text → EditRefusal text n at
    by (EditOutcome.long l e) = inl (inl (inl (cc)), cc)
    by (EditOutcome.little q e) = inl (inl (inr (cc)), cc)
    by (EditOutcome.ill w e) = inl (inr (inl (cc)), cc)
    by (EditOutcome.unread k p r u e) = let a : k ≡ n = cc in let b : p ≡ at = cc in inr (unread-range text n at (rw (a, b) at u))
    by (EditOutcome.full t r u l e) = inl (inr (inr (cc)), cc)
    by (EditOutcome.taken t r u l e) = absurd (false≢true (not-edited h e))

-- 0 is none of these numbers, nor is 11 (02, T-05)
edit-number : (text : List ℕ) (n at : ℕ) → EditRefusal text n at → (1 ≤ n) × (¬ (n ≡ 11))
edit-number text n at =
    ⊎_elim
    (λ p. ⊎_elim (⊎_elim (λ q. omega arith) (λ q. omega arith)) (⊎_elim (λ q. omega arith) (λ q. omega arith)) p.0)
    (λ p. omega arith)

pub edit-never-eleven : (m : Memory) (places text : List ℕ) (at : ℕ) → ¬ (edit_answer m places text ≡ refused 11 at)
edit-never-eleven m places text at h = (edit-number text 11 at (edit-refusals m places text 11 at h)).1 refl

pub read-in : (text : List ℕ) (e : Expression) → length text ≤ text_bytes → read_text text ≡ tree e → InLanguage text
read-in text e l h = let r = (text-read-plainly text e).0 h in (l, (e, r.0, r.1))

pub not-read : (text : List ℕ) (n at : ℕ) → read_text text ≡ refused_at n at → ¬ InLanguage text
not-read text n at h i = let z = (text-read-plainly text i.1.0).1 (i.1.1, i.1.2) in absurd (false≢true (cc))

-- refusal 13 is none of the text's
full-not : {x : Reply} → x ≡ refused 13 0 → ¬ TextDeclined x
full-not e h = let z = h.2 in let n : h.0 ≡ 13 = cc in ⊎_elim (λ p. omega arith) (λ p. omega arith) h.3

pub text-declined : (m : Memory) (places text : List ℕ) → fits m ≡ true → text_parts ≤ length places → well_formed m ≡ true
    → TextDeclined (edit_answer m places text) ↔ (¬ InLanguage text)
text-declined m places text f room w = by (edit-outcome m places text)
  where
    by : EditOutcome m places text → TextDeclined (edit_answer m places text) ↔ (¬ InLanguage text)
    by (EditOutcome.long l e) = (λ h i. let z = i.0 in omega arith, λ h. (1, 0, e, inl refl))
    by (EditOutcome.little q e) = absurd (false≢true (sym q ∙ rw (f, le-leb text_parts (length places) room)))
    by (EditOutcome.ill v e) = absurd (false≢true (sym v ∙ w))
    by (EditOutcome.unread n at r u e) =
        (λ h. not-read text n at u, λ h. (n, at, e, inr (unread-range text n at u).0))
    by (EditOutcome.full t r u l e) = (λ h. absurd (full-not e h), λ h. absurd (h (read-in text t r.short u)))
    by (EditOutcome.taken t r u l e) = (λ h. absurd (false≢true (not-edited h.2 e)), λ h. absurd (h (read-in text t r.short u)))

-- ---- preview

pub preview-accepted : (m : Memory) (n a : ℕ)
    → ((e : Refusal) → ¬ (previewed m n a ≡ Err e)) ↔ ((fits m ≡ true) × (well_formed m ≡ true) × (n < entry_count m))
preview-accepted m n a = by (preview-outcome m n a)
  where
    by : PreviewOutcome m n a → ((e : Refusal) → ¬ (previewed m n a ≡ Err e)) ↔ ((fits m ≡ true) × (well_formed m ≡ true) × (n < entry_count m))
    by (PreviewOutcome.little f e) = (λ h. absurd (h MemoryTooSmall e), λ c. absurd (false≢true (sym f ∙ c.0)))
    by (PreviewOutcome.ill w e) = (λ h. absurd (h CacheIllFormed e), λ c. absurd (false≢true (sym w ∙ c.1)))
    by (PreviewOutcome.none l e) = (λ h. absurd (h NoSuchEntry e), λ c. let z = c.2 in absurd (omega arith))
    by (PreviewOutcome.unfinished f w l j e) = (λ h. (f, w, l), λ c k h. absurd (false≢true (cc)))
    by (PreviewOutcome.finished f w l j v e) = (λ h. (f, w, l), λ c k h. absurd (false≢true (cc)))

-- one call has one refusal
same-refusal : {A : Type 0} {x : Result A Refusal} {e f : Refusal} → x ≡ Err e → x ≡ Err f → refusal_number e ≡ refusal_number f
same-refusal p q = cc

pub preview-refusals : (m : Memory) (n a : ℕ) (r : Refusal) → previewed m n a ≡ Err r → PreviewRefusal (refusal_number r)
preview-refusals m n a r h = by (preview-outcome m n a)
  where
    by : PreviewOutcome m n a → PreviewRefusal (refusal_number r)
    by (PreviewOutcome.little f e) = inl (inl (same-refusal h e))
    by (PreviewOutcome.ill w e) = inl (inr (same-refusal h e))
    by (PreviewOutcome.none l e) = inr (same-refusal h e)
    by (PreviewOutcome.unfinished f w l j e) = absurd (false≢true (cc))
    by (PreviewOutcome.finished f w l j v e) = absurd (false≢true (cc))

-- ---- print

pub print-refusals : (m : Memory) (n : ℕ) (bytes : List ℕ) (k at : ℕ) → print_answer m n bytes ≡ refused k at → PrintRefusal k × (at ≡ 0)
print-refusals m n bytes k at h = by (print-outcome m n bytes)
  where
    by : PrintOutcome m n bytes → PrintRefusal k × (at ≡ 0)
    by (PrintOutcome.little f e) = (inl (inl (inl (cc))), cc)
    by (PrintOutcome.ill w e) = (inl (inl (inr (cc))), cc)
    by (PrintOutcome.none l e) = (inl (inr (cc)), cc)
    by (PrintOutcome.cramped q l e) = (inr (inl (cc)), cc)
    by (PrintOutcome.long q l e) = (inr (inl (cc)), cc)
    by (PrintOutcome.unread q j p u e) = (inr (inl (cc)), cc)
    by (PrintOutcome.other r d e) = (inr (inr (cc)), cc)
    by (PrintOutcome.taken r d e) = absurd (false≢true (cc))

-- ---- for callers in C

pub open-zero : (m : Memory) (r : List ℤ) (m' : Memory) (c : ℕ) → OpensForC m r m' c → (c ≡ 0) ↔ (open_answer m r ≡ opened)
open-zero m r m' c o = by o.answer o.opens.answer o.numbers
  where
    by : (x : Opened) → open_reply x ≡ open_answer m r → c ≡ open_number x → (c ≡ 0) ↔ (open_answer m r ≡ opened)
    by (Ok done) e q = (λ z. sym e, λ h. q)
    by (Err x) e q = (λ z. absurd (refusal-some x (sym q ∙ z)), λ h. absurd (false≢true (cc)))

pub edit-zero : (m : Memory) (places text : List ℕ) (m' : Memory) (places' : List ℕ) (c : EditAnswer) → EditsForC m places text m' places' c
    → (c.refusal ≡ 0) ↔ IsEdited (edit_answer m places text)
edit-zero m places text m' places' c o = by o.answer o.edits.answer (ap (λ (y : EditAnswer). y.refusal) o.numbers)
  where
    by : (x : Result Edited Refused) → edit_reply x places' ≡ edit_answer m places text → c.refusal ≡ (edit_numbers x).refusal
        → (c.refusal ≡ 0) ↔ IsEdited (edit_answer m places text)
    by (Ok x) e q = (λ z. is-edited (sym e), λ h. q)
    by (Err x) e q = (λ z. absurd (refusal-some x.refusal (sym q ∙ z)), λ h. absurd (false≢true (not-edited (sym e) h)))

pub preview-zero : (m : Memory) (n a : ℕ) (m' : Memory) (c : PreviewAnswer) → PreviewsForC m n a m' c
    → (c.refusal ≡ 0) ↔ ((e : Refusal) → ¬ (previewed m n a ≡ Err e))
preview-zero m n a m' c o = by o.answer o.previews.answer (ap (λ (y : PreviewAnswer). y.refusal) o.numbers)
  where
    by : (x : Result Previewed Refusal) → x ≡ previewed m n a → c.refusal ≡ (preview_numbers x).refusal
        → (c.refusal ≡ 0) ↔ ((e : Refusal) → ¬ (previewed m n a ≡ Err e))
    by (Ok (NotYet j)) e q = (λ z k h. absurd (false≢true (cc)), λ h. q)
    by (Ok (Finished j v)) e q = (λ z k h. absurd (false≢true (cc)), λ h. q)
    by (Err x) e q = (λ z. absurd (refusal-some x (sym q ∙ z)), λ h. absurd (h x (sym e)))

pub print-zero : (m : Memory) (n : ℕ) (bytes bytes' : List ℕ) (c : PrintAnswer) → PrintsForC m n bytes bytes' c
    → (c.refusal ≡ 0) ↔ IsPrinted (print_answer m n bytes)
print-zero m n bytes bytes' c o = by o.answer o.prints.answer (ap (λ (y : PrintAnswer). y.refusal) o.numbers)
  where
    by : (x : Result ℕ Refusal) → PrintReply x (print_answer m n bytes) → c.refusal ≡ (print_numbers x).refusal
        → (c.refusal ≡ 0) ↔ IsPrinted (print_answer m n bytes)
    by (Ok l) e q = (λ z. (e.0, e.1), λ h. q)
    by (Err x) e q = (λ z. absurd (refusal-some x (sym q ∙ z)), λ h. let t = h.1 in absurd (false≢true (cc)))
