-- 02, T-07: when evaluate is accepted, with which numbers it is refused where it is not, and when each of these comes up, exactly: by the cases of
-- Outcomes. Assumes nothing.
use Rattle.std.specs.Prelude.{◌≡◌, ◌↔◌, List, ℕ, ◌≤◌, ◌<◌, ℤ, get_or}
use Rattle.std.proofs.lemmas.Bool.{false≢true}
use Rattle.std.proofs.Common.{sym, ap, ◌∙◌, inl, inr, arith}
use borrow.Author.Tests.{le-ltb, lt-ltb}
use Rattle.std.proofs.Math.ListN.{length}
use Rattle.language.specs.Limits.{text_bytes, table_readings}
use Rattle.grammar.specs.Grammar.{Expression}
use Rattle.grammar.specs.Reading.{Reading, tree, refused as refused_at}
use Rattle.grammar.specs.Machine.{read_text}
use Rattle.grammar.proofs.Theorems.{text-number}
use Rattle.meaning.specs.Forms.{readings}
use Rattle.meaning.specs.Binding.{forms_by_place}
use Rattle.meaning.specs.Evaluation.{shows}
use Rattle.std.specs.Prelude.{Result, Ok, Err}
use Rattle.language.specs.declared.refusals.Refusal.{Refusal}
use Rattle.language.specs.declared.refusals.Refusal.TheVariants.{TextTooLong, RecordingTooLong, NoSuchEntry}
use Rattle.language.specs.declared.refusals.Refused.{Refused}
use Rattle.language.specs.Refusals.{refusal_number}
use Rattle.interface.specs.declared.answers.Evaluated.{Evaluated}
use Rattle.interface.specs.declared.answers.EvaluateAnswer.{EvaluateAnswer}
use Rattle.interface.specs.Answers.{declined, evaluate_numbers}
use Rattle.interface.specs.Views.{view_of}
use Rattle.interface.specs.Calls.{read_evaluated, evaluated}
use Rattle.interface.specs.Effects.{EvaluatesForC}
use Rattle.interface.specs.Acceptance.{EvaluateRefusal, ReadWith}
use Rattle.interface.proofs.Outcomes.{EvaluateOutcome, evaluate-outcome}
use Rattle.language.specs.RefusalsLaws.{refusal-some, refusal-numbered, refusal-back}
use Rattle.interface.proofs.AcceptanceLaws.{unread-range}

-- an answer has one refusal and one place
same-refusal : {A : Type 0} {x : Result A Refused} {e f : Refusal} {i j : ℕ} → x ≡ Err (declined e i) → x ≡ Err (declined f j) → refusal_number e ≡ refusal_number f
same-refusal {e = e} {f = f} {i = i} {j = j} p q = let z : declined e i ≡ declined f j = cc in ap (λ (y : Refused). refusal_number y.refusal) z

same-place : {A : Type 0} {x : Result A Refused} {e f : Refusal} {i j : ℕ} → x ≡ Err (declined e i) → x ≡ Err (declined f j) → i ≡ j
same-place {e = e} {f = f} {i = i} {j = j} p q = let z : declined e i ≡ declined f j = cc in ap (λ (y : Refused). y.place) z

pub evaluate-refusals : (text : List ℕ) (r : List ℤ) (p : ℕ) (f : Refusal) (at : ℕ) → evaluated text r p ≡ Err (declined f at)
    → EvaluateRefusal text (refusal_number f) at
evaluate-refusals text r p f at h = by (evaluate-outcome text r p)
  where
    by : EvaluateOutcome text r p → EvaluateRefusal text (refusal_number f) at
    by (EvaluateOutcome.long l e) = inl (inl (inl (same-refusal h e)), same-place h e)
    by (EvaluateOutcome.many l q e) = inl (inl (inr (same-refusal h e)), same-place h e)
    by (EvaluateOutcome.unread k i s u e) =
        let a = same-refusal h e ∙ refusal-numbered k (text-number text k i u) in
        inr (unread-range text (refusal_number f) at (rw (sym a, sym (same-place h e)) at u))
    by (EvaluateOutcome.none t s u l e) = inl (inr (same-refusal h e), same-place h e)
    by (EvaluateOutcome.taken t s u l e) = absurd (false≢true (cc))

module _ (text : List ℕ) (r : List ℤ) (p : ℕ) where
  -- neither 1 nor 2 comes up
  once-read : (x : Reading) → length text ≤ text_bytes → length r ≤ table_readings → read_text text ≡ x → evaluated text r p ≡ read_evaluated r p x
  unfolding evaluated
  once-read x short few h = rw (le-ltb text_bytes (length text) short, le-ltb table_readings (length r) few, h)

  pub evaluate-shows : (e : Expression) → length text ≤ text_bytes → length r ≤ table_readings → read_text text ≡ tree e → p < length (forms_by_place e)
      → evaluated text r p ≡ Ok (record { parts = length (forms_by_place e); shown = view_of (shows r (get_or (forms_by_place e) p readings)) })
  unfolding read_evaluated
  evaluate-shows e short few read inside = once-read (tree e) short few read ∙ rw (lt-ltb p (length (forms_by_place e)) inside)

  pub evaluate-accepted : ((x : Evaluated) × (evaluated text r p ≡ Ok x)) ↔ ReadWith text r (λ e. p < length (forms_by_place e))
  evaluate-accepted =
      (λ h. by h.1 (evaluate-outcome text r p), λ c. (_, evaluate-shows c.2.0 c.0 c.1 c.2.1 c.2.2))
    where
      by : {x : Evaluated} → evaluated text r p ≡ Ok x → EvaluateOutcome text r p → ReadWith text r (λ e. p < length (forms_by_place e))
      by h (EvaluateOutcome.long l e) = absurd (false≢true (cc))
      by h (EvaluateOutcome.many l q e) = absurd (false≢true (cc))
      by h (EvaluateOutcome.unread k i s u e) = absurd (false≢true (cc))
      by h (EvaluateOutcome.none t s u l e) = absurd (false≢true (cc))
      by h (EvaluateOutcome.taken t s u l e) = (s.short, s.few, (t, u, l))

  -- an answer has one refusal, and a text's are 5 to 12: so no two of these cases come up at once
  pub evaluate-one : (evaluated text r p ≡ Err (declined TextTooLong 0)) ↔ (text_bytes < length text)
  unfolding evaluated
  evaluate-one = (λ h. by h (evaluate-outcome text r p), λ l. rw (lt-ltb text_bytes (length text) l))
    where
      by : evaluated text r p ≡ Err (declined TextTooLong 0) → EvaluateOutcome text r p → text_bytes < length text
      by h (EvaluateOutcome.long l e) = l
      by h (EvaluateOutcome.many l q e) = let z = same-refusal e h in absurd (omega arith)
      by h (EvaluateOutcome.unread k i s u e) = let z = same-refusal e h in let y = text-number text k i u in let w = refusal-numbered k y in absurd (omega arith)
      by h (EvaluateOutcome.none t s u l e) = let z = same-refusal e h in absurd (omega arith)
      by h (EvaluateOutcome.taken t s u l e) = absurd (false≢true (cc))

  pub evaluate-two : (evaluated text r p ≡ Err (declined RecordingTooLong 0)) ↔ ((length text ≤ text_bytes) × (table_readings < length r))
  unfolding evaluated
  evaluate-two = (λ h. by h (evaluate-outcome text r p), λ c. rw (le-ltb text_bytes (length text) c.0, lt-ltb table_readings (length r) c.1))
    where
      by : evaluated text r p ≡ Err (declined RecordingTooLong 0) → EvaluateOutcome text r p → (length text ≤ text_bytes) × (table_readings < length r)
      by h (EvaluateOutcome.long l e) = let z = same-refusal e h in absurd (omega arith)
      by h (EvaluateOutcome.many l q e) = (l, q)
      by h (EvaluateOutcome.unread k i s u e) = let z = same-refusal e h in let y = text-number text k i u in let w = refusal-numbered k y in absurd (omega arith)
      by h (EvaluateOutcome.none t s u l e) = let z = same-refusal e h in absurd (omega arith)
      by h (EvaluateOutcome.taken t s u l e) = absurd (false≢true (cc))

  pub evaluate-read : (f : Refusal) (at : ℕ) → 5 ≤ refusal_number f → refusal_number f ≤ 12
      → (evaluated text r p ≡ Err (declined f at))
      ↔ ((length text ≤ text_bytes) × (length r ≤ table_readings) × (read_text text ≡ refused_at (refusal_number f) at))
  unfolding read_evaluated
  evaluate-read f at least most = (
    λ h. by h (evaluate-outcome text r p),
    λ c. once-read (refused_at (refusal_number f) at) c.0 c.1 c.2 ∙ ap (λ (g : Refusal). Err (declined g at)) (refusal-back f least most),
  )
    where
      by : evaluated text r p ≡ Err (declined f at) → EvaluateOutcome text r p
          → (length text ≤ text_bytes) × (length r ≤ table_readings) × (read_text text ≡ refused_at (refusal_number f) at)
      by h (EvaluateOutcome.long l e) = let z = same-refusal e h in absurd (omega arith)
      by h (EvaluateOutcome.many l q e) = let z = same-refusal e h in absurd (omega arith)
      by h (EvaluateOutcome.unread k i s u e) =
          let a = same-refusal h e ∙ refusal-numbered k (text-number text k i u) in
          (s.short, s.few, rw (sym a, sym (same-place h e)) at u)
      by h (EvaluateOutcome.none t s u l e) = let z = same-refusal e h in absurd (omega arith)
      by h (EvaluateOutcome.taken t s u l e) = absurd (false≢true (cc))

  pub evaluate-fourteen : (evaluated text r p ≡ Err (declined NoSuchEntry 0)) ↔ ReadWith text r (λ e. length (forms_by_place e) ≤ p)
  unfolding read_evaluated
  evaluate-fourteen = (
    λ h. by h (evaluate-outcome text r p),
    λ c. let e = c.2.0 in once-read (tree e) c.0 c.1 c.2.1 ∙ rw (le-ltb p (length (forms_by_place e)) c.2.2),
  )
    where
      by : evaluated text r p ≡ Err (declined NoSuchEntry 0) → EvaluateOutcome text r p → ReadWith text r (λ e. length (forms_by_place e) ≤ p)
      by h (EvaluateOutcome.long l e) = let z = same-refusal e h in absurd (omega arith)
      by h (EvaluateOutcome.many l q e) = let z = same-refusal e h in absurd (omega arith)
      by h (EvaluateOutcome.unread k i s u e) = let z = same-refusal e h in let y = text-number text k i u in let w = refusal-numbered k y in absurd (omega arith)
      by h (EvaluateOutcome.none t s u l e) = (s.short, s.few, (t, u, l))
      by h (EvaluateOutcome.taken t s u l e) = absurd (false≢true (cc))

  -- for callers in C
  pub evaluate-zero : (c : EvaluateAnswer) → EvaluatesForC text r p c → (c.refusal ≡ 0) ↔ ((x : Evaluated) × (evaluated text r p ≡ Ok x))
  evaluate-zero c o = by o.answer o.evaluates (ap (λ (y : EvaluateAnswer). y.refusal) o.numbers)
    where
      by : (x : Result Evaluated Refused) → x ≡ evaluated text r p → c.refusal ≡ (evaluate_numbers x).refusal
          → (c.refusal ≡ 0) ↔ ((x : Evaluated) × (evaluated text r p ≡ Ok x))
      by (Ok x) e q = (λ z. (x, sym e), λ h. q)
      by (Err f) e q = (λ z. absurd (refusal-some f.refusal (sym q ∙ z)), λ h. let z = h.1 in absurd (false≢true (cc)))
