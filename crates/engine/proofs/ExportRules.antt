-- What the proofs of the calls for C cite: the numbers of each case of an answer, and that a call's promise for C is its promise in numbers.
-- Assumes nothing.
use mathlib.Core.Path.{◌≡◌, refl, sym, ap, subst}
use mathlib.Core.Bool.{◌&&◌}
use mathlib.Core.List.{List}
use Prim.Native.Nat.{ℕ, ◌≤◌, ◌<◌}
use native.Mathlib.Omega.{arith}
use borrow.Author.Tests.{ltb-false}
use lib.Dec.{leb, ltb}
use lib.IntN.{ℤ}
use lib.ListN.{length}
use Rattle.language.specs.Cases.{split}
use Rattle.language.specs.Limits.{text_bytes, text_parts}
use Rattle.grammar.specs.Reading.{Reading, tree, refused as refused_at}
use Rattle.grammar.specs.Machine.{read_text}
use Rattle.model.specs.Model.{refused, opened, edited, not_yet, finished, printed}
use Rattle.layout.specs.Memory.{Memory, fits}
use Rattle.table.specs.WellFormed.{well_formed}
use Rattle.records.specs.Records.{records_of}
use Rattle.formulas.specs.Formulas.{parsed}
use Rattle.bridge.specs.FormulaLaws.{formula-laws}
use Rattle.std.specs.Prelude.{Result, Ok, Err}
use Rattle.language.specs.declared.refusals.Refusal.{Refusal}
use Rattle.language.specs.declared.refusals.Refused.{Refused}
use Rattle.interface.specs.declared.answers.Edited.{Edited}
use Rattle.interface.specs.declared.answers.Previewed.{Previewed}
use Rattle.interface.specs.declared.answers.Evaluated.{Evaluated}
use Rattle.interface.specs.declared.answers.EditAnswer.{EditAnswer}
use Rattle.interface.specs.declared.answers.PreviewAnswer.{PreviewAnswer}
use Rattle.interface.specs.declared.answers.PrintAnswer.{PrintAnswer}
use Rattle.interface.specs.declared.answers.EvaluateAnswer.{EvaluateAnswer}
use Rattle.interface.specs.Answers.{Reply, Opened, open_number, edit_numbers, preview_numbers, print_numbers, evaluate_numbers}
use Rattle.interface.specs.Calls.{too_many, bound_to, read_answer, edit_answer, evaluated}
use Rattle.interface.proofs.Outcomes.{EvaluateOutcome, evaluate-outcome}
use Rattle.interface.proofs.AcceptanceLaws.{unread-range}
use Rattle.interface.specs.Effects.{Opens, Edits, Previews, Prints, OpensForC, EditsForC, PreviewsForC, PrintsForC, EvaluatesForC, PlaceFits}

-- the place of a refusal is one of the text's, or its end
abbrev ReplyFits : Reply → Type 0
ReplyFits (refused n at) = at < 4294967296
ReplyFits opened = Unit {0}
ReplyFits (edited whole parts added numbers) = Unit {0}
ReplyFits (not_yet k) = Unit {0}
ReplyFits (finished k v) = Unit {0}
ReplyFits (printed t) = Unit {0}

read-place : (m : Memory) (text : List ℕ) (x : Reading) → read_text text ≡ x → length text ≤ text_bytes → ReplyFits (read_answer m x)
unfolding read_answer parsed
read-place m text (refused_at n at) e h = let r = (formula-laws.rejected text n at h (ap parsed e)).inside in omega arith
read-place m text (tree t) e h = split (too_many (bound_to m (records_of t))) (λ p. rw p (omega arith)) (λ p. rw p tt)

answer-place : (m : Memory) (places text : List ℕ) → ReplyFits (edit_answer m places text)
unfolding edit_answer
answer-place m places text =
    split (ltb text_bytes (length text)) (λ p. rw p (omega arith))
    (λ p. split (fits m && leb text_parts (length places))
    (λ q. split (well_formed m) (λ w. rw (p, q, w) (read-place m text (read_text text) refl (ltb-false text_bytes (length text) p))) (λ w. rw (p, q, w) (omega arith)))
    (λ q. rw (p, q) (omega arith)))

pub place-fits : (m : Memory) (places text : List ℕ) (m' : Memory) (places' : List ℕ) (x : Result Edited Refused) → Edits m places text m' places' x → PlaceFits x
place-fits m places text m' places' (Ok x) h = tt
place-fits m places text m' places' (Err e) h = subst ReplyFits (sym h.answer) (answer-place m places text)

pub evaluated-fits : (text : List ℕ) (r : List ℤ) (p : ℕ) (x : Result Evaluated Refused) → x ≡ evaluated text r p → PlaceFits x
evaluated-fits text r p x e = subst PlaceFits (sym e) (by (evaluate-outcome text r p))
  where
    by : EvaluateOutcome text r p → PlaceFits (evaluated text r p)
    by (EvaluateOutcome.long l e) = subst PlaceFits (sym e) (omega arith)
    by (EvaluateOutcome.many l q e) = subst PlaceFits (sym e) (omega arith)
    by (EvaluateOutcome.unread n at s u e) = let i = (unread-range text n at u).1 in subst PlaceFits (sym e) (omega (arith, s.short))
    by (EvaluateOutcome.none t s u l e) = subst PlaceFits (sym e) (omega arith)
    by (EvaluateOutcome.taken t s u l e) = subst PlaceFits (sym e) tt

-- the promises
pub opens-for-c : (m : Memory) (recording : List ℤ) (m' : Memory) (x : Opened) (r : ℕ) → Opens m recording m' x → r ≡ open_number x → OpensForC m recording m' r
opens-for-c m recording m' x r h e = record { answer = x; opens = h; numbers = e }

pub edits-for-c : (m : Memory) (places text : List ℕ) (m' : Memory) (places' : List ℕ) (x : Result Edited Refused) (r : EditAnswer)
    → Edits m places text m' places' x → r ≡ edit_numbers x → EditsForC m places text m' places' r
edits-for-c m places text m' places' x r h e = record { answer = x; edits = h; numbers = e }

pub previews-for-c : (m : Memory) (n a : ℕ) (m' : Memory) (x : Result Previewed Refusal) (r : PreviewAnswer) → Previews m n a m' x → r ≡ preview_numbers x → PreviewsForC m n a m' r
previews-for-c m n a m' x r h e = record { answer = x; previews = h; numbers = e }

pub prints-for-c : (m : Memory) (n : ℕ) (bytes bytes' : List ℕ) (x : Result ℕ Refusal) (r : PrintAnswer) → Prints m n bytes bytes' x → r ≡ print_numbers x
    → PrintsForC m n bytes bytes' r
prints-for-c m n bytes bytes' x r h e = record { answer = x; prints = h; numbers = e }

pub evaluates-for-c : (text : List ℕ) (recording : List ℤ) (p : ℕ) (x : Result Evaluated Refused) (r : EvaluateAnswer) → x ≡ evaluated text recording p → r ≡ evaluate_numbers x
    → EvaluatesForC text recording p r
evaluates-for-c text recording p x r h e = record { answer = x; evaluates = h; numbers = e }

pub ruleset exports = (evaluated-fits, opens-for-c, edits-for-c, previews-for-c, prints-for-c, evaluates-for-c)
