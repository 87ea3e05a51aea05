-- The paths of evaluate: each refusal in its order, and what the part shows. Assumes nothing.
use Rattle.std.specs.Prelude.{◌≡◌, List, ℕ, ◌≤◌, ◌<◌, ℤ, length, get_or, Result, Ok, Err, IsErrAnd}
use Rattle.std.proofs.Math.Path.{sym}
use Rattle.std.proofs.Common.{◌∙◌, arith}
use Rattle.std.proofs.lemmas.Result.{err_from_is_err_and}
use Rattle.language.specs.Limits.{text_bytes, text_parts, table_readings}
use Rattle.language.specs.declared.refusals.Refusal.TheVariants.{TextTooLong, RecordingTooLong, NoSuchEntry}
use Rattle.language.specs.declared.refusals.Refused.{Refused}
use Rattle.language.specs.Refusals.{refusal_number}
use Rattle.grammar.proofs.Theorems.{text-read-plainly, text-number}
use Rattle.model.specs.Lists.{All}
use Rattle.model.specs.ListLaws.{all-nth, nth-has, getD-nth}
use Rattle.meaning.specs.Forms.{Form, readings}
use Rattle.meaning.specs.Binding.{forms_by_place}
use Rattle.layout.specs.Held.{record_at, text_words}
use Rattle.schedule.specs.declared.View.{View}
use Rattle.reader.specs.Results.{ReadsInto}
use Rattle.reader.specs.declared.answer.Read.{Read}
use Rattle.reading.specs.ReadTo.{ReadTo}
use Rattle.reading.specs.ReadToLaws.{read-refused, read_done}
use Rattle.interface.specs.declared.answers.Evaluated.{Evaluated}
use Rattle.interface.specs.Answers.{declined}
use Rattle.interface.specs.Calls.{evaluated}
use Rattle.interface.proofs.EvaluateLaws.{evaluate-one, evaluate-two, evaluate-read, evaluate-fourteen, evaluate-shows}
use Rattle.interpreter.specs.Standing.{Stands}
use Rattle.direct.specs.Bindable.{Bindable}
use Rattle.direct.specs.BindableLaws.{text-bindable}
use Rattle.direct.specs.Interpreted.{shown-shows}
use Rattle.direct.specs.Standing.{stands_at, parts_are, part-below}
use Rattle.direct.specs.Showing.{Showable, ShownAs}

module _ (text : List ℕ) (xs : List ℤ) (p : ℕ) where
  pub too_long : text_bytes < length text → (e : Refused) → e ≡ declined TextTooLong 0 → Err e ≡ evaluated text xs p
  too_long h e w = rw w (sym ((evaluate-one text xs p).1 h))

  module _ (short : length text ≤ text_bytes) where
    pub too_many : table_readings < length xs → (e : Refused) → e ≡ declined RecordingTooLong 0 → Err e ≡ evaluated text xs p
    too_many h e w = rw w (sym ((evaluate-two text xs p).1 (short, h)))

    module _ (few : length xs ≤ table_readings) (R P : List ℕ) (answer : Result Read Refused) (R' P' : List ℕ) (read : ReadsInto text R P answer R' P')
        (lr : length R ≡ text_words) (lp : length P ≡ text_parts) where
      pub unread : (e : Refused) → answer ≡ Err e → (x : Result Evaluated Refused) → IsErrAnd x (λ f. f ≡ e) → x ≡ evaluated text xs p
      unread e z x w =
          let y = err_from_is_err_and x w in
          let q = read-refused text R P answer R' P' read lr lp e z in
          let n = text-number text (refusal_number e.refusal) e.place q in
          rw (y.1, y.2) (sym ((evaluate-read text xs p e.refusal e.place n.0 n.1).1 (short, few, q)))

      module _ (a : Read) (e : answer ≡ Ok a) where
        to : ReadTo text a.parts a.records a.root R' P'
        to = read_done text R P answer R' P' read lr lp a e

        count : a.parts ≡ length (forms_by_place to.expression)
        count = parts_are text a.parts a.records a.root R' P' to

        pub no_part : a.parts ≤ p → (f : Refused) → f ≡ declined NoSuchEntry 0 → Err f ≡ evaluated text xs p
        no_part h f w = rw w (sym ((evaluate-fourteen text xs p).1 (short, few, (to.expression, to.reads, rw (← count) h))))

        module _ (h : p < a.parts) where
          bindable : All Bindable (forms_by_place to.expression)
          bindable = text-bindable to.expression ((text-read-plainly text to.expression).0 to.reads).1

          abbrev form : Form
          form = get_or (forms_by_place to.expression) p readings

          stands : Stands (record_at R') (get_or P' p 0) form
          stands = stands_at text a.parts a.records a.root R' P' to bindable p h

          one : Bindable form
          one =
              let there = nth-has (forms_by_place to.expression) p (rw (← count) h) in
              rw (getD-nth (forms_by_place to.expression) p there.0 readings there.1)
              (all-nth Bindable (forms_by_place to.expression) p there.0 bindable there.1)

          pub part-there : p < text_parts
          part-there = omega (arith, to.few)

          pub part-shows : Showable xs R' (get_or P' p 0)
          part-shows =
              record { few = few; low = omega (arith, part-below text a.parts a.records a.root R' P' to p h, to.small); form = form; stands = stands }

          pub part-shown : (v : View) → ShownAs xs R' (get_or P' p 0) v → Ok (record { parts = a.parts; shown = v }) ≡ evaluated text xs p
          part-shown v s =
              sym (evaluate-shows text xs p to.expression short few to.reads (rw (← count) h)
              ∙ rw (← count, s form stands, shown-shows xs form one))
