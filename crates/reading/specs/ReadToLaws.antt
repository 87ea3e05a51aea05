-- Why the reader leaves what its text was read into. Assumes nothing.
use Rattle.std.proofs.Math.Path.{◌≡◌}
use Rattle.std.specs.Prelude.{refl, List, [], ◌∷◌, ℕ, suc, ◌*◌, ◌/◌, ◌%◌, ◌<◌, eqb, length, get_or, drop, Result, Ok, Err}
use Rattle.std.proofs.Common.{sym, ap, ◌∙◌, arith, eqb-true, length-append, length-drop, take_at}
use Rattle.std.proofs.lemmas.Bool.{eqb-false}
use Rattle.language.specs.Limits.{text_parts}
use Rattle.language.specs.Cases.{split}
use Rattle.language.specs.declared.refusals.Refused.{Refused}
use Rattle.language.specs.Refusals.{refusal_number, text_refusal}
use Rattle.language.specs.RefusalsLaws.{refusal-numbered}
use Rattle.grammar.specs.Tokens.{when}
use Rattle.grammar.specs.Grammar.{Expression}
use Rattle.grammar.specs.Reading.{tree, refused as refused_at}
use Rattle.grammar.specs.Machine.{read_text}
use Rattle.grammar.proofs.Theorems.{text-read-plainly, text-number}
use Rattle.model.specs.Lists.{All}
use Rattle.layout.specs.Memory.{Node}
use Rattle.layout.specs.Numbered.{numbered}
use Rattle.layout.specs.Held.{record_at, text_words, kind_base, record_base}
use Rattle.records.specs.Records.{records_of}
use Rattle.bridge.specs.Recorded.{unfolds, levels-low}
use Rattle.descent.specs.Descent.{State, read_into}
use Rattle.descent.specs.Decoding as D
use Rattle.descent.specs.Theorems.{Held, Result as Result-of, into}
use Rattle.reader.specs.Results.{ReadsInto, answer_of, no_binders}
use Rattle.reader.specs.declared.answer.Read.{Read}
use Rattle.reading.specs.ReadTo.{ReadTo}

-- The records that the reader wrote are those that binding reads.
record_same : (cells : List ℕ) (r : ℕ) → (D.record_at cells r).level < record_base → record_at cells r ≡ D.record_at cells r
unfolding record_at D.record_at
record_same cells r h =
    let w = get_or cells (2 * r) 0 / (kind_base * record_base * record_base) in
    let z : w % record_base ≡ w = omega arith in
    rw z

records-same : (cells : List ℕ) (r : ℕ) (ns : List Node) → All (λ (n : Node). n.level < 2) ns → D.records_from cells r (length ns) ≡ ns
    → numbered (record_at cells) r (length ns) ≡ ns
unfolding numbered D.records_from
records-same cells r [] h e = refl
records-same cells r (n ∷ ns) h e =
    let q : D.record_at cells r ≡ n = cc in
    let u : D.records_from cells (suc r) (length ns) ≡ ns = cc in
    let s = h.0 in
    let v : (D.record_at cells r).level < record_base = rw q (omega arith) in
    rw (record_same cells r v, q, records-same cells (suc r) ns h.1 u)

-- What the reader answers, by the text.
held-read : (text R P : List ℕ) (x : Expression) (s : State) (n size root : ℕ) (R' P' : List ℕ) → read_text text ≡ tree x → Held R P x s
    → length P ≡ text_parts
    → s.cursor.parts ≡ n → s.cursor.count ≡ size → s.cursor.root ≡ root → R' ≡ s.records → P' ≡ s.places → ReadTo text n size root R' P'
held-read text R P x s n size root R' P' q h lp qn qs qr q_r q_p =
    let limits = ((text-read-plainly text x).0 q).1 in
    let u = unfolds x limits in
    let parts : n ≡ length (records_of x).places = sym qn ∙ h.parts in
    let count : size ≡ length (records_of x).records = sym qs ∙ h.count in
    let whole : root ≡ (records_of x).root = sym qr ∙ h.root in
    let decoded : D.records_from s.records 0 (length (records_of x).records) ≡ (records_of x).records = rw h.count at h.decoded in
    record {
      expression = x;
      reads = q;
      records = rw (q_r, count) (records-same s.records 0 (records_of x).records (levels-low x limits) decoded);
      places = rw (q_p, h.places) (take_at (records_of x).places (drop s.cursor.parts P) n (sym parts));
      parts = parts;
      whole = whole;
      low = omega (arith, u.low);
      inside = rw count u.inside;
      few = omega (arith, h.few_parts);
      small = omega (arith, h.few_parts, h.few_records);
      room = rw (q_p, h.places) (simp (length-append, length-drop) (omega (arith, h.parts, h.few_parts)));
    }

module _ (text R P : List ℕ) (r : Result Read Refused) (R' P' : List ℕ) (reading : ReadsInto text R P r R' P') (lr : length R ≡ text_words)
    (lp : length P ≡ text_parts) where
  abbrev after : State
  after = read_into text R P no_binders

  result : Result-of text R P after
  result = into text R P no_binders lr lp refl

  module _ (f : Refused) (e : r ≡ Err f) where
    refusal : (after.cursor.number ≡ 0 → ⊥) × (text_refusal after.cursor.number ≡ f.refusal) × (after.cursor.place ≡ f.place)
    unfolding answer_of when
    refusal =
        split (eqb after.cursor.number 0)
        (λ q. let z = rw q at reading.answer in absurd (cc))
        (λ q. let z = rw q at reading.answer in (eqb-false after.cursor.number 0 q, cc, cc))

    declined : read_text text ≡ refused_at after.cursor.number after.cursor.place
    declined = result.declines refusal.0

    numbered-so : after.cursor.number ≡ refusal_number f.refusal
    numbered-so = sym (refusal-numbered after.cursor.number (text-number text after.cursor.number after.cursor.place declined)) ∙ ap refusal_number refusal.1

    pub read_number : (refusal_number f.refusal ≡ 0 → ⊥)
    read_number z = refusal.0 (numbered-so ∙ z)

    pub read-refused : read_text text ≡ refused_at (refusal_number f.refusal) f.place
    read-refused = declined ∙ rw (numbered-so, refusal.2)

  module _ (a : Read) (e : r ≡ Ok a) where
    counts : (after.cursor.number ≡ 0) × (after.cursor.parts ≡ a.parts) × (after.cursor.count ≡ a.records) × (after.cursor.root ≡ a.root)
    unfolding answer_of when
    counts =
        split (eqb after.cursor.number 0)
        (λ q. let z = rw q at reading.answer in (eqb-true after.cursor.number 0 q, cc, cc, cc))
        (λ q. let z = rw q at reading.answer in absurd (cc))

    pub read_done : ReadTo text a.parts a.records a.root R' P'
    read_done =
        let x = result.accepts counts.0 in
        held-read text R P x.0 after a.parts a.records a.root R' P' x.1 (result.reads x.0 x.1) lp counts.1 counts.2 counts.3
        reading.records reading.places
