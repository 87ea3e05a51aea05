-- Laws of print, each with a premise for every call and test on the code's way: what the text would be read as, and the answers.
-- Assumes nothing.
use Rattle.std.proofs.Math.Path.{◌≡◌, refl}
use Rattle.std.proofs.lemmas.Bool.{false≢true}
use Rattle.std.proofs.Common.{sym, ap, ◌∙◌, arith, length-drop}
use Rattle.std.specs.Prelude.{true, false, List, [], ◌++◌, ℕ, ◌+◌, ◌-◌, ◌≤◌, ◌<◌, ◌%◌, min, eqb, ltb, ℤ, length, get_or, drop}
use borrow.Author.Tests.{eqb-true, eqb-false, ne_eqb, lt-ltb, le-ltb, ltb-true, ltb-false}
use Rattle.language.specs.Cases.{split}
use Rattle.language.specs.Limits.{text_bytes, table_entries}
use Rattle.grammar.specs.Reading.{Reading, tree}
use Rattle.grammar.specs.Machine.{read_text}
use Rattle.meaning.specs.Forms.{Form, same}
use Rattle.meaning.proofs.FormsLaws.{same-exactly}
use Rattle.meaning.specs.Binding.{form_of}
use Rattle.model.specs.Model.{rejects, reads_as, printing, filled}
use Rattle.formulas.specs.Formulas.{parsed, formulas}
use Rattle.layout.specs.Memory.{Memory, memory, fits, entry_count}
use Rattle.table.specs.EntryForms.{forms_of}
use Rattle.table.specs.WellFormed.{well_formed}
use Rattle.table.specs.CheckedLaws.{nodes-are}
use Rattle.binder.specs.AppendedLaws.{well-parts}
use Rattle.std.specs.Prelude.{Result, Ok, Err, IsErrAnd}
use Rattle.std.proofs.lemmas.Result.{err_from_is_err_and}
use Rattle.language.specs.declared.refusals.Refusal.{Refusal}
use Rattle.language.specs.declared.refusals.Refusal.TheVariants.{MemoryTooSmall, CacheIllFormed, NoSuchEntry, TextUnfit}
use Rattle.language.specs.Refusals.{refusal_number}
use Rattle.language.specs.RefusalsLaws.{refusal-some}
use Rattle.interface.specs.Calls.{form_at, print_answer}
use Rattle.interface.specs.Effects.{Prints}
use Rattle.interface.proofs.AnswersLaws.{prints-by}
use Rattle.planner.specs.Ready.{any-readings}
use Rattle.demand.proofs.PrintedEntries.{entry-printable, entry-saturated}
use Rattle.calls.specs.Previewing.{checked, accepted}
use Rattle.printing.specs.Printed.{text_of}
use Rattle.printing.specs.Trees.{tree_of}
use Rattle.printing.proofs.Printable.{Printable}
use Rattle.printing.proofs.ReadBack.{reads-exactly}
use Rattle.printing.proofs.FormBack.{form-back}
use Rattle.printing.specs.Judging.{declined, walked, refusal_of, verdict, Saturated}
use Rattle.printing.proofs.JudgingLaws.{Finds, walk-finds}
use Rattle.writer.specs.declared.page.Page.{Page}
use Rattle.writer.specs.Writing.{form_in, Tabled, Written}
use Rattle.printer.specs.TabledLaws.{tabled-right}
use Rattle.printer.specs.Printing.{judged, verdict_number, PrintsHeld}

-- ---- what the text would be read as

module _ (f : Form) (p : Printable f) (s : Saturated f) where
  abbrev found : ℕ
  found = walked 0 [] f 0

  finds : Finds f found
  finds = walk-finds f p s

  pub verdict-judged : verdict f ≡ judged f (text_of f)
  unfolding judged parsed refusal_of
  verdict-judged = by (read_text (text_of f)) refl
    where
      by : (r : Reading) → read_text (text_of f) ≡ r → verdict f ≡ judged f (text_of f)
      by (tree e) q =
          let x = (reads-exactly f p e).0 q in
          let kept = ne_eqb found declined (finds.keeps.1 x.1) in
          let closed = finds.closed x.1 in
          let again = same-exactly (form_of (tree_of f)) f in
          split (eqb (found % 2) 0)
          (λ z. let y = again.1 ((form-back f p).1 (closed.0 (eqb-true (found % 2) 0 z))) in rw (kept, z, q, x.0, y))
          (λ z. split (same (form_of (tree_of f)) f)
          (λ y. absurd (eqb-false (found % 2) 0 z (closed.1 ((form-back f p).0 (again.0 y)))))
          (λ y. rw (kept, z, q, x.0, y)))
      by (Reading.refused i j) q =
          split (eqb found declined)
          (λ z. rw (z, q))
          (λ z. let read = (reads-exactly f p (tree_of f)).1 (refl, finds.keeps.0 (eqb-false found declined z)) in absurd (false≢true (cc)))

-- ---- the entries that are written

module _ (rs : List ℤ) (heads links cells : List ℕ) where
  abbrev here : Memory
  here = memory rs heads links cells

  pub form_in_lem : (i : ℕ) → form_at here i ≡ form_in links cells (get_or heads 0 0) i
  form_in_lem i = ap (λ ns. get_or (forms_of ns) i Form.readings) (nodes-are links cells 0 (get_or heads 0 0))

  pub tabled : (well : well_formed here ≡ true) (count : ℕ) → count ≡ get_or heads 0 0 → Tabled links cells count
  tabled well count is =
      rw is (tabled-right links cells (get_or heads 0 0) (well-parts here well).few (well-parts here well).right)

-- ---- the answers

-- a text of l bytes, where the first test of 15 is of its length
module _ (m : Memory) (n : ℕ) (bytes : List ℕ) where
  abbrev t : List ℕ
  t = text_of (form_at m n)

  held-long : min (length bytes) text_bytes < length t → PrintsHeld m n bytes bytes (Err TextUnfit)
  unfolding printing filled
  held-long h =
      split (ltb (length bytes) (length t))
      (λ p. record { answer = rw p; filled = rw p })
      (λ p. let l = ltb-false (length bytes) (length t) p in
      let q = lt-ltb text_bytes (length t) (omega arith) in
      record { answer = rw (p, q); filled = rw (p, q) })

  -- a text that there is room for, by what it would be read as
  module _ (room : length t ≤ min (length bytes) text_bytes) where
    short : ltb (length bytes) (length t) ≡ false
    short = le-ltb (length bytes) (length t) (omega arith)

    brief : ltb text_bytes (length t) ≡ false
    brief = le-ltb text_bytes (length t) (omega arith)

    held-judged : (e : Refusal) → refusal_number e ≡ judged (form_at m n) t → PrintsHeld m n bytes bytes (Err e)
    unfolding printing filled judged
    held-judged f e =
        split (rejects formulas (parsed (read_text t)))
        (λ p. let q : refusal_number f ≡ 15 = rw p at e in record { answer = rw (short, brief, p, q); filled = rw (short, brief, p) })
        (λ p. split (reads_as formulas (form_at m n) (parsed (read_text t)))
        (λ r. absurd (refusal-some f (rw (p, r) at e)))
        (λ r. let q : refusal_number f ≡ 16 = rw (p, r) at e in record { answer = rw (short, brief, p, r, q); filled = rw (short, brief, p, r) }))

    held-printed : 0 ≡ judged (form_at m n) t → (bytes' : List ℕ) → bytes' ≡ t ++ drop (length t) bytes → (l : ℕ) → l ≡ length t → PrintsHeld m n bytes bytes' (Ok l)
    unfolding printing filled judged
    held-printed e bytes' b l q =
        split (rejects formulas (parsed (read_text t)))
        (λ p. absurd (let z : ◌≡◌ {A = ℕ} 0 15 = rw p at e in omega arith))
        (λ p. split (reads_as formulas (form_at m n) (parsed (read_text t)))
        (λ r. record { answer = (t, rw (short, brief, p, r), q); filled = rw (short, brief, p, r) b })
        (λ r. absurd (let z : ◌≡◌ {A = ℕ} 0 16 = rw (p, r) at e in omega arith)))

-- the text has room in the lent bytes, of which there are b
pub copies : (b room low : ℕ) (page : Page) (t : List ℕ) → room ≡ min b text_bytes → low ≡ text_bytes - room → Written low t page
    → length (drop page.at page.bytes) ≤ b
copies b room low page t q l w = let r = w.room in let y = page.whole in rw length-drop (omega arith)

-- as the code has them: the text stands at the end of a page that has room for as many bytes as are lent
module _ (heads links cells bytes : List ℕ) (entry count low : ℕ) (is : count ≡ get_or heads 0 0) (lower : low ≡ text_bytes - length bytes) (rs : List ℤ) where
  abbrev mem : Memory
  mem = memory rs heads links cells

  same-form : form_in links cells count entry ≡ form_at mem entry
  same-form = ap (λ (k : ℕ). form_in links cells k entry) is ∙ sym (form_in_lem rs heads links cells entry)

  pub held-stopped : text_bytes < low + length (text_of (form_in links cells count entry)) → PrintsHeld mem entry bytes bytes (Err TextUnfit)
  held-stopped h = held-long mem entry bytes (let q = ap (λ (f : Form). length (text_of f)) same-form in omega arith)

  module _ (page : Page) (w : Written low (text_of (form_in links cells count entry)) page) where
    text-is : drop page.at page.bytes ≡ text_of (form_at mem entry)
    text-is = w.text ∙ ap text_of same-form

    fits-room : length (text_of (form_at mem entry)) ≤ min (length bytes) text_bytes
    fits-room =
        let z = w.room in
        let q = sym (ap length text-is) ∙ length-drop page.at page.bytes in
        let l = page.whole in
        let i = page.inside in
        omega arith

    pub held-copies : length (drop page.at page.bytes) ≤ length bytes
    held-copies = copies (length bytes) (min (length bytes) text_bytes) low page _ refl (omega arith) w

    module _ (well : well_formed mem ≡ true) (held : entry < get_or heads 0 0) (k : Result (Unit {0}) Refusal)
        (e : verdict_number k ≡ verdict (form_in links cells count entry)) where
      judged-is : verdict_number k ≡ judged (form_at mem entry) (text_of (form_at mem entry))
      judged-is = e ∙ ap verdict same-form ∙ verdict-judged (form_at mem entry) (entry-printable mem well entry held) (entry-saturated mem well entry held)

      pub held-refused : (f : Refusal) → k ≡ Err f → (x : Result ℕ Refusal) → IsErrAnd x (λ g. g ≡ f) → PrintsHeld mem entry bytes bytes x
      held-refused f u x w =
          let y = err_from_is_err_and x w in
          rw (y.1, y.2) (held-judged mem entry bytes fits-room f (rw u at judged-is))

      pub held-done : (done : Unit {0}) → k ≡ Ok done → (text bytes' : List ℕ) → text ≡ drop page.at page.bytes → bytes' ≡ text ++ drop (length text) bytes
          → (l : ℕ) → l ≡ length text → PrintsHeld mem entry bytes bytes' (Ok l)
      held-done done u text bytes' t b l q =
          let z : text ≡ text_of (form_at mem entry) = t ∙ text-is in
          held-printed mem entry bytes fits-room (rw u at judged-is) bytes' (rw z at b) l (q ∙ ap length z)

-- the whole call
pub print-refused : (m : Memory) (n : ℕ) (bytes : List ℕ) (r : Result (Unit {0}) Refusal) → r ≡ checked m n → (e : Refusal) → r ≡ Err e
    → (x : Result ℕ Refusal) → IsErrAnd x (λ f. f ≡ e) → Prints m n bytes bytes x
unfolding print_answer checked filled
print-refused m n bytes r q e u x w =
    let y = err_from_is_err_and x w in
    rw (y.1, y.2) (split (fits m)
    (λ f. split (well_formed m)
    (λ w. split (ltb n (entry_count m))
    (λ l. absurd (false≢true (let z = rw (f, w, l) at q in cc)))
    (λ l. let z : e ≡ NoSuchEntry = (let k = rw (f, w, l) at q in cc) in prints-by m n bytes bytes (Err e) (rw (f, w, l, z)) (rw (f, w, l))))
    (λ w. let z : e ≡ CacheIllFormed = (let k = rw (f, w) at q in cc) in prints-by m n bytes bytes (Err e) (rw (f, w, z)) (rw (f, w))))
    (λ f. let z : e ≡ MemoryTooSmall = (let k = rw f at q in cc) in prints-by m n bytes bytes (Err e) (rw (f, z)) (rw f)))

module _ (rs : List ℤ) (heads links cells : List ℕ) (n : ℕ) (r : Result (Unit {0}) Refusal) (e : r ≡ checked (memory rs heads links cells) n)
    (done : Unit {0}) (z : r ≡ Ok done) where
  pub print-done : (bytes bytes' : List ℕ) (x : Result ℕ Refusal) → PrintsHeld (memory rs heads links cells) n bytes bytes' x
      → Prints (memory rs heads links cells) n bytes bytes' x
  unfolding print_answer
  print-done bytes bytes' x p =
      let a = accepted (memory rs heads links cells) n (sym e ∙ z) in
      let f = a.whole in
      let w = a.well in
      let l = a.held in
      prints-by (memory rs heads links cells) n bytes bytes' x (rw (f, w, l) p.answer) (rw (f, w, l) p.filled)

  pub print-ready : (n < get_or heads 0 0) × ((xs : List ℤ) → well_formed (memory xs heads links cells) ≡ true) × (get_or heads 0 0 ≤ table_entries)
  print-ready =
      let a = accepted (memory rs heads links cells) n (sym e ∙ z) in
      (ltb-true n (get_or heads 0 0) a.held, any-readings rs heads links cells a.well, (well-parts (memory rs heads links cells) a.well).few)
