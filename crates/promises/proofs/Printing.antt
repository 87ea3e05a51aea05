-- 02, T-04: when a print is accepted, exactly, and when it is declined with 15 and with 16; that what it prints is read as the same form again, and
-- printed as the same text; and what it leaves of the lent bytes. Assumes nothing.
use Rattle.std.specs.Prelude.{◌≡◌, true, ◌↔◌, ◌⊎◌, List, [], ◌∷◌, map, ℕ, ◌-◌, ◌≤◌, ◌<◌, ltb, length, get_or, take, drop}
use Rattle.std.proofs.lemmas.Bool.{false≢true}
use Rattle.std.proofs.Math.Path.{refl, ap}
use Rattle.std.proofs.Common.{sym, ◌∙◌, inl, inr, ⊎_elim, arith, le-leb, le-ltb, ltb-true, ltb-false, take_at}
use Rattle.std.proofs.Math.Seq.{drop_at}
use Rattle.language.specs.Cases.{split}
use Rattle.language.specs.Limits.{text_bytes, text_parts, table_entries}
use Rattle.grammar.specs.Grammar.{Expression, spell_e}
use Rattle.grammar.specs.KeptLimits.{KeepsLimits}
use Rattle.grammar.specs.Reading.{tree, tokens_of}
use Rattle.grammar.specs.Machine.{read_text}
use Rattle.grammar.proofs.Theorems.{text-read-plainly}
use Rattle.meaning.specs.Forms.{Form, within}
use Rattle.meaning.specs.Binding.{form_of, forms_in_order}
use Rattle.printing.specs.Printed.{text_of}
use Rattle.printing.specs.Trees.{tree_of}
use Rattle.printing.specs.Bound.{Closed, Every}
use Rattle.printing.proofs.BoundLaws.{order-within}
use Rattle.printing.proofs.TokenLaws.{tokens-spelled}
use Rattle.printing.proofs.ReadBack.{reads-exactly}
use Rattle.printing.proofs.FormBack.{form-back}
use Rattle.model.specs.Lists.{All}
use Rattle.model.specs.Model.{refused, edited, printed, filled}
use Rattle.formulas.specs.Formulas.{formulas}
use Rattle.layout.specs.Memory.{Memory, entry_count}
use Rattle.table.specs.WellFormed.{well_formed}
use Rattle.records.specs.Records.{records_of}
use Rattle.interface.specs.Answers.{Reply}
use Rattle.interface.specs.Calls.{bound_to, edited_as, edited_memory, read_answer, read_memory, edit_answer, edit_memory, form_at, print_answer, print_bytes}
use Rattle.interface.specs.Acceptance.{Ready, InLanguage, Held, text_at}
use Rattle.interface.proofs.Outcomes.{is-edited, ReadsBack, PrintOutcome, print-outcome}
use Rattle.interface.proofs.AcceptanceLaws.{edit-accepted, read-in, not-read}
use Rattle.demand.proofs.Standing.{count-nodes}
use Rattle.demand.proofs.ReadBack.{whole_same}
use Rattle.demand.proofs.EditedForms.{HasForm, edited-form, nothing-new, not_full, unchanged}
use Rattle.demand.proofs.PrintedEntries.{entry-printable}
use Rattle.promises.proofs.Accepting.{edit-fits, edit-well}
use Rattle.promises.specs.Terms.{CanPrint, TextFits}

-- ---- the lent bytes

module _ (m : Memory) (n : ℕ) (bytes : List ℕ) where
  pub print-declined : (k at : ℕ) → print_answer m n bytes ≡ refused k at → print_bytes m n bytes ≡ bytes
  unfolding filled
  print-declined k at h = ap (λ (x : Reply). filled formulas x bytes) h

  pub print-outside : (t : List ℕ) → print_answer m n bytes ≡ printed t
      → (take (length t) (print_bytes m n bytes) ≡ t) × (drop (length t) (print_bytes m n bytes) ≡ drop (length t) bytes)
  unfolding filled
  print-outside t h = rw h (take_at t (drop (length t) bytes) (length t) refl, drop_at t (drop (length t) bytes) (length t) refl)

-- ---- when a print is accepted

module _ (m : Memory) (n : ℕ) (bytes : List ℕ) where
  -- a text that fits the bytes and is read
  read_back : ReadsBack m n bytes → ¬ ((length bytes < length (text_at m n)) ⊎ (¬ InLanguage (text_at m n)))
  read_back r c = ⊎_elim (λ l. let z = r.room in omega arith) (λ i. i (read-in (text_at m n) r.expression r.short r.read)) c

  module _ (t : List ℕ) where
    can-print : (r : ReadsBack m n bytes) → form_of r.expression ≡ form_at m n → text_at m n ≡ t → CanPrint m n bytes t
    can-print r d e =
        record {
          whole = r.held.whole;
          well = r.held.well;
          inside = r.held.inside;
          is = sym e;
          room = rw (← e) r.room;
          short = rw (← e) r.short;
          expression = r.expression;
          read = rw (← e) r.read;
          same = d;
        }

    pub print-accepted : (print_answer m n bytes ≡ printed t) ↔ CanPrint m n bytes t
    print-accepted = by (print-outcome m n bytes)
      where
        by : PrintOutcome m n bytes → (print_answer m n bytes ≡ printed t) ↔ CanPrint m n bytes t
        by (PrintOutcome.little f e) = (λ h. absurd (false≢true (cc)), λ c. absurd (false≢true (sym f ∙ c.whole)))
        by (PrintOutcome.ill w e) = (λ h. absurd (false≢true (cc)), λ c. absurd (false≢true (sym w ∙ c.well)))
        by (PrintOutcome.none l e) = (λ h. absurd (false≢true (cc)), λ c. let z = c.inside in absurd (omega arith))
        by (PrintOutcome.cramped q l e) = (λ h. absurd (false≢true (cc)), λ c. let z = c.room in let y = ap length c.is in absurd (omega arith))
        by (PrintOutcome.long q l e) = (λ h. absurd (false≢true (cc)), λ c. let z = c.short in let y = ap length c.is in absurd (omega arith))
        by (PrintOutcome.unread q j p u e) = (λ h. absurd (false≢true (cc)), λ c. let z = ap read_text (sym c.is) ∙ c.read in absurd (false≢true (cc)))
        by (PrintOutcome.other r d e) =
            (λ h. absurd (false≢true (cc)), λ c. let z = ap read_text (sym c.is) ∙ c.read in let x = r.read in let y : r.expression ≡ c.expression = cc in absurd (d (ap form_of y ∙ c.same)))
        by (PrintOutcome.taken r d e) = (λ h. can-print r d (cc), λ c. e ∙ ap printed (sym c.is))

  -- when it is declined with 15, and when with 16
  pub print-fifteen : (print_answer m n bytes ≡ refused 15 0) ↔ (Held m n × ((length bytes < length (text_at m n)) ⊎ (¬ InLanguage (text_at m n))))
  print-fifteen = by (print-outcome m n bytes)
    where
      by : PrintOutcome m n bytes → (print_answer m n bytes ≡ refused 15 0) ↔ (Held m n × ((length bytes < length (text_at m n)) ⊎ (¬ InLanguage (text_at m n))))
      by (PrintOutcome.little f e) = (λ h. absurd (false≢true (cc)), λ c. absurd (false≢true (sym f ∙ c.0.whole)))
      by (PrintOutcome.ill w e) = (λ h. absurd (false≢true (cc)), λ c. absurd (false≢true (sym w ∙ c.0.well)))
      by (PrintOutcome.none l e) = (λ h. absurd (false≢true (cc)), λ c. let z = c.0.inside in absurd (omega arith))
      by (PrintOutcome.cramped q l e) = (λ h. (q, inl l), λ c. e)
      by (PrintOutcome.long q l e) = (λ h. (q, inr (λ i. let z = i.0 in omega arith)), λ c. e)
      by (PrintOutcome.unread q j p u e) = (λ h. (q, inr (not-read (text_at m n) j p u)), λ c. e)
      by (PrintOutcome.other r d e) = (λ h. absurd (false≢true (cc)), λ c. absurd (read_back r c.1))
      by (PrintOutcome.taken r d e) = (λ h. absurd (false≢true (cc)), λ c. absurd (read_back r c.1))

  pub print-sixteen : (print_answer m n bytes ≡ refused 16 0)
      ↔ (Held m n × (length (text_at m n) ≤ length bytes) × InLanguage (text_at m n)
      × ((e : Expression) → read_text (text_at m n) ≡ tree e → ¬ (form_of e ≡ form_at m n)))
  print-sixteen = by (print-outcome m n bytes)
    where
      by : PrintOutcome m n bytes → (print_answer m n bytes ≡ refused 16 0)
          ↔ (Held m n × (length (text_at m n) ≤ length bytes) × InLanguage (text_at m n)
          × ((e : Expression) → read_text (text_at m n) ≡ tree e → ¬ (form_of e ≡ form_at m n)))
      by (PrintOutcome.little f e) = (λ h. absurd (false≢true (cc)), λ c. absurd (false≢true (sym f ∙ c.0.whole)))
      by (PrintOutcome.ill w e) = (λ h. absurd (false≢true (cc)), λ c. absurd (false≢true (sym w ∙ c.0.well)))
      by (PrintOutcome.none l e) = (λ h. absurd (false≢true (cc)), λ c. let z = c.0.inside in absurd (omega arith))
      by (PrintOutcome.cramped q l e) = (λ h. absurd (false≢true (cc)), λ c. let z = c.1 in absurd (omega arith))
      by (PrintOutcome.long q l e) = (λ h. absurd (false≢true (cc)), λ c. let z = c.2.0 in absurd (omega arith))
      by (PrintOutcome.unread q j p u e) = (λ h. absurd (false≢true (cc)), λ c. absurd (not-read (text_at m n) j p u c.2))
      by (PrintOutcome.other r d e) =
          (λ h. (r.held, r.room, read-in (text_at m n) r.expression r.short r.read, λ x u q. let y = r.read in let z : r.expression ≡ x = cc in d (ap form_of z ∙ q)), λ c. e)
      by (PrintOutcome.taken r d e) = (λ h. absurd (false≢true (cc)), λ c. absurd (c.3 r.expression r.read d))

-- ---- what the text of an entry is, whatever the cache

-- an entry of a well-formed cache
module _ (m : Memory) (n : ℕ) (w : well_formed m ≡ true) (h : n < entry_count m) where
  abbrev f : Form
  f = form_at m n

  pub print-tokens : tokens_of (text_at m n) ≡ spell_e (tree_of f) []
  print-tokens = tokens-spelled f (entry-printable m w n h)

  pub print-limits : (e : Expression) → (read_text (text_at m n) ≡ tree e) ↔ ((e ≡ tree_of f) × KeepsLimits (tree_of f))
  print-limits = reads-exactly f (entry-printable m w n h)

  pub print-closed : (form_of (tree_of f) ≡ f) ↔ Closed [] f
  print-closed = form-back f (entry-printable m w n h)

-- so in plain words: 15 is a text that is too long, or whose tree breaks a limit; 16 is a form that is not closed
module _ (m : Memory) (n : ℕ) (bytes : List ℕ) where
  abbrev g : Form
  g = form_at m n

  -- what is read is the form's own tree
  own-tree : (q : Held m n) (e : Expression) → read_text (text_at m n) ≡ tree e → (e ≡ tree_of g) × KeepsLimits (tree_of g)
  own-tree q e = (print-limits m n q.well q.inside e).0

  read_whole : Held m n → KeepsLimits (tree_of g) → read_text (text_at m n) ≡ tree (tree_of g)
  read_whole q k = (print-limits m n q.well q.inside (tree_of g)).1 (refl, k)

  in-language : Held m n → InLanguage (text_at m n) ↔ ((length (text_at m n) ≤ text_bytes) × KeepsLimits (tree_of g))
  in-language q =
      (λ i. (i.0, (own-tree q i.1.0 ((text-read-plainly (text_at m n) i.1.0).1 (i.1.1, i.1.2))).1), λ c. read-in (text_at m n) (tree_of g) c.0 (read_whole q c.1))

  pub print-plainly : ((t : List ℕ) × (print_answer m n bytes ≡ printed t)) ↔ (Held m n × TextFits m n bytes × Closed [] g)
  print-plainly = (λ x. given ((print-accepted m n bytes x.0).0 x.1), λ c. (text_at m n, (print-accepted m n bytes (text_at m n)).1 (back c)))
    where
      given : {t : List ℕ} → CanPrint m n bytes t → Held m n × TextFits m n bytes × Closed [] g
      given c =
          let q : Held m n = record { whole = c.whole; well = c.well; inside = c.inside } in
          let o = own-tree q c.expression (ap read_text (sym c.is) ∙ c.read) in
          let l = ap length c.is in
          let r = c.room in
          let s = c.short in
          (q, (omega arith, omega arith, o.1), (print-closed m n c.well c.inside).0 (ap form_of (sym o.0) ∙ c.same))

      back : Held m n × TextFits m n bytes × Closed [] g → CanPrint m n bytes (text_at m n)
      back (q, x, k) =
          record {
            whole = q.whole;
            well = q.well;
            inside = q.inside;
            is = refl;
            room = x.0;
            short = x.1;
            expression = tree_of g;
            read = read_whole q x.2;
            same = (print-closed m n q.well q.inside).1 k;
          }

  pub fifteen-plainly : (print_answer m n bytes ≡ refused 15 0) ↔ (Held m n × (¬ TextFits m n bytes))
  fifteen-plainly = (
    λ h. let c = (print-fifteen m n bytes).0 h in (c.0, λ x. ⊎_elim (λ l. let z = x.0 in omega arith) (λ i. i ((in-language c.0).1 (x.1, x.2))) c.1),
    λ c. (print-fifteen m n bytes).1 (c.0, why c.0 c.1),
  )
    where
      why : Held m n → ¬ TextFits m n bytes → (length bytes < length (text_at m n)) ⊎ (¬ InLanguage (text_at m n))
      why q out =
          split (ltb (length bytes) (length (text_at m n)))
          (λ e. inl (ltb-true (length bytes) (length (text_at m n)) e))
          (λ e. inr (λ i. let x = (in-language q).0 i in out (ltb-false (length bytes) (length (text_at m n)) e, x.0, x.1)))

  pub sixteen-plainly : (print_answer m n bytes ≡ refused 16 0) ↔ (Held m n × TextFits m n bytes × (¬ Closed [] g))
  sixteen-plainly = (
    λ h.
        let c = (print-sixteen m n bytes).0 h in
        let q = c.0 in
        let x = (in-language q).0 c.2 in
        (q, (c.1, x.0, x.1), λ k. c.3 (tree_of g) (read_whole q x.1) ((print-closed m n q.well q.inside).1 k)),
    λ c. let q = c.0 in
        (print-sixteen m n bytes).1
        (q, c.1.0, (in-language q).1 (c.1.1, c.1.2), λ e r d. c.2 ((print-closed m n q.well q.inside).0 (ap form_of (sym (own-tree q e r).0) ∙ d))),
  )

-- ---- what is printed is read as the same form

pub print-read : (m : Memory) (n : ℕ) (bytes t : List ℕ) → print_answer m n bytes ≡ printed t
    → (e : Expression) × (read_text t ≡ tree e) × (form_of e ≡ form_at m n)
print-read m n bytes t h = let c = (print-accepted m n bytes t).0 h in (c.expression, c.read, c.same)

-- an edit that none of 1, 3 and 4 declines, of a text that is read
record Binds (m : Memory) (places text : List ℕ) (e : Expression) : Type 0 where
  answer : edit_answer m places text ≡ edited_as m (records_of e) (bound_to m (records_of e))
  memory : edit_memory m places text ≡ edited_memory m (bound_to m (records_of e))

binds : (m : Memory) (places text : List ℕ) (e : Expression) → Ready m places text → read_text text ≡ tree e → Binds m places text e
unfolding edit_answer edit_memory read_answer read_memory
binds m places text e r h =
    let a = le-ltb text_bytes (length text) r.short in
    let b = le-leb text_parts (length places) r.room in
    let f = r.whole in
    let w = r.well in
    record { answer = rw (a, b, f, w, h); memory = rw (a, b, f, w, h) }

-- the entry that an accepted edit gives the whole stands for what was read
edited-whole : (m : Memory) (places text : List ℕ) (w p k : ℕ) (ns : List ℕ) → edit_answer m places text ≡ edited w p k ns
    → (e : Expression) → read_text text ≡ tree e → HasForm (edit_memory m places text) w (form_of e)
edited-whole m places text w p k ns h e r =
    let c = (edit-accepted m places text).0 (is-edited h) in
    let b = bound_to m (records_of e) in
    let x = c.read in
    let y : c.expression ≡ e = cc in
    let t = le-ltb table_entries (length b.nodes) (rw y at c.held) in
    let g = binds m places text e c.ready r in
    let z = rw t at (sym g.answer ∙ h) in
    let q : get_or b.numbers (records_of e).root 0 ≡ w = cc in
    rw g.memory (rw q at (edited-form m c.ready.well e ((text-read-plainly text e).0 r).1 c.ready.whole t))

pub print-again : (m : Memory) (n : ℕ) (bytes t : List ℕ) → print_answer m n bytes ≡ printed t
    → (m' : Memory) (places bytes' : List ℕ) (w p k : ℕ) (ns : List ℕ) → edit_answer m' places t ≡ edited w p k ns → length t ≤ length bytes'
    → print_answer (edit_memory m' places t) w bytes' ≡ printed t
print-again m n bytes t h m' places bytes' w p k ns g room =
    let c = (print-accepted m n bytes t).0 h in
    let r = ((edit-accepted m' places t).0 (is-edited g)).ready in
    let f = edited-whole m' places t w p k ns g c.expression c.read in
    (print-accepted (edit_memory m' places t) w bytes' t).1
    (record {
      whole = edit-fits m' places t ∙ r.whole;
      well = edit-well m' places t r.well;
      inside = f.inside;
      is = c.is ∙ ap text_of (sym c.same ∙ sym f.form);
      room = room;
      short = c.short;
      expression = c.expression;
      read = c.read;
      same = sym f.form;
    })

-- of each form, as printing and the model say it
all-every : (P : Form → Type 0) (fs : List Form) → Every P fs → All P fs
all-every P [] h = tt
all-every P (f ∷ fs) h = (h.0, all-every P fs h.1)

-- a printed text has no let: its forms are that of the whole and those below it
forms-inside : (m : Memory) (n : ℕ) (bytes t : List ℕ) (c : CanPrint m n bytes t) → All (λ (g : Form). within g (form_at m n) ≡ true) (forms_in_order c.expression)
forms-inside m n bytes t c =
    let f = form_at m n in
    let q = ((reads-exactly f (entry-printable m c.well n c.inside) c.expression).0 (ap read_text (sym c.is) ∙ c.read)).0 in
    let s = ap form_of (sym q) ∙ c.same in
    rw q (rw s at (all-every (λ (g : Form). within g (form_of (tree_of f)) ≡ true) (forms_in_order (tree_of f)) (order-within f)))

-- an edit with it gives the whole the entry's number, and changes nothing
pub print-edited : (m : Memory) (n : ℕ) (bytes t places : List ℕ) → print_answer m n bytes ≡ printed t → text_parts ≤ length places
    → (p : ℕ) × (ns : List ℕ) × (edit_answer m places t ≡ edited n p 0 ns) × (edit_memory m places t ≡ m)
print-edited m n bytes t places h room =
    let c = (print-accepted m n bytes t).0 h in
    let e = c.expression in
    let R = records_of e in
    let b = bound_to m R in
    let k = ((text-read-plainly t e).0 c.read).1 in
    let i = forms-inside m n bytes t c in
    let g = binds m places t e (record { short = c.short; whole = c.whole; room = room; well = c.well }) c.read in
    let x = not_full m c.well e k n c.inside i in
    let q = (whole_same m c.well e k n c.inside).1 c.same in
    let z : length b.nodes - entry_count m ≡ 0 = omega (arith, ap length (nothing-new m c.well e k n c.inside i), count-nodes m) in
    (length R.places, map (λ (j : ℕ). get_or b.numbers j 0) R.places, g.answer ∙ rw x (rw (q, z)), g.memory ∙ unchanged m c.well e k n c.inside i)
