-- An edit of a cache that was opened and kept answers as the model does and leaves what the model holds. Assumes nothing.
use Rattle.std.specs.Prelude.{◌≡◌, refl, true, false, not, List, [], ◌∷◌, ◌++◌, map, ℕ, ◌-◌, ◌<◌, leb, ltb, length, get_or, drop, take}
use Rattle.std.proofs.lemmas.Bool.{false≢true}
use Rattle.std.proofs.Common.{sym, ap, ◌∙◌, subst, inl, arith, ltb-false, leb-true, leb-false, lt-ltb, le-ltb, length-append, drop_at}
use Rattle.std.proofs.lemmas.List.{map-append, length-map}
use Rattle.std.proofs.Math.Option.{some}
use Rattle.language.specs.Cases.{split}
use Rattle.language.specs.Limits.{text_bytes, text_parts, table_entries}
use Rattle.grammar.specs.Grammar.{Expression}
use Rattle.grammar.specs.KeptLimits.{KeepsLimits}
use Rattle.grammar.specs.Reading.{Reading, tree, refused as refused_at}
use Rattle.grammar.specs.Machine.{read_text}
use Rattle.grammar.proofs.Theorems.{text-read-plainly}
use Rattle.meaning.specs.Forms.{Form, readings, same}
use Rattle.meaning.specs.Binding.{form_of, forms_by_place, forms_in_order}
use Rattle.model.specs.Lists.{All, index, insert_all, Distinct}
use Rattle.model.specs.ListLaws.{nth-has, nth-below, getD-nth, all_append}
use Rattle.model.specs.Model as Model
use Rattle.model.specs.Model.{Answer, refused, edited}
use Rattle.model.specs.Entries.{forms-hold_all, hold_all-as}
use Rattle.model.specs.Invariant.{Invariant}
use Rattle.model.specs.Graph.{AllPlaced, decodes}
use Rattle.model.specs.Binder as Binder
use Rattle.layout.specs.Memory.{Memory, Node, Entry, fits, entry_count, entries_of, nodes_of}
use Rattle.table.specs.WellFormed.{well_formed}
use Rattle.table.specs.Bind.{Bound, append_all}
use Rattle.records.specs.Records.{Recorded, records_of}
use Rattle.formulas.specs.Formulas.{formulas, parsed}
use Rattle.bridge.specs.Graphs.{nodes, graph-laws}
use Rattle.bridge.specs.Recorded.{form_in, length-forms, decode-append, Unfolds, unfolds}
use Rattle.table.specs.EntryForms.{forms_of}
use Rattle.bridge.specs.FormulaLaws.{formula-laws}
use Rattle.interface.specs.Calls.{bound_to, edited_as, edited_memory, read_answer, read_memory, edit_answer, edit_memory}
use Rattle.demand.specs.Holds.{with_marks, holds, Ok, Written}
use Rattle.demand.proofs.Bound.{relink_by, relinks, as_bound, all_same, forms-same, valid_same}
use Rattle.binder.specs.AppendedLaws.{new_entry}
use Rattle.demand.proofs.Appended.{lengths, long-enough, entries-length, Grown, grown}
use Rattle.demand.proofs.Standing.{stands-placed, decoded, more, forms-joined, joined-append, size-held, count-nodes}

-- the entries held, before a record is bound
abbrev held : Memory → Bound
held m = record { nodes = nodes_of (entries_of m); numbers = [] }

pub record Done (m : Memory) (o : Model.Outcome formulas) (x : Answer formulas) : Type 0 where
  pub answer : x ≡ o.answer
  pub ok : Ok m
  pub holds : holds m ≡ o.state

-- a memory that is kept as it was
kept : (m : Memory) → Ok m → (n at : ℕ) → Done m (Model.refuse formulas n at (holds m)) (refused n at)
kept m o n at = record { answer = refl; ok = o; holds = refl }

-- entries that stand for distinct forms, and the text's records bound to them
module _ (m : Memory) (placed : AllPlaced formulas nodes 0 (nodes_of (entries_of m))) (apart : Distinct same (forms_of (nodes_of (entries_of m)))) (e : Expression) (k : KeepsLimits e) where
  abbrev ns : List Node
  ns = nodes_of (entries_of m)

  abbrev fs : List Form
  fs = forms_of ns

  abbrev R : Recorded
  R = records_of e

  abbrev b : Bound
  b = bound_to m R

  abbrev pub gs : List Form
  gs = insert_all same (forms_in_order e) fs

  u : Unfolds e R
  u = unfolds e k

  first : Binder.Fits formulas nodes relink_by (as_bound (held m)) [] fs
  first =
      record {
        stands = decodes formulas nodes graph-laws ns placed;
        distinct = apart;
        size = refl;
        numbered = λ j f h. absurd (false≢true (let l = nth-below [] j f h in absurd (omega arith)));
      }

  record-forms : Binder.record_forms formulas nodes [] (map Binder.fresh R.records) ≡ forms_of R.records
  record-forms = sym (forms-same [] R.records)

  pub fitted : Binder.Fits formulas nodes relink_by (as_bound b) (forms_of R.records) gs
  fitted =
      let f = Binder.fits_all formulas nodes relink_by graph-laws formula-laws.tests relinks (as_bound (held m)) [] fs (map Binder.fresh R.records) first (valid_same 0 R.records u.placed) in
      let f₂ =
      subst
      (λ (c : Binder.Bound formulas nodes relink_by). Binder.Fits formulas nodes relink_by c
      ([] ++ Binder.record_forms formulas nodes [] (map Binder.fresh R.records))
      (insert_all same (Binder.record_forms formulas nodes [] (map Binder.fresh R.records)) fs))
      (sym (all_same (held m) R.records)) f in
      let f₃ = subst (λ (rf : List Form). Binder.Fits formulas nodes relink_by (as_bound b) rf (insert_all same rf fs)) record-forms f₂ in
      subst (λ (l : List Form). Binder.Fits formulas nodes relink_by (as_bound b) (forms_of R.records) l) (u.order fs) f₃

  -- the nodes appended, and their forms
  abbrev pub new : List Node
  new = (more (held m) R.records).new

  pub nodes-are : b.nodes ≡ ns ++ new
  nodes-are = (more (held m) R.records).is

  pub dropped : drop (entry_count m) b.nodes ≡ new
  dropped = ap (drop (entry_count m)) nodes-are ∙ drop_at ns new (entry_count m) (count-nodes m)

  abbrev pub added : List Form
  added = Binder.record_forms formulas nodes fs (map Binder.fresh new)

  pub grown-forms : gs ≡ fs ++ added
  grown-forms = decoded b.nodes gs fitted.stands ∙ ap forms_of nodes-are ∙ decode-append [] ns new ∙ forms-same fs new

  -- the entries that the model holds then
  abbrev pub es : List (Model.Entry formulas)
  es = Model.hold_all formulas (forms_in_order e) (holds m).entries

  held-forms : Model.forms formulas (holds m).entries ≡ fs
  held-forms = forms-joined fs (entries_of m) (size-held m)

  new-forms : Model.forms formulas es ≡ gs
  new-forms = forms-hold_all formulas (forms_in_order e) (holds m).entries ∙ ap (insert_all same (forms_in_order e)) held-forms

  pub sizes : length b.nodes ≡ length es
  sizes = fitted.stands.size ∙ ap length (sym new-forms) ∙ length-map es (λ (x : Model.Entry formulas). x.form)

  numbered : (j : ℕ) → j < length R.records → get_or b.numbers j 0 ≡ Model.number_of formulas es (form_in R.records j)
  numbered j h =
      let l = length-forms R.records in
      let x = nth-has (forms_of R.records) j (omega arith) in
      Binder.number_is formulas nodes relink_by graph-laws formula-laws.tests relinks (as_bound b) (forms_of R.records) gs fitted j
      (form_in R.records j) (x.1 ∙ ap some (sym (getD-nth (forms_of R.records) j x.0 readings x.1)))
      ∙ ap (index same (form_in R.records j)) (sym new-forms)

  all-numbered : (ps : List ℕ) → All (λ (p : ℕ). p < length R.records) ps → map (λ (j : ℕ). get_or b.numbers j 0) ps ≡ map (Model.number_of formulas es) (map (form_in R.records) ps)
  all-numbered [] h = refl
  all-numbered (p ∷ ps) h = λ t. numbered p h.0 t ∷ all-numbered ps h.1 t

  counted : entry_count m ≡ length (holds m).entries
  counted =
      sym (entries-length m.links m.cells 0 (entry_count m)) ∙ sym (size-held m) ∙ ap length (sym held-forms)
      ∙ length-map (holds m).entries (λ (x : Model.Entry formulas). x.form)

  added-length : length added ≡ length new
  added-length =
      let a = fitted.stands.size in
      let c = ap length nodes-are ∙ length-append ns new in
      let d = ap length grown-forms ∙ length-append fs added in
      let f = length-forms ns in
      omega arith

  entries-are : es ≡ (holds m).entries ++ map (Model.unmarked formulas) added
  entries-are = hold_all-as formulas (forms_in_order e) (holds m).entries added (ap (insert_all same (forms_in_order e)) held-forms ∙ grown-forms ∙ ap (λ (l : List Form). l ++ added) (sym held-forms))

  nodes-new : (l : List Node) → nodes_of (map new_entry l) ≡ l
  nodes-new [] = refl
  nodes-new (n ∷ l) = ap (λ (r : List Node). n ∷ r) (nodes-new l)

  -- the entries after an edit that is accepted, in memory of the cache's size
  module _ (whole : fits m ≡ true) (h : ltb table_entries (length b.nodes) ≡ false) where
    pub grows : Grown m (append_all m new) new
    grows =
        let room = ltb-false table_entries (length b.nodes) h in
        let all = ap length nodes-are ∙ length-append ns new in
        let cn = count-nodes m in
        grown m new (lengths m whole) (omega arith)

    pub nodes-after : nodes_of (entries_of (append_all m new)) ≡ b.nodes
    nodes-after =
        ap nodes_of grows.entries ∙ map-append (λ (x : Entry). x.node) (entries_of m) (map new_entry new) ∙ ap (λ (l : List Node). ns ++ l) (nodes-new new)
        ∙ sym nodes-are

    pub forms-after : forms_of (nodes_of (entries_of (append_all m new))) ≡ gs
    forms-after = ap forms_of nodes-after ∙ sym (decoded b.nodes gs fitted.stands)

  -- of a cache that was opened and kept
  module _ (o : Ok m) where
    written_new : (l : List Node) → All Written (map new_entry l)
    written_new [] = tt
    written_new (n ∷ l) = (inl refl, written_new l)

    accepted : ltb table_entries (length b.nodes) ≡ false
        → Done (append_all m new) (Model.edited_to formulas (holds m) es (forms_by_place e) (form_of e))
        (edited (get_or b.numbers R.root 0) (length R.places) (length b.nodes - entry_count m) (map (λ (j : ℕ). get_or b.numbers j 0) R.places))
    accepted h =
        let G = grows o.whole h in
        let ge = G.entries in
        let gn = nodes-after o.whole h in
        let gf : forms_of (nodes_of (entries_of (append_all m new))) ≡ fs ++ added = forms-after o.whole h ∙ grown-forms in
        record {
          answer =
              λ t.
              edited ((numbered R.root u.low ∙ ap (Model.number_of formulas es) u.whole) t) ((sym (length-map R.places (form_in R.records)) ∙ ap length u.places) t)
              ((ap (λ (l : ℕ). l - entry_count m) sizes ∙ ap (λ (c : ℕ). length es - c) counted) t)
              ((all-numbered R.places u.inside ∙ ap (map (Model.number_of formulas es)) u.places) t);
          ok =
              record {
                whole = long-enough (append_all m new) G.long;
                readings = rw G.readings o.readings;
                placed = rw gn (stands-placed b.nodes gs fitted.stands);
                written = rw ge (all_append Written (entries_of m) (map new_entry new) o.written (written_new new));
              };
          holds =
              λ t.
              record {
                recording = take (G.readings t) (G.same t);
                entries =
                    ((λ j. with_marks (gf j) (ge j))
                    ∙ joined-append fs added (entries_of m) new (size-held m) added-length
                    ∙ sym entries-are) t;
              };
        }

    done : Done (edited_memory m b) (Model.refuse_if formulas (ltb table_entries (length es)) 13 (holds m) (Model.edited_to formulas (holds m) es (forms_by_place e) (form_of e))) (edited_as m R b)
    done =
        split (ltb table_entries (length b.nodes))
        (λ q. let q' : ltb table_entries (length es) ≡ true = rw sizes at q in rw (q, q') (kept m o 13 0))
        (λ q. let q' : ltb table_entries (length es) ≡ false = rw sizes at q in rw (q, q', dropped) (accepted q))

-- the whole call
places-test : (n : ℕ) → not (leb text_parts n) ≡ ltb n text_parts
places-test n =
    split (leb text_parts n)
    (λ e. let l = leb-true text_parts n e in ap not e ∙ sym (le-ltb n text_parts l))
    (λ e. let l = leb-false text_parts n e in ap not e ∙ sym (lt-ltb n text_parts l))

pub editing : (m : Memory) (places text : List ℕ) → Ok m → Invariant formulas formula-laws (holds m) → well_formed m ≡ true
    → Done (edit_memory m places text) (Model.on_edit formulas (holds m) true places text) (edit_answer m places text)
unfolding edit_memory edit_answer read_memory read_answer parsed Model.on_edit Model.bind
editing m places text o i w =
    let f = o.whole in
    split (ltb text_bytes (length text))
    (λ p. rw p (kept m o 1 0))
    (λ p.
    rw (p, f, w)
    (split (leb text_parts (length places))
    (λ q. let t = sym (places-test (length places)) ∙ ap not q in rw (q, t) (reading (read_text text) refl))
    (λ q. let t = sym (places-test (length places)) ∙ ap not q in rw (q, t) (kept m o 3 0))))
  where
    reading : (x : Reading) → read_text text ≡ x → Done (read_memory m x) (Model.bind formulas (holds m) (parsed x)) (read_answer m x)
    reading (tree e) h = done m o.placed (rw (forms-joined _ (entries_of m) (size-held m)) at i.distinct) e ((text-read-plainly text e).0 h).1 o
    reading (refused_at n at) h = kept m o n at
