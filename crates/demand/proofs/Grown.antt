-- An edit of any well-formed cache, whatever is kept in it, leaves a well-formed one: each entry that it appends is a part's form, is not held
-- yet, and has nothing kept. Assumes nothing.
use Rattle.std.specs.Prelude.{◌≡◌, refl, true, false, List, [], ◌∷◌, ◌++◌, map, ℕ, ◌+◌, ◌<◌, ◌≤◌, length, drop}
use Rattle.std.proofs.Common.{sym, ap, ◌∙◌, subst, append-nil, append_assoc, arith, ltb-false, length-append, drop_at}
use Rattle.std.proofs.lemmas.List.{map-append}
use Rattle.language.specs.Cases.{split}
use Rattle.language.specs.Limits.{table_entries}
use Rattle.grammar.specs.Grammar.{Expression}
use Rattle.grammar.specs.KeptLimits.{KeepsLimits}
use Rattle.grammar.specs.Reading.{Reading, tree, refused as refused_at}
use Rattle.grammar.specs.Machine.{read_text}
use Rattle.grammar.proofs.Theorems.{text-read-plainly}
use Rattle.meaning.specs.Forms.{Form, same}
use Rattle.meaning.specs.Binding.{form_of, forms_by_place, forms_in_order}
use Rattle.model.specs.Lists.{All, member, insert, insert_all, Distinct}
use Rattle.model.specs.ListLaws.{nth-below, nth-old, nth_seam}
use Rattle.model.specs.Graph.{form_at, Placed, AllPlaced, decode-snoc, decodes}
use Rattle.model.specs.Binder as Binder
use Rattle.model.specs.Model.{hold_all}
use Rattle.layout.specs.Memory.{Memory, Node, Entry, fits, entry_count, entries_of, nodes_of}
use Rattle.layout.specs.Nodes.{same_node, build}
use Rattle.table.specs.WellFormed.{has_node, well_formed}
use Rattle.table.specs.Awaits.{awaited_by, awaited_after}
use Rattle.table.specs.Bind.{Bound, append, append_all}
use Rattle.table.specs.Right.{node_right}
use Rattle.table.specs.CheckedLaws.{nodes-are as numbered-are}
use Rattle.binder.specs.AppendedLaws.{new_entry, append-fits, append-count, append-entries, append-all-fits, well-parts, append-well}
use Rattle.records.specs.Records.{records_of}
use Rattle.formulas.specs.Formulas.{formulas, parsed}
use Rattle.bridge.specs.Graphs.{nodes, graph-laws, equality}
use Rattle.bridge.specs.Recorded.{length-forms}
use Rattle.table.specs.EntryForms.{forms_of}
use Rattle.bridge.specs.Proper.{Proper}
use Rattle.bridge.specs.FormulaLaws.{readable}
use Rattle.interface.specs.Calls.{bound_to, too_many, edited_memory, read_memory}
use Rattle.demand.proofs.Standing.{stands-placed, count-nodes}
use Rattle.demand.proofs.Accepted.{kind-right, key_right_lem, level-right, arity-right, lower_by, has-at, awaited-by, awaited-after}
use Rattle.demand.proofs.Decoded.{one_number, nodes-apart, all_placed, forms-distinct}
use Rattle.demand.specs.Holds.{holds}
use Rattle.demand.proofs.Editing.{gs, fitted, new, nodes-are, dropped, added, grown-forms, sizes}

-- ---- one entry more

right-node : (i : ℕ) (n : Node) (φ : ℕ → Form) → Placed formulas nodes i n → Proper (build n φ) → node_right i n ≡ true
unfolding node_right
right-node i n φ p q = rw (kind-right n p.fine, key_right_lem n φ p.fine q.shape, level-right n p.fine, arity-right n p.fine, lower_by i n p.fine p.lower)

not-held : (n : Node) (ns ms : List Node) → Distinct same_node (ns ++ (n ∷ ms)) → has_node n ns ≡ false
not-held n ns ms d =
    split (has_node n ns)
    (λ e.
    let q = has-at n ns e in
    let l = nth-below ns q.0 n q.1 in
    let z = one_number equality (ns ++ (n ∷ ms)) d q.0 (length ns) n (nth-old ns (n ∷ ms) q.0 n q.1) (nth_seam ns n ms) in
    absurd (omega arith))
    (λ e. e)

module _ (m : Memory) (f : fits m ≡ true) (w : well_formed m ≡ true) where
  abbrev ns : List Node
  ns = nodes_of (entries_of m)

  abbrev fs : List Form
  fs = forms_of ns

  module _ (n : Node) (ms : List Node) (room : entry_count m < table_entries) (placed : AllPlaced formulas nodes 0 (ns ++ (n ∷ ms)))
      (apart : Distinct same_node (ns ++ (n ∷ ms)))
      (proper : Proper (build n (form_at formulas nodes fs))) where
    here : Placed formulas nodes (length ns) n
    here = (decodes formulas nodes graph-laws (ns ++ (n ∷ ms)) placed).placed (length ns) n (nth_seam ns n ms)

    few : length (awaited_by (awaited_after [] ns) n) ≤ 2
    few =
        let l = length-forms ns in
        rw (awaited-after [] ns (all_placed m (well-parts m w)), awaited-by fs n (λ j a. let k = here.lower j a in omega arith)) proper.few

    one-well : well_formed (append m n) ≡ true
    one-well =
        let e = numbered-are m.links m.cells 0 (entry_count m) in
        let c = count-nodes m in
        append-well m n f (well-parts m w) room (rw (← c) (right-node (length ns) n (form_at formulas nodes fs) here proper)) (rw (← e) (not-held n ns ms apart)) (rw (← e) few)

    nodes-more : nodes_of (entries_of (append m n)) ≡ ns ++ (n ∷ [])
    nodes-more = ap nodes_of (append-entries m n f room) ∙ map-append (λ (x : Entry). x.node) (entries_of m) (new_entry n ∷ [])

-- ---- all of them

appended : (m : Memory) (new : List Node) → fits m ≡ true → well_formed m ≡ true → entry_count m + length new ≤ table_entries
    → AllPlaced formulas nodes 0 (nodes_of (entries_of m) ++ new)
    → Distinct same_node (nodes_of (entries_of m) ++ new) → All Proper (Binder.record_forms formulas nodes (forms_of (nodes_of (entries_of m))) (map Binder.fresh new)) → well_formed (append_all m new) ≡ true
unfolding append_all Binder.record_forms Binder.record_form
appended m [] f w l p d q = w
appended m (n ∷ ms) f w l p d q =
    let room : entry_count m < table_entries = omega arith in
    let c = append-count m n f in
    let e = nodes-more m f w n ms room p d q.0 in
    let a : nodes_of (entries_of (append m n)) ++ ms ≡ nodes_of (entries_of m) ++ (n ∷ ms) = ap (λ (l : List Node). l ++ ms) e ∙ append_assoc (nodes_of (entries_of m)) (n ∷ []) ms in
    let g = ap forms_of e ∙ decode-snoc formulas nodes [] (nodes_of (entries_of m)) n in
    appended (append m n) ms (append-fits m n ∙ f) (one-well m f w n ms room p d q.0) (omega arith) (rw a p) (rw a d) (rw g q.1)

-- what is inserted is appended, as far as it is not there
record Extra (P : Form → Type 0) (ys xs : List Form) : Type 0 where
  new : List Form
  is : insert_all same ys xs ≡ xs ++ new
  all : All P new

extra : (P : Form → Type 0) (ys xs : List Form) → All P ys → Extra P ys xs
unfolding insert_all insert
extra P [] xs p = record { new = []; is = sym (append-nil xs); all = tt }
extra P (y ∷ ys) xs p =
    split (member same y xs)
    (λ e. let r = extra P ys xs p.1 in record { new = r.new; is = rw e r.is; all = r.all })
    (λ e. let r = extra P ys (xs ++ (y ∷ [])) p.1 in record { new = y ∷ r.new; is = rw e (r.is ∙ append_assoc xs (y ∷ []) r.new); all = (p.0, r.all) })

-- ---- the text's forms

module _ (m : Memory) (f : fits m ≡ true) (w : well_formed m ≡ true) (e : Expression) (k : KeepsLimits e) (proper : All Proper (forms_in_order e)) where
  abbrev held : AllPlaced formulas nodes 0 (nodes_of (entries_of m))
  held = all_placed m (well-parts m w)

  abbrev one : Distinct same (forms_of (nodes_of (entries_of m)))
  one = forms-distinct m (well-parts m w)

  abbrev b : Bound
  b = bound_to m (records_of e)

  added-proper : All Proper (added m held one e k)
  added-proper =
      let old = forms_of (nodes_of (entries_of m)) in
      let x = extra Proper (forms_in_order e) old proper in
      let q : x.new ≡ added m held one e k =
      sym (drop_at old x.new (length old) refl) ∙ ap (drop (length old)) (sym x.is ∙ grown-forms m held one e k) ∙ drop_at old (added m held one e k) (length old) refl in
      subst (All Proper) q x.all

  edited-well : well_formed (edited_memory m b) ≡ true
  edited-well =
      split (too_many b) (λ t. rw t w)
      (λ t.
      let s = fitted m held one e k in
      let is = nodes-are m held one e k in
      let l = ltb-false table_entries (length b.nodes) t in
      let c = count-nodes m in
      let z = ap length is ∙ length-append (nodes_of (entries_of m)) (new m held one e k) in
      rw (t, dropped m held one e k)
      (appended m (new m held one e k) f w (omega arith) (rw is at (stands-placed b.nodes (gs m held one e k) s.stands))
      (rw is at (nodes-apart b.nodes (gs m held one e k) s.stands s.distinct)) added-proper))

-- 01: entries held plus new forms
pub held-and-new : (m : Memory) → well_formed m ≡ true → (e : Expression) → KeepsLimits e
    → length (bound_to m (records_of e)).nodes ≡ length (hold_all formulas (forms_in_order e) (holds m).entries)
held-and-new m w e k = let p = well-parts m w in sizes m (all_placed m p) (forms-distinct m p) e k

-- a text that is read
pub read-well : (m : Memory) (text : List ℕ) → fits m ≡ true → well_formed m ≡ true → well_formed (read_memory m (read_text text)) ≡ true
unfolding read_memory parsed
read-well m text f w = by (read_text text) refl
  where
    by : (x : Reading) → read_text text ≡ x → well_formed (read_memory m x) ≡ true
    by (refused_at n at) h = w
    by (tree e) h = edited-well m f w e ((text-read-plainly text e).0 h).1 (readable text (forms_in_order e) (forms_by_place e) (form_of e) (rw h)).proper

pub read_fits : (m : Memory) (x : Reading) → fits (read_memory m x) ≡ fits m
unfolding read_memory
read_fits m (refused_at n at) = refl
read_fits m (tree e) =
    let b = bound_to m (records_of e) in
    split (too_many b) (λ t. rw t) (λ t. rw t (append-all-fits m (drop (entry_count m) b.nodes)))
