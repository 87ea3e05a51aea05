-- What an edit of any well-formed cache leaves, whatever is kept in it: the entry with the whole's number stands for the whole's form; and where
-- each of the text's forms is the form of one entry or lies below it, the cache stays as it was. Assumes nothing.
use Rattle.std.specs.Prelude.{◌≡◌, refl, true, false, List, [], ◌∷◌, ◌++◌, ℕ, zero, suc, ◌<◌, length, get_or}
use Rattle.std.proofs.Common.{ap, ◌∙◌, append-nil, ⊎_elim, arith, le-ltb, length-append}
use Rattle.std.proofs.Math.Path.{subst}
use Rattle.std.proofs.Math.Option.{some}
use Rattle.std.proofs.Math.ListN.{drop, get_elem?}
use Rattle.std.proofs.Math.Seq.{drop-length}
use Rattle.language.specs.Limits.{table_entries}
use Rattle.grammar.specs.Grammar.{Expression}
use Rattle.grammar.specs.KeptLimits.{KeepsLimits}
use Rattle.meaning.specs.Forms.{Form, readings, same, dependency, within}
use Rattle.meaning.proofs.FormsLaws.{within-only}
use Rattle.meaning.specs.Binding.{form_of, forms_in_order}
use Rattle.model.specs.Lists.{All, member, insert_all, Distinct}
use Rattle.model.specs.ListLaws.{nth-below, getD-nth, member-nth, insert-old}
use Rattle.model.specs.Graph.{AllPlaced, decodes}
use Rattle.layout.specs.Memory.{Memory, fits, entry_count, node_at, entries_of, nodes_of}
use Rattle.table.specs.EntryForms.{forms_of}
use Rattle.table.specs.WellFormed.{well_formed}
use Rattle.table.specs.Bind.{Bound, append_all}
use Rattle.binder.specs.AppendedLaws.{well-parts}
use Rattle.records.specs.Records.{records_of}
use Rattle.formulas.specs.Formulas.{formulas}
use Rattle.bridge.specs.Graphs.{nodes, graph-laws}
use Rattle.bridge.specs.Recorded.{length-forms}
use Rattle.bridge.specs.FormulaLaws.{tests}
use Rattle.interface.specs.Calls.{bound_to, too_many, edited_memory, form_at}
use Rattle.demand.proofs.Standing.{count-nodes}
use Rattle.demand.proofs.Needs.{node-nth}
use Rattle.demand.proofs.Decoded.{all_placed, forms-distinct}
use Rattle.demand.proofs.Editing.{fitted, new, nodes-are, dropped, forms-after}
use Rattle.demand.proofs.ReadBack.{form-nth, forms-right, at-whole}

-- entry n is held and stands for the form f
pub record HasForm (m : Memory) (n : ℕ) (f : Form) : Type 0 where
  pub inside : n < entry_count m
  pub form : form_at m n ≡ f

has-form : (m : Memory) (n : ℕ) (f : Form) → get_elem? (forms_of (nodes_of (entries_of m))) n ≡ some f → HasForm m n f
has-form m n f h =
    let l = nth-below (forms_of (nodes_of (entries_of m))) n f h in
    let k = length-forms (nodes_of (entries_of m)) in
    record { inside = omega (arith, count-nodes m); form = getD-nth (forms_of (nodes_of (entries_of m))) n f readings h }

-- ---- what lies at or below the form of an entry is the form of an entry

module _ (m : Memory) (w : well_formed m ≡ true) where
  abbrev fs : List Form
  fs = forms_of (nodes_of (entries_of m))

  lower : (n : ℕ) → n < entry_count m → (d : Form) → dependency d (form_at m n) ≡ true → (j : ℕ) × (j < n) × (form_at m j ≡ d)
  lower n h d a =
      let x = node_at m.links m.cells n in
      let p = (decodes formulas nodes graph-laws (nodes_of (entries_of m)) (all_placed m (well-parts m w))).placed n x (node-nth m n h) in
      let j = graph-laws.each x (form_at m) d p.fine (rw (forms-right m w n h) at a) in
      (j.0, p.lower j.0 j.1, j.2)

  below : (k n : ℕ) → n < k → n < entry_count m → (g : Form) → within g (form_at m n) ≡ true → member same g fs ≡ true
  below zero n l h g r = absurd (omega arith)
  below (suc k) n l h g r =
      ⊎_elim (λ q. rw q (member-nth tests.equality fs n (form_at m n) (form-nth m n h)))
      (λ q. let j = lower n h q.0 q.1 in let less = j.1 in below k j.0 (omega arith) (omega arith) g (rw j.2 q.2))
      (within-only g (form_at m n) r)

-- forms that are held are not inserted
held_all : (ys xs : List Form) → All (λ (y : Form). member same y xs ≡ true) ys → insert_all same ys xs ≡ xs
unfolding insert_all
held_all [] xs h = refl
held_all (y ∷ ys) xs h = rw (insert-old tests.equality y xs h.0) (held_all ys xs h.1)

-- nothing is appended to a list of the same length
same_size : {A : Type 0} (xs ys zs : List A) → zs ≡ xs ++ ys → length zs ≡ length xs → zs ≡ xs
same_size xs [] zs e l = e ∙ append-nil xs
same_size xs (y ∷ ys) zs e l = let k = ap length e ∙ length-append xs (y ∷ ys) in absurd (omega arith)

-- ---- the records of a text, bound to the entries

module _ (m : Memory) (w : well_formed m ≡ true) (e : Expression) (k : KeepsLimits e) where
  abbrev placed : AllPlaced formulas nodes 0 (nodes_of (entries_of m))
  placed = all_placed m (well-parts m w)

  abbrev apart : Distinct same (forms_of (nodes_of (entries_of m)))
  apart = forms-distinct m (well-parts m w)

  abbrev b : Bound
  b = bound_to m (records_of e)

  -- the entry with the whole's number
  pub edited-form : fits m ≡ true → too_many b ≡ false → HasForm (edited_memory m b) (get_or b.numbers (records_of e).root 0) (form_of e)
  edited-form f t =
      rw (t, dropped m placed apart e k)
      (has-form (append_all m (new m placed apart e k)) _ (form_of e)
      (ap (λ (l : List Form). get_elem? l (get_or b.numbers (records_of e).root 0)) (forms-after m placed apart e k f t) ∙ at-whole m w e k))

  -- where all forms of the text lie at or below that of entry n
  module _ (n : ℕ) (h : n < entry_count m) (inside : All (λ (g : Form). within g (form_at m n) ≡ true) (forms_in_order e)) where
    held : (gs : List Form) → All (λ (g : Form). within g (form_at m n) ≡ true) gs → All (λ (g : Form). member same g (fs m w) ≡ true) gs
    held [] a = tt
    held (g ∷ gs) a = (below m w (suc n) n (omega arith) h g a.0, held gs a.1)

    pub nothing-new : b.nodes ≡ nodes_of (entries_of m)
    nothing-new =
        let s = (fitted m placed apart e k).stands.size in
        let g = ap length (held_all (forms_in_order e) (fs m w) (held (forms_in_order e) inside)) in
        let l = length-forms (nodes_of (entries_of m)) in
        same_size (nodes_of (entries_of m)) (new m placed apart e k) b.nodes (nodes-are m placed apart e k) (omega arith)

    pub not_full : too_many b ≡ false
    not_full =
        let few = (well-parts m w).few in
        let c = count-nodes m in
        rw nothing-new (le-ltb table_entries (length (nodes_of (entries_of m))) (omega arith))

    pub unchanged : edited_memory m b ≡ m
    unfolding append_all
    unchanged =
        let none = subst (λ (k : ℕ). drop k (nodes_of (entries_of m)) ≡ []) (count-nodes m) (drop-length (nodes_of (entries_of m))) in
        rw (not_full, nothing-new, none)
