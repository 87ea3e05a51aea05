-- 02, T-04, refusal 16: what is read has the form of entry n just where binding gives the whole that number; and an entry's form is built of the
-- forms of its links. Of any well-formed cache, whatever is kept in it. Assumes nothing.
use Rattle.std.specs.Prelude.{◌≡◌, true, List, ◌↔◌, ℕ, ◌<◌, get_or}
use Rattle.std.proofs.Common.{sym, ap, ◌∙◌, arith}
use Rattle.std.proofs.Math.Option.{some}
use Rattle.std.proofs.Math.ListN.{get_elem?}
use Rattle.grammar.specs.Grammar.{Expression}
use Rattle.grammar.specs.KeptLimits.{KeepsLimits}
use Rattle.meaning.specs.Forms.{Form, readings, same}
use Rattle.meaning.specs.Binding.{form_of}
use Rattle.model.specs.Lists.{Distinct}
use Rattle.model.specs.ListLaws.{nth-has, nth-old, getD-nth}
use Rattle.model.specs.Graph.{AllPlaced, decodes}
use Rattle.layout.specs.Memory.{Memory, entry_count, node_at, entries_of, nodes_of}
use Rattle.layout.specs.Nodes.{build}
use Rattle.table.specs.EntryForms.{forms_of}
use Rattle.table.specs.WellFormed.{well_formed}
use Rattle.binder.specs.AppendedLaws.{well-parts}
use Rattle.records.specs.Records.{records_of}
use Rattle.formulas.specs.Formulas.{formulas}
use Rattle.bridge.specs.Graphs.{nodes, graph-laws}
use Rattle.bridge.specs.Recorded.{length-forms, unfolds}
use Rattle.bridge.specs.FormulaLaws.{tests}
use Rattle.interface.specs.Calls.{bound_to, form_at}
use Rattle.demand.proofs.Standing.{count-nodes}
use Rattle.demand.proofs.Needs.{node-nth}
use Rattle.demand.proofs.Decoded.{one_number, all_placed, forms-distinct}
use Rattle.demand.proofs.Editing.{gs, fitted, added, grown-forms}

-- entry n's form is the n-th
pub form-nth : (m : Memory) (n : ℕ) → n < entry_count m → get_elem? (forms_of (nodes_of (entries_of m))) n ≡ some (form_at m n)
form-nth m n h =
    let c = count-nodes m in
    let l = length-forms (nodes_of (entries_of m)) in
    let x = nth-has (forms_of (nodes_of (entries_of m))) n (omega arith) in
    x.1 ∙ ap some (sym (getD-nth (forms_of (nodes_of (entries_of m))) n x.0 readings x.1))

module _ (m : Memory) (w : well_formed m ≡ true) where
  abbrev placed : AllPlaced formulas nodes 0 (nodes_of (entries_of m))
  placed = all_placed m (well-parts m w)

  -- it is built of its node
  pub forms-right : (i : ℕ) → i < entry_count m → form_at m i ≡ build (node_at m.links m.cells i) (form_at m)
  forms-right i h =
      let n = node_at m.links m.cells i in
      let s = decodes formulas nodes graph-laws (nodes_of (entries_of m)) placed in
      getD-nth (forms_of (nodes_of (entries_of m))) i (build n (form_at m)) readings (s.form i n (node-nth m i h))

  -- the text's records bound to the entries
  module _ (e : Expression) (k : KeepsLimits e) where
    abbrev apart : Distinct same (forms_of (nodes_of (entries_of m)))
    apart = forms-distinct m (well-parts m w)

    abbrev all : List Form
    all = gs m placed apart e k

    -- the number that the whole gets
    abbrev whole : ℕ
    whole = get_or (bound_to m (records_of e)).numbers (records_of e).root 0

    pub at-whole : get_elem? all whole ≡ some (form_of e)
    at-whole =
        let u = unfolds e k in
        let low = u.low in
        let l = length-forms (records_of e).records in
        let x = nth-has (forms_of (records_of e).records) (records_of e).root (omega arith) in
        let q : x.0 ≡ form_of e = sym (getD-nth (forms_of (records_of e).records) (records_of e).root x.0 readings x.1) ∙ u.whole in
        (fitted m placed apart e k).numbered (records_of e).root x.0 x.1 ∙ ap some q

    module _ (n : ℕ) (h : n < entry_count m) where
      at_old : get_elem? all n ≡ some (form_at m n)
      at_old =
          ap (λ (l : List Form). get_elem? l n) (grown-forms m placed apart e k)
          ∙ nth-old (forms_of (nodes_of (entries_of m))) (added m placed apart e k) n (form_at m n) (form-nth m n h)

      same-form : whole ≡ n → form_of e ≡ form_at m n
      same-form q = let z : some (form_of e) ≡ some (form_at m n) = sym at-whole ∙ ap (get_elem? all) q ∙ at_old in cc

      same_number : form_of e ≡ form_at m n → whole ≡ n
      same_number q = one_number tests.equality all (fitted m placed apart e k).distinct whole n (form_of e) at-whole (at_old ∙ ap some (sym q))

      pub whole_same : (whole ≡ n) ↔ (form_of e ≡ form_at m n)
      whole_same = (same-form, same_number)
