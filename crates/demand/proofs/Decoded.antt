-- The entries of any well-formed cache stand for forms, no two of them for the same form. Assumes nothing.
use Rattle.std.specs.Prelude.{◌≡◌, Bool, true, not, List, [], ◌∷◌, ℕ, zero, suc, ◌+◌, ◌-◌, ◌<◌}
use Rattle.std.proofs.Math.Path.{refl}
use Rattle.std.proofs.Common.{sym, ap, ◌∙◌, arith}
use Rattle.std.proofs.Math.Bool.{and-eq-true_iff}
use Rattle.std.proofs.Math.Option.{some}
use Rattle.std.proofs.lemmas.Bool.{not-true, false≢true}
use Rattle.std.proofs.Math.ListN.{get_elem?}
use Rattle.language.specs.Cases.{split}
use Rattle.meaning.specs.Forms.{Form, readings, same}
use Rattle.model.specs.Lists.{member, Distinct}
use Rattle.model.specs.ListLaws.{nth-below, nth-has, getD-nth, Equality, nth-index, index-nth}
use Rattle.model.specs.Graph.{among, form_at, Placed, AllPlaced, Stands, decodes}
use Rattle.layout.specs.Memory.{Memory, Node, entry_count, node_at, entries_of, nodes_of}
use Rattle.layout.specs.Nodes.{arity, listed, kids, same_node}
use Rattle.table.specs.WellFormed.{has_node, distinct}
use Rattle.table.specs.Right.{node_right}
use Rattle.table.specs.RightLaws.{first-low, second-low, first-given}
use Rattle.table.specs.ArityLaws.{a_second}
use Rattle.table.specs.CheckedLaws.{nodes-are}
use Rattle.table.specs.NodeKinds.{right-fine}
use Rattle.binder.specs.AppendedLaws.{Well}
use Rattle.formulas.specs.Formulas.{formulas}
use Rattle.bridge.specs.Graphs.{nodes, graph-laws, equality, among_one, among_two}
use Rattle.table.specs.EntryForms.{forms_of}
use Rattle.bridge.specs.FormulaLaws.{tests}
use Rattle.demand.proofs.Standing.{placed-all, count-nodes}
use Rattle.demand.proofs.Needs.{node-nth}

-- ---- a right node is of one of the kinds, and its dependencies are lower

module _ (i : ℕ) (n : Node) (r : node_right i n ≡ true) where
  pub lower : (j : ℕ) → among j (kids n) ≡ true → j < i
  unfolding kids member
  lower j = by (arity n.kind) refl
    where
      first : (arity n.kind ≡ 0 → ⊥) → n.first - 1 ≡ j → j < i
      first u e = omega (arith, first-given i n r u, first-low i n r)

      by : (x : ℕ) → arity n.kind ≡ x → among j (listed x n) ≡ true → j < i
      by zero e h = absurd (false≢true h)
      by (suc zero) e h = first (λ z. omega arith) (among_one j (n.first - 1) h)
      by (suc (suc x)) e h = among_two j (n.first - 1) (n.second - 1) h (first (λ z. omega arith)) (λ q. omega (arith, a_second i n r (omega arith), second-low i n r))

  placed : Placed formulas nodes i n
  placed = record { fine = right-fine i n r; lower = lower }

-- ---- no two numbers have the same element: a list without doubles

pub distinct-nth : {A : Type 0} {same : A → A → Bool} → Equality same → (xs : List A) → ((p q : ℕ) (x : A) → get_elem? xs p ≡ some x → get_elem? xs q ≡ some x → p ≡ q) → Distinct same xs
distinct-nth Q [] h = tt
distinct-nth {same = same} Q (x ∷ xs) h = (
  split (member same x xs) (λ e. absurd (let z = h 0 (suc _) x refl (nth-index Q x xs e) in omega arith)) (λ e. e),
  distinct-nth Q xs (λ p q y a b. let z = h (suc p) (suc q) y a b in omega arith),
)

pub one_number : {A : Type 0} {same : A → A → Bool} → Equality same → (xs : List A) → Distinct same xs → (p q : ℕ) (x : A) → get_elem? xs p ≡ some x → get_elem? xs q ≡ some x → p ≡ q
one_number Q xs d p q x a b = sym (index-nth Q xs d p x a) ∙ index-nth Q xs d q x b

has_same : (n : Node) (ns : List Node) → member same_node n ns ≡ has_node n ns
unfolding member has_node
has_same n [] = refl
has_same n (m ∷ ns) = split (same_node m n) (λ e. rw e) (λ e. rw e (has_same n ns))

nodes-distinct : (ns : List Node) → distinct ns ≡ true → Distinct same_node ns
unfolding distinct
nodes-distinct [] h = tt
nodes-distinct (n ∷ ns) h =
    let p = (and-eq-true_iff (not (has_node n ns)) _).0 h in
    (has_same n ns ∙ not-true (has_node n ns) p.0, nodes-distinct ns p.1)

-- ---- nodes that differ stand for forms that differ

module _ (ns : List Node) (fs : List Form) (st : Stands formulas nodes ns fs) where
  pub forms-apart : Distinct same_node ns → Distinct same fs
  forms-apart d = distinct-nth tests.equality fs (λ p q f a b. up_to (suc (p + q)) p q f (omega arith) (omega arith) a b)
    where
      up_to : (k p q : ℕ) (f : Form) → p < k → q < k → get_elem? fs p ≡ some f → get_elem? fs q ≡ some f → p ≡ q
      up_to zero p q f hp hq a b = absurd (omega arith)
      up_to (suc k) p q f hp hq a b =
          let s = st.size in
          let n = nth-has ns p (let l = nth-below fs p f a in omega arith) in
          let m = nth-has ns q (let l = nth-below fs q f b in omega arith) in
          let x = st.form p n.0 n.1 in
          let y = st.form q m.0 m.1 in
          let e : nodes.build n.0 (form_at formulas nodes fs) ≡ nodes.build m.0 (form_at formulas nodes fs) = (let z = sym x ∙ a ∙ sym b ∙ y in cc) in
          let u = st.placed p n.0 n.1 in
          let v = st.placed q m.0 m.1 in
          let w : n.0 ≡ m.0 = graph-laws.one n.0 m.0 (form_at formulas nodes fs) u.fine v.fine e
          (λ i j hi hj g.
          let li = u.lower i hi in
          let lj = v.lower j hj in
          let lp = nth-below fs p f a in
          let lq = nth-below fs q f b in
          let c = nth-has fs i (omega arith) in
          let o = nth-has fs j (omega arith) in
          let z : c.0 ≡ o.0 = sym (getD-nth fs i c.0 readings c.1) ∙ g ∙ getD-nth fs j o.0 readings o.1 in
          up_to k i j c.0 (omega arith) (omega arith) c.1 (o.1 ∙ ap some (sym z))) in
          one_number equality ns d p q n.0 n.1 (m.1 ∙ ap some (sym w))

  -- and the other way round
  pub nodes-apart : Distinct same fs → Distinct same_node ns
  nodes-apart d = distinct-nth equality ns (λ p q n a b. one_number tests.equality fs d p q _ (st.form p n a) (st.form q n b))

module _ (m : Memory) (well : Well m) where
  pub all_placed : AllPlaced formulas nodes 0 (nodes_of (entries_of m))
  all_placed = placed-all 0 (nodes_of (entries_of m)) by
    where
      by : (j : ℕ) (n : Node) → get_elem? (nodes_of (entries_of m)) j ≡ some n → Placed formulas nodes (0 + j) n
      by j n e =
          let l = nth-below (nodes_of (entries_of m)) j n e in
          let c = count-nodes m in
          let z : 0 + j ≡ j = omega arith in
          let q : some n ≡ some (node_at m.links m.cells j) = sym e ∙ node-nth m j (omega arith) in
          let x : n ≡ node_at m.links m.cells j = cc in
          rw (z, x) (placed j (node_at m.links m.cells j) (well.right j (omega arith)))

  pub forms-distinct : Distinct same (forms_of (nodes_of (entries_of m)))
  forms-distinct =
      forms-apart (nodes_of (entries_of m)) (forms_of (nodes_of (entries_of m))) (decodes formulas nodes graph-laws (nodes_of (entries_of m)) all_placed)
      (nodes-distinct (nodes_of (entries_of m)) (rw (nodes-are m.links m.cells 0 (entry_count m)) well.apart))
