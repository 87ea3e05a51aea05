-- A table stands for one list of forms, the one that it decodes to; binding only appends; and what a cache holds has its forms.
-- Assumes nothing.
use Rattle.std.specs.Prelude.{◌≡◌, refl, Bool, true, false, cond, List, [], ◌∷◌, ◌++◌, map, ℕ, zero, suc, ◌+◌, ◌<◌, ◌≤◌, ltb, length}
use Rattle.std.proofs.lemmas.Bool.{false≢true}
use Rattle.std.proofs.Common.{sym, ap, ◌∙◌, append-nil, append_assoc, arith, ltb-true, ltb-false}
use Rattle.std.proofs.Math.Option.{none, some}
use Rattle.std.proofs.Math.ListN.{get_elem?}
use Rattle.std.proofs.lemmas.List.{length-map}
use Rattle.language.specs.Cases.{split}
use Rattle.meaning.specs.Forms.{Form, readings}
use Rattle.model.specs.ListLaws.{nth-has, getD-nth}
use Rattle.model.specs.Graph.{form_at, Placed, AllPlaced, Stands, decodes}
use Rattle.model.specs.Model as Model
use Rattle.layout.specs.Nodes.{same_node}
use Rattle.layout.specs.Memory.{Memory, Node, Entry, entry_count, entries_of, nodes_of}
use Rattle.model.specs.Lists.{index}
use Rattle.table.specs.Bind.{relink, Bound, bind_one, bind_all}
use Rattle.formulas.specs.Formulas.{formulas}
use Rattle.bridge.specs.Graphs.{nodes, graph-laws}
use Rattle.bridge.specs.Recorded.{length-forms}
use Rattle.table.specs.EntryForms.{forms_of}
use Rattle.demand.specs.Holds.{with_marks, mark_of}
use Rattle.binder.specs.AppendedLaws.{new_entry}
use Rattle.demand.proofs.Appended.{entries-length}

-- lists that are equal number by number
same-nth : {A : Type 0} (xs ys : List A) → ((i : ℕ) → get_elem? xs i ≡ get_elem? ys i) → xs ≡ ys
same-nth [] [] h = refl
same-nth [] (y ∷ ys) h = absurd (false≢true (let e = h 0 in cc))
same-nth (x ∷ xs) [] h = absurd (false≢true (let e = h 0 in cc))
same-nth (x ∷ xs) (y ∷ ys) h = let e = h 0 in let q : x ≡ y = cc in λ i. q i ∷ same-nth xs ys (λ j. h (suc j)) i

pub beyond : {A : Type 0} (xs : List A) (i : ℕ) → length xs ≤ i → get_elem? xs i ≡ none
beyond [] i h = refl
beyond (x ∷ xs) zero h = absurd (omega arith)
beyond (x ∷ xs) (suc i) h = beyond xs i (omega arith)

module _ (ns : List Node) (fs gs : List Form) (p : Stands formulas nodes ns fs) (q : Stands formulas nodes ns gs) where
  alike : (k i : ℕ) → i < k → i < length ns → get_elem? fs i ≡ get_elem? gs i
  alike zero i h l = absurd (omega arith)
  alike (suc k) i h l =
      let n = nth-has ns i l in
      p.form i n.0 n.1
      ∙ ap some
      (graph-laws.agree n.0 (form_at formulas nodes fs) (form_at formulas nodes gs)
      (λ j a.
      let w = (p.placed i n.0 n.1).lower j a in
      let s = p.size in
      let x = nth-has fs j (omega arith) in
      getD-nth fs j x.0 readings x.1 ∙ sym (getD-nth gs j x.0 readings (sym (alike k j (omega arith) (omega arith)) ∙ x.1))))
      ∙ sym (q.form i n.0 n.1)

  pub stands_one : fs ≡ gs
  stands_one = same-nth fs gs each
    where
      each : (i : ℕ) → get_elem? fs i ≡ get_elem? gs i
      each i =
          let s = p.size in
          let t = q.size in
          split (ltb i (length ns)) (λ e. alike (suc i) i (omega arith) (ltb-true i (length ns) e))
          (λ e. let l = ltb-false i (length ns) e in beyond fs i (omega arith) ∙ sym (beyond gs i (omega arith)))

-- every number's node is placed: all are
pub placed-all : (i : ℕ) (ns : List Node) → ((j : ℕ) (n : Node) → get_elem? ns j ≡ some n → Placed formulas nodes (i + j) n) → AllPlaced formulas nodes i ns
placed-all i [] h = tt
placed-all i (n ∷ ns) h =
    let z : i + 0 ≡ i = omega arith in
    (rw z at (h 0 n refl), placed-all (suc i) ns (λ j m e. let y : i + suc j ≡ suc i + j = omega arith in rw y at (h (suc j) m e)))

pub stands-placed : (ns : List Node) (fs : List Form) → Stands formulas nodes ns fs → AllPlaced formulas nodes 0 ns
stands-placed ns fs s = placed-all 0 ns (λ j n e. let z : 0 + j ≡ j = omega arith in rw z (s.placed j n e))

pub decoded : (ns : List Node) (fs : List Form) → Stands formulas nodes ns fs → fs ≡ forms_of ns
decoded ns fs s = stands_one ns fs (forms_of ns) s (decodes formulas nodes graph-laws ns (stands-placed ns fs s))

-- binding appends
pub record More (ns ms : List Node) : Type 0 where
  pub new : List Node
  pub is : ms ≡ ns ++ new

more-if : (b : Bool) (ns : List Node) (n : Node) → More ns (cond b ns (ns ++ (n ∷ [])))
more-if true ns n = record { new = []; is = sym (append-nil ns) }
more-if false ns n = record { new = n ∷ []; is = refl }

pub more : (b : Bound) (rs : List Node) → More b.nodes (bind_all b rs).nodes
unfolding bind_all bind_one
more b [] = record { new = []; is = sym (append-nil b.nodes) }
more b (r ∷ rs) =
    let n = relink b.numbers r in
    let u = more-if (ltb (index same_node n b.nodes) (length b.nodes)) b.nodes n in
    let v = more (bind_one b r) rs in
    let e = u.is in
    record { new = u.new ++ v.new; is = v.is ∙ ap (λ (l : List Node). l ++ v.new) e ∙ append_assoc b.nodes u.new v.new }

-- what is held
pub forms-joined : (fs : List Form) (es : List Entry) → length fs ≡ length es → Model.forms formulas (with_marks fs es) ≡ fs
unfolding with_marks
forms-joined [] es h = refl
forms-joined (f ∷ fs) [] h = absurd (omega arith)
forms-joined (f ∷ fs) (e ∷ es) h = ap (λ (l : List Form). f ∷ l) (forms-joined fs es (omega arith))

pub joined-append : (fs gs : List Form) (es : List Entry) (ns : List Node) → length fs ≡ length es → length gs ≡ length ns
    → with_marks (fs ++ gs) (es ++ map new_entry ns) ≡ with_marks fs es ++ map (Model.unmarked formulas) gs
unfolding with_marks
joined-append [] [] [] [] h k = refl
joined-append [] [] [] (n ∷ ns) h k = refl
joined-append [] (g ∷ gs) [] [] h k = absurd (omega arith)
joined-append [] (g ∷ gs) [] (n ∷ ns) h k = ap (λ (l : List (Model.Entry formulas)). Model.unmarked formulas g ∷ l) (joined-append [] gs [] ns refl (omega arith))
joined-append [] gs (e ∷ es) ns h k = absurd (omega arith)
joined-append (f ∷ fs) gs [] ns h k = absurd (omega arith)
joined-append (f ∷ fs) gs (e ∷ es) ns h k = ap (λ (l : List (Model.Entry formulas)). record { form = f; mark = mark_of e.kept } ∷ l) (joined-append fs gs es ns (omega arith) k)

pub size-held : (m : Memory) → length (forms_of (nodes_of (entries_of m))) ≡ length (entries_of m)
size-held m = length-forms (nodes_of (entries_of m)) ∙ length-map (entries_of m) (λ (e : Entry). e.node)

pub count-nodes : (m : Memory) → length (nodes_of (entries_of m)) ≡ entry_count m
count-nodes m = length-map (entries_of m) (λ (e : Entry). e.node) ∙ entries-length m.links m.cells 0 (entry_count m)
