-- A cache that was opened and kept passes every test of refusal 4. Assumes nothing.
use Rattle.std.specs.Prelude.{◌≡◌, refl, Bool, not, ◌||◌, List, [], ◌∷◌, ◌++◌, map, ℕ, zero, suc, ◌+◌, ◌-◌, ◌<◌, ◌≤◌, ◌^◌, ltb, ℤ, pos}
use Rattle.std.proofs.lemmas.Bool.{false≢true}
use Rattle.std.proofs.Math.Path.{sym, ap}
use Rattle.std.proofs.Common.{◌∙◌, subst, inl, inr, arith, leb→le, length-take, length-append}
use Rattle.std.proofs.Math.Bool.{true, false, or-true}
use Rattle.std.proofs.lemmas.List.{map-append}
use Rattle.std.proofs.Math.Option.{none, some}
use borrow.Author.Tests.{eq-eqb, le-leb, lt-ltb, ltb-true, ltb-false}
use Rattle.std.proofs.Math.Dec.{eqb, leb}
use Rattle.std.proofs.Math.ListN.{length, get_or, get_elem?, length-map}
use Rattle.std.specs.Int.Signed.{mag}
use Rattle.language.specs.Cases.{split}
use Rattle.language.specs.Limits.{table_entries, table_readings, open_lambdas}
use Rattle.members.specs.Members.{arguments}
use Rattle.members.specs.MembersLaws.{number-below}
use Rattle.members.specs.declared.Member.{Member}
use Rattle.values.specs.Packing.{is_packed}
use Rattle.meaning.specs.Forms.{Form, readings, same, works, name_in, with_level}
use Rattle.meaning.proofs.FormsLaws.{name_back, same-eq, same_self}
use Rattle.meaning.specs.Evaluation.{awaited, Shown, shows}
use Rattle.grammar.specs.KeptLimits.{InRange}
use Rattle.model.specs.Lists.{All, member as is_in}
use Rattle.model.specs.ListLaws.{nth-below, nth-has, nth-map, getD-nth, all-nth}
use Rattle.model.specs.Model as Model
use Rattle.model.specs.Forms.{below-held}
use Rattle.model.specs.Invariant as Inv
use Rattle.model.specs.Invariant.{Invariant}
use Rattle.model.specs.Decoding.{decode_from}
use Rattle.model.specs.Graph.{among, form_at, Placed, AllPlaced, Stands, decodes, decode}
use Rattle.model.specs.Checks as Checks
use Rattle.layout.specs.Memory.{Memory, Node, Entry, entry_count, reading_count, recording_of, entries_of, nodes_of, node}
use Rattle.layout.specs.Nodes.{number_kind, variable_kind, unbound_kind, function_kind, member_kind, kind_count, works_kind}
use Rattle.layout.specs.Nodes.{arity, member_of_kind, listed, kids, same_node, build, number_of_key}
use Rattle.table.specs.WellFormed.{every, kind_known, key_right, arity_right, lower, has_node, distinct, level_right}
use Rattle.table.specs.Awaits.{awaited_by, awaited_after}
use Rattle.table.specs.WellFormed.{is_done, done_at, all_done, settled, names_right, kept_right, well_formed}
use Rattle.table.specs.AwaitedBuild.{awaited-build}
use Rattle.table.specs.NodeKinds.{Fine, a_number, a_variable, an_unbound, the_readings, a_function, an_ask, a_call, not-member, member-arity, node_form, build-fine}
use Rattle.formulas.specs.Formulas.{formulas, IsReading}
use Rattle.bridge.specs.Graphs.{nodes, graph-laws, equality, kids-function, kids-ask, kids-call, among_first, among_second}
use Rattle.table.specs.EntryForms.{forms_of}
use Rattle.bridge.specs.Proper.{Shape, Proper}
use Rattle.bridge.specs.FormulaLaws.{formula-laws}
use Rattle.demand.specs.Holds.{with_marks, holds, mark_of, kept_for, Ok, Written}
use Rattle.demand.proofs.Bound.{among-by}
use Rattle.demand.proofs.Appended.{lengths, entries-length}
use Rattle.demand.proofs.Standing.{forms-joined, size-held}
use Rattle.demand.proofs.Fitting.{Deep}
use Rattle.demand.proofs.Cells.{Keeps, keeps}

-- a test of every entry, number by number
every-nth : {A : Type 0} (p : ℕ → A → Bool) (i : ℕ) (xs : List A) → ((j : ℕ) (x : A) → get_elem? xs j ≡ some x → p (i + j) x ≡ true) → every p i xs ≡ true
unfolding every
every-nth p i [] h = refl
every-nth p i (x ∷ xs) h =
    let z : i + 0 ≡ i = omega arith in
    let a : p i x ≡ true = rw z at (h 0 x refl) in
    rw a (every-nth p (suc i) xs (λ j y e. let q : i + suc j ≡ suc i + j = omega arith in rw q at (h (suc j) y e)))

-- the tests of a node by itself
pub kind-right : (n : Node) → Fine n → kind_known n ≡ true
kind-right _ (a_number k) = refl
kind-right _ (a_variable x k _) = refl
kind-right _ (an_unbound x) = refl
kind-right _ the_readings = refl
kind-right _ (a_function x b k _) = refl
kind-right _ (an_ask m f e) = let l = number-below m in lt-ltb (member_kind m) kind_count (omega arith)
kind-right _ (a_call m f a e) = let l = number-below m in lt-ltb (member_kind m) kind_count (omega arith)

-- a number in range has a key of 32 bits
key-small : (key : ℕ) → InRange (number_of_key key) → key < 2 ^ 32
key-small key h =
    split (ltb key 2147483648) (λ e. let l = ltb-true key 2147483648 e in omega arith)
    (λ e. let l = leb→le (key - 2147483648) 2147483647 (rw e at h.1.le) in let m = ltb-false key 2147483648 e in omega arith)

pub key_right_lem : (n : Node) (φ : ℕ → Form) → Fine n → Shape (build n φ) → key_right n ≡ true
unfolding key_right build
key_right_lem _ φ (a_number key) s = lt-ltb key (2 ^ 32) (key-small key s)
key_right_lem _ φ (a_variable x k l) s = rw (name_back x k (omega arith)) at s
key_right_lem _ φ (an_unbound x) s = s
key_right_lem _ φ the_readings s = refl
key_right_lem _ φ (a_function x b k l) s = rw (name_back x k (omega arith)) at s
key_right_lem _ φ (an_ask m f e) s =
    let no = not-member m in
    rw (no number_kind (omega arith), no variable_kind (omega arith), no unbound_kind (omega arith), no function_kind (omega arith))
key_right_lem _ φ (a_call m f a e) s =
    let no = not-member m in
    rw (no number_kind (omega arith), no variable_kind (omega arith), no unbound_kind (omega arith), no function_kind (omega arith))

one_link : (b : ℕ) → leb 1 (suc b) ≡ true
one_link b = le-leb 1 (suc b) (omega arith)

arity-ask : (m : Member) (f : ℕ) → arguments m ≡ 0 → arity_right (node (member_kind m) 0 (suc f) 0) ≡ true
unfolding arity_right
arity-ask m f e = rw (member-arity m, e, one_link f)

arity-call : (m : Member) (f a : ℕ) → arguments m ≡ 1 → arity_right (node (member_kind m) 0 (suc f) (suc a)) ≡ true
unfolding arity_right
arity-call m f a e = rw (member-arity m, e, one_link f, one_link a)

pub level-right : (n : Node) → Fine n → level_right n ≡ true
unfolding level_right
level-right _ (a_number k) = refl
level-right _ (a_variable x k l) = lt-ltb k open_lambdas l
level-right _ (an_unbound x) = refl
level-right _ the_readings = refl
level-right _ (a_function x b k l) = lt-ltb k open_lambdas l
level-right _ (an_ask m f e) = rw (not-member m variable_kind (omega arith), not-member m function_kind (omega arith))
level-right _ (a_call m f a e) = rw (not-member m variable_kind (omega arith), not-member m function_kind (omega arith))

pub arity-right : (n : Node) → Fine n → arity_right n ≡ true
unfolding arity_right arity member_of_kind
arity-right _ (a_number k) = refl
arity-right _ (a_variable x k _) = refl
arity-right _ (an_unbound x) = refl
arity-right _ the_readings = refl
arity-right _ (a_function x b k _) = rw (one_link b)
arity-right _ (an_ask m f e) = arity-ask m f e
arity-right _ (a_call m f a e) = arity-call m f a e

none-lower : (i : ℕ) → leb 0 i ≡ true
none-lower i = le-leb 0 i (omega arith)

pub lower_by : (i : ℕ) (n : Node) → Fine n → ((j : ℕ) → among j (kids n) ≡ true → j < i) → lower i n ≡ true
lower_by i _ (a_number k) h = rw (none-lower i)
lower_by i _ (a_variable x k _) h = rw (none-lower i)
lower_by i _ (an_unbound x) h = rw (none-lower i)
lower_by i _ the_readings h = rw (none-lower i)
lower_by i _ (a_function x b k _) h = let l = h b (among-by b _ _ (kids-function x b k) (among_first b [])) in rw (le-leb (suc b) i (omega arith), none-lower i)
lower_by i _ (an_ask m f e) h = let l = h f (among-by f _ _ (kids-ask m f e) (among_first f [])) in rw (le-leb (suc f) i (omega arith), none-lower i)
lower_by i _ (a_call m f a e) h =
    let l = h f (among-by f _ _ (kids-call m f a e) (among_first f (a ∷ []))) in
    let k = h a (among-by a _ _ (kids-call m f a e) (among_second f a)) in
    rw (le-leb (suc f) i (omega arith), le-leb (suc a) i (omega arith))

-- no node twice
pub has-at : (n : Node) (ns : List Node) → has_node n ns ≡ true → (q : ℕ) × (get_elem? ns q ≡ some n)
unfolding has_node
has-at n [] h = absurd (false≢true h)
has-at n (m ∷ ms) h =
    split (same_node m n)
    (λ e. (0, ap some (equality.equal m n e)))
    (λ e. let r = has-at n ms (rw e at h) in (suc r.0, r.1))

distinct-by : (ns : List Node) → ((p q : ℕ) (n : Node) → get_elem? ns p ≡ some n → get_elem? ns q ≡ some n → p ≡ q) → distinct ns ≡ true
unfolding distinct
distinct-by [] h = refl
distinct-by (n ∷ ns) h =
    split (has_node n ns)
    (λ e. let r = has-at n ns e in absurd (let z = h 0 (suc r.0) n refl r.1 in omega arith))
    (λ e. rw e (distinct-by ns (λ p q m a b. let z = h (suc p) (suc q) m a b in omega arith)))

-- the names awaited are those of the forms
getD-awaited : (fs : List Form) (j : ℕ) → j < length fs → get_or (map awaited fs) j [] ≡ awaited (get_or fs j readings)
getD-awaited [] j h = absurd (omega arith)
getD-awaited (f ∷ fs) zero h = refl
getD-awaited (f ∷ fs) (suc j) h = getD-awaited fs j (omega arith)

-- the links of a node are among its dependencies
first-among : (n : Node) → (arity n.kind ≡ 0 → ⊥) → among (n.first - 1) (kids n) ≡ true
unfolding kids
first-among n u = by (arity n.kind) u
  where
    by : (k : ℕ) → (k ≡ 0 → ⊥) → among (n.first - 1) (listed k n) ≡ true
    by zero u = absurd (u refl)
    by (suc zero) u = among_first (n.first - 1) []
    by (suc (suc k)) u = among_first (n.first - 1) ((n.second - 1) ∷ [])

second-among : (n : Node) → arity n.kind ≡ 2 → among (n.second - 1) (kids n) ≡ true
unfolding kids
second-among n e = rw e (among_second (n.first - 1) (n.second - 1))

pub awaited-by : (fs : List Form) (n : Node) → ((j : ℕ) → among j (kids n) ≡ true → j < length fs) → awaited_by (map awaited fs) n ≡ awaited (build n (form_at formulas nodes fs))
awaited-by fs n h =
    awaited-build n (map awaited fs) (form_at formulas nodes fs)
    (λ u. getD-awaited fs (n.first - 1) (h (n.first - 1) (first-among n u)))
    (λ e. getD-awaited fs (n.second - 1) (h (n.second - 1) (second-among n e)))

pub awaited-after : (fs : List Form) (ns : List Node) → AllPlaced formulas nodes (length fs) ns → awaited_after (map awaited fs) ns ≡ map awaited (decode formulas nodes fs ns)
unfolding awaited_after decode_from
awaited-after fs [] p = refl
awaited-after fs (n ∷ ns) p =
    let f = build n (form_at formulas nodes fs) in
    let e = awaited-by fs n p.0.lower in
    let q : map awaited fs ++ (awaited_by (map awaited fs) n ∷ []) ≡ map awaited (fs ++ (f ∷ [])) = ap (λ (x : List ℕ). map awaited fs ++ (x ∷ [])) e ∙ sym (map-append awaited fs (f ∷ [])) in
    let l = length-append fs (f ∷ []) in
    let z : length (fs ++ (f ∷ [])) ≡ suc (length fs) = omega arith in
    ap (λ (b : List (List ℕ)). awaited_after b ns) q ∙ awaited-after (fs ++ (f ∷ [])) ns (rw z p.1)

-- entries and what they hold, number by number
joined-nth : (fs : List Form) (es : List Entry) (p : ℕ) (e : Entry) → length fs ≡ length es → get_elem? es p ≡ some e
    → get_elem? (with_marks fs es) p ≡ some (record { form = get_or fs p readings; mark = mark_of e.kept })
unfolding with_marks
joined-nth [] [] p e l h = absurd (false≢true (cc))
joined-nth [] (x ∷ es) p e l h = absurd (omega arith)
joined-nth (f ∷ fs) [] p e l h = absurd (omega arith)
joined-nth (f ∷ fs) (x ∷ es) zero e l h = let q : x ≡ e = cc in ap (λ (y : Entry). some (record { form = f; mark = mark_of y.kept })) q
joined-nth (f ∷ fs) (x ∷ es) (suc p) e l h = joined-nth fs es p e (omega arith) h

-- whether a node's form is worked out, by its kind
pub works-kind : {n : Node} (φ : ℕ → Form) (k : Fine n) → works (node_form k φ) ≡ works_kind n.kind
unfolding works
works-kind φ (a_number key) = refl
works-kind φ (a_variable x k _) = refl
works-kind φ (an_unbound x) = refl
works-kind φ the_readings = refl
works-kind φ (a_function x b k _) = refl
works-kind φ (an_ask m f e) = sym (le-leb function_kind (member_kind m) (omega arith))
works-kind φ (a_call m f a e) = sym (le-leb function_kind (member_kind m) (omega arith))

member-proper : (g : Form) (fs : List Form) → is_in same g fs ≡ true → All Proper fs → Proper g
unfolding is_in
member-proper g [] h p = absurd (false≢true h)
member-proper g (f ∷ fs) h p = split (same f g) (λ e. subst Proper (same-eq f g e) p.0) (λ e. member-proper g fs (rw e at h) p.1)

nth-member : (fs : List Form) (p : ℕ) (f : Form) → get_elem? fs p ≡ some f → is_in same f fs ≡ true
unfolding is_in
nth-member [] p f h = absurd (false≢true (cc))
nth-member (g ∷ fs) zero f h = let q : g ≡ f = cc in rw (q, same_self f)
nth-member (g ∷ fs) (suc p) f h = let i = nth-member fs p f h in split (same g f) (λ e. rw e) (λ e. rw (e, i))

pub reading_small : (r : List ℤ) → All IsReading r → (i : ℕ) → i < length r → mag (get_or r i (pos 0)) < 2147483648
reading_small [] h i l = absurd (omega arith)
reading_small (x ∷ r) h zero l = h.0
reading_small (x ∷ r) h (suc i) l = reading_small r h.1 i (omega arith)

all_done_lem : (es : List Entry) (ks : List ℕ) → ((j : ℕ) → among j ks ≡ true → done_at es j ≡ true) → all_done es ks ≡ true
unfolding all_done is_in
all_done_lem es [] h = refl
all_done_lem es (k ∷ ks) h =
    let a = h k (rw (eq-eqb k k refl)) in
    rw a (all_done_lem es ks (λ j i. h j (split (eqb k j) (λ e. rw e) (λ e. rw e i))))

done_at_lem : (es : List Entry) (j : ℕ) (e : Entry) → get_elem? es j ≡ some e → is_done e ≡ true → done_at es j ≡ true
unfolding done_at
done_at_lem [] j e h d = absurd (false≢true (cc))
done_at_lem (x ∷ es) zero e h d = let q : x ≡ e = cc in rw q d
done_at_lem (x ∷ es) (suc j) e h d = done_at_lem es j e h d

not-zero : (k : ℕ) → eqb k 0 ≡ false → 1 ≤ k
not-zero zero h = absurd (false≢true (sym h))
not-zero (suc k) h = omega arith

or-not : (a b : Bool) → (a || not b) ≡ true → (a ≡ true → ⊥) → b ≡ false
or-not true b h n = absurd (n refl)
or-not false true h n = absurd (false≢true h)
or-not false false h n = refl

module _ (m : Memory) (o : Ok m) (i : Invariant formulas formula-laws (holds m)) where
  abbrev es : List Entry
  es = entries_of m

  abbrev ns : List Node
  ns = nodes_of es

  abbrev fs : List Form
  fs = forms_of ns

  held-forms : Model.forms formulas (holds m).entries ≡ fs
  held-forms = forms-joined fs es (size-held m)

  stands : Stands formulas nodes ns (Model.forms formulas (holds m).entries)
  stands = rw held-forms (decodes formulas nodes graph-laws ns o.placed)

  proper : All Proper fs
  unfolding formula-laws
  proper = rw held-forms at i.proper

  -- an entry, its node, its form and its mark
  record At (p : ℕ) (e : Entry) : Type 0 where
    node : get_elem? ns p ≡ some e.node
    placed : Placed formulas nodes p e.node
    form : build e.node (form_at formulas nodes fs) ≡ get_or fs p readings
    held : get_elem? fs p ≡ some (get_or fs p readings)
    model : get_elem? (holds m).entries p ≡ some (record { form = get_or fs p readings; mark = mark_of e.kept })

  at : (p : ℕ) (e : Entry) → get_elem? es p ≡ some e → At p e
  at p e h =
      let n = nth-map (λ (x : Entry). x.node) es p e h in
      let st = decodes formulas nodes graph-laws ns o.placed in
      let f = st.form p e.node n in
      let g = getD-nth fs p (build e.node (form_at formulas nodes fs)) readings f in
      record { node = n; placed = st.placed p e.node n; form = sym g; held = f ∙ ap some (sym g); model = joined-nth fs es p e (size-held m) h }

  right : (p : ℕ) (e : Entry) (a : At p e) → Checks.WellFormed formulas formula-laws nodes graph-laws (holds m) i ns stands p e.node (record { form = get_or fs p readings; mark = mark_of e.kept })
  right p e a = Checks.well-formed formulas formula-laws nodes graph-laws (holds m) i ns stands p e.node _ a.node a.model

  count : length (recording_of m) ≡ reading_count m
  count = let l = (lengths m o.whole).readings in let r = o.readings in length-take (reading_count m) m.readings ∙ omega arith

  deep : (p : ℕ) → get_elem? fs p ≡ some (get_or fs p readings) → Deep (get_or fs p readings)
  deep p h g w = member-proper g fs (below-held formulas formula-laws.tests fs (rw held-forms at i.ordered) (get_or fs p readings) g (nth-member fs p (get_or fs p readings) h) w) proper

  works_at : (p : ℕ) (e : Entry) → At p e → works (get_or fs p readings) ≡ works_kind e.node.kind
  works_at p e a = let k = a.placed.fine in ap works (sym a.form ∙ build-fine k _) ∙ works-kind (form_at formulas nodes fs) k

  kept-cells : (p : ℕ) (e : Entry) → works_kind e.node.kind ≡ true → (v : Shown) → e.kept ≡ kept_for v → Keeps (length (recording_of m)) v → kept_right (reading_count m) e ≡ true
  unfolding kept_right
  kept-cells p e wk v q k =
      let c = count in
      let n = k.names in
      let b : is_packed (kept_for v).value (reading_count m) ≡ true = rw (← c) k.packed in
      rw (q, n, wk, b) (or-true (eqb (kept_for v).value 0))

  kept : (p : ℕ) (e : Entry) → At p e → Written e → kept_right (reading_count m) e ≡ true
  unfolding kept_right names_right
  kept p e a (inl q) = rw q
  kept p e a (inr w) = by (right p e a).kept
    where
      k : Keeps (length (recording_of m)) (shows (recording_of m) (get_or fs p readings))
      k = keeps (recording_of m) i.short (reading_small (recording_of m) i.sound) (get_or fs p readings) (deep p a.held)

      marked : mark_of e.kept ≡ some w.0
      marked = ap mark_of w.1 ∙ w.2

      by : Inv.Kept formulas (recording_of m) (record { form = get_or fs p readings; mark = mark_of e.kept }) → kept_right (reading_count m) e ≡ true
      by (Inv.bare q) = absurd (false≢true (let z : none ≡ some w.0 = sym q ∙ marked in cc))
      by (Inv.holds x q) =
          let s : some w.0 ≡ some (shows (recording_of m) (get_or fs p readings)) = sym marked ∙ q in
          let v : w.0 ≡ shows (recording_of m) (get_or fs p readings) = cc in
          kept-cells p e (sym (works_at p e a) ∙ x) (shows (recording_of m) (get_or fs p readings)) (w.1 ∙ ap kept_for v) k

  -- a kept value is worked out from dependencies that are
  done-entry : (j : ℕ) (x : Entry) → At j x → Inv.done formulas (record { form = get_or fs j readings; mark = mark_of x.kept }) ≡ true → is_done x ≡ true
  unfolding Inv.done
  done-entry j x a h =
      let w = works_at j x a in
      split (works_kind x.node.kind)
      (λ e.
      split (eqb x.kept.value 0)
      (λ z. absurd (false≢true (let u : works_kind x.node.kind ≡ false = sym w ∙ (or-not _ _ h (λ y. never-some z y)) in sym u ∙ e)))
      (λ z. rw e (le-leb 1 x.kept.value (not-zero x.kept.value z))))
      (λ e. rw e)
    where
      never-some : eqb x.kept.value 0 ≡ true → Model.marked formulas (record { form = get_or fs j readings; mark = mark_of x.kept }) ≡ true → ⊥
      never-some z y = absurd (absurd (false≢true (rw z at y)))

  settled_at : (p : ℕ) (e : Entry) → At p e → settled es e ≡ true
  settled_at p e a =
      split (eqb e.kept.value 0)
      (λ z. rw z)
      (λ z.
      rw z
      (all_done_lem es (kids e.node)
      (λ j k.
      let r = (right p e a).settled (rw z) j k in
      let lo = a.placed.lower j k in
      let here = nth-below ns p e.node a.node in
      let size = length-map es (λ (y : Entry). y.node) in
      let x = nth-has es j (omega arith) in
      let b = at j x.0 x.1 in
      let s : some r.0 ≡ some (record { form = get_or fs j readings; mark = mark_of x.0.kept }) = sym r.1 ∙ b.model in
      let q : r.0 ≡ record { form = get_or fs j readings; mark = mark_of x.0.kept } = cc in
      done_at_lem es j x.0 x.1 (done-entry j x.0 b (subst (λ (y : Model.Entry formulas). Inv.done formulas y ≡ true) q r.2)))))

  few-names : (j : ℕ) (f : Form) → get_elem? fs j ≡ some f → leb (length (awaited f)) 2 ≡ true
  few-names j f h = le-leb (length (awaited f)) 2 (all-nth Proper fs j f proper h).few

  alone : (p q : ℕ) (n : Node) → get_elem? ns p ≡ some n → get_elem? ns q ≡ some n → p ≡ q
  alone p q n hp hq =
      let l = nth-below ns p n hp in
      let size = length-map es (λ (y : Entry). y.node) in
      let x = nth-has es p (omega arith) in
      let a = at p x.0 x.1 in
      let s : some n ≡ some x.0.node = sym hp ∙ a.node in
      let e : n ≡ x.0.node = cc in
      sym ((right p x.0 a).alone q (hq ∙ ap some e))

  -- an index counted from 0
  from : {A : Type 0} (P : ℕ → A → Bool) (xs : List A) → ((j : ℕ) (x : A) → get_elem? xs j ≡ some x → P j x ≡ true) → every P 0 xs ≡ true
  from P xs h = every-nth P 0 xs (λ j x e. let z : 0 + j ≡ j = omega arith in rw z (h j x e))

  pub accepted : well_formed m ≡ true
  unfolding well_formed
  accepted =
      let few = i.few in
      let size = sym (entries-length m.links m.cells 0 (entry_count m)) ∙ sym (size-held m) ∙ ap length (sym held-forms) ∙ length-map (holds m).entries (λ (x : Model.Entry formulas). x.form) in
      let c1 : leb (entry_count m) table_entries ≡ true = le-leb (entry_count m) table_entries (omega arith) in
      let c2 : leb (reading_count m) table_readings ≡ true = le-leb (reading_count m) table_readings o.readings in
      let c3 = from (λ k (e : Entry). kind_known e.node) es (λ j e h. kind-right e.node (at j e h).placed.fine) in
      let c4 = from (λ k (e : Entry). key_right e.node) es
      (λ j e h. let a = at j e h in key_right_lem e.node (form_at formulas nodes fs) a.placed.fine
      (subst Shape (sym a.form) (all-nth Proper fs j (get_or fs j readings) proper a.held).shape)) in
      let c5 = from (λ k (e : Entry). level_right e.node) es (λ j e h. level-right e.node (at j e h).placed.fine) in
      let c6 = from (λ k (e : Entry). arity_right e.node) es (λ j e h. arity-right e.node (at j e h).placed.fine) in
      let c7 = from (λ k (e : Entry). lower k e.node) es (λ j e h. lower_by j e.node (at j e h).placed.fine (at j e h).placed.lower) in
      let c8 = distinct-by ns alone in
      let c9 = from (λ k (f : Form). leb (length (awaited f)) 2) fs few-names in
      let c10 = from (λ k (e : Entry). settled es e) es (λ j e h. settled_at j e (at j e h)) in
      let c11 = from (λ k (e : Entry). kept_right (reading_count m) e) es (λ j e h. kept j e (at j e h) (all-nth Written es j e o.written h)) in
      rw (c1, c2, c3, c4, c5, c6, c7, c8, c9, c10, c11)
