-- The frame that a preview begins with, the cells that it keeps for a value, and what an entry shows from its cells: of a leaf from the
-- entry itself, of a member or a function from what is kept. Assumes nothing.
use Rattle.std.specs.Prelude.{◌≡◌, true, false, cond, List, map, leb, ltb, eqb, ℤ, get_or, set, replicate}
use Rattle.std.proofs.lemmas.Bool.{false≢true}
use Rattle.std.proofs.Math.Path.{refl, sym}
use Rattle.std.proofs.Common.{ap, ◌∙◌, ne_eqb, lt-ltb, le-ltb, ltb-true}
use Rattle.std.proofs.Math.Bool.{and-eq-true_iff}
use Rattle.std.proofs.Math.Option.{none, some}
use Prim.Native.Nat.{ℕ, zero, suc, ◌+◌, ◌%◌, ◌<◌, ◌≤◌}
use native.Mathlib.Omega.{arith}
use Rattle.std.proofs.Math.Decide.{dec_lt}
use Rattle.std.proofs.Math.ListN.{length, length-set, length-take}
use Rattle.std.proofs.lemmas.List.{length-replicate}
use Rattle.std.proofs.Math.Seq.{get_or-set_same, get_or-set_other}
use Rattle.language.specs.Cases.{split}
use Rattle.language.specs.Limits.{table_entries, table_readings}
use Rattle.rules.specs.declared.Value.{Value}
use Rattle.rules.specs.declared.Value.TheVariants.{Number, Window, Function, Delayed, Missing}
use Rattle.values.specs.Shown.{shown_numbers}
use Rattle.values.specs.Keepable as Values
use Rattle.values.specs.Packing.{pack_of, unpack_of}
use Rattle.values.specs.PackingLaws.{round}
use Rattle.values.specs.Ranges.{down-range}
use Rattle.meaning.specs.Forms.{Form, readings, name_of, name_in, with_level}
use Rattle.meaning.proofs.FormsLaws.{name_back}
use Rattle.meaning.specs.Evaluation.{value_of, nowhere, lookup, evaluate, awaited, Shown, a_number, a_window, a_function, a_delay, a_reason, shown_as, shows}
use Rattle.model.specs.ListLaws.{getD-nth}
use Rattle.model.specs.Invariant.{Invariant}
use Rattle.model.specs.Graph.{form_at, decodes}
use Rattle.layout.specs.Memory.{Memory, Node, Kept, entry_count, reading_count, recording_of, node_at, kept_at, entries_of, nodes_of}
use Rattle.layout.specs.Nodes.{variable_kind, function_kind, build}
use Rattle.table.specs.WellFormed.{key_right}
use Rattle.table.specs.Checked.{entries_right}
use Rattle.table.specs.CheckedLaws.{well-is}
use Rattle.table.specs.RightLaws.{right_key, right-at}
use Rattle.formulas.specs.Formulas.{formulas}
use Rattle.bridge.specs.Graphs.{nodes, graph-laws, number-key}
use Rattle.table.specs.EntryForms.{forms_of}
use Rattle.bridge.specs.FormulaLaws.{formula-laws}
use Rattle.layout.specs.Links.{kind_at, key_at}
use Rattle.table.specs.Waits.{slot_a, slot_b}
use Rattle.table.specs.NodeKinds.{Fine, a_number, a_variable, an_unbound, the_readings, a_function, an_ask, a_call}
use Rattle.evaluator.specs.Frames.{leaf_of, start_at, start_from}
use Rattle.schedule.specs.declared.View.{View}
use Rattle.schedule.specs.Works.{name_for, other_for, view, show_of}
use Rattle.refine.specs.Shows.{slot_names, kept-shows}
use Rattle.interface.specs.Views.{view_of}
use Rattle.interface.specs.Answers.{names_of, shown_of}
use Rattle.demand.specs.Holds.{shown_in, mark_of, holds, kept_for, Ok}
use Rattle.demand.proofs.Appended.{lengths}
use Rattle.demand.proofs.Cells.{name-some}
use Rattle.demand.proofs.Accepted.{accepted}
use Rattle.demand.proofs.Needs.{node-nth}

-- the frame, k cells from number i on
module _ (size : ℕ) (links cells : List ℕ) where
  from-length : (k i : ℕ) (frame : List ℕ) → length (start_from size links cells k i frame) ≡ length frame
  unfolding start_from
  from-length zero i frame = refl
  from-length (suc k) i frame = from-length k (suc i) (set frame i (start_at size links cells i)) ∙ length-set frame i (start_at size links cells i)

  from-before : (k i : ℕ) (frame : List ℕ) (j : ℕ) → j < i → get_or (start_from size links cells k i frame) j 0 ≡ get_or frame j 0
  unfolding start_from
  from-before zero i frame j h = refl
  from-before (suc k) i frame j h =
      from-before k (suc i) (set frame i (start_at size links cells i)) j (omega arith) ∙ get_or-set_other frame i j (start_at size links cells i) 0 (omega arith)

  from_at : (k i : ℕ) (frame : List ℕ) (j : ℕ) → i ≤ j → j < i + k → j < length frame → get_or (start_from size links cells k i frame) j 0 ≡ start_at size links cells j
  unfolding start_from
  from_at zero i frame j h l r = absurd (omega arith)
  from_at (suc k) i frame j h l r =
      let n = length-set frame i (start_at size links cells i) in
      elim (dec_lt i j) [
        | yes less ↦ from_at k (suc i) (set frame i (start_at size links cells i)) j less (omega arith) (omega arith)
        | no not ↦
            let q : j ≡ i = omega arith in
            rw q (from-before k (suc i) (set frame i (start_at size links cells i)) i (omega arith) ∙ get_or-set_same frame i (start_at size links cells i) 0 (omega arith))
      ]

  pub start-length : (k : ℕ) → length (start_from size links cells k 0 (replicate table_entries 0)) ≡ table_entries
  start-length k = from-length k 0 (replicate table_entries 0) ∙ length-replicate {A = ℕ} table_entries 0

  pub start-at : (k j : ℕ) → j < k → k ≤ table_entries
      → get_or (start_from size links cells k 0 (replicate table_entries 0)) j 0 ≡ start_at size links cells j
  start-at k j h l =
      let n = length-replicate {A = ℕ} table_entries 0 in
      from_at k 0 (replicate table_entries 0) j (omega arith) (omega arith) (omega arith)

-- the value kept is that of the form
value-kept : (f : Form) (v : Value) → (kept_for (shown_as (name_in (name_of f)) (map name_in (awaited f)) v)).value ≡ pack_of v
value-kept f (Number z) = refl
value-kept f (Window s l) = refl
value-kept f Function = refl
value-kept f Delayed = refl
value-kept f (Missing r) = refl

pub shown-value : (xs : List ℤ) (f : Form) → (kept_for (shows xs f)).value ≡ pack_of (value_of (evaluate xs nowhere f))
unfolding shows
shown-value xs f = value-kept f (value_of (evaluate xs nowhere f))

-- the names kept are those of the answer
names-kept : (v : Shown) → ((kept_for v).name ≡ (view_of v).name) × ((kept_for v).other ≡ (view_of v).other)
unfolding view_of
names-kept (a_number z) = (refl, refl)
names-kept (a_window s l) = (refl, refl)
names-kept (a_function x) = (refl, refl)
names-kept (a_delay xs) = (refl, refl)
names-kept (a_reason r) = (refl, refl)

-- where w holds the names that the form awaits, the cells kept with its value are those of what it shows
pub kept-cells : (cells : List ℕ) (i w : ℕ) (xs : List ℤ) (f : Form) → (leb 1 (slot_a w) ≡ false → leb 1 (slot_b w) ≡ false) → slot_names cells w ≡ map name_in (awaited f)
    → Values.Keepable (length xs) (value_of (evaluate xs nowhere f)) → length xs ≤ table_readings
    → (value_of (evaluate xs nowhere f) ≡ Function → key_at cells i ≡ name_in (name_of f))
    → kept_for (shows xs f)
    ≡ record {
      value = pack_of (value_of (evaluate xs nowhere f));
      name = name_for cells i (pack_of (value_of (evaluate xs nowhere f))) w;
      other = other_for cells (pack_of (value_of (evaluate xs nowhere f))) w;
    }
unfolding shows
kept-cells cells i w xs f full names k h g =
    let v = value_of (evaluate xs nowhere f) in
    let s = kept-shows (length xs) cells i w f full names v k h g in
    let n = names-kept (shown_as (name_in (name_of f)) (map name_in (awaited f)) v) in
    λ t.
    record {
      value = shown-value xs f t;
      name = (n.0 ∙ ap (λ (x : View). x.name) (sym s)) t;
      other = (n.1 ∙ ap (λ (x : View). x.other) (sym s)) t;
    }

-- a value's numbers with its names are what is shown
shown_by : (k : Kept) (u : Value) → shown_of (view (shown_numbers u) k.name k.other) ≡ shown_as k.name (names_of k.name k.other) u
unfolding shown_of
shown_by k (Number z) = refl
shown_by k (Window s l) = refl
shown_by k Function = refl
shown_by k Delayed = refl
shown_by k (Missing r) = refl

-- cells with a mark show it
shown-mark : (k : Kept) (v : Shown) → mark_of k ≡ some v → shown_in k ≡ v
shown-mark k v h = split (eqb k.value 0) (λ e. absurd (false≢true (let z : none ≡ some v = rw e at h in cc))) (λ e. let z : some (shown_in k) ≡ some v = rw e at h in cc)

-- what a member or a function shows, from its kept cells
pub kept-view : (size : ℕ) (links cells : List ℕ) (n : ℕ) (v : Shown) → function_kind ≤ kind_at links n → kept_at cells n ≡ kept_for v
    → mark_of (kept_for v) ≡ some v
    → shown_of (show_of size links cells n) ≡ v
unfolding show_of start_at kept_at
kept-view size links cells n v h e m =
    let a : eqb (kind_at links n) variable_kind ≡ false = ne_eqb (kind_at links n) variable_kind (λ q. omega arith) in
    rw (a, le-ltb (kind_at links n) function_kind h)
    (shown_by (kept_at cells n) (unpack_of (kept_at cells n).value) ∙ ap shown_in e ∙ shown-mark (kept_for v) v m)

-- a leaf by its node: its value, which can be held, and what it shows
record Leaf (xs : List ℤ) (n : Node) (f : Form) : Type 0 where
  value : leaf_of (length xs) n.kind n.key ≡ pack_of (value_of (evaluate xs nowhere f))
  held : Values.Storable (value_of (evaluate xs nowhere f))
  shown : (u : View) → (let s = shown_numbers (value_of (evaluate xs nowhere f)) in
      shown_of (cond (eqb n.kind variable_kind) (view s n.key 0) (cond (ltb n.kind function_kind) (view s 0 0) u)) ≡ shows xs f)

leaf : (xs : List ℤ) (n : Node) (φ : ℕ → Form) → length xs ≤ table_readings → Fine n → key_right n ≡ true → n.kind < function_kind
    → Leaf xs n (build n φ)
unfolding leaf_of build evaluate value_of lookup awaited shows shown_of key_right
leaf xs _ φ s (a_number key) h k =
    let l = ltb-true key 4294967296 h in
    let q : key % 4294967296 + 1 ≡ suc key = omega arith in
    record { value = q ∙ ap suc (sym (number-key key)); held = down-range 2147483648 key (omega arith); shown = λ u. refl }
leaf xs _ φ s (a_variable x v l) h k =
    let q = name_back x v (omega arith) in
    record { value = refl; held = tt; shown = λ u. rw (name-some x h, q) }
leaf xs _ φ s (an_unbound x) h k = record { value = refl; held = omega arith; shown = λ u. refl }
leaf xs _ φ s the_readings h k = record { value = omega arith; held = (omega arith, omega arith); shown = λ u. refl }
leaf xs _ φ s (a_function x b v _) h k = absurd (omega arith)
leaf xs _ φ s (an_ask m f e) h k = absurd (omega arith)
leaf xs _ φ s (a_call m f a e) h k = absurd (omega arith)

-- entry j of a kept cache, where it is a leaf
module _ (m : Memory) (o : Ok m) (i : Invariant formulas formula-laws (holds m)) (j : ℕ) (inside : j < entry_count m)
    (low : kind_at m.links j < function_kind) where
  abbrev fs : List Form
  fs = forms_of (nodes_of (entries_of m))

  abbrev node : Node
  node = node_at m.links m.cells j

  key_right_lem : key_right node ≡ true
  unfolding entries_right
  key_right_lem =
      let w = sym (well-is m.readings m.heads m.links m.cells) ∙ accepted m o i in
      let r = ((and-eq-true_iff (leb (reading_count m) table_readings) _).0 ((and-eq-true_iff (leb (entry_count m) table_entries) _).0 w).1).1 in
      right_key j node (right-at m.links m.cells (entry_count m) j ((and-eq-true_iff _ _).0 r).0 inside)

  leaf-at : Leaf (recording_of m) node (get_or fs j readings)
  unfolding node_at
  leaf-at =
      let st = decodes formulas nodes graph-laws (nodes_of (entries_of m)) o.placed in
      let e = node-nth m j inside in
      let f = getD-nth fs j (build node (form_at formulas nodes fs)) readings (st.form j node e) in
      rw f (leaf (recording_of m) node (form_at formulas nodes fs) i.short (st.placed j node e).fine key_right_lem low)

  -- its value
  pub leaf-value : start_at (reading_count m) m.links m.cells j ≡ pack_of (value_of (evaluate (recording_of m) nowhere (get_or (forms_of (nodes_of (entries_of m))) j readings)))
  unfolding start_at node_at
  leaf-value =
      let l = (lengths m o.whole).readings in
      let r = o.readings in
      let c : length (recording_of m) ≡ reading_count m = length-take (reading_count m) m.readings ∙ omega arith in
      rw (lt-ltb (kind_at m.links j) function_kind low)
      (ap (λ (x : ℕ). leaf_of x (kind_at m.links j) (key_at m.cells j)) (sym c) ∙ leaf-at.value)

  -- what it shows, as the answer's numbers
  pub leaf-view : shown_of (show_of (reading_count m) m.links m.cells j) ≡ shows (recording_of m) (get_or (forms_of (nodes_of (entries_of m))) j readings)
  unfolding show_of node_at
  leaf-view = rw (leaf-value, round (value_of (evaluate (recording_of m) nowhere (get_or fs j readings))) leaf-at.held) (leaf-at.shown _)
