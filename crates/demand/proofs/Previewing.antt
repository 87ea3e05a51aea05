-- A preview of a cache that was opened and kept answers as the model does and leaves what the model holds. Assumes nothing.
use Rattle.std.specs.Prelude.{◌≡◌, refl, Bool, false, ◌⊎◌, eqb, ltb, ℤ, pos, get_or, replicate}
use Rattle.std.proofs.lemmas.Bool.{false≢true}
use Rattle.std.proofs.Common.{sym, ◌∙◌, inl, inr, arith, eq-eqb, ne_eqb, lt-ltb, le-ltb, leb-true, leb-false, ltb-true, ltb-false, length-take}
use Rattle.std.proofs.Math.Path.{ap}
use Rattle.std.proofs.Math.Bool.{true}
use mathlib.Core.List.{List, [], ◌∷◌}
use Rattle.std.proofs.Math.Logic.{⊎_elim}
use Rattle.std.proofs.Math.Option.{none, some}
use Prim.Native.Nat.{ℕ, zero, suc, ◌+◌, ◌-◌, ◌<◌, ◌≤◌, min}
use Rattle.std.proofs.Math.Nat.{sub-zero}
use Rattle.std.proofs.Math.ListN.{length, get_elem?}
use Rattle.std.proofs.lemmas.List.{length-map}
use Rattle.std.specs.Int.Signed.{mag}
use Rattle.language.specs.Cases.{split}
use Rattle.language.specs.Limits.{table_entries}
use Rattle.meaning.specs.Forms.{Form, readings, works, name_of, same, dependency, within, name_in, with_level}
use Rattle.meaning.proofs.FormsLaws.{name_back}
use Rattle.meaning.specs.Evaluation.{awaited, shows}
use Rattle.model.specs.Lists.{All, count_if, index}
use Rattle.model.specs.ListLaws.{nth-has, nth-map, getD-nth, all-nth, member-nth, nth-index, index-nth, on-count}
use Rattle.model.specs.Model as Model
use Rattle.model.specs.Forms.{below-held, reach-down}
use Rattle.model.specs.Invariant as Inv
use Rattle.model.specs.Invariant.{Invariant}
use Rattle.model.specs.Graph.{among, Stands, links_at, decodes}
use Rattle.model.specs.Sweep.{needed, swept, linked}
use Rattle.model.specs.Previews.{Values, counts-as-model, works-as-model}
use Rattle.layout.specs.Memory.{Memory, Node, Entry, entry_count, reading_count, recording_of, node_at, kept_at, entry_at, entries_from, entries_of, nodes_of, nothing_kept, node_with}
use Rattle.layout.specs.Nodes.{function_kind, works_kind, kids, build}
use Rattle.table.specs.Right.{node_right}
use Rattle.layout.specs.Numbered.{numbered}
use Rattle.table.specs.WellFormed.{well_formed}
use Rattle.table.specs.CheckedLaws.{nodes-are}
use Rattle.binder.specs.AppendedLaws.{well-parts}
use Rattle.layout.specs.Links.{kind_at, first_at, second_at, key_at, level_at}
use Rattle.table.specs.Waits.{waits_from}
use Rattle.table.specs.NodeKinds.{Fine, a_number, a_variable, an_unbound, the_readings, a_function, an_ask, a_call, node_form, build-fine}
use Rattle.evaluator.specs.Frames.{start_at, start_from}
use Rattle.evaluator.specs.Applying.{graph, apply_at}
use Rattle.schedule.specs.Works.{Work, need_of, worked, show_of}
use Rattle.refine.specs.Tables.{Link}
use Rattle.refine.specs.Waiting.{waits-names, waits-full, good}
use Rattle.refine.specs.Counts.{chosen_in, work-count, work-left}
use Rattle.formulas.specs.Formulas.{formulas, IsReading}
use Rattle.bridge.specs.Graphs.{nodes, graph-laws, kids-function, kids-ask, kids-call, among_first, among_second}
use Rattle.table.specs.EntryForms.{forms_of}
use Rattle.bridge.specs.Proper.{Proper}
use Rattle.bridge.specs.FormulaLaws.{formula-laws}
use Rattle.std.specs.Prelude
use Rattle.interface.specs.Answers.{shown_of, preview_reply}
use Rattle.interface.specs.Calls.{work_on, worked_memory, previewed_as, previewed, preview_answer, preview_memory}
use Rattle.demand.specs.Holds.{with_marks, holds, mark_of, kept_for, Ok, Written}
use Rattle.demand.proofs.Bound.{among-by}
use Rattle.demand.proofs.Appended.{lengths, long-enough, entries-length}
use Rattle.demand.proofs.Standing.{beyond, forms-joined, size-held}
use Rattle.demand.proofs.Fitting.{Deep}
use Rattle.demand.proofs.Cells.{keeps}
use Rattle.demand.proofs.Accepted.{works-kind}
use Rattle.demand.proofs.Editing.{Done}
use Rattle.demand.proofs.Needs.{entry-nth, node-nth, needs}
use Rattle.demand.proofs.Starts.{start-length, start-at, kept-view, leaf-value, leaf-view}
use Rattle.demand.proofs.PreviewLoop.{form_at, shown_at, held-nth, Ready, Stored, Framed, Left, loop, counts}

-- what a node says of its form: the name that a function shows, and its links
record Says (n : Node) (f : Form) : Type 0 where
  key : function_kind ≤ n.kind → n.key ≡ name_in (name_of f)
  first : (d : ℕ) → n.first ≡ suc d → among d (kids n) ≡ true
  second : (d : ℕ) → n.second ≡ suc d → among d (kids n) ≡ true

says-leaf : (n : Node) (f : Form) → n.kind < function_kind → n.first ≡ 0 → n.second ≡ 0 → Says n f
says-leaf n f k p q = record { key = λ h. absurd (omega arith); first = λ d g. absurd (omega arith); second = λ d g. absurd (omega arith) }

says : {n : Node} (φ : ℕ → Form) (k : Fine n) → Says n (node_form k φ)
unfolding name_of
says φ (a_number key) = says-leaf _ _ (omega arith) refl refl
says φ (a_variable x _ _) = says-leaf _ _ (omega arith) refl refl
says φ (an_unbound x) = says-leaf _ _ (omega arith) refl refl
says φ the_readings = says-leaf _ _ (omega arith) refl refl
says φ (a_function x b k l) =
    let n = name_back x k (omega arith) in
    record {
      key = λ h. sym n;
      first = λ d e. let q : d ≡ b = omega arith in among-by d _ _ (kids-function x b k) (rw q (among_first b []));
      second = λ d e. absurd (omega arith);
    }
says φ (an_ask m f e) =
    record {
      key = λ h. refl;
      first = λ d g. let q : d ≡ f = omega arith in among-by d _ _ (kids-ask m f e) (rw q (among_first f []));
      second = λ d g. absurd (omega arith);
    }
says φ (a_call m f a e) =
    record {
      key = λ h. refl;
      first = λ d g. let q : d ≡ f = omega arith in among-by d _ _ (kids-call m f a e) (rw q (among_first f (a ∷ [])));
      second = λ d g. let q : d ≡ a = omega arith in among-by d _ _ (kids-call m f a e) (rw q (among_second f a));
    }

-- a table's entries, and its nodes, by what holds of each number
entries-all : (P : Entry → Type 0) (links cells : List ℕ) (p k : ℕ) → ((j : ℕ) → p ≤ j → j < p + k → P (entry_at links cells j)) → All P (entries_from links cells p k)
unfolding entries_from
entries-all P links cells p zero h = tt
entries-all P links cells p (suc k) h = (h p (omega arith) (omega arith), entries-all P links cells (suc p) k (λ j a b. h j (omega arith) (omega arith)))

nodes-same : (links cells now : List ℕ) (c : ℕ) → ((j : ℕ) → key_at now j ≡ key_at cells j) → nodes_of (entries_from links now 0 c) ≡ nodes_of (entries_from links cells 0 c)
unfolding node_at
nodes-same links cells now c h =
    nodes-are links now 0 c
    ∙ (λ t. numbered (λ j. node_with (kind_at links j) (h j t) (first_at links j) (second_at links j) (level_at links j)) 0 c)
    ∙ sym (nodes-are links cells 0 c)

count-zero : {A : Type 0} (p : A → Bool) (xs : List A) (i : ℕ) (x : A) → count_if p xs ≡ 0 → get_elem? xs i ≡ some x → p x ≡ false
unfolding count_if
count-zero p [] i x h e = absurd (false≢true (cc))
count-zero p (y ∷ xs) zero x h e = let q : y ≡ x = cc in split (p x) (λ t. absurd (let g = rw (q, t) at h in omega arith)) (λ t. t)
count-zero p (y ∷ xs) (suc i) x h e = split (p y) (λ t. absurd (let g = rw t at h in omega arith)) (λ t. count-zero p xs i x (rw t at h) e)

-- a leaf shows the same over cells with the same keys
leaf-stays : (size : ℕ) (links cells now : List ℕ) (n : ℕ) → kind_at links n < function_kind → key_at now n ≡ key_at cells n
    → show_of size links now n ≡ show_of size links cells n
unfolding show_of start_at
leaf-stays size links cells now n k e = rw (lt-ltb (kind_at links n) function_kind k, e)

-- a form for each entry
entries-held : (m : Memory) → length (Model.forms formulas (holds m).entries) ≡ entry_count m
entries-held m = ap length (forms-joined (forms_of (nodes_of (entries_of m))) (entries_of m) (size-held m)) ∙ size-held m ∙ entries-length m.links m.cells 0 (entry_count m)

-- a cache that was opened and kept, and one of its entries
module _ (m : Memory) (o : Ok m) (i : Invariant formulas formula-laws (holds m)) (well : well_formed m ≡ true) (n : ℕ) (inside : n < entry_count m) where
  abbrev ns : List Node
  ns = nodes_of (entries_of m)

  abbrev fs : List Form
  fs = forms_of ns

  abbrev φ : ℕ → Form
  φ = form_at fs

  abbrev xs : List ℤ
  xs = recording_of m

  abbrev node_of : ℕ → Node
  node_of = node_at m.links m.cells

  abbrev flag : ℕ → Bool
  flag = needed formulas nodes ns n

  held-forms : Model.forms formulas (holds m).entries ≡ fs
  held-forms = forms-joined fs (entries_of m) (size-held m)

  size : length fs ≡ entry_count m
  size = size-held m ∙ entries-length m.links m.cells 0 (entry_count m)

  stands : Stands formulas nodes ns fs
  stands = decodes formulas nodes graph-laws ns o.placed

  few : entry_count m ≤ table_entries
  few = (well-parts m well).few

  recorded : length xs ≡ reading_count m
  recorded = let l = (lengths m o.whole).readings in let r = o.readings in length-take (reading_count m) m.readings ∙ omega arith

  small : (k : ℕ) → k < length xs → mag (get_or xs k (pos 0)) < 2147483648
  small k h = let x = nth-has xs k h in rw (getD-nth xs k x.0 (pos 0) x.1) (all-nth IsReading xs k x.0 i.sound x.1)

  proper : All Proper fs
  unfolding formula-laws
  proper = rw held-forms at i.proper

  -- entry j: its form
  form-built : (j : ℕ) → j < entry_count m → get_elem? fs j ≡ some (build (node_of j) φ)
  form-built j h = stands.form j (node_of j) (node-nth m j h)

  form-is : (j : ℕ) → j < entry_count m → φ j ≡ build (node_of j) φ
  form-is j h = getD-nth fs j (build (node_of j) φ) readings (form-built j h)

  form-nth : (j : ℕ) → j < entry_count m → get_elem? fs j ≡ some (φ j)
  form-nth j h = form-built j h ∙ ap some (sym (form-is j h))

  fine : (j : ℕ) → j < entry_count m → Fine (node_of j)
  fine j h = (stands.placed j (node_of j) (node-nth m j h)).fine

  form_of : (j : ℕ) (h : j < entry_count m) → φ j ≡ node_form (fine j h) φ
  form_of j h = form-is j h ∙ build-fine (fine j h) φ

  said : (j : ℕ) → j < entry_count m → Says (node_of j) (φ j)
  said j h = rw (form_of j h) (says φ (fine j h))

  alone : (j k : ℕ) → j < entry_count m → k < entry_count m → node_of j ≡ node_of k → j ≡ k
  alone j k h l e =
      let d = rw held-forms at i.distinct in
      let q : φ j ≡ φ k = form-is j h ∙ ap (λ (x : Node). build x φ) e ∙ sym (form-is k l) in
      sym (index-nth formula-laws.tests.equality fs d j (φ j) (form-nth j h)) ∙ ap (λ (f : Form). index same f fs) q ∙ index-nth formula-laws.tests.equality fs d k (φ k) (form-nth k l)

  deep : (j : ℕ) → j < entry_count m → Deep (φ j)
  deep j h g w =
      let eq = formula-laws.tests.equality in
      all-nth Proper fs (index same g fs) g proper
      (nth-index eq g fs (below-held formulas formula-laws.tests fs (rw held-forms at i.ordered) (φ j) g (member-nth eq fs j (φ j) (form-nth j h)) w))

  -- what is flagged lies at or below entry n, and so do its dependencies
  reached : (j : ℕ) → j < entry_count m → flag j ≡ within (φ j) (φ n)
  reached j h =
      swept formulas fs (links_at formulas nodes ns) formula-laws.tests (linked formulas nodes graph-laws ns fs stands) n (φ n) (form-nth n inside)
      (rw held-forms at i.distinct) j (φ j) (form-nth j h)

  closed : (j d : ℕ) → j ≤ n → Link m.links j d → flag j ≡ true → flag d ≡ true
  unfolding node_at
  closed j d h l f =
      let low = l.0 in
      let s = said j (omega arith) in
      let a : among d (kids (node_of j)) ≡ true = ⊎_elim (λ e. s.first d e) (λ e. s.second d e) l.1 in
      let b = graph-laws.only (node_of j) φ d (fine j (omega arith)) a in
      let c : dependency (φ d) (φ j) ≡ true = rw (form-is j (omega arith)) b in
      reached d (omega arith) ∙ reach-down formulas formula-laws.tests (φ d) (φ j) (φ n) c (sym (reached j (omega arith)) ∙ f)

  abbrev awaits : List ℕ
  awaits = waits_from m.links m.cells (suc n) 0 (replicate table_entries 0)

  abbrev flags : List ℕ
  flags = need_of m.links n

  ready : Ready m.links m.cells awaits flags xs fs (entry_count m) n flag
  unfolding node_at
  ready =
      let p = few in
      let long = (lengths m o.whole).cells in
      let right : (j : ℕ) → j < suc n → node_right j (node_of j) ≡ true = λ j h. (well-parts m well).right j (omega arith) in
      let forms : (j : ℕ) → j < suc n → φ j ≡ build (node_of j) φ = λ j h. form-is j (omega arith) in
      let one : (j k : ℕ) → j < suc n → k < suc n → node_of j ≡ node_of k → j ≡ k = λ j k h l. alone j k (omega arith) (omega arith) in
      let names : (j : ℕ) → j < suc n → length (awaited (φ j)) ≤ 2 = λ j h. (all-nth Proper fs j (φ j) proper (form-nth j (omega arith))).few in
      record {
        size = size;
        inside = inside;
        room = omega arith;
        good = good m.links m.cells xs (suc n) φ (omega arith) i.short small right forms one names;
        names = λ j h. waits-names m.links m.cells xs (suc n) φ (omega arith) i.short small right forms one names j (omega arith);
        full = λ j h. waits-full m.links m.cells xs (suc n) φ (omega arith) i.short small right forms one names j (omega arith);
        keys = λ j h. (said j (omega arith)).key;
        works = λ j h. ap works (form_of j h) ∙ works-kind φ (fine j h);
        marks = λ j h. (keeps xs i.short small (φ j) (deep j h)).mark;
        told = needs m o n few inside;
        closed = closed;
      }

  -- at first, each entry keeps nothing or what its form shows, and the frame has the leaves' values and what is kept
  stored : Stored m.cells xs fs (entry_count m) m.cells
  stored = record {
    long = refl;
    keys = λ j. refl;
    kept = λ j h.
        by j (all-nth Written (entries_of m) j _ o.written (entry-nth m j h))
        (all-nth (Inv.Kept formulas xs) (holds m).entries j _ i.kept (held-nth m.links fs (entry_count m) m.cells j size h));
  }
    where
      by : (j : ℕ) → Written (entry_at m.links m.cells j) → Inv.Kept formulas xs (record { form = φ j; mark = mark_of (kept_at m.cells j) })
          → (kept_at m.cells j ≡ nothing_kept) ⊎ (kept_at m.cells j ≡ kept_for (shown_at xs fs j))
      by j (inl q) k = inl q
      by j (inr w) (Inv.bare q) = absurd (false≢true (let z : none ≡ some w.0 = sym q ∙ ap mark_of w.1 ∙ w.2 in cc))
      by j (inr w) (Inv.holds x q) =
          let z : some w.0 ≡ some (shown_at xs fs j) = sym (ap mark_of w.1 ∙ w.2) ∙ q in
          let v : w.0 ≡ shown_at xs fs j = cc in
          inr (w.1 ∙ ap kept_for v)

  abbrev frame : List ℕ
  frame = start_from (length xs) m.links m.cells (suc n) 0 (replicate table_entries 0)

  framed : Framed m.links xs fs n flag 0 m.cells frame
  unfolding start_at
  framed =
      let p = few in
      record {
        size = start-length (length xs) m.links m.cells (suc n);
        leaf = λ j h k. start-at (length xs) m.links m.cells (suc n) j (omega arith) (omega arith) ∙ rw recorded (leaf-value m o i j (omega arith) k);
        work = λ j h k.
            start-at (length xs) m.links m.cells (suc n) j (omega arith) (omega arith) ∙ rw (le-ltb (kind_at m.links j) function_kind k);
        done = λ j h f. absurd (omega arith);
      }

  abbrev f : Form
  f = φ n

  abbrev es : List (Model.Entry formulas)
  es = (holds m).entries

  form-held : get_elem? (Model.forms formulas es) n ≡ some f
  form-held = rw held-forms (form-nth n inside)

  stands-held : Stands formulas nodes ns (Model.forms formulas es)
  stands-held = rw held-forms stands

  room : suc n ≤ length es
  room = let l = sym (length-map es (λ (e : Model.Entry formulas). e.form)) ∙ entries-held m in omega arith

  -- how many entries are to be worked out
  pending : chosen_in m.links flags frame (suc n) 0 ≡ Model.left formulas f es
  pending =
      counts m.links m.cells awaits flags xs fs (entry_count m) n flag ready (suc n) 0 m.cells frame (omega arith) framed.work
      ∙ counts-as-model formulas formula-laws nodes graph-laws (holds m) i ns stands-held n f form-held (suc n) (omega arith) room

  module _ (a : ℕ) where
    abbrev w : Work
    w = work_on m n a

    abbrev after : List (Model.Entry formulas)
    after = Model.work_out formulas xs a f es

    values : Values formulas xs (Model.forms formulas es) (λ (l : List (Model.Entry formulas)) (p : ℕ). shown_at xs fs p)
    values l p e h k q u d =
        let g : get_elem? fs p ≡ some e.form = sym (ap (λ (r : List Form). get_elem? r p) (h ∙ held-forms)) ∙ nth-map (λ (x : Model.Entry formulas). x.form) l p e q in
        ap (shows xs) (getD-nth fs p e.form readings g)

    left : Left m.links m.cells awaits flags xs fs (entry_count m) n flag ready w.cells after
    unfolding worked
    left =
        let l = loop m.links m.cells awaits flags xs fs (entry_count m) n flag ready a (suc n) 0 m.cells frame 0 (omega arith) (omega arith) stored framed in
        rw (
          sub-zero a,
          works-as-model formulas formula-laws nodes graph-laws (holds m) i ns stands-held n f form-held (suc n) (omega arith) room
              (λ (l : List (Model.Entry formulas)) (p : ℕ). shown_at xs fs p) values a,
        ) at l

    count-is : w.count ≡ min a (Model.left formulas f es)
    unfolding worked
    count-is =
        work-count (apply_at (graph m.links awaits xs) table_entries) m.links awaits flags a (suc n) 0 m.cells frame 0 (omega arith)
        ∙ rw pending (omega arith)

    left_is : w.left ≡ ltb a (Model.left formulas f es)
    unfolding worked
    left_is =
        work-left (apply_at (graph m.links awaits xs) table_entries) m.links awaits flags a (suc n) 0 m.cells frame 0 (omega arith)
        ∙ rw (pending, sub-zero a)

    left_after : Model.left formulas f after ≡ Model.left formulas f es - a
    unfolding Model.pending
    left_after = on-count (Model.pending formulas f) (Model.mark_with formulas xs) (λ e. refl) a es

    abbrev m' : Memory
    m' = worked_memory m w

    nodes-stay : nodes_of (entries_of m') ≡ ns
    nodes-stay = nodes-same m.links m.cells w.cells (entry_count m) left.stored.keys

    written : (j : ℕ) → j < entry_count m → Written (entry_at m.links w.cells j)
    written j h = ⊎_elim (λ q. inl q) (λ q. inr (shown_at xs fs j, q, ready.marks j h)) (left.stored.kept j h)

    ok : Ok m'
    ok =
        let l = lengths m o.whole in
        let long = left.stored.long in
        record {
          whole = long-enough m' (record { readings = l.readings; heads = l.heads; links = l.links; cells = rw long l.cells });
          readings = o.readings;
          placed = rw nodes-stay o.placed;
          written = entries-all Written m.links w.cells 0 (entry_count m) (λ j h g. written j (omega arith));
        }

    -- where all is worked out, entry n keeps what it shows
    unkept : {A : Type 0} → kept_at w.cells n ≡ nothing_kept → works_kind (kind_at m.links n) ≡ true → Model.left formulas f after ≡ 0 → A
    unfolding Model.pending
    unkept q k z =
        let x = ap (λ (l : List (Model.Entry formulas)). get_elem? l n) (sym left.entries) ∙ held-nth m.links fs (entry_count m) w.cells n size inside in
        let p = count-zero (Model.pending formulas f) after n _ z x in
        absurd (false≢true (sym (rw (q, ready.works n inside ∙ k, formula-laws.tests.reach-self f) at p)))

    shown : Model.left formulas f after ≡ 0 → shown_of (show_of (reading_count m) m.links w.cells n) ≡ shows xs f
    shown z =
        split (works_kind (kind_at m.links n))
        (λ k.
        ⊎_elim (λ q. unkept q k z)
        (λ q. kept-view (reading_count m) m.links w.cells n (shows xs f) (leb-true function_kind (kind_at m.links n) k) q
        (ready.marks n inside))
        (left.stored.kept n inside))
        (λ k.
        let low = leb-false function_kind (kind_at m.links n) k in
        ap shown_of (leaf-stays (reading_count m) m.links m.cells w.cells n low (left.stored.keys n)) ∙ leaf-view m o i n inside low)

    answered : preview_reply (Prelude.Ok (previewed_as m n w)) ≡ (Model.previewed formulas (holds m) a f).answer
    answered =
        split (ltb a (Model.left formulas f es))
        (λ q.
        let l = ltb-true a (Model.left formulas f es) q in
        let z : eqb (Model.left formulas f after) 0 ≡ false = ne_eqb (Model.left formulas f after) 0 (λ e. let g = left_after in omega arith) in
        rw (left_is ∙ q, z, count-is))
        (λ q.
        let l = ltb-false a (Model.left formulas f es) q in
        let y : Model.left formulas f after ≡ 0 = left_after ∙ omega arith in
        rw (left_is ∙ q, eq-eqb (Model.left formulas f after) 0 y, count-is, shown y))

    done : Done m' (Model.previewed formulas (holds m) a f) (preview_reply (Prelude.Ok (previewed_as m n w)))
    done =
        record {
          answer = answered;
          ok = ok;
          holds = λ t. record { recording = xs; entries = ((λ u. with_marks (forms_of (nodes-stay u)) (entries_of m')) ∙ left.entries) t };
        }

pub previewing : (m : Memory) (n a : ℕ) → Ok m → Invariant formulas formula-laws (holds m) → well_formed m ≡ true
    → Done (preview_memory m n a) (Model.on_preview formulas (holds m) true n a) (preview_answer m n a)
unfolding preview_memory previewed Model.on_preview Model.look
previewing m n a o i w =
    let f = o.whole in
    rw (f, w)
    (split (ltb n (entry_count m))
    (λ q. let h = ltb-true n (entry_count m) q in rw (q, form-held m o i w n h) (done m o i w n h a))
    (λ q. let h = beyond (Model.forms formulas (holds m).entries) n (omega (arith, ltb-false n (entry_count m) q, entries-held m)) in rw (q, h) (record { answer = refl; ok = o; holds = refl })))
