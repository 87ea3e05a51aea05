-- A preview of any well-formed cache, whatever is kept in it, leaves a well-formed one, and works out as many entries as it says. Each entry
-- that it works out is kept as a packed value with the names of that value, and what the entry depends on was worked out before it.
-- Assumes nothing.
use Rattle.std.specs.Prelude.{◌≡◌, not, ◌&&◌, ◌||◌, List, ◌⊎◌, leb, ltb, ℤ, length, get_or, set, replicate}
use Rattle.std.proofs.lemmas.Bool.{false≢true}
use Rattle.std.proofs.Math.Path.{refl, sym, ap, subst}
use Rattle.std.proofs.Common.{◌∙◌, length-set, length-take, get_or-set_same, get_or-set_other}
use Rattle.std.proofs.Math.Bool.{true, false, or-true, and-eq-true_iff}
use Rattle.std.proofs.Math.Logic.{inl, inr}
use Prim.Native.Nat.{ℕ, zero, suc, ◌+◌, ◌-◌, ◌<◌, ◌≤◌}
use native.Mathlib.Omega.{arith}
use borrow.Author.Tests.{eq-eqb, ne_eqb, eqb-true, eqb-false, le-leb, leb-true, lt-ltb, le-ltb, ltb-true}
use Rattle.std.proofs.Math.Dec.{eqb}
use Rattle.language.specs.Cases.{split}
use Rattle.language.specs.Limits.{table_entries}
use Rattle.values.specs.Packing.{is_packed}
use Rattle.model.specs.Lists.{All, count_if}
use Rattle.layout.specs.Memory.{Memory, Node, Kept, Entry, fits, entry_count, reading_count, recording_of, node_at, kept_at, entry_at, entries_from, node_with}
use Rattle.layout.specs.Nodes.{function_kind, works_kind, arity, listed, kids, is_name}
use Rattle.table.specs.WellFormed.{key_right, done_at, all_done, settled, names_right, kept_right}
use Rattle.table.specs.Right.{node_right}
use Rattle.layout.specs.Numbered.{numbered}
use Rattle.table.specs.RightLaws.{right_key, first-low, second-low, first-given, variable-named}
use Rattle.table.specs.Checked.{kept_ok}
use Rattle.table.specs.CheckedLaws.{done-is}
use Rattle.binder.specs.AppendedLaws.{Well, and-true, settled-later}
use Rattle.layout.specs.LinksLaws.{kept-length as keep-length, kept-key as keep-key, kept-apart as keep_apart, kept_here as keep-here}
use Rattle.layout.specs.Links.{kind_at, first_at, second_at, key_at, value_at, is_below, level_at}
use Rattle.table.specs.ArityLaws.{a_second}
use Rattle.table.specs.Waits.{waits_from}
use Rattle.table.specs.AwaitsLaws.{few-at}
use Rattle.table.specs.WaitsLaws.{apart, found}
use Rattle.evaluator.specs.Frames.{start_at, start_from}
use Rattle.evaluator.specs.Applying.{graph, apply_at}
use Rattle.schedule.specs.Works.{need_of, chosen, name_for, other_for, kept, Work, work_from, worked}
use Rattle.refine.specs.Packed.{Cell, Cells, set-cells, Right, apply-packed, leaf-packed, zeros, start-cells}
use Rattle.refine.specs.Named.{names-right}
use Rattle.refine.specs.Needed.{Flagged, needed-link}
use Rattle.formulas.specs.Formulas.{IsReading}
use Rattle.interface.specs.Calls.{work_on, worked_memory}
use Rattle.demand.proofs.Appended.{lengths}
use Rattle.demand.proofs.Accepted.{reading_small}
use Rattle.demand.proofs.WorkedCount.{is_kept, count-more}
use Rattle.demand.specs.Holds.{worked_out}
use Rattle.demand.proofs.Starts.{start-length, start-at}

-- ---- as many cells as before

work-length : (value : List ℕ → ℕ → ℕ) (links waits flags : List ℕ) (a k i : ℕ) (now frame : List ℕ) (count : ℕ) → length (work_from value links waits flags a k i now frame count).cells ≡ length now
unfolding work_from
work-length value links waits flags a zero i now frame count = refl
work-length value links waits flags a (suc k) i now frame count =
    split (chosen links flags frame i)
    (λ h. rw h
    (split (ltb count a)
    (λ q. rw q (work-length value links waits flags a k (suc i) _ _ (suc count) ∙ keep-length now i _ _ _))
    (λ q. rw q)))
    (λ h. rw h (work-length value links waits flags a k (suc i) now frame count))

pub worked-fits : (m : Memory) (n a : ℕ) → fits (worked_memory m (work_on m n a)) ≡ fits m
unfolding fits worked
worked-fits m n a = rw (work-length _ _ _ _ a (suc n) 0 m.cells _ 0)

-- ---- the dependencies of a right node

kids-done : (i : ℕ) (n : Node) (es : List Entry) → node_right i n ≡ true
    → ((link : ℕ) → (n.first ≡ link) ⊎ (n.second ≡ link) → is_below link i ≡ true → done_at es (link - 1) ≡ true) → all_done es (kids n) ≡ true
unfolding kids all_done
kids-done i n es r h = by (arity n.kind) refl
  where
    first : (arity n.kind ≡ 0 → ⊥) → done_at es (n.first - 1) ≡ true
    first u = h n.first (inl refl) (rw (le-leb 1 n.first (first-given i n r u), le-leb n.first i (first-low i n r)))

    second : 2 ≤ arity n.kind → done_at es (n.second - 1) ≡ true
    second u = h n.second (inr refl) (rw (le-leb 1 n.second (a_second i n r u), le-leb n.second i (second-low i n r)))

    by : (k : ℕ) → arity n.kind ≡ k → all_done es (listed k n) ≡ true
    by zero e = refl
    by (suc zero) e = rw (first (λ z. omega arith))
    by (suc (suc k)) e = rw (first (λ z. omega arith), second (omega arith))

-- ---- a preview of entry n

module _ (m : Memory) (f : fits m ≡ true) (well : Well m) (sound : All IsReading (recording_of m)) (n : ℕ) (inside : n < entry_count m) where
  abbrev links : List ℕ
  links = m.links

  abbrev c : ℕ
  c = entry_count m

  abbrev r : ℕ
  r = reading_count m

  abbrev xs : List ℤ
  xs = recording_of m

  abbrev waits : List ℕ
  waits = waits_from links m.cells (suc n) 0 (replicate table_entries 0)

  abbrev flags : List ℕ
  flags = need_of links n

  abbrev value : List ℕ → ℕ → ℕ
  value = apply_at (graph links waits xs) table_entries

  abbrev entries : List ℕ → List Entry
  entries now = entries_from links now 0 c

  recorded : length xs ≡ r
  recorded = let l = (lengths m f).readings in let k = well.readings in length-take r m.readings ∙ omega arith

  -- an entry is done
  done-as : (now : List ℕ) (j : ℕ) → (ltb j c && (not (works_kind (kind_at links j)) || leb 1 (value_at now j))) ≡ done_at (entries now) j
  done-as now j = done-is links now c j (kind_at links j) (value_at now j) refl refl

  done-leaf : (now : List ℕ) (j : ℕ) → j < c → works_kind (kind_at links j) ≡ false → done_at (entries now) j ≡ true
  done-leaf now j l e = sym (done-as now j) ∙ rw (lt-ltb j c l, e)

  done-kept : (now : List ℕ) (j : ℕ) → j < c → 1 ≤ value_at now j → done_at (entries now) j ≡ true
  done-kept now j l e = sym (done-as now j) ∙ rw (lt-ltb j c l, le-leb 1 (value_at now j) e) (or-true (not (works_kind (kind_at links j))))

  done-stays : (now then : List ℕ) → ((j : ℕ) → 1 ≤ value_at now j → 1 ≤ value_at then j) → (j : ℕ) → done_at (entries now) j ≡ true → done_at (entries then) j ≡ true
  done-stays now then h j d =
      let b = (and-eq-true_iff (ltb j c) _).0 (done-as now j ∙ d) in
      let l = ltb-true j c b.0 in
      split (works_kind (kind_at links j))
      (λ e. done-kept then j l (h j (leb-true 1 (value_at now j) (rw e at b.1))))
      (λ e. done-leaf then j l e)

  -- the cells so far
  record Stored (now : List ℕ) : Type 0 where
    long : length now ≡ length m.cells
    keys : (j : ℕ) → key_at now j ≡ key_at m.cells j
    right : (j : ℕ) → j < c → kept_ok links now c r j ≡ true

  -- the frame that goes with them, where all that is flagged below i is done
  record Framed (i : ℕ) (now frame : List ℕ) : Type 0 where
    size : length frame ≡ table_entries
    cells : Cells r frame
    work : (j : ℕ) → j ≤ n → works_kind (kind_at links j) ≡ true → get_or frame j 0 ≡ value_at now j
    done : (j : ℕ) → j < i → Flagged flags j → done_at (entries now) j ≡ true

  node-key : (now : List ℕ) → ((j : ℕ) → key_at now j ≡ key_at m.cells j) → (j : ℕ) → node_at links now j ≡ node_at links m.cells j
  unfolding node_at
  node-key now h j = λ t. node_with (kind_at links j) (h j t) (first_at links j) (second_at links j) (level_at links j)

  function-named : (i : ℕ) → i < c → kind_at links i ≡ function_kind → is_name (key_at m.cells i) ≡ true
  unfolding node_at key_right
  function-named i l e = rw e at (right_key i (node_at links m.cells i) (well.right i l))

  module _ (i : ℕ) (now frame : List ℕ) (most : i ≤ n) (s : Stored now) (g : Framed i now frame) where
    -- an entry that is not chosen, where it is flagged, is done
    passed : chosen links flags frame i ≡ false → Framed (suc i) now frame
    unfolding chosen
    passed h = record { size = g.size; cells = g.cells; work = g.work; done = done }
      where
        here : Flagged flags i → done_at (entries now) i ≡ true
        here t =
            split (works_kind (kind_at links i))
            (λ k.
            let w = g.work i most k in
            let z : eqb (get_or frame i 0) 0 ≡ false = rw (eq-eqb (get_or flags i 0) 1 t, k) at h in
            done-kept now i (omega arith) (let y = eqb-false (get_or frame i 0) 0 z in omega arith))
            (λ k. done-leaf now i (omega arith) k)

        done : (j : ℕ) → j < suc i → Flagged flags j → done_at (entries now) j ≡ true
        done j l t = split (eqb j i) (λ e. let q = eqb-true j i e in rw q (here (rw q at t))) (λ e. let q = eqb-false j i e in g.done j (omega arith) t)

    -- an entry that is chosen, worked out
    module _ (h : chosen links flags frame i ≡ true) where
      flagged : Flagged flags i
      unfolding chosen
      flagged = eqb-true (get_or flags i 0) 1 ((and-eq-true_iff (eqb (get_or flags i 0) 1) _).0 h).0

      works : works_kind (kind_at links i) ≡ true
      unfolding chosen
      works = ((and-eq-true_iff (works_kind (kind_at links i)) _).0 ((and-eq-true_iff (eqb (get_or flags i 0) 1) _).0 h).1).0

      empty : value_at now i ≡ 0
      unfolding chosen
      empty =
          sym (g.work i most works)
          ∙ eqb-true (get_or frame i 0) 0 ((and-eq-true_iff (works_kind (kind_at links i)) _).0 ((and-eq-true_iff (eqb (get_or flags i 0) 1) _).0 h).1).1

      abbrev v : ℕ
      v = value frame i

      abbrev w : ℕ
      w = get_or waits i 0

      right-value : Right r (kind_at links i) v
      right-value =
          let k = well.readings in
          apply-packed (graph links waits xs) r (omega arith) (reading_small xs sound) 511 frame i g.cells
          (le-ltb (kind_at links i) function_kind (leb-true function_kind (kind_at links i) works))

      above : 1 ≤ v
      unfolding is_packed
      above = split (eqb v 0) (λ e. let q = eqb-true v 0 e in absurd (false≢true (rw q at right-value.packed))) (λ e. let q = eqb-false v 0 e in omega arith)

      works-here : works_kind (node_at links m.cells i).kind ≡ true
      unfolding node_at
      works-here = works

      abbrev name : ℕ
      name = name_for now i v w

      abbrev other : ℕ
      other = other_for now v w

      abbrev then : List ℕ
      then = kept now i v w

      kept_here : kept_at then i ≡ record { value = v; name = name; other = other }
      kept_here =
          let few = well.few in
          let l = (lengths m f).cells in
          let k = s.long in
          keep-here now i v name other (omega arith)

      value-here : value_at then i ≡ v
      unfolding kept_at
      value-here = ap (λ (x : Kept). x.value) kept_here

      value-apart : (j : ℕ) → (j ≡ i → ⊥) → value_at then j ≡ value_at now j
      unfolding kept_at
      value-apart j q = ap (λ (x : Kept). x.value) (keep_apart now i v name other j q)

      stays : (j : ℕ) → 1 ≤ value_at now j → 1 ≤ value_at then j
      stays j l = split (eqb j i) (λ e. let q = eqb-true j i e in absurd (let z = empty in let y = rw q at l in omega arith)) (λ e. rw (value-apart j (eqb-false j i e)) l)

      keys : (j : ℕ) → key_at then j ≡ key_at m.cells j
      keys j = keep-key now i v name other j ∙ s.keys j

      names : names_right (record { value = v; name = name; other = other }) ≡ true
      unfolding node_at
      names =
          let few = well.few in
          let ν = node_at links m.cells in
          names-right links now i (λ j l e. rw (s.keys j) (variable-named j (ν j) (well.right j (omega arith)) e))
          v (λ e. rw (s.keys i) (function-named i (omega arith) e)) right-value.function
          (found links m.cells (suc n) (omega arith) (λ j l. well.right j (omega arith)) (λ j k h l. apart ν c well.apart j k (omega arith) (omega arith))
          (λ k l. few-at ν c k well.names (omega arith)) i (omega arith))

      -- what it depends on is flagged and lower, so it is done
      linked : (link : ℕ) → ((node_at links m.cells i).first ≡ link) ⊎ ((node_at links m.cells i).second ≡ link) → is_below link i ≡ true → done_at (entries then) (link - 1) ≡ true
      unfolding node_at
      linked link q b =
          let few = well.few in
          let l = (and-eq-true_iff (leb 1 link) _).0 b in
          let low : link - 1 < i = omega (arith, leb-true 1 link l.0, leb-true link i l.1) in
          done-stays now then stays (link - 1) (g.done (link - 1) low (needed-link links n i link (omega arith) most q b flagged))

      right-here : kept_ok links then c r i ≡ true
      unfolding kept_ok kept_right
      right-here =
          rw (node-key then keys i, kept_here)
          (rw (ne_eqb v 0 (λ e. let a = above in omega arith), names, right-value.packed, works-here)
          (rw (kids-done i (node_at links m.cells i) (entries then) (well.right i (omega arith)) linked)))

      same-entry : (j : ℕ) → (j ≡ i → ⊥) → entry_at links then j ≡ entry_at links now j
      same-entry j q = λ t. record { node = (node-key then keys j ∙ sym (node-key now s.keys j)) t; kept = keep_apart now i v name other j q t }

      right-apart : (j : ℕ) → j < c → (j ≡ i → ⊥) → kept_ok links then c r j ≡ true
      unfolding kept_ok
      right-apart j l q =
          let e : entry_at links then j ≡ entry_at links now j = same-entry j q in
          let b = (and-eq-true_iff (settled (entries now) (entry_at links now j)) _).0 (s.right j l) in
          subst (λ (x : Entry). (settled (entries then) x && kept_right r x) ≡ true) (sym e)
          (and-true _ _ (settled-later (entries now) (entries then) (done-stays now then stays) (entry_at links now j) b.0) b.1)

      stored : Stored then
      stored =
          record {
            long = keep-length now i v name other ∙ s.long;
            keys = keys;
            right = λ j l. split (eqb j i) (λ e. let q = eqb-true j i e in rw q right-here) (λ e. right-apart j l (eqb-false j i e));
          }

      framed : Framed (suc i) then (set frame i v)
      framed =
          let few = well.few in
          let z = g.size in
          record {
            size = length-set frame i v ∙ z;
            cells = set-cells r frame i v g.cells (inr right-value.packed);
            work = λ j l k.
                split (eqb j i)
                (λ e. let q = eqb-true j i e in rw q (get_or-set_same frame i v 0 (omega arith) ∙ sym value-here))
                (λ e. let q = eqb-false j i e in get_or-set_other frame i j v 0 q ∙ g.work j l k ∙ sym (value-apart j q));
            done = λ j l t.
                split (eqb j i)
                (λ e. let q = eqb-true j i e in rw q (done-kept then i (omega arith) (rw value-here above)))
                (λ e. let q = eqb-false j i e in done-stays now then stays j (g.done j (omega arith) t));
          }

      one_more : count_if is_kept (entries then) ≡ suc (count_if is_kept (entries now))
      unfolding kept_at
      one_more =
          let z : 0 + i ≡ i = omega arith in
          count-more links now then 0 c i (omega arith) (rw z (rw value-here (le-leb 1 v above))) (rw z (rw empty))
          (λ j q. keep_apart now i v name other j (λ e. q (omega arith)))

  -- ---- the loop

  record Left (now : List ℕ) (count : ℕ) (w : Work) : Type 0 where
    stored : Stored w.cells
    rise : count_if is_kept (entries w.cells) + count ≡ count_if is_kept (entries now) + w.count

  loop : (a k i : ℕ) (now frame : List ℕ) (count : ℕ) → i + k ≤ suc n → Stored now → Framed i now frame → Left now count (work_from value links waits flags a k i now frame count)
  unfolding work_from
  loop a zero i now frame count l s g = record { stored = s; rise = refl }
  loop a (suc k) i now frame count l s g =
      split (chosen links flags frame i)
      (λ h. rw h
      (split (ltb count a)
      (λ q. rw q
      (let x = loop a k (suc i) _ _ (suc count) (omega arith) (stored i now frame (omega arith) s g h) (framed i now frame (omega arith) s g h) in
      let e = one_more i now frame (omega arith) s g h in
      record { stored = x.stored; rise = omega (arith, x.rise) }))
      (λ q. rw q (record { stored = s; rise = refl }))))
      (λ h. rw h (loop a k (suc i) now frame count (omega arith) s (passed i now frame (omega arith) s g h)))

  abbrev first : List ℕ
  first = start_from (length xs) links m.cells (suc n) 0 (replicate table_entries 0)

  kept-cell : (j : ℕ) → j < c → Cell r (value_at m.cells j)
  unfolding kept_ok kept_right kept_at
  kept-cell j l =
      let x = value_at m.cells j in
      let k = ((and-eq-true_iff (settled (entries m.cells) (entry_at links m.cells j)) _).0 (well.kept j l)).1 in
      let b = ((and-eq-true_iff (names_right (kept_at m.cells j)) _).0 k).1 in
      split (eqb x 0) (λ e. inl (eqb-true x 0 e)) (λ e. inr ((and-eq-true_iff (works_kind (node_at links m.cells j).kind) _).0 (rw e at b)).1)

  start_cell : (j : ℕ) → j < c → Cell r (start_at (length xs) links m.cells j)
  unfolding start_at
  start_cell j l =
      let k = well.readings in
      rw recorded (split (ltb (kind_at links j) function_kind)
      (λ e. rw e (inr (leaf-packed r (kind_at links j) (key_at m.cells j) k)))
      (λ e. rw e (kept-cell j l)))

  at_first : Framed 0 m.cells first
  unfolding start_at
  at_first =
      let few = well.few in
      record {
        size = start-length (length xs) links m.cells (suc n);
        cells =
            start-cells r (length xs) links m.cells (suc n) 0 (replicate table_entries 0) (zeros r table_entries)
            (λ j l. start_cell j (omega arith));
        work = λ j l k.
            start-at (length xs) links m.cells (suc n) j (omega arith) (omega arith)
            ∙ rw (le-ltb (kind_at links j) function_kind (leb-true function_kind (kind_at links j) k));
        done = λ j l t. absurd (omega arith);
      }

  module _ (a : ℕ) where
    abbrev work : Work
    work = work_on m n a

    left : Left m.cells 0 work
    unfolding worked
    left = loop a (suc n) 0 m.cells first 0 (omega arith) (record { long = refl; keys = λ j. refl; right = well.kept }) at_first

    nodes-stay : numbered (node_at links work.cells) 0 c ≡ numbered (node_at links m.cells) 0 c
    nodes-stay = λ t. numbered (λ j. node-key work.cells left.stored.keys j t) 0 c

    pub worked-well : Well (worked_memory m (work_on m n a))
    worked-well =
        record {
          few = well.few;
          readings = well.readings;
          right = λ i l. rw (node-key work.cells left.stored.keys i) (well.right i l);
          apart = rw nodes-stay well.apart;
          names = rw nodes-stay well.names;
          kept = left.stored.right;
        }

    pub worked-rise : worked_out (worked_memory m (work_on m n a)) ≡ worked_out m + (work_on m n a).count
    worked-rise = omega (arith, left.rise)
