-- The flags of a preview, spread in cells from entry n down to its dependencies, are those that the model spreads over the table's links:
-- they say what lies at or below entry n. Assumes nothing.
use Rattle.std.specs.Prelude.{◌≡◌, refl, Bool, true, false, cond, List, [], ◌∷◌, length, get_or, set, replicate}
use Rattle.std.proofs.Common.{sym, ap, ◌∙◌, arith, eq-eqb, ne_eqb, eqb-true, le-leb, length-set, get_or-set_same, get_or-set_other}
use Rattle.std.proofs.Math.Option.{some}
use Prim.Native.Nat.{ℕ, zero, suc, ◌+◌, ◌-◌, ◌<◌, ◌≤◌}
use Rattle.std.proofs.lemmas.Bool.{eqb-false}
use Rattle.std.proofs.Math.Dec.{eqb}
use Rattle.std.proofs.Math.ListN.{get_elem?}
use Rattle.std.proofs.lemmas.List.{length-replicate}
use Rattle.language.specs.Cases.{split}
use Rattle.language.specs.Limits.{table_entries}
use Rattle.model.specs.Lists.{member}
use Rattle.model.specs.ListLaws.{nth-map}
use Rattle.model.specs.Graph.{among, links_at, decodes}
use Rattle.model.specs.Sweep.{spread, sweep, needed}
use Rattle.layout.specs.Memory.{Memory, Node, Entry, entry_count, node_at, entry_at, entries_from, entries_of, nodes_of}
use Rattle.layout.specs.Nodes.{arity, member_of_kind, kids}
use Rattle.formulas.specs.Formulas.{formulas}
use Rattle.bridge.specs.Graphs.{nodes, graph-laws, kids-function, kids-ask, kids-call, among_first, among_second}
use Rattle.layout.specs.Links.{first_at, second_at, is_below}
use Rattle.table.specs.NodeKinds.{Fine, a_number, a_variable, an_unbound, the_readings, a_function, an_ask, a_call, less_one}
use Rattle.schedule.specs.Works.{raised, need_from, need_of}
use Rattle.demand.specs.Holds.{Ok}
use Rattle.demand.proofs.Bound.{among-by}

-- entries by number
entries-nth : (l c : List ℕ) (i n j : ℕ) → j < n → get_elem? (entries_from l c i n) j ≡ some (entry_at l c (i + j))
unfolding entries_from
entries-nth l c i zero j h = absurd (omega arith)
entries-nth l c i (suc n) zero h = let z : i + 0 ≡ i = omega arith in rw z
entries-nth l c i (suc n) (suc j) h = let z : i + suc j ≡ suc i + j = omega arith in rw z (entries-nth l c (suc i) n j (omega arith))

pub entry-nth : (m : Memory) (j : ℕ) → j < entry_count m → get_elem? (entries_of m) j ≡ some (entry_at m.links m.cells j)
entry-nth m j h = let z : 0 + j ≡ j = omega arith in rw z at (entries-nth m.links m.cells 0 (entry_count m) j h)

pub node-nth : (m : Memory) (j : ℕ) → j < entry_count m → get_elem? (nodes_of (entries_of m)) j ≡ some (node_at m.links m.cells j)
node-nth m j h = nth-map (λ (e : Entry). e.node) (entries_of m) j (entry_at m.links m.cells j) (entry-nth m j h)

-- one flag set
flag-set : (flags : List ℕ) (b k : ℕ) → b < length flags → eqb (get_or (set flags b 1) k 0) 1 ≡ cond (eqb b k) true (eqb (get_or flags k 0) 1)
flag-set flags b k h =
    split (eqb b k)
    (λ e. let q = eqb-true b k e in rw (e, ← q, get_or-set_same flags b 1 0 h))
    (λ e. rw (e, get_or-set_other flags b k 1 0 (λ q. eqb-false b k e (sym q))))

flag-zero : (n k : ℕ) → ◌≡◌ {A = ℕ} (get_or (replicate n 0) k 0) 0
flag-zero zero k = refl
flag-zero (suc n) zero = refl
flag-zero (suc n) (suc k) = flag-zero n k

-- a dependency that is given is lower, so it is flagged
raised-given : (i b : ℕ) (flags : List ℕ) → b < i → raised i (suc b) flags ≡ set flags b 1
unfolding raised
raised-given i b flags h = rw (le-leb 1 (suc b) (omega arith), le-leb (suc b) i (omega arith), less_one b)

raised-length : (i link : ℕ) (flags : List ℕ) → length (raised i link flags) ≡ length flags
unfolding raised
raised-length i link flags = split (is_below link i) (λ e. rw e (length-set flags (link - 1) 1)) (λ e. rw e)

-- raising a node's links flags its dependencies
raised-one : (i b k : ℕ) (flags : List ℕ) → i ≤ length flags → b < i
    → eqb (get_or (raised i 0 (raised i (suc b) flags)) k 0) 1 ≡ cond (among k (b ∷ [])) true (eqb (get_or flags k 0) 1)
unfolding raised member
raised-one i b k flags h l =
    let z : raised i 0 (raised i (suc b) flags) ≡ set flags b 1 = raised-given i b flags l in
    ap (λ (x : List ℕ). eqb (get_or x k 0) 1) z ∙ flag-set flags b k (omega arith) ∙ split (eqb b k) (λ e. rw e) (λ e. rw e)

raised-two : (i f a k : ℕ) (flags : List ℕ) → i ≤ length flags → f < i → a < i
    → eqb (get_or (raised i (suc a) (raised i (suc f) flags)) k 0) 1 ≡ cond (among k (f ∷ a ∷ [])) true (eqb (get_or flags k 0) 1)
unfolding member
raised-two i f a k flags h l m =
    let n = length-set flags f 1 in
    rw (raised-given i f flags l, raised-given i a (set flags f 1) m, flag-set (set flags f 1) a k (omega arith), flag-set flags f k (omega arith))
    (split (eqb f k) (λ e. rw e (split (eqb a k) (λ q. rw q) (λ q. rw q))) (λ e. rw e (split (eqb a k) (λ q. rw q) (λ q. rw q))))

-- where the dependencies are these
by-kids : {b : Bool} (k : ℕ) (flags l l' : List ℕ) → l ≡ l' → (((j : ℕ) → among j l' ≡ true → among j l ≡ true) → b ≡ cond (among k l') true (eqb (get_or flags k 0) 1))
    → b ≡ cond (among k l) true (eqb (get_or flags k 0) 1)
by-kids k flags l l' e h = h (λ j. among-by j l l' e) ∙ ap (λ (x : List ℕ). cond (among k x) true (eqb (get_or flags k 0) 1)) (sym e)

raised-kids : (i : ℕ) (n : Node) (k : ℕ) (flags : List ℕ) → i ≤ length flags → Fine n → ((j : ℕ) → among j (kids n) ≡ true → j < i)
    → eqb (get_or (raised i n.second (raised i n.first flags)) k 0) 1 ≡ cond (among k (kids n)) true (eqb (get_or flags k 0) 1)
unfolding raised kids arity member_of_kind member
raised-kids i _ k flags h (a_number key) lower = refl
raised-kids i _ k flags h (a_variable x _ _) lower = refl
raised-kids i _ k flags h (an_unbound x) lower = refl
raised-kids i _ k flags h the_readings lower = refl
raised-kids i _ k flags h (a_function x b v _) lower = by-kids k flags _ _ (kids-function x b v) (λ l. raised-one i b k flags h (lower b (l b (among_first b []))))
raised-kids i _ k flags h (an_ask m f q) lower = by-kids k flags _ _ (kids-ask m f q) (λ l. raised-one i f k flags h (lower f (l f (among_first f []))))
raised-kids i _ k flags h (a_call m f a q) lower =
    by-kids k flags _ _ (kids-call m f a q) (λ l. raised-two i f a k flags h (lower f (l f (among_first f (a ∷ [])))) (lower a (l a (among_second f a))))

-- the flags in cells are these
record Flags (cells : List ℕ) (flag : ℕ → Bool) : Type 0 where
  long : length cells ≡ table_entries
  same : (j : ℕ) → eqb (get_or cells j 0) 1 ≡ flag j

module _ (m : Memory) (o : Ok m) (n : ℕ) (few : entry_count m ≤ table_entries) (inside : n < entry_count m) where
  abbrev ns : List Node
  ns = nodes_of (entries_of m)

  abbrev linked : ℕ → List ℕ
  linked = links_at formulas nodes ns

  -- one entry's links
  spreads : (i : ℕ) (cells : List ℕ) (flag : ℕ → Bool) → i < entry_count m → flag i ≡ true → Flags cells flag
      → Flags (raised i (second_at m.links i) (raised i (first_at m.links i) cells)) (spread linked i flag)
  unfolding spread node_at
  spreads i cells flag h t s =
      let l = s.long in
      let e = node-nth m i h in
      let p = (decodes formulas nodes graph-laws ns o.placed).placed i (node_at m.links m.cells i) e in
      record {
        long = raised-length i (second_at m.links i) (raised i (first_at m.links i) cells) ∙ raised-length i (first_at m.links i) cells ∙ l;
        same = λ j. raised-kids i (node_at m.links m.cells i) j cells (omega arith) p.fine p.lower ∙ rw (t, e, s.same j);
      }

  stays : (i : ℕ) (cells : List ℕ) (flag : ℕ → Bool) → flag i ≡ false → Flags cells flag → Flags cells (spread linked i flag)
  unfolding spread
  stays i cells flag t s = record { long = s.long; same = λ j. rw t (s.same j) }

  -- from entry i - 1 down to 0
  sweeps : (i : ℕ) (cells : List ℕ) (flag : ℕ → Bool) → i ≤ entry_count m → Flags cells flag → (j : ℕ)
      → eqb (get_or (need_from m.links i cells) j 0) 1 ≡ sweep linked i flag j
  unfolding need_from sweep
  sweeps zero cells flag h s j = s.same j
  sweeps (suc i) cells flag h s j =
      split (flag i)
      (λ t. rw (s.same i ∙ t) (sweeps i _ (spread linked i flag) (omega arith) (spreads i cells flag (omega arith) t s) j))
      (λ t. rw (s.same i ∙ t) (sweeps i cells (spread linked i flag) (omega arith) (stays i cells flag t s) j))

  -- at first n alone is flagged
  first : Flags (set (replicate table_entries 0) n 1) (λ (j : ℕ). eqb j n)
  first =
      let l = length-replicate {A = ℕ} table_entries 0 in
      record {
        long = length-set (replicate table_entries 0) n 1 ∙ l;
        same = λ j.
            flag-set (replicate table_entries 0) n j (omega arith)
            ∙ rw (flag-zero table_entries j)
            (split (eqb n j) (λ e. rw (e, eq-eqb j n (sym (eqb-true n j e)))) (λ e. rw (e, ne_eqb j n (λ q. eqb-false n j e (sym q)))));
      }

  -- the code's flags are the model's
  pub needs : (j : ℕ) → eqb (get_or (need_of m.links n) j 0) 1 ≡ needed formulas nodes (nodes_of (entries_of m)) n j
  unfolding need_of
  needs j = sweeps (suc n) (set (replicate table_entries 0) n 1) (λ (k : ℕ). eqb k n) (omega arith) first j
