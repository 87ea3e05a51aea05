-- The code's tests are the clauses of well-formedness. Assumes nothing.
use Rattle.std.specs.Prelude.{◌≡◌, Bool, not, ◌&&◌, ◌||◌, List, ◌∷◌, eqb, ltb, ℤ, get_or}
use Rattle.std.proofs.Math.Path.{refl}
use Rattle.std.proofs.Common.{sym, ap, ◌∙◌}
use Rattle.std.proofs.Math.Bool.{true, false}
use Prim.Native.Nat.{ℕ, zero, suc, ◌+◌, ◌-◌, ◌≤◌, ◌<◌}
use native.Mathlib.Omega.{arith}
use borrow.Author.Tests.{eq-eqb, ne_eqb, le-leb, lt-leb, ltb-true, ltb-false}
use Rattle.std.proofs.Math.Dec.{leb}
use Rattle.language.specs.Cases.{split}
use Rattle.language.specs.Limits.{table_entries, table_readings}
use Rattle.values.specs.Packing.{function_cell, delayed_cell, is_packed}
use Rattle.layout.specs.Links.{kind_at, value_at, name_at, other_at}
use Rattle.layout.specs.Memory.{Node, Entry, node_at, kept_at, entry_at, entries_from, nodes_of, memory}
use Rattle.layout.specs.Nodes.{function_kind, works_kind, arity, listed, kids, is_name}
use Rattle.table.specs.WellFormed.{every, kind_known, key_right, level_right, arity_right, lower, distinct, awaits_few, is_done, done_at, all_done, settled, names_right, kept_right, well_formed}
use Rattle.table.specs.Right.{node_right, right_at}
use Rattle.layout.specs.Numbered.{all_from, numbered}
use Rattle.layout.specs.Held.{shaped}
use Rattle.table.specs.Checked.{kept, kept_ok, entries_right}
use Rattle.layout.specs.declared.nodes.Shape.{Shape}

-- entries by number
pub nodes-are : (links cells : List ℕ) (i n : ℕ) → nodes_of (entries_from links cells i n) ≡ numbered (node_at links cells) i n
unfolding entries_from numbered
nodes-are links cells i zero = refl
nodes-are links cells i (suc n) = ap (λ (ns : List Node). node_at links cells i ∷ ns) (nodes-are links cells (suc i) n)

every-from : (links cells : List ℕ) (p : ℕ → Entry → Bool) (i n : ℕ) → every p i (entries_from links cells i n) ≡ all_from (λ j. p j (entry_at links cells j)) n i
unfolding entries_from every all_from
every-from links cells p i zero = refl
every-from links cells p i (suc n) = ap (λ (b : Bool). p i (entry_at links cells i) && b) (every-from links cells p (suc i) n)

all-and : (p q : ℕ → Bool) (n i : ℕ) → (all_from p n i && all_from q n i) ≡ all_from (λ j. p j && q j) n i
unfolding all_from
all-and p q zero i = refl
all-and p q (suc n) i = by (p i) (q i) (all_from p n (suc i)) (all_from q n (suc i)) ∙ ap (λ (b : Bool). (p i && q i) && b) (all-and p q n (suc i))
  where
    by : (a b c d : Bool) → ((a && c) && (b && d)) ≡ ((a && b) && (c && d))
    by true true c d = refl
    by true false true d = refl
    by true false false d = refl
    by false b c d = refl

module _ (links cells : List ℕ) where
  done-in : (i n j : ℕ) → j < n → done_at (entries_from links cells i n) j ≡ is_done (entry_at links cells (i + j))
  unfolding entries_from done_at
  done-in i zero j h = absurd (omega arith)
  done-in i (suc n) zero h = let q : i + 0 ≡ i = omega arith in rw q
  done-in i (suc n) (suc j) h = let q : i + suc j ≡ suc i + j = omega arith in rw q (done-in (suc i) n j (omega arith))

  done-out : (i n j : ℕ) → n ≤ j → done_at (entries_from links cells i n) j ≡ false
  unfolding entries_from done_at
  done-out i zero j h = refl
  done-out i (suc n) zero h = absurd (omega arith)
  done-out i (suc n) (suc j) h = done-out (suc i) n j (omega arith)

-- The code's steps.
pub done-is : (links cells : List ℕ) (n j k v : ℕ) → k ≡ kind_at links j → v ≡ value_at cells j
    → (ltb j n && (not (works_kind k) || leb 1 v)) ≡ done_at (entries_from links cells 0 n) j
unfolding node_at kept_at
done-is links cells n j k v p q =
    let z : 0 + j ≡ j = omega arith in
    split (ltb j n)
    (λ t. rw t (rw (p, q) (sym (done-in links cells 0 n j (ltb-true j n t) ∙ rw z))))
    (λ t. rw t (sym (done-out links cells 0 n j (ltb-false j n t))))

below : (k : ℕ) → ltb k function_kind ≡ not (works_kind k)
below k =
    split (ltb k function_kind)
    (λ t. rw (t, lt-leb function_kind k (ltb-true k function_kind t)))
    (λ t. rw (t, le-leb function_kind k (ltb-false k function_kind t)))

pub done-below : (links cells : List ℕ) (n j k v : ℕ) → k ≡ kind_at links j → v ≡ value_at cells j
    → (ltb j n && (ltb k function_kind || leb 1 v)) ≡ done_at (entries_from links cells 0 n) j
done-below links cells n j k v p q = rw (below k) (done-is links cells n j k v p q)

module _ (es : List Entry) (x : Shape) (m : Node) (qm : shaped x ≡ m) (a : ℕ) (qa : a ≡ arity x.kind) where
  kids-by : (k : ℕ) → a ≡ k → kids m ≡ listed k m
  unfolding kids
  kids-by k e = rw (← qm) (rw (← qa, e))

  pub kids-none : a ≡ 0 → true ≡ all_done es (kids m)
  unfolding all_done
  kids-none e = rw (kids-by 0 e)

  module _ (u : a ≡ 0 → ⊥) (f : Bool) (j : ℕ) (qf : f ≡ done_at es j) (qj : j ≡ x.first - 1) where
    pub kids-one : a ≡ 1 → f ≡ all_done es (kids m)
    unfolding all_done
    kids-one e = qf ∙ rw (kids-by 1 e, ← qm, ← qj) (sym (by (done_at es j)))
      where
        by : (b : Bool) → (b && true) ≡ b
        by true = refl
        by false = refl

    pub kids-two : (s : Bool) (k : ℕ) → s ≡ done_at es k → k ≡ x.second - 1 → (a ≡ 1 → ⊥) → (f && s) ≡ all_done es (kids m)
    unfolding all_done
    kids-two s k qs qk v =
        let z : a ≡ suc (suc (a - 2)) = omega arith in
        rw (qf, qs) (rw (kids-by (suc (suc (a - 2))) z, ← qm, ← qj, ← qk) (by (done_at es j) (done_at es k)))
      where
        by : (b d : Bool) → (b && d) ≡ (b && (d && true))
        by true true = refl
        by true false = refl
        by false d = refl

module _ (value name other : ℕ) where
  pub names-function : (r : Bool) → r ≡ is_name name → value ≡ function_cell → (r && eqb other 0) ≡ names_right (kept value name other)
  unfolding names_right
  names-function r q e = rw (eq-eqb value function_cell e, q)

  pub names-delayed : (r s : Bool) → r ≡ is_name name → s ≡ is_name other → (value ≡ function_cell → ⊥) → value ≡ delayed_cell
      → ((eqb name 0 && eqb other 0) || (r && (eqb other 0 || s))) ≡ names_right (kept value name other)
  unfolding names_right
  names-delayed r s q p u e = rw (ne_eqb value function_cell u, eq-eqb value delayed_cell e, q, p)

  pub names-none : (value ≡ function_cell → ⊥) → (value ≡ delayed_cell → ⊥) → (eqb name 0 && eqb other 0) ≡ names_right (kept value name other)
  unfolding names_right
  names-none u v = rw (ne_eqb value function_cell u, ne_eqb value delayed_cell v)

module _ (links cells : List ℕ) (n readings i value name other : ℕ) (r : Bool) (qr : r ≡ names_right (kept value name other))
    (qv : value ≡ value_at cells i) (qn : name ≡ name_at cells i) (qo : other ≡ other_at cells i) where
  kept-as : kept_ok links cells n readings i
      ≡ ((eqb value 0 || all_done (entries_from links cells 0 n) (kids (node_at links cells i))) && (r && (eqb value 0 || (works_kind (kind_at links i) && is_packed value readings))))
  unfolding kept_ok kept_right kept_at node_at
  kept-as = rw (qr, qv, qn, qo)

  pub kept-none : r ≡ true → value ≡ 0 → true ≡ kept_ok links cells n readings i
  kept-none t e = sym (kept-as ∙ rw (t, eq-eqb value 0 e))

  pub kept-some : (d p : Bool) (kind : ℕ) → d ≡ all_done (entries_from links cells 0 n) (kids (node_at links cells i)) → p ≡ is_packed value readings → kind ≡ kind_at links i
      → r ≡ true → (value ≡ 0 → ⊥) → ((d && works_kind kind) && p) ≡ kept_ok links cells n readings i
  kept-some d p kind qd qp qk t u = sym (kept-as ∙ rw (t, ne_eqb value 0 u, ← qd, ← qp, ← qk) (by d (works_kind kind) p))
    where
      by : (a b c : Bool) → (a && (b && c)) ≡ ((a && b) && c)
      by true b c = refl
      by false b c = refl

  pub kept-bad : r ≡ false → false ≡ kept_ok links cells n readings i
  kept-bad t = sym (kept-as ∙ rw t (by (eqb value 0 || all_done (entries_from links cells 0 n) (kids (node_at links cells i)))))
    where
      by : (b : Bool) → (b && false) ≡ false
      by true = refl
      by false = refl

-- a test that was passed
pub passed : (a b : Bool) → a ≡ b → a ≡ true → b ≡ true
passed a b q t = sym q ∙ t

module _ (links cells : List ℕ) (readings n : ℕ) (a : Bool) (qa : a ≡ all_from (right_at links cells) n 0) where
  pub entries-nodes : a ≡ false → false ≡ entries_right links cells readings n
  unfolding entries_right
  entries-nodes t = rw (← qa, t)

  module _ (ta : a ≡ true) (b : Bool) (qb : b ≡ distinct (numbered (node_at links cells) 0 n)) where
    pub entries_twice : b ≡ false → false ≡ entries_right links cells readings n
    unfolding entries_right
    entries_twice t = rw (← qa, ta, ← qb, t)

    module _ (tb : b ≡ true) (c : Bool) (qc : c ≡ awaits_few (numbered (node_at links cells) 0 n)) where
      pub entries-many : c ≡ false → false ≡ entries_right links cells readings n
      unfolding entries_right
      entries-many t = rw (← qa, ta, ← qb, tb, ← qc, t)

      pub entries-kept : (d : Bool) → d ≡ all_from (kept_ok links cells n readings) n 0 → c ≡ true → d ≡ entries_right links cells readings n
      unfolding entries_right
      entries-kept d qd t = rw (← qa, ta, ← qb, tb, ← qc, t) qd

right-all : (links cells : List ℕ) (n : ℕ) →
    (all_from (λ j. kind_known (node_at links cells j)) n 0
    && (all_from (λ j. key_right (node_at links cells j)) n 0
    && (all_from (λ j. level_right (node_at links cells j)) n 0
    && (all_from (λ j. arity_right (node_at links cells j)) n 0
    && all_from (λ j. lower j (node_at links cells j)) n 0))))
    ≡ all_from (right_at links cells) n 0
unfolding right_at node_right
right-all links cells n =
    let kind : ℕ → Bool = λ j. kind_known (node_at links cells j) in
    let key : ℕ → Bool = λ j. key_right (node_at links cells j) in
    let level : ℕ → Bool = λ j. level_right (node_at links cells j) in
    let arity : ℕ → Bool = λ j. arity_right (node_at links cells j) in
    let low : ℕ → Bool = λ j. lower j (node_at links cells j) in
    ap (λ (b : Bool). all_from kind n 0 && (all_from key n 0 && (all_from level n 0 && b))) (all-and arity low n 0)
    ∙ ap (λ (b : Bool). all_from kind n 0 && (all_from key n 0 && b)) (all-and level (λ j. arity j && low j) n 0)
    ∙ ap (λ (b : Bool). all_from kind n 0 && b) (all-and key (λ j. level j && (arity j && low j)) n 0)
    ∙ all-and kind (λ j. key j && (level j && (arity j && low j))) n 0

kept-all : (links cells : List ℕ) (n readings : ℕ) →
    (all_from (λ j. settled (entries_from links cells 0 n) (entry_at links cells j)) n 0 && all_from (λ j. kept_right readings (entry_at links cells j)) n 0)
    ≡ all_from (kept_ok links cells n readings) n 0
unfolding kept_ok
kept-all links cells n readings = all-and (λ j. settled (entries_from links cells 0 n) (entry_at links cells j)) (λ j. kept_right readings (entry_at links cells j)) n 0

regroup : (k y v r l d f x : Bool) (all kept : Bool) → (k && (y && (v && (r && l)))) ≡ all → x ≡ kept
    → (k && (y && (v && (r && (l && (d && (f && x))))))) ≡ (all && (d && (f && kept)))
regroup k y v r l d f x all kept p q = rw (← p, q) (by k y v r l (d && (f && kept)))
  where
    by : (k y v r l x : Bool) → (k && (y && (v && (r && (l && x))))) ≡ ((k && (y && (v && (r && l)))) && x)
    by true true true true l x = refl
    by true true true false l x = refl
    by true true false r l x = refl
    by true false v r l x = refl
    by false y v r l x = refl

-- THE LAW: the clauses in the code's order are those of the definition
module _ (rs : List ℤ) (heads links cells : List ℕ) where
  abbrev count : ℕ
  count = get_or heads 0 0

  abbrev readings : ℕ
  readings = get_or heads 1 0

  pub well-is : well_formed (memory rs heads links cells)
      ≡ (leb count table_entries && (leb readings table_readings && entries_right links cells readings count))
  unfolding well_formed entries_right
  well-is =
      rw (nodes-are links cells 0 count)
      (rw (
        every-from links cells (λ (i : ℕ) (e : Entry). kind_known e.node) 0 count,
        every-from links cells (λ (i : ℕ) (e : Entry). key_right e.node) 0 count,
        every-from links cells (λ (i : ℕ) (e : Entry). level_right e.node) 0 count,
        every-from links cells (λ (i : ℕ) (e : Entry). arity_right e.node) 0 count,
        every-from links cells (λ (i : ℕ) (e : Entry). lower i e.node) 0 count,
        every-from links cells (λ (i : ℕ) (e : Entry). settled (entries_from links cells 0 count) e) 0 count,
        every-from links cells (λ (i : ℕ) (e : Entry). kept_right readings e) 0 count,
      )
      (ap (λ (b : Bool). leb count table_entries && (leb readings table_readings && b))
      (regroup
      (all_from (λ j. kind_known (node_at links cells j)) count 0)
      (all_from (λ j. key_right (node_at links cells j)) count 0)
      (all_from (λ j. level_right (node_at links cells j)) count 0)
      (all_from (λ j. arity_right (node_at links cells j)) count 0)
      (all_from (λ j. lower j (node_at links cells j)) count 0)
      (distinct (numbered (node_at links cells) 0 count))
      (awaits_few (numbered (node_at links cells) 0 count))
      _ _ _
      (right-all links cells count)
      (kept-all links cells count readings))))

  pub well-count : (n : ℕ) → n ≡ get_or heads 0 0 → table_entries < n → false ≡ well_formed (memory rs heads links cells)
  well-count n q h = sym (well-is ∙ rw (← q, lt-leb n table_entries h))

  pub well-readings : (m : ℕ) → m ≡ get_or heads 1 0 → table_readings < m → false ≡ well_formed (memory rs heads links cells)
  well-readings m q h = sym (well-is ∙ rw (← q, lt-leb m table_readings h) (by (leb count table_entries)))
    where
      by : (b : Bool) → (b && false) ≡ false
      by true = refl
      by false = refl

  pub well-entries : (n m : ℕ) (r : Bool) → r ≡ entries_right links cells m n → n ≡ get_or heads 0 0 → m ≡ get_or heads 1 0 → n ≤ table_entries
      → m ≤ table_readings → r ≡ well_formed (memory rs heads links cells)
  well-entries n m r q p o h k = q ∙ sym (well-is ∙ rw (← p, ← o, le-leb n table_entries h, le-leb m table_readings k))

pub ruleset checks = (
  done-below,
  kids-none,
  kids-one,
  kids-two,
  names-function,
  names-delayed,
  names-none,
  kept-none,
  kept-some,
  kept-bad,
  entries-nodes,
  entries_twice,
  entries-many,
  entries-kept,
  well-count,
  well-readings,
  well-entries,
)
