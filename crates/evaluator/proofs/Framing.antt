-- The steps of frames, each over plain numbers and lists. Assumes nothing.
use mathlib.Core.Path.{◌≡◌, sym, ◌∙◌}
use mathlib.Core.Bool.{Bool, true, false}
use mathlib.Core.List.{List}
use Prim.Native.Nat.{ℕ, suc, ◌+◌, ◌-◌, ◌/◌, ◌%◌, ◌≤◌, ◌<◌}
use native.Mathlib.Omega.{arith}
use native.Mathlib.Numerals.{add-one}
use borrow.Author.Rules.{rules}
use borrow.Author.Tests.{lt-ltb, le-ltb, le-leb, lt-leb}
use lib.Dec.{eqb}
use lib.ListN.{length, get_or, set, get_or-eq_default}
use Rattle.language.specs.Limits.{table_entries}
use Rattle.values.specs.Packing.{delayed_cell}
use Rattle.layout.specs.Links.{kind_at, key_at, value_at}
use Rattle.layout.specs.Nodes.{function_kind}
use Rattle.chunks.specs.Rows.{bound}
use Rattle.columns.specs.Leaves as Leaves
use Rattle.evaluator.specs.Frames.{leaf_of, start_at, start_from, is_unset, is_open, function_of}

pub past : (l : List ℕ) (k : ℕ) → length l ≤ k → 0 ≡ get_or l k 0
past l k h = sym (get_or-eq_default l 0 {n = k} h)

module _ (size : ℕ) (links cells : List ℕ) (i kind : ℕ) (e : kind ≡ kind_at links i) where
  pub start-leaf : kind < function_kind → (key r : ℕ) → key ≡ key_at cells i → r ≡ Leaves.leaf_of size kind key delayed_cell → r ≡ start_at size links cells i
  unfolding start_at leaf_of Leaves.leaf_of
  start-leaf h key r k d = rw (← e, lt-ltb _ _ h, ← k) d

  pub start-kept : function_kind ≤ kind → (r : ℕ) → r ≡ value_at cells i → r ≡ start_at size links cells i
  unfolding start_at
  start-kept h r d = rw (← e, le-ltb _ _ h) d

pub start-turn : (size : ℕ) (links cells frame : List ℕ) (n i r : ℕ) {all : List ℕ} → i < n → r ≡ start_at size links cells i → start_from size links cells (n - i) i frame ≡ all
    → start_from size links cells (n - (i + 1)) (i + 1) (set frame i r) ≡ all
unfolding start_from
start-turn size links cells frame n i r h e v = let q : n - i ≡ suc (n - (i + 1)) = omega arith in rw (add-one, e) (sym (rw (q, add-one)) ∙ v)

pub start-end : (size : ℕ) (links cells frame : List ℕ) (n i : ℕ) {all : List ℕ} → n ≤ i → start_from size links cells (n - i) i frame ≡ all → frame ≡ all
unfolding start_from
start-end size links cells frame n i h v = let q : n - i ≡ 0 = omega arith in rw q at v

module _ (frame : List ℕ) (v : ℕ) where
  pub bound-yes : (c : ℕ) → 1 ≤ v → set frame (v - 1) c ≡ bound frame v c
  unfolding bound
  bound-yes c h = rw (le-leb _ _ h)

  pub bound-no : (c : ℕ) → v < 1 → frame ≡ bound frame v c
  unfolding bound
  bound-no c h = rw (lt-leb _ _ h)

  pub unset-is : 1 ≤ v → v ≤ table_entries → eqb (get_or frame (v - 1) 0) delayed_cell ≡ is_unset frame v
  unfolding is_unset
  unset-is h k = rw (le-leb _ _ h, le-leb _ _ k)

  pub unset-far : 1 ≤ v → table_entries < v → false ≡ is_unset frame v
  unfolding is_unset
  unset-far h k = rw (le-leb _ _ h, lt-leb _ _ k)

  pub unset-none : v < 1 → false ≡ is_unset frame v
  unfolding is_unset
  unset-none h = rw (lt-leb _ _ h)

module _ (frame : List ℕ) (w : ℕ) (r : Bool) (e : r ≡ is_unset frame (w / 65536)) where
  pub open-first : r ≡ true → true ≡ is_open frame w
  open-first t = rw (sym e ∙ t)

  pub open-second : r ≡ false → (s : Bool) → s ≡ is_unset frame (w % 65536) → s ≡ is_open frame w
  open-second t s d = rw (sym e ∙ t) d

pub function-waits : (frame : List ℕ) (w base : ℕ) (r : Bool) (c : ℕ) → r ≡ is_open frame w → c ≡ Leaves.function_of r base → c ≡ function_of frame w base
unfolding function_of Leaves.function_of
function-waits frame w base r c e d = rw e at d

pub ruleset framing = (
  rules,
  past,
  start-leaf,
  start-kept,
  bound-yes,
  bound-no,
  unset-is,
  unset-far,
  unset-none,
  open-first,
  open-second,
  function-waits,
  start-turn,
  start-end,
)
