-- The steps of a preview's work, each over plain numbers and lists. Assumes nothing.
use mathlib.Core.Path.{◌≡◌, refl, sym, ap, ◌∙◌}
use mathlib.Core.Bool.{Bool, true, false, cond}
use mathlib.Core.List.{List}
use Prim.Native.Nat.{ℕ, suc, ◌+◌, ◌-◌, ◌/◌, ◌%◌, ◌≤◌, ◌<◌}
use native.Mathlib.Nat.{sub-zero}
use native.Mathlib.Omega.{arith}
use native.Mathlib.Numerals.{add-one}
use borrow.Author.Rules.{rules}
use borrow.Author.Tests.{lt-ltb, le-ltb, le-leb, lt-leb, eq-eqb, ne_eqb}
use lib.Dec.{ltb, eqb}
use lib.IntN.{ℤ}
use lib.ListN.{length, get_or, set, replicate}
use Rattle.language.specs.Limits.{table_entries}
use Rattle.rules.specs.declared.Value.{Value}
use Rattle.values.specs.declared.shown.Shown.{Shown}
use Rattle.values.specs.Shown.{shown_numbers}
use Rattle.values.specs.Packing.{function_cell, delayed_cell, unpack_of}
use Rattle.layout.specs.Links.{kind_at, first_at, second_at, key_at, name_at, other_at, kept_with, is_below}
use Rattle.layout.specs.LinksLaws.{kept-length}
use Rattle.layout.specs.Nodes.{variable_kind, function_kind}
use Rattle.table.specs.Waits.{waits_from}
use Rattle.evaluator.specs.Frames.{start_at, start_from}
use Rattle.evaluator.specs.Applying.{graph, apply_at, Applies}
use Rattle.schedule.specs.Works.{raised, need_from, need_of, chosen, slot_name, name_for, other_for, kept, work_of, work_from, worked, Works, view, show_of}

module _ (j link : ℕ) (flags : List ℕ) (r : Bool) (e : r ≡ is_below link j) where
  pub raise-yes : r ≡ true → set flags (link - 1) 1 ≡ raised j link flags
  unfolding raised
  raise-yes t = rw (sym e ∙ t)

  pub raise-no : r ≡ false → flags ≡ raised j link flags
  unfolding raised
  raise-no t = rw (sym e ∙ t)

-- what the sweep still has to do from entry j - 1 down
module _ (links : List ℕ) (j : ℕ) (flags : List ℕ) {all : List ℕ} (h : 0 < j) (inv : need_from links j flags ≡ all) where
  turned : {k : ℕ} → j ≡ suc k → need_from links j flags ≡ cond (eqb (get_or flags k 0) 1) (need_from links k (raised k (second_at links k) (raised k (first_at links k) flags))) (need_from links k flags)
  unfolding need_from
  turned e = rw e

  pub need-no : (get_or flags (j - 1) 0 ≡ 1 → ⊥) → need_from links (j - 1) flags ≡ all
  need-no n = let q : j ≡ suc (j - 1) = omega arith in sym (turned q ∙ rw (ne_eqb _ _ n)) ∙ inv

  pub need-yes : (a b : ℕ) (one two : List ℕ) → get_or flags (j - 1) 0 ≡ 1 → a ≡ first_at links (j - 1) → b ≡ second_at links (j - 1)
      → one ≡ raised (j - 1) a flags → two ≡ raised (j - 1) b one → need_from links (j - 1) two ≡ all
  need-yes a b one two n p q o t =
      let s : j ≡ suc (j - 1) = omega arith in
      rw (t, o, p, q) (sym (turned s ∙ rw (eq-eqb _ _ n)) ∙ inv)

pub need-end : (links : List ℕ) (j : ℕ) (flags : List ℕ) {all : List ℕ} → j ≤ 0 → need_from links j flags ≡ all → flags ≡ all
unfolding need_from
need-end links j flags h inv = let q : j ≡ 0 = omega arith in rw q at inv

pub need-begin : (links : List ℕ) (n : ℕ) → need_from links (n + 1) (set (replicate table_entries 0) n 1) ≡ need_of links n
unfolding need_of
need-begin links n = rw add-one

module _ (links flags frame : List ℕ) (i : ℕ) where
  pub chosen-out : (get_or flags i 0 ≡ 1 → ⊥) → false ≡ chosen links flags frame i
  unfolding chosen
  chosen-out h = rw (ne_eqb _ _ h)

  module _ (h : get_or flags i 0 ≡ 1) (kind : ℕ) (e : kind ≡ kind_at links i) where
    pub chosen-leaf : kind < function_kind → false ≡ chosen links flags frame i
    unfolding chosen
    chosen-leaf k = rw (eq-eqb _ _ h, ← e, lt-leb _ _ k)

    pub chosen_is : function_kind ≤ kind → eqb (get_or frame i 0) 0 ≡ chosen links flags frame i
    unfolding chosen
    chosen_is k = rw (eq-eqb _ _ h, ← e, le-leb _ _ k)

pub slot-yes : (cells : List ℕ) (p r : ℕ) → 1 ≤ p → r ≡ key_at cells (p - 1) → r ≡ slot_name cells p
slot-yes cells p r h e = rw (le-leb _ _ h) e

pub slot-no : (cells : List ℕ) (p : ℕ) → p < 1 → 0 ≡ slot_name cells p
slot-no cells p h = rw (lt-leb _ _ h)

module _ (cells : List ℕ) (i c w : ℕ) where
  pub name-function : (r : ℕ) → c ≡ function_cell → r ≡ key_at cells i → r ≡ name_for cells i c w
  unfolding name_for
  name-function r h e = rw (eq-eqb _ _ h) e

  pub name-delayed : (r : ℕ) → (c ≡ function_cell → ⊥) → c ≡ delayed_cell → r ≡ slot_name cells (w / 65536) → r ≡ name_for cells i c w
  unfolding name_for
  name-delayed r n h e = rw (ne_eqb _ _ n, eq-eqb _ _ h) e

  pub name-none : (c ≡ function_cell → ⊥) → (c ≡ delayed_cell → ⊥) → 0 ≡ name_for cells i c w
  unfolding name_for
  name-none n h = rw (ne_eqb _ _ n, ne_eqb _ _ h)

  pub other-delayed : (r : ℕ) → c ≡ delayed_cell → r ≡ slot_name cells (w % 65536) → r ≡ other_for cells c w
  unfolding other_for
  other-delayed r h e = rw (eq-eqb _ _ h) e

  pub other_none : (c ≡ delayed_cell → ⊥) → 0 ≡ other_for cells c w
  unfolding other_for
  other_none h = rw (ne_eqb _ _ h)

  pub keep-is : (name other : ℕ) (after : List ℕ) → name ≡ name_for cells i c w → other ≡ other_for cells c w → after ≡ kept_with cells i c name other → after ≡ kept cells i c w
  keep-is name other after p q e = rw (← p, ← q) e

-- the work before entry i: what is left of it comes to the same
pub record Going (xs : List ℤ) (links begins : List ℕ) (n allowance : ℕ) (waits flags cells frame : List ℕ) (count i : ℕ) : Type 0 where
  pub low : n < table_entries
  pub within : i ≤ n + 1
  pub size : length cells ≡ length begins
  pub paid : count ≤ allowance
  pub same : work_from (apply_at (graph links waits xs) table_entries) links waits flags allowance (n + 1 - i) i cells frame count ≡ worked xs links begins n allowance

module _ (xs : List ℤ) (links begins : List ℕ) (n allowance : ℕ) (waits flags cells frame : List ℕ) (count i : ℕ) (go : Going xs links begins n allowance waits flags cells frame count i) where
  pub work-end : n < i → Works xs links begins n allowance cells count false
  unfolding work_from
  work-end h = let q : n + 1 - i ≡ 0 = omega arith in record { same = rw q at go.same }

  module _ (h : i ≤ n) (r : Bool) (e : r ≡ chosen links flags frame i) where
    next : work_from (apply_at (graph links waits xs) table_entries) links waits flags allowance (n + 1 - i) i cells frame count
        ≡ cond (chosen links flags frame i)
        (cond (ltb count allowance)
        (work_from (apply_at (graph links waits xs) table_entries) links waits flags allowance (n + 1 - (i + 1)) (i + 1)
        (kept cells i (apply_at (graph links waits xs) table_entries frame i) (get_or waits i 0))
        (set frame i (apply_at (graph links waits xs) table_entries frame i)) (count + 1))
        (work_of cells count true))
        (work_from (apply_at (graph links waits xs) table_entries) links waits flags allowance (n + 1 - (i + 1)) (i + 1) cells frame count)
    unfolding work_from
    next = let q : n + 1 - i ≡ suc (n + 1 - (i + 1)) = omega arith in rw (q, add-one, add-one, add-one)

    pub work-stop : r ≡ true → allowance ≤ count → Works xs links begins n allowance cells count true
    work-stop t k = record { same = sym (next ∙ rw (sym e ∙ t, le-ltb _ _ k)) ∙ go.same }

    pub work-skip : r ≡ false → Going xs links begins n allowance waits flags cells frame count (i + 1)
    work-skip t = record { low = go.low; within = omega arith; size = go.size; paid = go.paid; same = sym (next ∙ rw (sym e ∙ t)) ∙ go.same }

    pub work-take : (c : ℕ) (after : List ℕ) → r ≡ true → count < allowance → Applies (graph links waits xs) frame i c → after ≡ kept cells i c (get_or waits i 0)
        → Going xs links begins n allowance waits flags after (set frame i c) (count + 1) (i + 1)
    work-take c after t k a o =
        record {
          low = go.low;
          within = omega arith;
          size = ap length o ∙ kept-length cells i c (name_for cells i c (get_or waits i 0)) (other_for cells c (get_or waits i 0)) ∙ go.size;
          paid = omega arith;
          same = rw (o, ← a table_entries (omega arith)) (sym (next ∙ rw (sym e ∙ t, lt-ltb _ _ k)) ∙ go.same);
        }

pub work-begin : (xs : List ℤ) (links cells : List ℕ) (n allowance : ℕ) (waits frame flags : List ℕ)
    → waits ≡ waits_from links cells (n + 1) 0 (replicate table_entries 0) → frame ≡ start_from (length xs) links cells (n + 1) 0 (replicate table_entries 0) → flags ≡ need_of links n
    → n < table_entries → Going xs links cells n allowance waits flags cells frame 0 0
unfolding worked
work-begin xs links cells n allowance waits frame flags p q r l =
    let s : n + 1 ≡ suc n = omega arith in
    record { low = l; within = omega arith; size = refl; paid = omega arith; same = rw (p, q, r, s, sub-zero) refl }

module _ (size : ℕ) (links cells : List ℕ) (n c : ℕ) (e : c ≡ start_at size links cells n)
    (v : Value) (p : v ≡ unpack_of c) (s : Shown) (q : s ≡ shown_numbers v) (kind : ℕ) (k : kind ≡ kind_at links n) where
  shown : s ≡ shown_numbers (unpack_of (start_at size links cells n))
  shown = q ∙ ap shown_numbers (p ∙ ap unpack_of e)

  pub show-variable : (name : ℕ) → kind ≡ variable_kind → name ≡ key_at cells n → view s name 0 ≡ show_of size links cells n
  unfolding show_of
  show-variable name h o = rw (← k, eq-eqb _ _ h, ← o, ← shown)

  pub show-leaf : (kind ≡ variable_kind → ⊥) → kind < function_kind → view s 0 0 ≡ show_of size links cells n
  unfolding show_of
  show-leaf m h = rw (← k, ne_eqb _ _ m, lt-ltb _ _ h, ← shown)

  pub show-kept : (name other : ℕ) → (kind ≡ variable_kind → ⊥) → function_kind ≤ kind → name ≡ name_at cells n → other ≡ other_at cells n → view s name other ≡ show_of size links cells n
  unfolding show_of
  show-kept name other m h o u = rw (← k, ne_eqb _ _ m, le-ltb _ _ h, ← o, ← u, ← shown)

pub ruleset choosing = (rules, raise-yes, raise-no, chosen-out, chosen-leaf, chosen_is, slot-yes, slot-no, name-function, name-delayed, name-none, other-delayed, other_none, keep-is, show-variable, show-leaf, show-kept)
