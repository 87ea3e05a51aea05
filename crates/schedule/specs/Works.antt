-- The work of one preview: the unworked members and functions at or below an entry, lowest number first, up to the allowance, each kept in
-- its own cells with the names that it shows. Assumes nothing: these are definitions.
use Rattle.std.specs.Prelude.{◌≡◌, Bool, true, false, cond, ◌&&◌, List, ℕ, zero, suc, ◌-◌, ◌≤◌, ◌<◌, leb, ltb, eqb, ℤ, length, get_or, set, replicate}
use Rattle.language.specs.Limits.{table_entries, table_readings}
use Rattle.values.specs.Packing.{function_cell, delayed_cell, unpack_of}
use Rattle.values.specs.Shown.{shown_numbers}
use Rattle.values.specs.declared.shown.Shown.{Shown}
use Rattle.schedule.specs.declared.View.{View}
use Rattle.layout.specs.Links.{table_cells, kind_at, first_at, second_at, key_at, name_at, other_at, kept_with, is_below}
use Rattle.layout.specs.Nodes.{variable_kind, function_kind, works_kind}
use Rattle.table.specs.Waits.{slot_a, slot_b, waits_from}
use Rattle.evaluator.specs.Frames.{start_at, start_from}
use Rattle.evaluator.specs.Applying.{graph, apply_at}

-- a flagged entry's dependencies are flagged too, from entry j - 1 down
unfoldable pub raised : ℕ → ℕ → List ℕ → List ℕ
raised j link flags = cond (is_below link j) (set flags (link - 1) 1) flags

unfoldable pub need_from : List ℕ → ℕ → List ℕ → List ℕ
need_from links zero flags = flags
need_from links (suc j) flags =
    cond (eqb (get_or flags j 0) 1) (need_from links j (raised j (second_at links j) (raised j (first_at links j) flags)))
    (need_from links j flags)

-- the entries at or below entry n
unfoldable pub need_of : List ℕ → ℕ → List ℕ
need_of links n = need_from links (suc n) (set (replicate table_entries 0) n 1)

-- entry i is to be worked out
unfoldable pub chosen : List ℕ → List ℕ → List ℕ → ℕ → Bool
chosen links flags frame i = eqb (get_or flags i 0) 1 && (works_kind (kind_at links i) && eqb (get_or frame i 0) 0)

-- the name of a slot's variable
abbrev pub slot_name : List ℕ → ℕ → ℕ
slot_name cells p = cond (leb 1 p) (key_at cells (p - 1)) 0

-- the names that entry i shows with the value c, where it awaits w: a function's own, or those that are awaited
unfoldable pub name_for : List ℕ → ℕ → ℕ → ℕ → ℕ
name_for cells i c w = cond (eqb c function_cell) (key_at cells i) (cond (eqb c delayed_cell) (slot_name cells (slot_a w)) 0)

unfoldable pub other_for : List ℕ → ℕ → ℕ → ℕ
other_for cells c w = cond (eqb c delayed_cell) (slot_name cells (slot_b w)) 0

-- the cells with entry i worked out to c
abbrev pub kept : List ℕ → ℕ → ℕ → ℕ → List ℕ
kept cells i c w = kept_with cells i c (name_for cells i c w) (other_for cells c w)

-- what a preview leaves: the cells, how many were worked out, and whether some are left
pub record Work : Type 0 where
  pub cells : List ℕ
  pub count : ℕ
  pub left : Bool

abbrev pub work_of : List ℕ → ℕ → Bool → Work
work_of cells count left = record { cells = cells; count = count; left = left }

-- k entries from i on, where `value frame i` works one out
unfoldable pub work_from : (List ℕ → ℕ → ℕ) → List ℕ → List ℕ → List ℕ → ℕ → ℕ → ℕ → List ℕ → List ℕ → ℕ → Work
work_from value links waits flags allowance zero i cells frame count = work_of cells count false
work_from value links waits flags allowance (suc k) i cells frame count =
    cond (chosen links flags frame i)
    (cond (ltb count allowance)
    (work_from value links waits flags allowance k (suc i) (kept cells i (value frame i) (get_or waits i 0)) (set frame i (value frame i)) (suc count))
    (work_of cells count true))
    (work_from value links waits flags allowance k (suc i) cells frame count)

-- of entry n, over a recording
unfoldable pub worked : List ℤ → List ℕ → List ℕ → ℕ → ℕ → Work
worked xs links cells n allowance =
    let waits : List ℕ = waits_from links cells (suc n) 0 (replicate table_entries 0) in
    work_from (apply_at (graph links waits xs) table_entries) links waits (need_of links n) allowance (suc n) 0 cells (start_from (length xs) links cells (suc n) 0 (replicate table_entries 0)) 0

-- what the call is lent, and what it leaves
pub record Lent (xs : List ℤ) (cells : List ℕ) (n : ℕ) : Type 0 where
  pub few : length xs ≤ table_readings
  pub room : table_cells ≤ length cells
  pub entry : n < table_entries

pub record Works (xs : List ℤ) (links cells : List ℕ) (n allowance : ℕ) (after : List ℕ) (count : ℕ) (left : Bool) : Type 0 where
  pub same : work_of after count left ≡ worked xs links cells n allowance

-- what entry n shows: a value as plain numbers, with two names
abbrev pub view : Shown → ℕ → ℕ → View
view s name other = record { kind = s.kind; first = s.first; second = s.second; name = name; other = other }

-- from its kept cells, or of a leaf from the entry itself: a variable shows its own name
unfoldable pub show_of : ℕ → List ℕ → List ℕ → ℕ → View
show_of size links cells n =
    let s : Shown = shown_numbers (unpack_of (start_at size links cells n)) in
    cond (eqb (kind_at links n) variable_kind) (view s (key_at cells n) 0)
    (cond (ltb (kind_at links n) function_kind) (view s 0 0)
    (view s (name_at cells n) (other_at cells n)))
