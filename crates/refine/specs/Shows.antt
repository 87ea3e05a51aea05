-- The cells that are kept for an entry show what its form shows: the number, the window, the function's name, the awaited names in the order
-- of first occurrence, or the reason. Assumes nothing.
use Rattle.std.proofs.Math.Path.{◌≡◌, ap}
use Rattle.std.specs.Prelude.{refl, Bool, true, cond, ℕ, suc, ◌+◌, ◌*◌, ◌-◌, ◌≤◌, leb, nat_abs, ◌+ℤ◌, get_or}
use Rattle.std.proofs.Common.{◌∙◌, arith}
use Rattle.std.proofs.Math.Bool.{false}
use mathlib.Core.List.{List, [], ◌∷◌, map}
use borrow.Author.Tests.{ne_eqb}
use Rattle.std.proofs.Math.Dec.{eqb}
use Rattle.std.proofs.Math.IntN.{pos}
use Rattle.language.specs.Limits.{table_readings}
use Rattle.rules.specs.declared.Value.{Value}
use Rattle.rules.specs.declared.Value.TheVariants.{Number, Window, Function, Delayed, Missing}
use Rattle.values.specs.Shown.{shown_numbers}
use Rattle.values.specs.Keepable.{Keepable}
use Rattle.values.specs.Packing.{pack_of, unpack_of, function_cell, delayed_cell}
use Rattle.values.specs.PackingLaws.{round}
use Rattle.values.specs.Ranges.{up-size}
use Rattle.meaning.specs.Forms.{Form, name_in, name_of}
use Rattle.meaning.specs.Evaluation.{awaited, shown_as}
use Rattle.layout.specs.Links.{key_at}
use Rattle.table.specs.Waits.{slot_a, slot_b}
use Rattle.schedule.specs.Works.{slot_name, name_for, other_for, view}
use Rattle.interface.specs.Views.{view_of}

abbrev name_at : List ℕ → ℕ → ℕ
name_at names k = get_or names k 0

-- the names of the variables that an entry awaits
abbrev pub slot_names : List ℕ → ℕ → List ℕ
slot_names cells w = cond (leb 1 (slot_a w)) (key_at cells (slot_a w - 1) ∷ cond (leb 1 (slot_b w)) (key_at cells (slot_b w - 1) ∷ []) []) []

first-name : (a b : Bool) (x y : ℕ) → cond a x 0 ≡ name_at (cond a (x ∷ cond b (y ∷ []) []) []) 0
first-name true b x y = refl
first-name false b x y = refl

second-name : (a b : Bool) (x y : ℕ) → (a ≡ false → b ≡ false) → cond b y 0 ≡ name_at (cond a (x ∷ cond b (y ∷ []) []) []) 1
second-name true true x y h = refl
second-name true false x y h = refl
second-name false b x y h = rw (h refl)

module _ (n : ℕ) (cells : List ℕ) (i w : ℕ) (f : Form) (full : leb 1 (slot_a w) ≡ false → leb 1 (slot_b w) ≡ false) (names : slot_names cells w ≡ map name_in (awaited f)) where
  pub kept-shows : (v : Value) → Keepable n v → n ≤ table_readings → (v ≡ Function → key_at cells i ≡ name_in (name_of f))
      → view (shown_numbers (unpack_of (pack_of v))) (name_for cells i (pack_of v) w) (other_for cells (pack_of v) w) ≡ view_of (shown_as (name_in (name_of f)) (map name_in (awaited f)) v)
  unfolding view_of name_for other_for
  kept-shows (Number z) k h g =
      let a : eqb (pack_of (Number z)) function_cell ≡ false =
      ne_eqb (pack_of (Number z)) function_cell
      (λ (e : ◌≡◌ {A = ℕ} (suc (nat_abs (z +ℤ pos 2147483648))) 17179869184). omega (arith, up-size 2147483648 z k.held)) in
      let b : eqb (pack_of (Number z)) delayed_cell ≡ false =
      ne_eqb (pack_of (Number z)) delayed_cell
      (λ (e : ◌≡◌ {A = ℕ} (suc (nat_abs (z +ℤ pos 2147483648))) 25769803776). omega (arith, up-size 2147483648 z k.held)) in
      rw (round (Number z) k.held, a, b)
  kept-shows (Window s l) k h g =
      let a : eqb (pack_of (Window s l)) function_cell ≡ false =
      ne_eqb (pack_of (Window s l)) function_cell
      (λ (e : ◌≡◌ {A = ℕ} (8589934592 + (s * 65536 + l)) 17179869184). omega (arith, k.held.0, k.held.1)) in
      let b : eqb (pack_of (Window s l)) delayed_cell ≡ false =
      ne_eqb (pack_of (Window s l)) delayed_cell
      (λ (e : ◌≡◌ {A = ℕ} (8589934592 + (s * 65536 + l)) 25769803776). omega (arith, k.held.0, k.held.1)) in
      rw (round (Window s l) k.held, a, b)
  kept-shows Function k h g = rw (round Function tt, g refl)
  kept-shows Delayed k h g =
      rw (round Delayed tt)
      (λ t. view (shown_numbers Delayed) (p t) (q t))
    where
      p : slot_name cells (slot_a w) ≡ name_at (map name_in (awaited f)) 0
      p = first-name (leb 1 (slot_a w)) (leb 1 (slot_b w)) (key_at cells (slot_a w - 1)) (key_at cells (slot_b w - 1)) ∙ ap (λ (l : List ℕ). name_at l 0) names

      q : slot_name cells (slot_b w) ≡ name_at (map name_in (awaited f)) 1
      q = second-name (leb 1 (slot_a w)) (leb 1 (slot_b w)) (key_at cells (slot_a w - 1)) (key_at cells (slot_b w - 1)) full ∙ ap (λ (l : List ℕ). name_at l 1) names
  kept-shows (Missing r) k h g =
      let a : eqb (pack_of (Missing r)) function_cell ≡ false = ne_eqb (pack_of (Missing r)) function_cell (λ (e : ◌≡◌ {A = ℕ} (34359738368 + r) 17179869184). omega arith) in
      let b : eqb (pack_of (Missing r)) delayed_cell ≡ false = ne_eqb (pack_of (Missing r)) delayed_cell (λ (e : ◌≡◌ {A = ℕ} (34359738368 + r) 25769803776). omega arith) in
      rw (round (Missing r) k.held, a, b)
