-- A member on cells. On two numbers, whatever the member, it comes to on_numbers, which gives the wrong kind for a member that is used on
-- windows, so no kinds are tested. Assumes nothing.
use Rattle.std.specs.Prelude.{Option, Some, None}
use mathlib.Core.Path.{◌≡◌, refl, sym, ap, ◌∙◌}
use mathlib.Core.Bool.{Bool, true, false, ◌&&◌, and-eq-true_iff}
use mathlib.Core.List.{List}
use Prim.Native.Nat.{ℕ, ◌+◌, ◌≤◌, ◌<◌}
use native.Mathlib.Omega.{arith}
use borrow.Author.Rules.{rules}
use borrow.Author.Tests.{le-leb, lt-leb, ltb-true}
use lib.Dec.{ltb}
use lib.IntN.{ℤ}
use mir.Syntax.{w32}
use mir.Val.{SFits, to_z, of_z}
use mir.Facts.{to_z-of_z}
use Rattle.members.specs.declared.Member.{Member}
use Rattle.rules.specs.declared.Value.{Value}
use Rattle.rules.specs.declared.Value.TheVariants.{Number, Window, Function, Delayed, Missing}
use Rattle.rules.specs.Rules.{Rule, two_numbers, window, window_number, window_runs, rule, by_numbers, by_window_number, on_numbers, on_window}
use Rattle.rules.specs.Apply.{apply0, by_rule1, apply1}
use Rattle.values.specs.declared.apply.Applied.{Applied}
use Rattle.values.specs.declared.apply.Applied.TheVariants.{Done, Run}
use Rattle.values.specs.Applied.{applied1}
use Rattle.values.specs.declared.runs.Tally.{Tally}
use Rattle.values.specs.Tallies.{finished}
use Rattle.values.specs.Tested.{tested0, tested1}
use Rattle.values.specs.TestedLaws.{tested0-is, tested1-is}
use Rattle.values.specs.Keepable.{Bounded}
use Rattle.values.specs.Packing.{pack_of, unpack_of, window_cell, wrong_cell}
use Rattle.values.specs.PackingLaws.{number_in, unpack-number}
use Rattle.columns.specs.Calling.{bounded_of, ask_of, call_of, conclude_of, settled_of, cell_of, Bounds}

-- ---- receivers
module _ (v : Value) where
  pub bounds-window : (s l : ℕ) → v ≡ Window s l → s + l ≤ 65535 → Bounds v (Window s l)
  unfolding bounded_of
  bounds-window s l e h = rw e (record { same = rw (le-leb _ _ h); bounded = h })

  pub bounds-far : (s l : ℕ) → v ≡ Window s l → 65535 < s + l → Bounds v (Missing 2)
  unfolding bounded_of
  bounds-far s l e h = rw e (record { same = rw (lt-leb _ _ h); bounded = tt })

  pub bounds-number : (z : ℤ) → v ≡ Number z → Bounds v v
  unfolding bounded_of
  bounds-number z e = rw e (record { same = refl; bounded = tt })

  pub bounds-function : v ≡ Function → Bounds v v
  unfolding bounded_of
  bounds-function e = rw e (record { same = refl; bounded = tt })

  pub bounds-delayed : v ≡ Delayed → Bounds v v
  unfolding bounded_of
  bounds-delayed e = rw e (record { same = refl; bounded = tt })

  pub bounds-missing : (r : ℕ) → v ≡ Missing r → Bounds v v
  unfolding bounded_of
  bounds-missing r e = rw e (record { same = refl; bounded = tt })

-- one that ends within 16 bits is taken as it is
pub bounded-is : (v : Value) → Bounded v → bounded_of v ≡ v
unfolding bounded_of
bounded-is (Number z) h = refl
bounded-is (Window s l) h = rw (le-leb (s + l) 65535 h)
bounded-is Function h = refl
bounded-is Delayed h = refl
bounded-is (Missing r) h = refl

-- ---- members
module _ (k r : Option Member) (f : r ≡ k) (xs : List ℤ) where
  pub ask-none : (a : ℕ) → r ≡ None → wrong_cell ≡ ask_of k xs a
  unfolding ask_of
  ask-none a e = rw (sym f ∙ e)

  pub ask-is : (m : Member) (a c : ℕ) (u v : Value) → r ≡ Some m → u ≡ unpack_of a → v ≡ tested0 m xs u → c ≡ pack_of v → c ≡ ask_of k xs a
  unfolding ask_of
  ask-is m a c u v e p q s = rw (sym f ∙ e) (s ∙ ap pack_of (q ∙ tested0-is m xs u ∙ ap (apply0 m xs) p))

  -- what the cell holds again
  pub back_none : (a c : ℕ) → r ≡ None → (m : Member) → k ≡ Some m → unpack_of c ≡ apply0 m xs (unpack_of a)
  back_none a c e m q = let z : None ≡ Some m = sym e ∙ f ∙ q in let y : ◌≡◌ {A = ℕ} 0 1 = cc in absurd (omega arith)

  pub back_is : (n : Member) (a c : ℕ) (u v : Value) → r ≡ Some n → u ≡ unpack_of a → v ≡ tested0 n xs u → unpack_of c ≡ v
      → (m : Member) → k ≡ Some m → unpack_of c ≡ apply0 m xs (unpack_of a)
  back_is n a c u v e p t b m q =
      let z : Some n ≡ Some m = sym e ∙ f ∙ q in
      let same : n ≡ m = cc in
      b ∙ t ∙ tested0-is n xs u ∙ (λ i. apply0 (same i) xs (p i))

  pub call_none : (a b : ℕ) → r ≡ None → Done (Missing 2) ≡ call_of k xs a b
  unfolding call_of
  call_none a b e = rw (sym f ∙ e)

  pub call-is : (m : Member) (a b : ℕ) (d : Applied) (u v w : Value) → r ≡ Some m → u ≡ unpack_of a → Bounds u v → w ≡ unpack_of b → d ≡ tested1 m xs v w → d ≡ call_of k xs a b
  unfolding call_of
  call-is m a b d u v w e p q o s = rw (sym f ∙ e) (s ∙ tested1-is m xs v w ∙ (λ i. applied1 m xs ((q.same ∙ ap bounded_of p) i) (o i)))

-- ---- the runs of a member
module _ (k r : Option Member) (f : r ≡ k) (t : Tally) where
  pub conclude-none : r ≡ None → wrong_cell ≡ conclude_of k t
  unfolding conclude_of
  conclude-none e = rw (sym f ∙ e)

  pub conclude-is : (m : Member) (c : ℕ) (v : Value) → r ≡ Some m → v ≡ finished m t → c ≡ pack_of v → c ≡ conclude_of k t
  unfolding conclude_of
  conclude-is m c v e p q = rw (sym f ∙ e) (q ∙ ap pack_of p)

  pub conclude_back_none : (c : ℕ) → r ≡ None → (m : Member) → k ≡ Some m → unpack_of c ≡ finished m t
  conclude_back_none c e m q = let z : None ≡ Some m = sym e ∙ f ∙ q in let y : ◌≡◌ {A = ℕ} 0 1 = cc in absurd (omega arith)

  pub conclude_back_is : (n : Member) (c : ℕ) (v : Value) → r ≡ Some n → v ≡ finished n t → unpack_of c ≡ v → (m : Member) → k ≡ Some m → unpack_of c ≡ finished m t
  conclude_back_is n c v e p b m q =
      let z : Some n ≡ Some m = sym e ∙ f ∙ q in
      let same : n ≡ m = cc in
      b ∙ p ∙ ap (λ (x : Member). finished x t) same

-- ---- two numbers
pub two-numbers : (m : Member) (xs : List ℤ) (x y : ℤ) → applied1 m xs (Number x) (Number y) ≡ Done (on_numbers m x y)
unfolding applied1 apply1 on_numbers
two-numbers m xs x y = by (rule m)
  where
    by : (r : Rule) → Done (by_rule1 r xs (Number x) (Number y) (λ z. Missing 2)) ≡ Done (by_numbers r x y)
    by (two_numbers f) = refl
    by (window f) = refl
    by (window_number f) = refl
    by (window_runs f) = refl

pub call-two : (m : Member) (xs : List ℤ) (a b : ℕ) → a < window_cell → b < window_cell → call_of (Some m) xs a b ≡ Done (on_numbers m (number_in a) (number_in b))
unfolding call_of bounded_of
call-two m xs a b h k = rw (unpack-number a h, unpack-number b k) (two-numbers m xs (number_in a) (number_in b))

-- on a window and a number
window-number : (m : Member) (xs : List ℤ) (s l : ℕ) (n : ℤ) → applied1 m xs (Window s l) (Number n) ≡ Done (on_window m xs s l n)
unfolding applied1 apply1 on_window
window-number m xs s l n = by (rule m)
  where
    by : (r : Rule) → Done (by_rule1 r xs (Window s l) (Number n) (λ z. Missing 2)) ≡ Done (by_window_number r xs s l n)
    by (two_numbers f) = refl
    by (window f) = refl
    by (window_number f) = refl
    by (window_runs f) = refl

pub window-asks : (u v : Value) (s l : ℕ) → Bounds u v → v ≡ Window s l → s + l ≤ 65535
window-asks u v s l q o = rw o at q.bounded

module _ (k r : Option Member) (f : r ≡ k) (a b : ℕ) (xs : List ℤ) where
  pub window-none : r ≡ None → wrong_cell ≡ settled_of (call_of k xs a b)
  unfolding call_of settled_of
  window-none e = rw (sym f ∙ e)

  pub window-is : (m : Member) (u v w : Value) (s l : ℕ) (y : ℤ) (c : ℕ) → r ≡ Some m → u ≡ unpack_of a → Bounds u v → v ≡ Window s l → SFits w32 y → y ≡ number_in b
      → w ≡ on_window m xs s l (to_z w32 (of_z w32 y)) → c ≡ pack_of w → b < window_cell → c ≡ settled_of (call_of k xs a b)
  unfolding call_of settled_of
  window-is m u v w s l y c e p q o fy d g t h =
      rw (sym f ∙ e, ← p, ← q.same, o, unpack-number b h, window-number m xs s l (number_in b)) (t ∙ ap pack_of (g ∙ ap (on_window m xs s l) (to_z-of_z fy ∙ d)))

module _ (k r : Option Member) (f : r ≡ k) (a b : ℕ) where
  pub numbers-none : r ≡ None → (xs : List ℤ) → a < window_cell → b < window_cell → Done (Missing 2) ≡ call_of k xs a b
  unfolding call_of
  numbers-none e xs h l = rw (sym f ∙ e)

  pub numbers-is : (m : Member) (x y : ℤ) (v : Value) → r ≡ Some m → SFits w32 x → SFits w32 y → x ≡ number_in a → y ≡ number_in b
      → v ≡ on_numbers m (to_z w32 (of_z w32 x)) (to_z w32 (of_z w32 y)) → (xs : List ℤ) → a < window_cell → b < window_cell → Done v ≡ call_of k xs a b
  numbers-is m x y v e fx fy p q o xs h l =
      rw (sym f ∙ e) (ap Done (o ∙ (λ i. on_numbers m ((to_z-of_z fx ∙ p) i) ((to_z-of_z fy ∙ q) i))) ∙ sym (call-two m xs a b h l))

-- ---- cells
pub settled-done : (a : Applied) (v : Value) (c : ℕ) → a ≡ Done v → c ≡ pack_of v → c ≡ settled_of a
unfolding settled_of
settled-done a v c e p = rw e p

pub settled-run : (a : Applied) (s l : ℕ) → a ≡ Run s l → wrong_cell ≡ settled_of a
unfolding settled_of
settled-run a s l e = rw e

pub settled-call : (f : Option Member) (xs : List ℤ) (a b : ℕ) (u : Applied) (c : ℕ) → u ≡ call_of f xs a b → c ≡ settled_of u → c ≡ settled_of (call_of f xs a b)
settled-call f xs a b u c e p = p ∙ ap settled_of e

pub both-numbers : (a b : ℕ) → (ltb a window_cell && ltb b window_cell) ≡ true → (a < window_cell) × (b < window_cell)
both-numbers a b e = (ltb-true a window_cell ((and-eq-true_iff _ (ltb b window_cell)).0 e).0, ltb-true b window_cell ((and-eq-true_iff (ltb a window_cell) _).0 e).1)

module _ (f : Option Member) (xs : List ℤ) (two : Bool) (a b : ℕ) where
  pub cell-two : (c : ℕ) → two ≡ true → c ≡ settled_of (call_of f xs a b) → c ≡ cell_of f xs two a b
  unfolding cell_of
  cell-two c t e = rw t e

  pub cell-one : (c : ℕ) → two ≡ false → c ≡ ask_of f xs a → c ≡ cell_of f xs two a b
  unfolding cell_of
  cell-one c t e = rw t e

  pub cell-both : (v : Value) (c : ℕ) → two ≡ true → (ltb a window_cell && ltb b window_cell) ≡ true
      → ((ys : List ℤ) → a < window_cell → b < window_cell → Done v ≡ call_of f ys a b) → c ≡ pack_of v → c ≡ cell_of f xs two a b
  unfolding cell_of settled_of
  cell-both v c t h e p = let low = both-numbers a b h in rw (t, ← e xs low.0 low.1) p

-- of two numbers
pub cell-numbers : (m : Member) (xs : List ℤ) (a b : ℕ) → a < window_cell → b < window_cell → cell_of (Some m) xs true a b ≡ pack_of (on_numbers m (number_in a) (number_in b))
unfolding cell_of settled_of
cell-numbers m xs a b h k = ap settled_of (call-two m xs a b h k)

pub ruleset calls = (
  rules,
  bounds-window,
  bounds-far,
  bounds-number,
  bounds-function,
  bounds-delayed,
  bounds-missing,
  ask-none,
  ask-is,
  back_none,
  back_is,
  call_none,
  call-is,
  conclude-none,
  conclude-is,
  conclude_back_none,
  conclude_back_is,
  numbers-none,
  numbers-is,
  settled-done,
  settled-run,
  cell-two,
  cell-one,
  cell-both,
  window-asks,
  window-none,
  window-is,
  settled-call,
)
