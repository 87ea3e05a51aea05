-- The paths of the small functions, each as an equation with its definition. Assumes nothing.
use mathlib.Core.Path.{◌≡◌, refl, ap, ◌∙◌}
use mathlib.Core.Bool.{Bool, true, false, cond, not, ◌&&◌, ◌||◌, and-eq-true_iff}
use mathlib.Core.List.{List}
use Prim.Native.Nat.{ℕ, ◌+◌, ◌-◌, ◌%◌, ◌≤◌, ◌<◌}
use native.Mathlib.Omega.{arith}
use borrow.Author.Rules.{rules}
use borrow.Author.Tests.{eq-eqb, ne_eqb, lt-ltb, le-ltb, leb-true}
use lib.Dec.{leb, eqb}
use lib.ListN.{get_or, set}
use Rattle.language.specs.Limits.{text_parts}
use Rattle.language.specs.Cases.{split}
use Rattle.rules.specs.declared.Value.{Value}
use Rattle.rules.specs.declared.Value.TheVariants.{Window, Missing}
use Rattle.rules.specs.Values.{unbound_name}
use Rattle.rules.specs.Apply.{is_delayed}
use Rattle.values.specs.Packing.{pack_of, unpack_of, window_cell, delayed_cell}
use Rattle.values.specs.PackingLaws.{round, unpack-number, unpack-delayed}
use Rattle.layout.specs.Memory.{Node}
use Rattle.layout.specs.Held.{shaped}
use Rattle.layout.specs.declared.nodes.Shape.{Shape}
use Rattle.layout.specs.Nodes.{number_kind, variable_kind, unbound_kind, function_kind}
use Rattle.columns.specs.Leaves as Leaves
use Rattle.interpreter.specs.declared.orders.Order.{Order}
use Rattle.interpreter.specs.declared.orders.Order.TheVariants.{Empty, Outer, Inner, OuterInner, InnerOuter}
use Rattle.interpreter.specs.declared.bindings.Bindings.{Bindings}
use Rattle.interpreter.specs.declared.memo.Known.{Known}
use Rattle.levels.specs.Interpreting.{nothing, scope}
use Rattle.interpreter.specs.Cells.{bindings, scope_of, cell_at, bound_at}
use Rattle.interpreter.specs.Orders.{order_of, join_of, less_of, has_level, linked_of, order_at}
use Rattle.interpreter.specs.Memo.{known, none, same, seen_by, is_known, kept}
use Rattle.interpreter.specs.Walking.{leaf_of, waits_for}
use Rattle.interpreter.specs.Naming.{next_of}

-- ---- bindings

pub unset-is : scope_of (bindings delayed_cell delayed_cell) ≡ nothing
unset-is = let d = unpack-delayed delayed_cell (omega arith) (omega arith) in λ i. scope (d i) (d i)

module _ (s : Bindings) (k c : ℕ) where
  pub cell-outer : k ≡ 0 → s.outer ≡ cell_at s k
  cell-outer e = rw (eq-eqb k 0 e)

  pub cell-inner : (k ≡ 0 → ⊥) → s.inner ≡ cell_at s k
  cell-inner e = rw (ne_eqb k 0 e)

  pub bound-outer : k ≡ 0 → bindings c s.inner ≡ bound_at s k c
  bound-outer e = rw (eq-eqb k 0 e)

  pub bound-inner : (k ≡ 0 → ⊥) → bindings s.outer c ≡ bound_at s k c
  bound-inner e = rw (ne_eqb k 0 e)

-- ---- orders

module _ (b : ℕ) where
  pub order-none : b ≡ 0 → Empty ≡ order_of b
  unfolding order_of
  order-none e = rw e

  pub order-outer : b ≡ 1 → Outer ≡ order_of b
  unfolding order_of
  order-outer e = rw e

  pub order-inner : b ≡ 2 → Inner ≡ order_of b
  unfolding order_of
  order-inner e = rw e

  pub order-both : b ≡ 3 → OuterInner ≡ order_of b
  unfolding order_of
  order-both e = rw e

  pub order-turned : (b ≡ 0 → ⊥) → (b ≡ 1 → ⊥) → (b ≡ 2 → ⊥) → (b ≡ 3 → ⊥) → InnerOuter ≡ order_of b
  unfolding order_of
  order-turned e f g h = rw (ne_eqb b 0 e, ne_eqb b 1 f, ne_eqb b 2 g, ne_eqb b 3 h)

module _ (k : ℕ) where
  pub has-none : (w : Order) → w ≡ Empty → false ≡ has_level w k
  unfolding has_level
  has-none w e = rw e

  pub has-outer : (w : Order) → w ≡ Outer → eqb k 0 ≡ has_level w k
  unfolding has_level
  has-outer w e = rw e

  pub has-inner : (w : Order) → w ≡ Inner → not (eqb k 0) ≡ has_level w k
  unfolding has_level
  has-inner w e = rw e

  pub has-both : (w : Order) → w ≡ OuterInner → true ≡ has_level w k
  unfolding has_level
  has-both w e = rw e

  pub has-turned : (w : Order) → w ≡ InnerOuter → true ≡ has_level w k
  unfolding has_level
  has-turned w e = rw e

module _ (w u : Order) where
  pub join-none : w ≡ Empty → u ≡ join_of w u
  unfolding join_of
  join-none e = rw e

  pub join-outer : w ≡ Outer → (b : Bool) → b ≡ has_level u 1 → b ≡ true → OuterInner ≡ join_of w u
  unfolding join_of
  join-outer e b q h = rw (e, ← q, h)

  pub join-inner : w ≡ Inner → (b : Bool) → b ≡ has_level u 0 → b ≡ true → InnerOuter ≡ join_of w u
  unfolding join_of
  join-inner e b q h = rw (e, ← q, h)

  pub join-outer-alone : w ≡ Outer → has_level u 1 ≡ false → w ≡ join_of w u
  unfolding join_of
  join-outer-alone e h = rw (e, h)

  pub join-inner-alone : w ≡ Inner → has_level u 0 ≡ false → w ≡ join_of w u
  unfolding join_of
  join-inner-alone e h = rw (e, h)

  pub join-both : w ≡ OuterInner → w ≡ join_of w u
  unfolding join_of
  join-both e = rw e

  pub join-turned : w ≡ InnerOuter → w ≡ join_of w u
  unfolding join_of
  join-turned e = rw e

module _ (w : Order) (k : ℕ) where
  pub less-outer : k ≡ 0 → (b : Bool) → b ≡ has_level w 1 → b ≡ true → Inner ≡ less_of w k
  unfolding less_of
  less-outer e b q h = rw (e, ← q, h)

  pub less-outer-none : k ≡ 0 → (b : Bool) → b ≡ has_level w 1 → b ≡ false → Empty ≡ less_of w k
  unfolding less_of
  less-outer-none e b q h = rw (e, ← q, h)

  pub less-inner : (k ≡ 0 → ⊥) → (b : Bool) → b ≡ has_level w 0 → b ≡ true → Outer ≡ less_of w k
  unfolding less_of
  less-inner e b q h = rw (ne_eqb k 0 e, ← q, h)

  pub less-inner-none : (k ≡ 0 → ⊥) → (b : Bool) → b ≡ has_level w 0 → b ≡ false → Empty ≡ less_of w k
  unfolding less_of
  less-inner-none e b q h = rw (ne_eqb k 0 e, ← q, h)

module _ (orders : List ℕ) (link : ℕ) where
  pub linked-one : (leb 1 link && leb link text_parts) ≡ true → 1 ≤ link
  linked-one h = leb-true 1 link ((and-eq-true_iff (leb 1 link) _).0 h).0

  pub linked-most : (leb 1 link && leb link text_parts) ≡ true → link - 1 < text_parts
  linked-most h = let l = leb-true link text_parts ((and-eq-true_iff (leb 1 link) _).0 h).1 in let o = linked-one h in omega arith

  pub linked-there : (leb 1 link && leb link text_parts) ≡ true → (w : Order) → w ≡ order_of (get_or orders (link - 1) 0) → w ≡ linked_of orders link
  unfolding linked_of
  linked-there h w e = rw h e

  pub linked-none : (leb 1 link && leb link text_parts) ≡ false → Empty ≡ linked_of orders link
  unfolding linked_of
  linked-none h = rw h

module _ (x : Shape) (m : Node) (q : shaped x ≡ m) (orders : List ℕ) where
  pub at-outer : x.kind ≡ variable_kind → x.level ≡ 0 → Outer ≡ order_at m orders
  unfolding order_at
  at-outer e h = rw (← q, eq-eqb _ _ e, eq-eqb _ _ h)

  pub at_inner : x.kind ≡ variable_kind → (x.level ≡ 0 → ⊥) → Inner ≡ order_at m orders
  unfolding order_at
  at_inner e h = rw (← q, eq-eqb _ _ e, ne_eqb _ _ h)

  pub at_leaf : (x.kind ≡ variable_kind → ⊥) → x.kind < function_kind → Empty ≡ order_at m orders
  unfolding order_at
  at_leaf e h = rw (← q, ne_eqb _ _ e, lt-ltb _ _ h)

  pub at-function : (w u : Order) → (x.kind ≡ variable_kind → ⊥) → function_kind ≤ x.kind → x.kind ≡ function_kind → u ≡ linked_of orders x.first
      → w ≡ less_of u x.level → w ≡ order_at m orders
  unfolding order_at
  at-function w u e h f l z = rw (← q, ne_eqb _ _ e, le-ltb _ _ h, eq-eqb _ _ f, ← l) z

  pub at-member : (w u v : Order) → (x.kind ≡ variable_kind → ⊥) → function_kind ≤ x.kind → (x.kind ≡ function_kind → ⊥) → u ≡ linked_of orders x.first
      → v ≡ linked_of orders x.second → w ≡ join_of u v → w ≡ order_at m orders
  unfolding order_at
  at-member w u v e h f k l z = rw (← q, ne_eqb _ _ e, le-ltb _ _ h, ne_eqb _ _ f, ← k, ← l) z

-- ---- what is remembered

pub seen-is : (s : Bindings) (w : Order) (a b : Bool) (x y : ℕ) → a ≡ has_level w 0 → x ≡ cond a s.outer 0 → b ≡ has_level w 1 → y ≡ cond b s.inner 0
    → bindings x y ≡ seen_by s w
unfolding seen_by
seen-is s w a b x y p q r t = rw (q, t, p, r)

pub known_is : (memo : List Known) (i : ℕ) (seen : Bindings) (b : Bool) → b ≡ same (get_or memo i none).seen seen
    → (not (eqb (get_or memo i none).cell 0) && b) ≡ is_known memo i seen
unfolding is_known
known_is memo i seen b e = ap (λ (x : Bool). not (eqb (get_or memo i none).cell 0) && x) e

pub kept-is : (memo : List Known) (i : ℕ) (seen : Bindings) (cell : ℕ) → set memo i (known cell seen) ≡ kept memo i seen cell
unfolding kept
kept-is memo i seen cell = refl

-- ---- leaves and functions

-- a leaf's cell, where its variable stands for a cell of the bindings
pub leaf-is : (size : ℕ) (n : Shape) (s : Bindings) (v r : ℕ) → v ≡ cell_at s n.level → r ≡ Leaves.leaf_of size n.kind n.key v → size ≤ 65535
    → unpack_of r ≡ leaf_of size (shaped n) (scope_of s)
unfolding leaf_of Leaves.leaf_of
leaf-is size n s v r q e f =
    rw (e, q)
    (split (eqb n.kind number_kind) (λ a. rw a (unpack-number (n.key % 4294967296 + 1) (omega arith)))
    (λ a. split (eqb n.kind variable_kind) (λ b. rw (a, b) (split (eqb n.level 0) (λ p. rw p) (λ p. rw p)))
    (λ b. split (eqb n.kind unbound_kind) (λ c. rw (a, b, c) (round (Missing unbound_name) (omega arith)))
    (λ c. rw (a, b, c) (let z : window_cell + size ≡ pack_of (Window 0 size) = omega arith in ap unpack_of z ∙ round (Window 0 size) (omega arith, omega arith))))))

pub waits-is : (s : Bindings) (w : Order) (a b c d : Bool) (u v : Value) → a ≡ has_level w 0 → u ≡ unpack_of s.outer → b ≡ is_delayed u → c ≡ has_level w 1
    → v ≡ unpack_of s.inner → d ≡ is_delayed v → ((a && b) || (c && d)) ≡ waits_for (scope_of s) w
unfolding waits_for
waits-is s w a b c d u v p q r t x y = rw (p, r, q, t, y, x)

-- ---- names

module _ (orders : List ℕ) (k : ℕ) (n : Shape) where
  pub next-first : (eqb n.kind function_kind || eqb n.second 0) ≡ true → n.first ≡ next_of orders k n
  unfolding next_of
  next-first h = rw h

  module _ (h : (eqb n.kind function_kind || eqb n.second 0) ≡ false) (w : Order) (e : w ≡ linked_of orders n.first) (b : Bool) (q : b ≡ has_level w k) where
    pub next-receiver : b ≡ true → n.first ≡ next_of orders k n
    unfolding next_of
    next-receiver t = rw (h, ← e, ← q, t)

    pub next-argument : b ≡ false → n.second ≡ next_of orders k n
    unfolding next_of
    next-argument t = rw (h, ← e, ← q, t)

pub ruleset paths = (
  rules,
  unset-is,
  cell-outer,
  cell-inner,
  bound-outer,
  bound-inner,
  order-none,
  order-outer,
  order-inner,
  order-both,
  order-turned,
  has-none,
  has-outer,
  has-inner,
  has-both,
  has-turned,
  join-none,
  join-outer,
  join-inner,
  join-outer-alone,
  join-inner-alone,
  join-both,
  join-turned,
  less-outer,
  less-outer-none,
  less-inner,
  less-inner-none,
  linked-one,
  linked-most,
  linked-there,
  linked-none,
  at-outer,
  at_inner,
  at_leaf,
  at-function,
  at-member,
  seen-is,
  known_is,
  kept-is,
  waits-is,
  next-first,
  next-receiver,
  next-argument,
)
