-- Orders are joined, lessened and asked as the lists that they stand for are, and what the records have is what their forms await. Assumes nothing.
use Rattle.std.specs.Prelude.{◌≡◌, List, [], ◌∷◌, eqb, length, get_or, set}
use Rattle.std.proofs.Math.Path.{refl, ap}
use Rattle.std.proofs.Common.{sym, ◌∙◌, subst, length-set, get_or-set_same, get_or-set_other}
use Rattle.std.proofs.Math.Bool.{cond}
use Prim.Native.Nat.{ℕ, zero, suc, ◌+◌, ◌-◌, ◌≤◌, ◌<◌}
use native.Mathlib.Omega.{arith}
use Rattle.std.proofs.Math.Decide.{dec_lt}
use borrow.Author.Tests.{ne_eqb, le-ltb, le-leb}
use Rattle.language.specs.Limits.{text_parts}
use Rattle.members.specs.declared.Member.{Member}
use Rattle.meaning.specs.Forms.{Form, with_level, level_in}
use Rattle.meaning.specs.Evaluation.{has_name, joined, without}
use Rattle.layout.specs.Memory.{Node, node}
use Rattle.layout.specs.Nodes.{variable_kind, function_kind, member_kind}
use Rattle.levels.specs.Interpreting.{levels}
use Rattle.interpreter.specs.declared.orders.Order.{Order}
use Rattle.interpreter.specs.declared.orders.Order.TheVariants.{Empty, Outer, Inner, OuterInner, InnerOuter}
use Rattle.interpreter.specs.Standing.{Stands, a_number, a_variable, an_unbound, the_readings, a_function, an_ask, a_call}
use Rattle.interpreter.specs.Orders.{order_of, order_number, listed, join_of, less_of, has_level, linked_of, order_at, Ordered}

-- ---- by five numbers, by the orders, and by the two levels

pub five : (P : ℕ → Type 0) → P 0 → P 1 → P 2 → P 3 → P 4 → (w : ℕ) → w ≤ 4 → P w
five P a b c d e zero h = a
five P a b c d e (suc zero) h = b
five P a b c d e (suc (suc zero)) h = c
five P a b c d e (suc (suc (suc zero))) h = d
five P a b c d e (suc (suc (suc (suc zero)))) h = e
five P a b c d e (suc (suc (suc (suc (suc w))))) h = absurd (omega arith)

two : (P : ℕ → Type 0) → P 0 → P 1 → (k : ℕ) → k < 2 → P k
two P a b zero h = a
two P a b (suc zero) h = b
two P a b (suc (suc k)) h = absurd (omega arith)

-- the byte of an order is one of the five, and is read as the order
pub number-low : (w : Order) → order_number w ≤ 4
number-low Empty = omega arith
number-low Outer = omega arith
number-low Inner = omega arith
number-low OuterInner = omega arith
number-low InnerOuter = omega arith

pub number-back : (w : Order) → order_of (order_number w) ≡ w
unfolding order_of
number-back Empty = refl
number-back Outer = refl
number-back Inner = refl
number-back OuterInner = refl
number-back InnerOuter = refl

pub joined-listed : (w u : Order) → listed (join_of w u) ≡ joined (listed w) (listed u)
unfolding listed join_of has_level joined has_name
joined-listed Empty Empty = refl
joined-listed Empty Outer = refl
joined-listed Empty Inner = refl
joined-listed Empty OuterInner = refl
joined-listed Empty InnerOuter = refl
joined-listed Outer Empty = refl
joined-listed Outer Outer = refl
joined-listed Outer Inner = refl
joined-listed Outer OuterInner = refl
joined-listed Outer InnerOuter = refl
joined-listed Inner Empty = refl
joined-listed Inner Outer = refl
joined-listed Inner Inner = refl
joined-listed Inner OuterInner = refl
joined-listed Inner InnerOuter = refl
joined-listed OuterInner Empty = refl
joined-listed OuterInner Outer = refl
joined-listed OuterInner Inner = refl
joined-listed OuterInner OuterInner = refl
joined-listed OuterInner InnerOuter = refl
joined-listed InnerOuter Empty = refl
joined-listed InnerOuter Outer = refl
joined-listed InnerOuter Inner = refl
joined-listed InnerOuter OuterInner = refl
joined-listed InnerOuter InnerOuter = refl

pub lessened-listed : (w : Order) (k : ℕ) → k < 2 → listed (less_of w k) ≡ without k (listed w)
unfolding listed less_of has_level without
lessened-listed Empty k l = two (λ k. listed (less_of Empty k) ≡ without k (listed Empty)) refl refl k l
lessened-listed Outer k l = two (λ k. listed (less_of Outer k) ≡ without k (listed Outer)) refl refl k l
lessened-listed Inner k l = two (λ k. listed (less_of Inner k) ≡ without k (listed Inner)) refl refl k l
lessened-listed OuterInner k l = two (λ k. listed (less_of OuterInner k) ≡ without k (listed OuterInner)) refl refl k l
lessened-listed InnerOuter k l = two (λ k. listed (less_of InnerOuter k) ≡ without k (listed InnerOuter)) refl refl k l

pub has_listed : (w : Order) (k : ℕ) → k < 2 → has_level w k ≡ has_name k (listed w)
unfolding listed has_level has_name
has_listed Empty k l = two (λ k. has_level Empty k ≡ has_name k (listed Empty)) refl refl k l
has_listed Outer k l = two (λ k. has_level Outer k ≡ has_name k (listed Outer)) refl refl k l
has_listed Inner k l = two (λ k. has_level Inner k ≡ has_name k (listed Inner)) refl refl k l
has_listed OuterInner k l = two (λ k. has_level OuterInner k ≡ has_name k (listed OuterInner)) refl refl k l
has_listed InnerOuter k l = two (λ k. has_level InnerOuter k ≡ has_name k (listed InnerOuter)) refl refl k l

-- ---- the records, from those before

pub level-of : (x k : ℕ) → k < 2 → level_in (with_level x k) ≡ k
level-of x k h = omega arith

module _ (ν : ℕ → Node) (i : ℕ) (orders : List ℕ) (before : Ordered ν i orders) (few : i < text_parts) where
  linked-is : (d : ℕ) → d < i → linked_of orders (suc d) ≡ order_of (get_or orders d 0)
  unfolding linked_of
  linked-is d h =
      let z : suc d - 1 ≡ d = omega arith in
      rw (le-leb 1 (suc d) (omega arith), le-leb (suc d) text_parts (omega arith), z)

  node_at : (n : Node) → ν i ≡ n → order_at (ν i) orders ≡ order_at n orders
  node_at n e = ap (λ (x : Node). order_at x orders) e

  member-at : (m : Member) (f a : ℕ) → order_at (node (member_kind m) 0 f a) orders ≡ join_of (linked_of orders f) (linked_of orders a)
  unfolding order_at
  member-at m f a =
      rw (ne_eqb (member_kind m) variable_kind (λ z. omega arith), le-ltb (member_kind m) function_kind (omega arith), ne_eqb (member_kind m) function_kind (λ z. omega arith))

  -- of the record of a link
  link-right : (d : ℕ) (F : Form) → d < i → Stands ν d F → listed (linked_of orders (suc d)) ≡ levels F
  link-right d F h s = rw (linked-is d h) (before.right d F h s)

  pub order-right : (F : Form) → Stands ν i F → listed (order_at (ν i) orders) ≡ levels F
  unfolding order_at levels listed linked_of joined
  order-right _ (a_number _ key e _) = ap listed (node_at _ e)
  order-right _ (a_variable _ x k e h) =
      ap listed (node_at _ e)
      ∙ two (λ k. listed (cond (eqb k 0) Outer Inner) ≡ k ∷ []) refl refl k h ∙ ap (λ (l : ℕ). l ∷ []) (sym (level-of x k h))
  order-right _ (an_unbound _ x e) = ap listed (node_at _ e)
  order-right _ (the_readings _ e) = ap listed (node_at _ e)
  order-right _ (a_function _ x b k B e h l s) =
      ap listed (node_at _ e)
      ∙ lessened-listed (linked_of orders (suc b)) k h ∙ ap (λ (d : ℕ). without d (listed (linked_of orders (suc b)))) (sym (level-of x k h)) ∙ ap (without (level_in (with_level x k))) (link-right b B l s)
  order-right _ (an_ask _ m f F e a l s) =
      ap listed (node_at _ e ∙ member-at m (suc f) 0) ∙ joined-listed (linked_of orders (suc f)) Empty ∙ link-right f F l s
  order-right _ (a_call _ m f a F A e g l s k t) =
      ap listed (node_at _ e ∙ member-at m (suc f) (suc a)) ∙ joined-listed (linked_of orders (suc f)) (linked_of orders (suc a))
      ∙ (λ j. joined (link-right f F l s j) (link-right a A k t j))

  -- one record more
  pub ordered-more : (w : Order) → w ≡ order_at (ν i) orders → (b : ℕ) → b ≡ order_number w → Ordered ν (i + 1) (set orders i b)
  ordered-more w q b e =
      record {
        size = length-set orders i b ∙ before.size;
        low = λ j F h s. elim (dec_lt j i) [
          | yes less ↦ rw (get_or-set_other orders i j b 0 (λ e. omega arith)) (before.low j F less s)
          | no most ↦ let z : j ≡ i = omega arith in rw (here j z) (number-low w)
        ];
        right = λ j F h s. elim (dec_lt j i) [
          | yes less ↦ rw (get_or-set_other orders i j b 0 (λ e. omega arith)) (before.right j F less s)
          | no most ↦ let z : j ≡ i = omega arith in rw (here j z, number-back w, q) (order-right F (subst (λ (d : ℕ). Stands ν d F) z s))
        ];
      }
    where
      here : (j : ℕ) → j ≡ i → get_or (set orders i b) j 0 ≡ order_number w
      here j z = let l = before.size in ap (λ (d : ℕ). get_or (set orders i b) d 0) z ∙ get_or-set_same orders i b 0 (omega arith) ∙ e

pub ordered-none : (ν : ℕ → Node) (orders : List ℕ) → length orders ≡ text_parts → Ordered ν 0 orders
ordered-none ν orders e = record { size = e; low = λ i F h s. absurd (omega arith); right = λ i F h s. absurd (omega arith) }

-- all of them
pub ordered-all : (ν : ℕ → Node) (i n : ℕ) (orders : List ℕ) → Ordered ν i orders → i ≤ n → n ≤ i → Ordered ν n orders
ordered-all ν i n orders o h k = let z : i ≡ n = omega arith in subst (λ (d : ℕ). Ordered ν d orders) z o
