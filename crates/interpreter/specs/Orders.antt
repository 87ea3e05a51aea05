-- The levels that a record awaits, in the order of first occurrence. Assumes nothing: these are definitions. That they are the levels of the
-- record's form is in OrdersLaws.
use Rattle.std.specs.Prelude.{◌≡◌, Bool, true, false, cond, not, ◌&&◌, List, [], ◌∷◌, ℕ, ◌-◌, ◌≤◌, ◌<◌, leb, ltb, eqb, length, get_or}
use Rattle.language.specs.Limits.{text_parts}
use Rattle.meaning.specs.Forms.{Form}
use Rattle.layout.specs.Memory.{Node}
use Rattle.layout.specs.Nodes.{variable_kind, function_kind}
use Rattle.levels.specs.Interpreting.{levels}
use Rattle.interpreter.specs.Standing.{Stands}
use Rattle.interpreter.specs.declared.orders.Order.{Order}
use Rattle.interpreter.specs.declared.orders.Order.TheVariants.{Empty, Outer, Inner, OuterInner, InnerOuter}

-- the order of a byte, whatever stands there, and the byte of an order: 0 none, 1 level 0, 2 level 1, 3 level 0 and then 1, 4 level 1 and then 0. A byte
-- above 4 is no order's: it is read as 4 is, with both levels.
unfoldable pub order_of : ℕ → Order
order_of b =
    cond (eqb b 0) Empty
    (cond (eqb b 1) Outer
    (cond (eqb b 2) Inner
    (cond (eqb b 3) OuterInner
    InnerOuter)))

abbrev pub order_number : Order → ℕ
order_number Empty = 0
order_number Outer = 1
order_number Inner = 2
order_number OuterInner = 3
order_number InnerOuter = 4

-- the levels of an order
unfoldable pub listed : Order → List ℕ
listed Empty = []
listed Outer = 0 ∷ []
listed Inner = 1 ∷ []
listed OuterInner = 0 ∷ 1 ∷ []
listed InnerOuter = 1 ∷ 0 ∷ []

-- whether a level is one of them; those of w, then those of u; and those of w but a level
unfoldable pub has_level : Order → ℕ → Bool
has_level Empty k = false
has_level Outer k = eqb k 0
has_level Inner k = not (eqb k 0)
has_level OuterInner k = true
has_level InnerOuter k = true

unfoldable pub join_of : Order → Order → Order
join_of Empty u = u
join_of Outer u = cond (has_level u 1) OuterInner Outer
join_of Inner u = cond (has_level u 0) InnerOuter Inner
join_of OuterInner u = OuterInner
join_of InnerOuter u = InnerOuter

unfoldable pub less_of : Order → ℕ → Order
less_of w k = cond (eqb k 0) (cond (has_level w 1) Inner Empty) (cond (has_level w 0) Outer Empty)

-- of the record of a link, and of a record from those before it
unfoldable pub linked_of : List ℕ → ℕ → Order
linked_of orders link = cond (leb 1 link && leb link text_parts) (order_of (get_or orders (link - 1) 0)) Empty

unfoldable pub order_at : Node → List ℕ → Order
order_at n orders =
    cond (eqb n.kind variable_kind) (cond (eqb n.level 0) Outer Inner)
    (cond (ltb n.kind function_kind) Empty
    (cond (eqb n.kind function_kind) (less_of (linked_of orders n.first) n.level)
    (join_of (linked_of orders n.first) (linked_of orders n.second))))

-- of the first n records each that stands for a form has an order's byte, with the levels of the form
pub record Ordered (ν : ℕ → Node) (n : ℕ) (orders : List ℕ) : Type 0 where
  pub size : length orders ≡ text_parts
  pub low : (i : ℕ) (F : Form) → i < n → Stands ν i F → get_or orders i 0 ≤ 4
  pub right : (i : ℕ) (F : Form) → i < n → Stands ν i F → listed (order_of (get_or orders i 0)) ≡ levels F
