-- The names of the variables that a record awaits, as the code finds them. Assumes nothing: these are definitions.
use Rattle.std.specs.Prelude.{◌≡◌, true, cond, ◌||◌, List, map, ℕ, ◌<◌, eqb, get_or}
use Rattle.language.specs.Limits.{text_parts}
use Rattle.meaning.specs.Forms.{Form, name_in}
use Rattle.meaning.specs.Evaluation.{has_name}
use Rattle.layout.specs.Nodes.{function_kind}
use Rattle.layout.specs.Held.{record_at}
use Rattle.layout.specs.declared.nodes.Shape.{Shape}
use Rattle.levels.specs.Interpreting.{levels, variable_at}
use Rattle.interpreter.specs.declared.orders.Order.{Order}
use Rattle.interpreter.specs.declared.orders.Order.TheVariants.{Empty, Outer, Inner, OuterInner, InnerOuter}
use Rattle.interpreter.specs.Standing.{Stands}
use Rattle.interpreter.specs.Orders.{has_level, linked_of, Ordered}

-- the link to follow to where the variable of the level first occurs
unfoldable pub next_of : List ℕ → (level : ℕ) → Shape → ℕ
next_of orders k n =
    cond ((eqb n.kind function_kind || eqb n.second 0) || has_level (linked_of orders n.first) k) n.first n.second

-- record i stands for a form that awaits the level
pub record Awaits (R orders : List ℕ) (i k : ℕ) : Type 0 where
  pub form : Form
  pub stands : Stands (record_at R) i form
  pub has : has_name k (levels form) ≡ true
  pub low : k < 2
  pub small : i < text_parts
  pub count : ℕ
  pub below : i < count
  pub ordered : Ordered (record_at R) count orders

-- the name of that variable
abbrev pub NamedBy : List ℕ → ℕ → ℕ → ℕ → Type 0
NamedBy R i k r = (F : Form) → Stands (record_at R) i F → has_name k (levels F) ≡ true → r ≡ name_in (variable_at k F)

-- the level that comes first
unfoldable pub first_level : Order → ℕ
first_level Empty = 0
first_level Outer = 0
first_level Inner = 1
first_level OuterInner = 0
first_level InnerOuter = 1

-- record i stands for a form, and it and the records before it have their orders
pub record Nameable (R orders : List ℕ) (i : ℕ) : Type 0 where
  pub form : Form
  pub stands : Stands (record_at R) i form
  pub small : i < text_parts
  pub count : ℕ
  pub below : i < count
  pub ordered : Ordered (record_at R) count orders

-- the names of what it awaits
pub record Named (R : List ℕ) (i name other : ℕ) : Type 0 where
  pub first : (F : Form) → Stands (record_at R) i F → name ≡ get_or (map (λ k. name_in (variable_at k F)) (levels F)) 0 0
  pub second : (F : Form) → Stands (record_at R) i F → other ≡ get_or (map (λ k. name_in (variable_at k F)) (levels F)) 1 0
