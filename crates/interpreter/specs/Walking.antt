-- The walk over the records: what its functions ask and what they give. Assumes nothing: these are definitions.
use Rattle.std.specs.Prelude.{◌≡◌, Bool, cond, ◌&&◌, ◌||◌, List, map, ℕ, ◌+◌, ◌%◌, ◌≤◌, ◌<◌, eqb, ℤ, length}
use Rattle.language.specs.Limits.{text_parts, table_readings}
use Rattle.members.specs.declared.Member.{Member}
use Rattle.rules.specs.declared.Value.{Value}
use Rattle.rules.specs.declared.Value.TheVariants.{Number, Window, Missing}
use Rattle.rules.specs.Values.{unbound_name}
use Rattle.rules.specs.Windows.{readings_in}
use Rattle.rules.specs.Rules.{of_runs}
use Rattle.rules.specs.Apply.{is_delayed}
use Rattle.values.specs.Keepable.{Inside}
use Rattle.values.specs.Packing.{unpack_of}
use Rattle.values.specs.PackingLaws.{number_in}
use Rattle.meaning.specs.Forms.{Form}
use Rattle.layout.specs.Memory.{Node}
use Rattle.layout.specs.Nodes.{number_kind, variable_kind, unbound_kind, member_kind}
use Rattle.layout.specs.Held.{record_at}
use Rattle.interpreter.specs.declared.orders.Order.{Order}
use Rattle.interpreter.specs.declared.bindings.Bindings.{Bindings}
use Rattle.interpreter.specs.declared.memo.Known.{Known}
use Rattle.levels.specs.Interpreting.{Scope, stands_for, interpret, ran}
use Rattle.interpreter.specs.Standing.{Stands}
use Rattle.interpreter.specs.Cells.{scope_of}
use Rattle.interpreter.specs.Orders.{has_level, Ordered}
use Rattle.interpreter.specs.Memo.{Remembers}

-- what a number, a name or the recording, of so many readings, comes to
unfoldable pub leaf_of : ℕ → Node → Scope → Value
leaf_of size n s =
    cond (eqb n.kind number_kind) (Number (number_in (n.key % 4294967296 + 1)))
    (cond (eqb n.kind variable_kind) (stands_for s n.level)
    (cond (eqb n.kind unbound_kind) (Missing unbound_name)
    (Window 0 size)))

-- one of the awaited levels stands for nothing
unfoldable pub waits_for : Scope → Order → Bool
waits_for s w = (has_level w 0 && is_delayed s.outer) || (has_level w 1 && is_delayed s.inner)

-- what the variables stand for are no windows beyond the recording: they are numbers or delays
pub record Bound (xs : List ℤ) (s : Bindings) : Type 0 where
  pub outer : Inside (length xs) (unpack_of s.outer)
  pub inner : Inside (length xs) (unpack_of s.inner)

-- what is remembered is right, and has its cells
pub record Keeps (xs : List ℤ) (R orders : List ℕ) (memo : List Known) : Type 0 where
  pub size : length memo ≡ text_parts
  pub remembers : Remembers xs (record_at R) orders memo

-- what the walk asks at record i: it stands for a form, and it and the records before it have their orders
pub record Ready (xs : List ℤ) (R orders : List ℕ) (s : Bindings) (i : ℕ) (memo : List Known) : Type 0 where
  pub few : length xs ≤ table_readings
  pub low : i < text_parts
  pub form : Form
  pub stands : Stands (record_at R) i form
  pub count : ℕ
  pub below : i < count
  pub ordered : Ordered (record_at R) count orders
  pub bound : Bound xs s
  pub keeps : Keeps xs R orders memo

-- what it gives: the value of the record's form; what a run of it on the reading z gives; and what a member comes to from its runs over a window
pub record Comes (xs : List ℤ) (R orders : List ℕ) (s : Bindings) (i : ℕ) (memo : List Known) (r : ℕ) : Type 0 where
  pub right : (F : Form) → Stands (record_at R) i F → unpack_of r ≡ interpret xs (scope_of s) F
  pub keeps : Keeps xs R orders memo

pub record Ran (xs : List ℤ) (R orders : List ℕ) (s : Bindings) (i : ℕ) (z : ℤ) (memo : List Known) (r : ℕ) : Type 0 where
  pub right : (F : Form) → Stands (record_at R) i F → unpack_of r ≡ ran xs (scope_of s) F z
  pub keeps : Keeps xs R orders memo

pub record Over (xs : List ℤ) (R orders : List ℕ) (s : Bindings) (i kind from count : ℕ) (memo : List Known) (r : ℕ) : Type 0 where
  pub right : (m : Member) → kind ≡ member_kind m → (F : Form) → Stands (record_at R) i F
      → unpack_of r ≡ of_runs m (map (ran xs (scope_of s) F) (readings_in xs from count))
  pub keeps : Keeps xs R orders memo
