-- What is remembered of the records while one answer is worked out: of each its packed value, 0 for none, and the bindings that it is for, as far
-- as the record awaits them. Assumes nothing: these are definitions.
use Rattle.std.specs.Prelude.{◌≡◌, Bool, true, cond, not, ◌&&◌, List, ℕ, ◌<◌, eqb, ℤ, get_or, set}
use Rattle.language.specs.Limits.{text_parts}
use Rattle.values.specs.Packing.{unpack_of}
use Rattle.meaning.specs.Forms.{Form}
use Rattle.layout.specs.Memory.{Node}
use Rattle.interpreter.specs.declared.orders.Order.{Order}
use Rattle.interpreter.specs.declared.bindings.Bindings.{Bindings}
use Rattle.interpreter.specs.declared.memo.Known.{Known}
use Rattle.levels.specs.Interpreting.{interpret}
use Rattle.interpreter.specs.Standing.{Stands}
use Rattle.interpreter.specs.Cells.{bindings, scope_of}
use Rattle.interpreter.specs.Orders.{order_of, has_level}

abbrev pub known : ℕ → Bindings → Known
known c s = record { cell = c; seen = s }

-- no value
abbrev pub none : Known
none = known 0 (bindings 0 0)

abbrev pub same : Bindings → Bindings → Bool
same s t = eqb s.outer t.outer && eqb s.inner t.inner

unfoldable pub seen_by : Bindings → Order → Bindings
seen_by s w = bindings (cond (has_level w 0) s.outer 0) (cond (has_level w 1) s.inner 0)

unfoldable pub is_known : List Known → ℕ → Bindings → Bool
is_known memo i seen = not (eqb (get_or memo i none).cell 0) && same (get_or memo i none).seen seen

unfoldable pub kept : List Known → ℕ → Bindings → ℕ → List Known
kept memo i seen cell = set memo i (known cell seen)

-- what is known is right: of each record and any bindings for which it is known
abbrev pub Remembers : List ℤ → (ℕ → Node) → (orders : List ℕ) → List Known → Type 0
Remembers xs ν orders memo =
    (i : ℕ) (F : Form) → i < text_parts → Stands ν i F → (s : Bindings) → is_known memo i (seen_by s (order_of (get_or orders i 0))) ≡ true
    → unpack_of (get_or memo i none).cell ≡ interpret xs (scope_of s) F
