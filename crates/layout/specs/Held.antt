-- The nodes of the entries held, and of those that wait in a call's frame to be appended: two words each, a word of the kind, the
-- links and the level and one of the key. Assumes nothing: these are definitions.
use Rattle.std.specs.Prelude.{cond, List, ℕ, ◌+◌, ◌-◌, ◌*◌, ◌/◌, ◌%◌, ltb, get_or, set}
use Rattle.language.specs.Limits.{text_parts}
use Rattle.layout.specs.Memory.{Node, node_with, node_at}
use Rattle.layout.specs.declared.nodes.Shape.{Shape}
use Rattle.layout.specs.declared.nodes.Rows.{Rows}
use Rattle.layout.specs.declared.nodes.Entries.{Entries}

abbrev pub shaped : Shape → Node
shaped s = node_with s.kind s.key s.first s.second s.level

-- the words of the nodes that a text can have, two each
abbrev pub text_words : ℕ
text_words = 2 * text_parts

-- in a word a kind is below the first of these, a link to an entry and one to a record below the others; a level is what is left
abbrev pub kind_base : ℕ
kind_base = 32

abbrev pub entry_base : ℕ
entry_base = 1024

abbrev pub record_base : ℕ
record_base = 256

-- a node as one word, whose links are below a base: a record's to records, any other's to entries
abbrev pub word_in : ℕ → Node → ℕ
word_in base n = n.kind + kind_base * (n.first + base * (n.second + base * n.level))

-- the node at place i, two words each, whose links are below a base
abbrev pub packed_at : ℕ → List ℕ → ℕ → Node
packed_at base words i =
    node_with (get_or words (2 * i) 0 % kind_base) (get_or words (2 * i + 1) 0) (get_or words (2 * i) 0 / kind_base % base)
    (get_or words (2 * i) 0 / (kind_base * base) % base) (get_or words (2 * i) 0 / (kind_base * base * base) % base)

-- a node that waits, which links to entries
unfoldable pub fresh_at : List ℕ → ℕ → Node
fresh_at fresh i = packed_at entry_base fresh i

-- a text's record, which links to records
unfoldable pub record_at : List ℕ → ℕ → Node
record_at records r = packed_at record_base records r

unfoldable pub held_at : List ℕ → List ℕ → ℕ → List ℕ → ℕ → Node
held_at links cells count fresh i = cond (ltb i count) (node_at links cells i) (fresh_at fresh (i - count))

-- entry i of a table as it is lent, and where entries wait
abbrev pub row_in : Rows → ℕ → Node
row_in r i = node_at r.links.now r.cells.now i

abbrev pub entry_in : Entries → ℕ → Node
entry_in e i = held_at e.links.now e.cells.now e.count e.fresh.now i

-- a node put at place i
unfoldable pub with_fresh : List ℕ → ℕ → Node → List ℕ
with_fresh fresh i n = set (set fresh (2 * i) (word_in entry_base n)) (2 * i + 1) n.key
