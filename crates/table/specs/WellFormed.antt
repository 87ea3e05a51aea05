-- 01, refusal 4, with 02, T-05: when a cache is well-formed, clause by clause. Assumes nothing: these are definitions.
use Rattle.std.specs.Prelude.{Bool, true, false, cond, not, ◌&&◌, ◌||◌, List, [], ◌∷◌, map, ℕ, suc, ◌^◌, leb, ltb, eqb, length, get_or}
use Rattle.language.specs.Limits.{table_entries, table_readings, open_lambdas}
use Rattle.values.specs.Packing.{is_packed, function_cell, delayed_cell}
use Rattle.meaning.specs.Forms.{Form}
use Rattle.meaning.specs.Evaluation.{awaited}
use Rattle.layout.specs.Memory.{Memory, Node, Kept, Entry, entry_count, reading_count, entries_of, nodes_of}
use Rattle.table.specs.EntryForms.{forms_of}
use Rattle.layout.specs.Nodes.{number_kind, variable_kind, unbound_kind, function_kind, kind_count, works_kind, arity, kids, same_node, is_name}

-- a test of every entry, with its number
unfoldable pub every : {A : Type 0} → (ℕ → A → Bool) → ℕ → List A → Bool
every p i [] = true
every p i (x ∷ xs) = p i x && every p (suc i) xs

-- unknown kind
abbrev pub kind_known : Node → Bool
kind_known n = ltb n.kind kind_count

-- a name that is none, a number beyond 32 bits; the recording and the members have neither
unfoldable pub key_right : Node → Bool
key_right n =
    cond (eqb n.kind number_kind) (ltb n.key (2 ^ 32))
    (cond (eqb n.kind variable_kind || (eqb n.kind unbound_kind || eqb n.kind function_kind)) (is_name n.key)
    (eqb n.key 0))

-- 02, T-05: a level over 1, where at most two lambdas are open; what is neither a variable nor a function has none
abbrev pub has_level : ℕ → Bool
has_level k = eqb k variable_kind || eqb k function_kind

unfoldable pub level_right : Node → Bool
level_right n = cond (has_level n.kind) (ltb n.level open_lambdas) (eqb n.level 0)

-- wrong number of dependencies
unfoldable pub arity_right : Node → Bool
arity_right n =
    cond (eqb (arity n.kind) 0) (eqb n.first 0 && eqb n.second 0)
    (cond (eqb (arity n.kind) 1) (leb 1 n.first && eqb n.second 0)
    (leb 1 n.first && leb 1 n.second))

-- dependency not lower
abbrev pub lower : ℕ → Node → Bool
lower i n = leb n.first i && leb n.second i

-- equal entries twice
unfoldable pub has_node : Node → List Node → Bool
has_node n [] = false
has_node n (m ∷ ms) = same_node m n || has_node n ms

unfoldable pub distinct : List Node → Bool
distinct [] = true
distinct (n ∷ ns) = not (has_node n ns) && distinct ns

-- an entry awaiting over two names, each with its level: the form that it stands for does
abbrev pub awaits_few : List Node → Bool
awaits_few ns = every (λ i (f : Form). leb (length (awaited f)) 2) 0 (forms_of ns)

-- worked out: from the start, or by a preview
abbrev pub is_done : Entry → Bool
is_done e = not (works_kind e.node.kind) || leb 1 e.kept.value

-- entry i is, and all of a list of entries are
unfoldable pub done_at : List Entry → ℕ → Bool
done_at es i = get_or (map is_done es) i false

unfoldable pub all_done : List Entry → List ℕ → Bool
all_done es [] = true
all_done es (i ∷ is) = done_at es i && all_done es is

-- an entry worked out with an unworked dependency
abbrev pub settled : List Entry → Entry → Bool
settled es e = eqb e.kept.value 0 || all_done es (kids e.node)

-- a kept number, window or reason outside its range; the names are those that the value shows: a function's own, a delay's none, one or two
abbrev pub nameless : Kept → Bool
nameless k = eqb k.name 0 && eqb k.other 0

unfoldable pub names_right : Kept → Bool
names_right k =
    cond (eqb k.value function_cell) (is_name k.name && eqb k.other 0)
    (cond (eqb k.value delayed_cell) (nameless k || (is_name k.name && (eqb k.other 0 || is_name k.other)))
    (nameless k))

-- a kept value is that of a member or a function, and within its range
unfoldable pub kept_right : ℕ → Entry → Bool
kept_right readings e = names_right e.kept && (eqb e.kept.value 0 || (works_kind e.node.kind && is_packed e.kept.value readings))

-- 01, refusal 4: over 512 entries or 1,024 readings, or any of the above
unfoldable pub well_formed : Memory → Bool
well_formed m =
    leb (entry_count m) table_entries
    && (leb (reading_count m) table_readings
    && (every (λ i (e : Entry). kind_known e.node) 0 (entries_of m)
    && (every (λ i (e : Entry). key_right e.node) 0 (entries_of m)
    && (every (λ i (e : Entry). level_right e.node) 0 (entries_of m)
    && (every (λ i (e : Entry). arity_right e.node) 0 (entries_of m)
    && (every (λ i (e : Entry). lower i e.node) 0 (entries_of m)
    && (distinct (nodes_of (entries_of m))
    && (awaits_few (nodes_of (entries_of m))
    && (every (λ i (e : Entry). settled (entries_of m) e) 0 (entries_of m)
    && every (λ i (e : Entry). kept_right (reading_count m) e) 0 (entries_of m))))))))))
