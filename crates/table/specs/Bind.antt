-- 01, "Binding", and the paper's Figures 3 and 4 over entries: a text's records are bound one by one, found or appended.
-- Assumes nothing: these are definitions.
use Rattle.std.specs.Prelude.{cond, List, [], ◌∷◌, ◌++◌, ℕ, zero, suc, ltb, length, get_or, set}
use Rattle.model.specs.Lists.{index}
use Rattle.layout.specs.Links.{links_with, cells_with}
use Rattle.layout.specs.Memory.{Memory, memory, Node, node_with, entry_count}
use Rattle.layout.specs.Nodes.{same_node}

-- a record is a node whose dependencies are earlier records; bound, they are those records' entries
abbrev pub relinked : List ℕ → ℕ → ℕ
relinked numbers zero = 0
relinked numbers (suc j) = suc (get_or numbers j 0)

unfoldable pub relink : List ℕ → Node → Node
relink numbers n = node_with n.kind n.key (relinked numbers n.first) (relinked numbers n.second) n.level

-- the entries, and the number of each record so far
pub record Bound : Type 0 where
  pub nodes : List Node
  pub numbers : List ℕ

-- 01: equal forms have one entry; a new one takes the next number, which is how many there are
unfoldable pub bind_one : Bound → Node → Bound
bind_one b r =
    let n : Node = relink b.numbers r in
    let i : ℕ = index same_node n b.nodes in
    record { nodes = cond (ltb i (length b.nodes)) b.nodes (b.nodes ++ (n ∷ [])); numbers = b.numbers ++ (i ∷ []) }

unfoldable pub bind_all : Bound → List Node → Bound
bind_all b [] = b
bind_all b (r ∷ rs) = bind_all (bind_one b r) rs

-- an entry appended to the memory: its links with its level and its key, nothing kept, and one more entry
unfoldable pub append : Memory → Node → Memory
append m n =
    let k : ℕ = entry_count m in
    memory m.readings (set m.heads 0 (suc k)) (links_with m.links k n.kind n.first n.second n.level) (cells_with m.cells k n.key)

unfoldable pub append_all : Memory → List Node → Memory
append_all m [] = m
append_all m (n ∷ ns) = append_all (append m n) ns
