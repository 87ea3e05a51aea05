-- The hash chains of entries by number: what their cells hold, and what a search finds. Assumes nothing: these are definitions.
use Rattle.std.specs.Prelude.{◌≡◌, Bool, true, cond, List, ℕ, zero, suc, ◌+◌, ◌-◌, ◌*◌, Option, None, Some, ◌%◌, ◌<◌, eqb, length, get_or, set}
use Rattle.language.specs.Limits.{text_parts, table_entries}
use Rattle.layout.specs.Memory.{Node}
use Rattle.layout.specs.Nodes.{same_node}

-- how many hashes there are; the entries that chains can have, held or about to be appended; and the cells of both
abbrev pub hashes : ℕ
hashes = 512

abbrev pub chain_entries : ℕ
chain_entries = table_entries + text_parts

abbrev pub chain_cells : ℕ
chain_cells = hashes + chain_entries

unfoldable pub hash_of : Node → ℕ
hash_of n = (n.key % 65521 + (n.kind * 31 + (n.first * 1009 + n.second * 37))) % hashes

-- one more than the last of n nodes that has the hash, or 0
unfoldable pub latest : (ℕ → Node) → ℕ → ℕ → ℕ
latest ν h zero = 0
latest ν h (suc n) = cond (eqb (hash_of (ν n)) h) (suc n) (latest ν h n)

-- one more than the last of n nodes that is x, or 0
unfoldable pub last_same : (ℕ → Node) → Node → ℕ → ℕ
last_same ν x zero = 0
last_same ν x (suc n) = cond (same_node (ν n) x) (suc n) (last_same ν x n)

-- the number that is one less, if there is one
abbrev pub number_before : ℕ → Option ℕ
number_before c = cond (eqb c 0) None (Some (c - 1))

-- no node before number i is equal to node i
abbrev pub new_at : (ℕ → Node) → ℕ → Bool
new_at ν i = eqb (last_same ν (ν i) i) 0

-- the chains of the first n nodes
pub record Chained (ν : ℕ → Node) (chain : List ℕ) (n : ℕ) : Type 0 where
  pub size : length chain ≡ chain_cells
  pub heads : (h : ℕ) → h < hashes → get_or chain h 0 ≡ latest ν h n
  pub nexts : (i : ℕ) → i < n → get_or chain (hashes + i) 0 ≡ latest ν (hash_of (ν i)) i

-- node i put in front of the chain of hash h
unfoldable pub linked : List ℕ → ℕ → ℕ → List ℕ
linked chain h i = set (set chain (hashes + i) (get_or chain h 0)) h (i + 1)

-- node i was tested, and entered if it is new
pub record Entered (ν : ℕ → Node) (i : ℕ) (chain : List ℕ) (r : Bool) : Type 0 where
  pub new : r ≡ new_at ν i
  pub chained : r ≡ true → Chained ν chain (i + 1)
