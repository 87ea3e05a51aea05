-- Reading a node: the cells that are read are the node's. Assumes nothing.
use Rattle.std.specs.Prelude.{◌≡◌, List, ℕ, ◌+◌, ◌-◌, ◌*◌, ◌/◌, ◌%◌, ◌≤◌, ◌<◌, get_or}
use Rattle.std.proofs.Common.{lt-ltb, le-ltb}
use Rattle.layout.specs.Links.{kind_at, first_at, second_at, level_at, key_at}
use Rattle.layout.specs.Memory.{Node, node_with, node_at}
use Rattle.layout.specs.Held.{fresh_at, record_at, held_at, kind_base, entry_base, record_base}

pub node-is : (links cells : List ℕ) (i kind key first second level : ℕ) → kind ≡ kind_at links i → key ≡ key_at cells i → first ≡ first_at links i
    → second ≡ second_at links i → level ≡ level_at links i → node_with kind key first second level ≡ node_at links cells i
unfolding node_at
node-is links cells i kind key first second level k y f s l = rw (k, y, f, s, l)

pub fresh-is : (fresh : List ℕ) (i word kind key first second level : ℕ) → kind ≡ word % kind_base → key ≡ get_or fresh (2 * i + 1) 0 → first ≡ word / kind_base % entry_base
    → second ≡ word / (kind_base * entry_base) % entry_base → level ≡ word / (kind_base * entry_base * entry_base) % entry_base → word ≡ get_or fresh (2 * i) 0
    → node_with kind key first second level ≡ fresh_at fresh i
unfolding fresh_at
fresh-is fresh i word kind key first second level k y f s l w = rw (k, y, f, s, l, w)

pub record_is : (records : List ℕ) (r word kind key first second level : ℕ) → kind ≡ word % kind_base → key ≡ get_or records (2 * r + 1) 0 → first ≡ word / kind_base % record_base
    → second ≡ word / (kind_base * record_base) % record_base → level ≡ word / (kind_base * record_base * record_base) % record_base → word ≡ get_or records (2 * r) 0
    → node_with kind key first second level ≡ record_at records r
unfolding record_at
record_is records r word kind key first second level k y f s l w = rw (k, y, f, s, l, w)

module _ (links cells : List ℕ) (count : ℕ) (fresh : List ℕ) (i : ℕ) (m : Node) where
  pub held-old : m ≡ node_at links cells i → i < count → m ≡ held_at links cells count fresh i
  unfolding held_at
  held-old e h = rw (lt-ltb i count h) e

  pub held_new : m ≡ fresh_at fresh (i - count) → count ≤ i → m ≡ held_at links cells count fresh i
  unfolding held_at
  held_new e h = rw (le-ltb i count h) e
