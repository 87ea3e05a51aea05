-- A record is read back from its two words, where its kind is below 32 and its links below 256. Assumes nothing.
use Rattle.std.specs.Prelude.{◌≡◌, refl, List, [], ◌∷◌, ◌++◌, ℕ, zero, suc, ◌+◌, ◌*◌, ◌/◌, ◌%◌, ◌≤◌, ◌<◌, length, get_or}
use Rattle.std.proofs.Common.{arith}
use Rattle.language.specs.Limits.{text_parts}
use Rattle.layout.specs.Memory.{Node, node_with}
use Rattle.descent.specs.Descent.{link_word}
use Rattle.descent.specs.Cells.{words}
use Rattle.descent.specs.Linked.{Earlier}

abbrev pub node_of : ℕ → ℕ → Node
node_of w key = node_with (w % 32) key (w / 32 % 256) (w / 8192 % 256) (w / 2097152)

-- record r
unfoldable pub record_at : List ℕ → ℕ → Node
record_at cells r = node_of (get_or cells (2 * r) 0) (get_or cells (2 * r + 1) 0)

-- n records from number r on
unfoldable pub records_from : List ℕ → ℕ → ℕ → List Node
records_from cells r zero = []
records_from cells r (suc n) = record_at cells r ∷ records_from cells (suc r) n

module _ (k f s l : ℕ) (h : k < 32) where
  kind-back : (k + 32 * f + 8192 * s + 2097152 * l) % 32 ≡ k
  kind-back = omega arith

  first_back : f < 256 → (k + 32 * f + 8192 * s + 2097152 * l) / 32 % 256 ≡ f
  first_back i = omega arith

  second_back : f < 256 → s < 256 → (k + 32 * f + 8192 * s + 2097152 * l) / 8192 % 256 ≡ s
  second_back i j = omega arith

  level-back : f < 256 → s < 256 → (k + 32 * f + 8192 * s + 2097152 * l) / 2097152 ≡ l
  level-back i j = omega arith

node-back : (n : Node) → n.kind < 32 → n.first < 256 → n.second < 256 → node_of (link_word n) n.key ≡ n
unfolding link_word
node-back n h i j =
    let k = n.kind in
    let f = n.first in
    let s = n.second in
    let l = n.level in
    rw (kind-back k f s l h, first_back k f s l h i, second_back k f s l h i j, level-back k f s l h i j) refl

record-behind : (a b : ℕ) (cells : List ℕ) (r : ℕ) → record_at (a ∷ b ∷ cells) (suc r) ≡ record_at cells r
unfolding record_at
record-behind a b cells r =
    let e : 2 * suc r ≡ suc (suc (2 * r)) = omega arith in
    let g : suc (suc (2 * r)) + 1 ≡ suc (suc (2 * r + 1)) = omega arith in
    rw (e, g) refl

records-behind : (a b : ℕ) (cells : List ℕ) (r n : ℕ) → records_from (a ∷ b ∷ cells) (suc r) n ≡ records_from cells r n
unfolding records_from
records-behind a b cells r zero = refl
records-behind a b cells r (suc n) = rw (record-behind a b cells r, records-behind a b cells (suc r) n) refl

pub records-back : (ns : List Node) (cells : List ℕ) (i : ℕ) → Earlier i ns → i + length ns ≤ text_parts
    → records_from (words ns ++ cells) 0 (length ns) ≡ ns
unfolding words records_from record_at
records-back [] cells i h l = refl
records-back (n ∷ ns) cells i h l =
    let k = h.0 in
    rw (node-back n k.kind (omega (arith, k.first)) (omega (arith, k.second)), records-behind (link_word n) n.key (words ns ++ cells) 0 (length ns), records-back ns cells (suc i) h.1 (omega arith)) refl
