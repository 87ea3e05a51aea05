-- The writes of an entry's cells: what was written stands there, and the cells of every other entry stay. Assumes nothing.
use Rattle.std.specs.Prelude.{◌≡◌, List, ℕ, ◌<◌, get_or, set}
use Rattle.std.proofs.Common.{◌∙◌}
use native.Mathlib.Omega.{arith}
use Rattle.std.proofs.Math.ListN.{length, length-set}
use Rattle.std.proofs.Math.Seq.{get_or-set_same, get_or-set_other}
use Rattle.layout.specs.Links.{kind_index, first_index, second_index, level_index, key_index, value_index, name_index, other_index, key_at, links_with, kept_with, cells_with}
use Rattle.layout.specs.Memory.{nothing_kept, node_at, kept_at, node_with}

module _ (l : List ℕ) (a b c x y z : ℕ) where
  -- three cells written
  abbrev three : List ℕ
  three = set (set (set l a x) b y) c z

  three-else : (j : ℕ) → (j ≡ a → ⊥) → (j ≡ b → ⊥) → (j ≡ c → ⊥) → get_or three j 0 ≡ get_or l j 0
  three-else j p q r = get_or-set_other (set (set l a x) b y) c j z 0 r ∙ get_or-set_other (set l a x) b j y 0 q ∙ get_or-set_other l a j x 0 p

  module _ (p : a < b) (q : b < c) (h : c < length l) where
    three-first : get_or three a 0 ≡ x
    three-first =
        get_or-set_other (set (set l a x) b y) c a z 0 (λ e. omega arith) ∙ get_or-set_other (set l a x) b a y 0 (λ e. omega arith)
        ∙ get_or-set_same l a x 0 (omega arith)

    three-second : get_or three b 0 ≡ y
    three-second =
        let d = length-set l a x in
        get_or-set_other (set (set l a x) b y) c b z 0 (λ e. omega arith) ∙ get_or-set_same (set l a x) b y 0 (omega arith)

    three_third : get_or three c 0 ≡ z
    three_third =
        let d = length-set l a x in
        let e = length-set (set l a x) b y in
        get_or-set_same (set (set l a x) b y) c z 0 (omega arith)

-- the links of entry k
module _ (links : List ℕ) (k kind first second level : ℕ) where
  pub links-length : length (links_with links k kind first second level) ≡ length links
  unfolding links_with
  links-length = simp length-set

  -- the kind and the dependencies, and then the level
  abbrev before : List ℕ
  before = set (set (set links (kind_index k) kind) (first_index k) first) (second_index k) second

  before-length : length before ≡ length links
  before-length = simp length-set

  links-else : (j : ℕ) → (j ≡ kind_index k → ⊥) → (j ≡ first_index k → ⊥) → (j ≡ second_index k → ⊥) → (j ≡ level_index k → ⊥)
      → get_or (links_with links k kind first second level) j 0 ≡ get_or links j 0
  unfolding links_with
  links-else j p q r s =
      get_or-set_other before (level_index k) j level 0 s ∙ three-else links (kind_index k) (first_index k) (second_index k) kind first second j p q r

  pub links-apart : (cells : List ℕ) (i : ℕ) → (i ≡ k → ⊥) → node_at (links_with links k kind first second level) cells i ≡ node_at links cells i
  unfolding node_at
  links-apart cells i h =
      rw (
        links-else (kind_index i) (λ e. h (omega arith)) (λ e. omega arith) (λ e. omega arith) (λ e. omega arith),
        links-else (first_index i) (λ e. omega arith) (λ e. h (omega arith)) (λ e. omega arith) (λ e. omega arith),
        links-else (second_index i) (λ e. omega arith) (λ e. omega arith) (λ e. h (omega arith)) (λ e. omega arith),
        links-else (level_index i) (λ e. omega arith) (λ e. omega arith) (λ e. omega arith) (λ e. h (omega arith)),
      )

  pub links-here : (cells : List ℕ) → level_index k < length links
      → node_at (links_with links k kind first second level) cells k ≡ node_with kind (key_at cells k) first second level
  unfolding links_with node_at
  links-here cells h =
      let n = before-length in
      let l : second_index k < length links = omega arith in
      rw (
        get_or-set_other before (level_index k) (kind_index k) level 0 (λ e. omega arith),
        get_or-set_other before (level_index k) (first_index k) level 0 (λ e. omega arith),
        get_or-set_other before (level_index k) (second_index k) level 0 (λ e. omega arith),
        get_or-set_same before (level_index k) level 0 (omega arith),
        three-first links (kind_index k) (first_index k) (second_index k) kind first second (omega arith) (omega arith) l,
        three-second links (kind_index k) (first_index k) (second_index k) kind first second (omega arith) (omega arith) l,
        three_third links (kind_index k) (first_index k) (second_index k) kind first second (omega arith) (omega arith) l,
      )

-- what is kept of entry k
module _ (cells : List ℕ) (k value name other : ℕ) where
  pub kept-length : length (kept_with cells k value name other) ≡ length cells
  unfolding kept_with
  kept-length = simp length-set

  kept-else : (j : ℕ) → (j ≡ value_index k → ⊥) → (j ≡ name_index k → ⊥) → (j ≡ other_index k → ⊥) → get_or (kept_with cells k value name other) j 0 ≡ get_or cells j 0
  unfolding kept_with
  kept-else = three-else cells (value_index k) (name_index k) (other_index k) value name other

  pub kept-key : (i : ℕ) → key_at (kept_with cells k value name other) i ≡ key_at cells i
  kept-key i = kept-else (key_index i) (λ e. omega arith) (λ e. omega arith) (λ e. omega arith)

  pub kept-apart : (i : ℕ) → (i ≡ k → ⊥) → kept_at (kept_with cells k value name other) i ≡ kept_at cells i
  unfolding kept_at
  kept-apart i h =
      rw (
        kept-else (value_index i) (λ e. h (omega arith)) (λ e. omega arith) (λ e. omega arith),
        kept-else (name_index i) (λ e. omega arith) (λ e. h (omega arith)) (λ e. omega arith),
        kept-else (other_index i) (λ e. omega arith) (λ e. omega arith) (λ e. h (omega arith)),
      )

  pub kept_here : other_index k < length cells → kept_at (kept_with cells k value name other) k ≡ record { value = value; name = name; other = other }
  unfolding kept_with kept_at
  kept_here h =
      rw (
        three-first cells (value_index k) (name_index k) (other_index k) value name other (omega arith) (omega arith) h,
        three-second cells (value_index k) (name_index k) (other_index k) value name other (omega arith) (omega arith) h,
        three_third cells (value_index k) (name_index k) (other_index k) value name other (omega arith) (omega arith) h,
      )

-- the cells of entry k, with nothing kept
module _ (cells : List ℕ) (k key : ℕ) where
  pub cells-length : length (cells_with cells k key) ≡ length cells
  cells-length = kept-length (set cells (key_index k) key) k 0 0 0 ∙ length-set cells (key_index k) key

  pub cells-apart : (links : List ℕ) (i : ℕ) → (i ≡ k → ⊥) → node_at links (cells_with cells k key) i ≡ node_at links cells i
  unfolding node_at
  cells-apart links i h = rw (kept-key (set cells (key_index k) key) k 0 0 0 i, get_or-set_other cells (key_index k) (key_index i) key 0 (λ e. h (omega arith)))

  pub cells-kept : (i : ℕ) → (i ≡ k → ⊥) → kept_at (cells_with cells k key) i ≡ kept_at cells i
  unfolding kept_at
  cells-kept i h =
      kept-apart (set cells (key_index k) key) k 0 0 0 i h
      ∙ rw (
        get_or-set_other cells (key_index k) (value_index i) key 0 (λ e. omega arith),
        get_or-set_other cells (key_index k) (name_index i) key 0 (λ e. omega arith),
        get_or-set_other cells (key_index k) (other_index i) key 0 (λ e. omega arith),
      )

  module _ (h : other_index k < length cells) where
    pub cells-key : key_at (cells_with cells k key) k ≡ key
    cells-key = kept-key (set cells (key_index k) key) k 0 0 0 k ∙ get_or-set_same cells (key_index k) key 0 (omega arith)

    pub cells-nothing : kept_at (cells_with cells k key) k ≡ nothing_kept
    cells-nothing = let d = length-set cells (key_index k) key in kept_here (set cells (key_index k) key) k 0 0 0 (omega arith)
