-- The cells that an accepted edit writes. Assumes nothing: these are definitions.
use Rattle.std.specs.Prelude.{List, ◌++◌, map, ℕ, ◌≤◌, length, get_or, drop}
use Rattle.layout.specs.Links.{table_links, table_cells}

-- the slices of a cache that is lent whole
pub record Whole (heads links cells : List ℕ) : Type 0 where
  pub in-heads : 2 ≤ length heads
  pub in-links : table_links ≤ length links
  pub in_cells : table_cells ≤ length cells

-- the numbers of the parts, by the records that they are, and behind them the places as they were
unfoldable pub placed : List ℕ → List ℕ → List ℕ → List ℕ
placed numbers parts places = map (λ (j : ℕ). get_or numbers j 0) parts ++ drop (length parts) places
