-- 01, "The plain book": each call is lent the cache as the last one left it, or too little of it. The four slices that it is lent may have any
-- lengths, and any contents beyond the cache's sizes; as far as the sizes go, their cells are the cache's. Assumes nothing: these are definitions.
use Rattle.std.specs.Prelude.{◌≡◌, List, ◌++◌, ℕ, length, take, drop}
use Rattle.language.specs.Limits.{table_readings}
use Rattle.layout.specs.Links.{table_links, table_cells}
use Rattle.layout.specs.Memory.{Memory, memory}

-- the slice ys, its first cells those of xs
abbrev pub lend_slice : {A : Type 0} (size : ℕ) (ys xs : List A) → List A
lend_slice size ys xs = take (length ys) (take size xs) ++ drop size ys

-- the memory n, its first cells those of the cache m
abbrev pub lend : Memory → Memory → Memory
lend n m =
    memory (lend_slice table_readings n.readings m.readings) (lend_slice 2 n.heads m.heads)
    (lend_slice table_links n.links m.links) (lend_slice table_cells n.cells m.cells)

-- the cells of n, as far as the sizes go, are those of the cache m
pub record FirstOf (m n : Memory) : Type 0 where
  pub readings : take table_readings n.readings ≡ take (length n.readings) (take table_readings m.readings)
  pub heads : take 2 n.heads ≡ take (length n.heads) (take 2 m.heads)
  pub links : take table_links n.links ≡ take (length n.links) (take table_links m.links)
  pub cells : take table_cells n.cells ≡ take (length n.cells) (take table_cells m.cells)

-- the slice xs once its first cells are back as those of ps
abbrev pub back_slice : {A : Type 0} (size : ℕ) (xs ps : List A) → List A
back_slice size xs ps = take size ps ++ drop (length (take size ps)) xs

-- the cache m once what was lent of it is back as p
abbrev pub back : Memory → Memory → Memory
back m p =
    memory (back_slice table_readings m.readings p.readings) (back_slice 2 m.heads p.heads)
    (back_slice table_links m.links p.links) (back_slice table_cells m.cells p.cells)
