-- A column: for each row of a buffer a member's cell, from the cells of its receiver and of its argument in that row. Assumes nothing: these
-- are definitions.
use Rattle.std.specs.Prelude.{Option}
use Rattle.std.specs.Prelude.{◌≡◌, Bool, true, List, ℕ, ◌+◌, ◌*◌, ◌≤◌, ◌<◌, ℤ, length, get_or, set}
use Rattle.language.specs.Limits.{table_entries}
use Rattle.members.specs.declared.Member.{Member}
use Rattle.rules.specs.Rules.{on_numbers}
use Rattle.values.specs.Packing.{pack_of}
use Rattle.values.specs.PackingLaws.{number_in}
use Rattle.columns.specs.Calling.{cell_of}
use Rattle.columns.specs.declared.loops.Column.{Column}

-- a member on two numbers
abbrev pub numbers_cell : Member → ℕ → ℕ → ℕ
numbers_cell m a b = pack_of (on_numbers m (number_in a) (number_in b))

-- where row r of what a column is made from stands, and what it is
abbrev pub first_place : Column → ℕ → ℕ
first_place k r = k.first.place + k.first.step * r

abbrev pub second_place : Column → ℕ → ℕ
second_place k r = k.second.place + k.second.step * r

abbrev pub row_cell : Option Member → Bool → List ℤ → Column → List ℕ → ℕ → ℕ
row_cell f two xs k buf r = cell_of f xs two (get_or buf (first_place k r) 0) (get_or buf (second_place k r) 0)

-- one row, whatever it has
abbrev pub row_put : Option Member → Bool → List ℤ → Column → ℕ → List ℕ → List ℕ
row_put f two xs k r buf = set buf (k.to + r) (row_cell f two xs k buf r)

-- what c rows of a column ask: what they are made from lies before the column, and that within the buffer
pub record Asks (k : Column) (c : ℕ) (buf : List ℕ) : Type 0 where
  pub first : (r : ℕ) → r < c → first_place k r < k.to
  pub second : (r : ℕ) → r < c → second_place k r < k.to
  pub room : k.to + c ≤ length buf
  pub few : length buf ≤ table_entries

-- the rows of a column from one to another; what lies before them is kept
pub record Rowed (f : Option Member) (two : Bool) (k : Column) (c : ℕ) (before : List ℕ) (from : ℕ) (after : List ℕ) (r : ℕ) : Type 0 where
  pub past : from ≤ r
  pub most : r ≤ c
  pub size : length after ≡ length before
  pub kept : (p : ℕ) → p < k.to + from → get_or after p 0 ≡ get_or before p 0
  pub made : (q : ℕ) → from ≤ q → q < r → (xs : List ℤ) → get_or after (k.to + q) 0 ≡ row_cell f two xs k before q

-- of a member on two numbers
abbrev pub Numbered : Option Member → Column → ℕ → List ℕ → ℕ → List ℕ → ℕ → Type 0
Numbered f = Rowed f true

-- a whole column; what lies before it is kept
pub record Columned (f : Option Member) (two : Bool) (xs : List ℤ) (k : Column) (c : ℕ) (before after : List ℕ) : Type 0 where
  pub size : length after ≡ length before
  pub kept : (p : ℕ) → p < k.to → get_or after p 0 ≡ get_or before p 0
  pub made : (q : ℕ) → q < c → get_or after (k.to + q) 0 ≡ row_cell f two xs k before q
