-- A chunk of readings by columns. The buffer begins with a cell for a constant receiver and one for a constant argument; then come the columns,
-- each as wide as a chunk has rows. Assumes nothing: these are definitions.
use Rattle.std.specs.Prelude.{◌≡◌, true, cond, List, [], ◌∷◌, ℕ, ◌+◌, ◌-◌, ◌*◌, ◌≤◌, ◌<◌, ltb, ℤ, pos, length, get_or}
use Rattle.language.specs.Limits.{table_entries}
use Rattle.rules.specs.declared.Value.TheVariants.{Number}
use Rattle.rules.specs.Windows.{readings_in}
use Rattle.values.specs.declared.runs.Tally.{Tally}
use Rattle.values.specs.Tallies.{begun, stepped, Within}
use Rattle.values.specs.Packing.{pack_of, unpack_of}
use Rattle.layout.specs.Nodes.{member_of_kind}
use Rattle.layout.specs.Links.{kind_at, first_at, second_at, is_below}
use Rattle.columns.specs.Calling.{cell_of}
use Rattle.columns.specs.declared.loops.Operand.{Operand}
use Rattle.columns.specs.declared.loops.Column.{Column}
use Rattle.chunks.specs.Rows.{Go, set_of, over_of, plain_of, are_plain}
use Rattle.chunks.specs.Fitting.{most_columns, placed_of, is_there, fits_of}

-- where the column that is marked m stands
abbrev pub column_at : ℕ → ℕ → ℕ
column_at width m = 2 + (m - 2) * width

-- where what is marked m stands: a constant in its slot, or a column
unfoldable pub operand_of : ℕ → ℕ → ℕ → Operand
operand_of width slot m = cond (ltb m 2) (record { place = slot; step = 0 }) (record { place = column_at width m; step = 1 })

-- the column of entry j, which is marked m; with no argument the receiver stands for it
unfoldable pub column_of : List ℕ → List ℕ → ℕ → ℕ → ℕ → Column
column_of links map width m j =
    let first : ℕ = get_or map (first_at links j - 1) 0 in
    let second : ℕ = cond (is_below (second_at links j) j) (get_or map (second_at links j - 1) 0) first in
    record { first = operand_of width 0 first; second = operand_of width 1 second; to = column_at width m }

-- what entry d has in row r: its column's cell, or a constant of the frame
abbrev pub standing : List ℕ → List ℕ → ℕ → List ℕ → ℕ → ℕ → ℕ
standing map frame width buf d r = cond (ltb (get_or map d 0) 2) (get_or frame d 0) (get_or buf (column_at width (get_or map d 0) + r) 0)

-- what c rows of entry j's column ask, which is marked m
pub record Fits (links map : List ℕ) (width c m j : ℕ) (buf : List ℕ) : Type 0 where
  pub low : j < table_entries
  pub first : is_below (first_at links j) j ≡ true
  pub receiver : is_there (get_or map (first_at links j - 1) 0) m ≡ true
  pub argument : is_below (second_at links j) j ≡ true → is_there (get_or map (second_at links j - 1) 0) m ≡ true
  pub later : 3 ≤ m
  pub wide : c ≤ width
  pub room : column_at width m + width ≤ length buf
  pub few : length buf ≤ table_entries

-- c rows of entry j's column; the columns before it are kept
pub record Worked (links : List ℕ) (xs : List ℤ) (frame map : List ℕ) (width c m j : ℕ) (before after : List ℕ) : Type 0 where
  pub size : length after ≡ length before
  pub kept : (p : ℕ) → 2 ≤ p → p < column_at width m → get_or after p 0 ≡ get_or before p 0
  pub made : (r : ℕ) → r < c
      → get_or after (column_at width m + r) 0
      ≡ cell_of (member_of_kind (kind_at links j)) xs (is_below (second_at links j) j) (standing map frame width before (first_at links j - 1) r) (standing map frame width before (second_at links j - 1) r)

-- the readings of a chunk, as the first column
pub record Read (xs : List ℤ) (from c : ℕ) (before after : List ℕ) : Type 0 where
  pub size : length after ≡ length before
  pub cell : (r : ℕ) → r < c → get_or after (2 + r) 0 ≡ pack_of (Number (get_or xs (from + r) (pos 0)))

-- what was marked before any column
pub record Marks (marks : List ℕ) : Type 0 where
  pub size : length marks ≡ table_entries
  pub none : (d : ℕ) → get_or marks d 0 ≤ 1

-- what runs by columns ask: a body, a variable and a map that a list of so many entries fits
pub record Fitted (links list : List ℕ) (v body : ℕ) (map : List ℕ) : Type 0 where
  pub low : body < table_entries
  pub some : 1 ≤ v
  pub few : v ≤ table_entries
  pub short : length list ≤ most_columns
  pub marks : List ℕ
  pub none : Marks marks
  pub placed : map ≡ placed_of v 3 list marks
  pub fits : fits_of links map body 3 list ≡ true

-- a frame that has the constants of another
pub record Agrees (map frame other : List ℕ) : Type 0 where
  pub size : length other ≡ table_entries
  pub same : (d : ℕ) → get_or map d 0 ≡ 0 → get_or other d 0 ≡ get_or frame d 0

-- a run from a frame that agrees gives a cell for the body, and leaves a frame that agrees
pub record Row (go : Go) (body : ℕ) (list : List ℕ) (v c : ℕ) (map frame other : List ℕ) (r : ℕ) : Type 0 where
  pub value : get_or (set_of go (body + 1) list v c other) body 0 ≡ r
  pub agrees : Agrees map frame (set_of go (body + 1) list v c other)

-- what a chunk asks: such a list, and a buffer with room for its columns
pub record Chunks (links list : List ℕ) (v body : ℕ) (map : List ℕ) (width c : ℕ) (buf : List ℕ) : Type 0 where
  pub fitted : Fitted links list v body map
  pub wide : c ≤ width
  pub room : 2 + (length list + 1) * width ≤ length buf
  pub few : length buf ≤ table_entries

-- c rows are worked out: the body's column has what the runs give, from the readings in the first column
pub record Chunked (links : List ℕ) (xs : List ℤ) (list : List ℕ) (v body : ℕ) (map frame : List ℕ) (width c : ℕ) (before after : List ℕ) : Type 0 where
  pub size : length after ≡ length before
  pub row : (r : ℕ) → r < c → (other : List ℕ) → Agrees map frame other
      → Row (plain_of links xs) body list v (get_or before (2 + r) 0) map frame other (get_or after (column_at width (get_or map body 0) + r) 0)

-- the tally over cells, up to one that is no number
unfoldable pub tallied_of : List ℕ → Tally → Tally
tallied_of [] t = t
tallied_of (c ∷ cs) t =
    let u : Tally = stepped t (unpack_of c) in
    cond u.stopped u (tallied_of cs u)

pub record Takes (cells : List ℕ) (t r : Tally) : Type 0 where
  pub same : r ≡ tallied_of cells t
  pub bound : (k : ℕ) → Within k t → Within (k + length cells) r

-- a chunk of c readings: they are read, and the columns worked out
pub record Turned (links : List ℕ) (xs : List ℤ) (list : List ℕ) (v body : ℕ) (map frame : List ℕ) (from width c : ℕ) (before after : List ℕ) : Type 0 where
  pub filled : List ℕ
  pub read : Read xs from c before filled
  pub worked : Chunked links xs list v body map frame width c filled after

-- what one more result of a run leaves
pub record Tallied (t : Tally) (c : ℕ) (r : Tally) : Type 0 where
  pub same : r ≡ stepped t (unpack_of c)
  pub bound : (k : ℕ) → Within k t → Within (k + 1) r

-- how many readings a window has
pub record Counts (xs : List ℤ) (s l r : ℕ) : Type 0 where
  pub same : r ≡ length (readings_in xs s l)
  pub few : r ≤ 65535

-- what working out a body again asks: a list of entries up to the body, and the body and the variable within the frame
pub record Reruns (list : List ℕ) (body v : ℕ) : Type 0 where
  pub upto : (k : ℕ) → k < length list → get_or list k 0 ≤ body
  pub low : body < table_entries
  pub few : v ≤ table_entries

-- what runs by columns ask: a list that fits, and a whole buffer
pub record Columns (links list : List ℕ) (v body : ℕ) (map buf : List ℕ) : Type 0 where
  pub fitted : Fitted links list v body map
  pub room : length buf ≡ table_entries

-- the runs by columns: every entry is a member that runs no function, and the tally is that of the runs reading by reading
pub record Ran (links : List ℕ) (xs : List ℤ) (list : List ℕ) (v body : ℕ) (frame : List ℕ) (s l : ℕ) (t : Tally) : Type 0 where
  pub plain : are_plain links body list ≡ true
  pub same : t ≡ over_of (plain_of links xs) body list v frame begun (readings_in xs s l)
