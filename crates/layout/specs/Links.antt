-- The cells of an entry in the lent slices (docs/MEMORY.md): its kind, its two dependencies and its level stand in the links, its key, its kept
-- value and the two names that this shows in the cells. Every other page reads and writes them by these names. Assumes nothing: these are definitions.
use Rattle.std.specs.Prelude.{Bool, ◌&&◌, List, ℕ, ◌+◌, ◌*◌, leb, get_or, set}
use Rattle.language.specs.Limits.{table_entries}

-- how many links and how many cells an entry has, and a table
abbrev pub link_cells : ℕ
link_cells = 4

abbrev pub entry_cells : ℕ
entry_cells = 4

abbrev pub table_links : ℕ
table_links = link_cells * table_entries

abbrev pub table_cells : ℕ
table_cells = entry_cells * table_entries

-- where entry i has its kind, its first and its second dependency and its level, in the links
abbrev pub kind_index : ℕ → ℕ
kind_index i = link_cells * i

abbrev pub first_index : ℕ → ℕ
first_index i = link_cells * i + 1

abbrev pub second_index : ℕ → ℕ
second_index i = link_cells * i + 2

abbrev pub level_index : ℕ → ℕ
level_index i = link_cells * i + 3

-- where it has its key, its kept value and the names that this shows, in the cells
abbrev pub key_index : ℕ → ℕ
key_index i = entry_cells * i

abbrev pub value_index : ℕ → ℕ
value_index i = entry_cells * i + 1

abbrev pub name_index : ℕ → ℕ
name_index i = entry_cells * i + 2

abbrev pub other_index : ℕ → ℕ
other_index i = entry_cells * i + 3

-- what stands there
abbrev pub kind_at : List ℕ → ℕ → ℕ
kind_at links i = get_or links (kind_index i) 0

abbrev pub first_at : List ℕ → ℕ → ℕ
first_at links i = get_or links (first_index i) 0

abbrev pub second_at : List ℕ → ℕ → ℕ
second_at links i = get_or links (second_index i) 0

abbrev pub level_at : List ℕ → ℕ → ℕ
level_at links i = get_or links (level_index i) 0

abbrev pub key_at : List ℕ → ℕ → ℕ
key_at cells i = get_or cells (key_index i) 0

abbrev pub value_at : List ℕ → ℕ → ℕ
value_at cells i = get_or cells (value_index i) 0

abbrev pub name_at : List ℕ → ℕ → ℕ
name_at cells i = get_or cells (name_index i) 0

abbrev pub other_at : List ℕ → ℕ → ℕ
other_at cells i = get_or cells (other_index i) 0

-- the links of entry i written; what is kept of it written; its cells written, with nothing kept
unfoldable pub links_with : List ℕ → ℕ → ℕ → ℕ → ℕ → ℕ → List ℕ
links_with links i kind first second level =
    set (set (set (set links (kind_index i) kind) (first_index i) first) (second_index i) second) (level_index i) level

unfoldable pub kept_with : List ℕ → ℕ → ℕ → ℕ → ℕ → List ℕ
kept_with cells i value name other = set (set (set cells (value_index i) value) (name_index i) name) (other_index i) other

abbrev pub cells_with : List ℕ → ℕ → ℕ → List ℕ
cells_with cells i key = kept_with (set cells (key_index i) key) i 0 0 0

-- a link is 0 for none or one more than a number; it is to an entry below i
abbrev pub is_below : ℕ → ℕ → Bool
is_below link i = leb 1 link && leb link i
