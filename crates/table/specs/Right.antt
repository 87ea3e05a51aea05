-- The clauses of well-formedness as the code tests them: by number, over the slices. Assumes nothing: these are definitions.
use Rattle.std.specs.Prelude.{Bool, ◌&&◌, List, ℕ}
use Rattle.layout.specs.Memory.{Node, node_at}
use Rattle.table.specs.WellFormed.{kind_known, key_right, level_right, arity_right, lower}

-- node i is right in itself, and its dependencies are lower
unfoldable pub node_right : ℕ → Node → Bool
node_right i n = kind_known n && (key_right n && (level_right n && (arity_right n && lower i n)))

unfoldable pub right_at : List ℕ → List ℕ → ℕ → Bool
right_at links cells i = node_right i (node_at links cells i)
