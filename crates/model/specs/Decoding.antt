-- A table of nodes, each with the numbers of its dependencies, stands for a list of forms. Assumes nothing: these are definitions.
use Rattle.std.specs.Prelude.{List, [], ◌∷◌, ◌++◌, ℕ, get_or}

-- the forms of a table's nodes, behind those of fs: a node builds its form from the forms before it by number, and past these stands nowhere
module _ {F N : Type 0} (build : N → (ℕ → F) → F) (nowhere : F) where
  unfoldable pub decode_from : List F → List N → List F
  decode_from fs [] = fs
  decode_from fs (n ∷ ns) = decode_from (fs ++ (build n (λ j. get_or fs j nowhere) ∷ [])) ns
