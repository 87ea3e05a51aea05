-- The variables that entries await, entry by entry, from those of the entries before: as the code has them. That they are those that the
-- entries' forms await is in AwaitedBuild. Assumes nothing: these are definitions.
use Rattle.std.specs.Prelude.{Bool, cond, List, [], ◌∷◌, ◌++◌, ℕ, ◌-◌, leb, eqb, length, get_or}
use Rattle.meaning.specs.Evaluation.{joined, without}
use Rattle.layout.specs.Memory.{Node}
use Rattle.layout.specs.Nodes.{variable_kind, function_kind, arity, variable_in}
use Rattle.table.specs.WellFormed.{every}

unfoldable pub awaited_by : List (List ℕ) → Node → List ℕ
awaited_by before n =
    cond (eqb n.kind variable_kind) (variable_in n ∷ [])
    (cond (eqb n.kind function_kind) (without (variable_in n) (get_or before (n.first - 1) []))
    (cond (eqb (arity n.kind) 1) (get_or before (n.first - 1) [])
    (cond (eqb (arity n.kind) 2) (joined (get_or before (n.first - 1) []) (get_or before (n.second - 1) []))
    [])))

unfoldable pub awaited_after : List (List ℕ) → List Node → List (List ℕ)
awaited_after before [] = before
awaited_after before (n ∷ ns) = awaited_after (before ++ (awaited_by before n ∷ [])) ns

-- none awaits over two
abbrev pub few_awaited : List Node → Bool
few_awaited ns = every (λ i (names : List ℕ). leb (length names) 2) 0 (awaited_after [] ns)
