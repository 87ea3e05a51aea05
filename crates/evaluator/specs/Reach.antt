-- What a run has to work out again: the entries that the body reaches through entries that await the variable, and that await it, in
-- rising order, without the variable itself. Assumes nothing: these are definitions.
use Rattle.std.specs.Prelude.{◌≡◌, Bool, cond, not, ◌&&◌, List, [], ◌∷◌, ℕ, zero, suc, ◌+◌, ◌-◌, ◌≤◌, ◌<◌, eqb, length, get_or, set, replicate, drop}
use Rattle.language.specs.Limits.{table_entries}
use Rattle.layout.specs.Links.{first_at, second_at, is_below}
use Rattle.table.specs.Waits.{awaits}
use Rattle.chunks.specs.Chunks.{Marks}

-- entry d awaits the variable v and is not v; v is one more than its number
abbrev pub moves : List ℕ → ℕ → ℕ → Bool
moves waits v d = awaits (get_or waits d 0) v && not (eqb (d + 1) v)

-- a dependency of entry j is flagged where it moves
unfoldable pub flagged : List ℕ → ℕ → ℕ → ℕ → List ℕ → List ℕ
flagged waits v j link flags = cond (is_below link j && moves waits v (link - 1)) (set flags (link - 1) 1) flags

unfoldable pub spread : List ℕ → List ℕ → ℕ → ℕ → List ℕ → List ℕ
spread links waits v j flags = flagged waits v j (second_at links j) (flagged waits v j (first_at links j) flags)

-- from entry j - 1 down
unfoldable pub gather_from : List ℕ → List ℕ → ℕ → ℕ → List ℕ → List ℕ → List ℕ
gather_from links waits v zero flags list = list
gather_from links waits v (suc j) flags list =
    cond (eqb (get_or flags j 0) 1) (gather_from links waits v j (spread links waits v j flags) (j ∷ list))
    (gather_from links waits v j flags list)

-- what a run of the body with the variable v has to work out again
unfoldable pub gathered : List ℕ → List ℕ → ℕ → ℕ → List ℕ
gathered links waits v body =
    cond (moves waits v body) (gather_from links waits v (suc body) (set (replicate table_entries 0) body 1) [])
    []

-- the list stands at the end of an array, from a place on, each of its entries is at or below the body, and each flag is 0 or 1
pub record Gathers (links waits : List ℕ) (v body : ℕ) (list flags : List ℕ) (at : ℕ) : Type 0 where
  pub within : at ≤ table_entries
  pub size : length list ≡ table_entries
  pub same : drop at list ≡ gathered links waits v body
  pub upto : (k : ℕ) → at ≤ k → k < table_entries → get_or list k 0 ≤ body
  pub marks : Marks flags
