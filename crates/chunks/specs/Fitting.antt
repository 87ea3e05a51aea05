-- Which runs go by columns, and the map that says where an entry stands then: 0 for a constant of the frame, 1 for nothing yet, and from 2 on
-- for a column, whose number is two less. The variable has column 0 and the entries of the list the next ones, in their order. Assumes nothing:
-- these are definitions.
use Rattle.std.specs.Prelude.{Bool, true, cond, ◌&&◌, ◌||◌, List, [], ◌∷◌, ℕ, suc, ◌-◌, leb, ltb, eqb, length, get_or, set}
use Rattle.layout.specs.Links.{first_at, second_at, is_below}
use Rattle.chunks.specs.Rows.{is_plain}

-- the most entries of a list: chunks have four rows and more
abbrev pub most_columns : ℕ
most_columns = 126

-- the map for a list whose first entry is marked c, and for the variable v, one more than its number
unfoldable pub placed_of : ℕ → ℕ → List ℕ → List ℕ → List ℕ
placed_of v c [] map = set map (v - 1) 2
placed_of v c (j ∷ js) map = placed_of v (suc c) js (set map j c)

-- a constant, or a column before the one that is marked c
abbrev pub is_there : ℕ → ℕ → Bool
is_there m c = eqb m 0 || (leb 2 m && ltb m c)

-- entry j can be the column that is marked c
unfoldable pub fit_of : List ℕ → List ℕ → ℕ → ℕ → ℕ → Bool
fit_of links map body c j =
    is_plain links body j
    && (eqb (get_or map j 0) c
    && (is_there (get_or map (first_at links j - 1) 0) c
    && cond (is_below (second_at links j) j) (is_there (get_or map (second_at links j - 1) 0) c) true))

-- each entry of the list can be the next column, from the one that is marked c on, and the body is a column
unfoldable pub fits_of : List ℕ → List ℕ → ℕ → ℕ → List ℕ → Bool
fits_of links map body c [] = leb 2 (get_or map body 0)
fits_of links map body c (j ∷ js) = fit_of links map body c j && fits_of links map body (suc c) js

-- the runs go by columns: there is a variable, the list is short, and it fits the map that it gives
unfoldable pub by_columns : List ℕ → List ℕ → ℕ → ℕ → List ℕ → Bool
by_columns links list v body marks = (leb 1 v && leb (length list) most_columns) && fits_of links (placed_of v 3 list marks) body 3 list
