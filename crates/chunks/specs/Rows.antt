-- The runs of a function, reading by reading: the variable is set, each entry of a list is worked out again in its order, and the body's
-- value is one more result. Assumes nothing: these are definitions.
use Rattle.std.specs.Prelude.{Bool, true, false, cond, ◌&&◌, List, [], ◌∷◌, ℕ, ◌+◌, ◌-◌, leb, ℤ, get_or, set}
use Rattle.members.specs.Members.{if_member}
use Rattle.rules.specs.declared.Value.TheVariants.{Number}
use Rattle.rules.specs.Rules.{rule, if_runs}
use Rattle.values.specs.declared.runs.Tally.{Tally}
use Rattle.values.specs.Tallies.{stepped}
use Rattle.values.specs.Packing.{pack_of, unpack_of}
use Rattle.layout.specs.Nodes.{member_of_kind}
use Rattle.layout.specs.Links.{kind_at, first_at, second_at, is_below}
use Rattle.columns.specs.Calling.{cell_of}

-- how one entry is worked out in a frame
abbrev pub Go : Type 0
Go = List ℕ → ℕ → ℕ

-- a variable set to a value; v is one more than its number, 0 for none
unfoldable pub bound : List ℕ → ℕ → ℕ → List ℕ
bound frame v c = cond (leb 1 v) (set frame (v - 1) c) frame

-- each entry of the list, in its order, up to one that is not below top
unfoldable pub fill_of : Go → ℕ → List ℕ → List ℕ → List ℕ
fill_of go top [] frame = frame
fill_of go top (j ∷ js) frame = cond (leb top j) frame (fill_of go top js (set frame j (go frame j)))

-- the frame with a variable set
abbrev pub set_of : Go → ℕ → List ℕ → ℕ → ℕ → List ℕ → List ℕ
set_of go top list v c frame = fill_of go top list (bound frame v c)

-- the runs, reading by reading, up to one that gives no number
unfoldable pub over_of : Go → ℕ → List ℕ → ℕ → List ℕ → Tally → List ℤ → Tally
over_of go body list v frame t [] = t
over_of go body list v frame t (z ∷ zs) =
    let after : List ℕ = set_of go (body + 1) list v (pack_of (Number z)) frame in
    let u : Tally = stepped t (unpack_of (get_or after body 0)) in
    cond u.stopped u (over_of go body list v after u zs)

-- an entry that is a member which runs no function, from the values of those that it depends on
unfoldable pub plain_of : List ℕ → List ℤ → Go
plain_of links xs frame j =
    cell_of (member_of_kind (kind_at links j)) xs (is_below (second_at links j) j) (get_or frame (first_at links j - 1) 0) (get_or frame (second_at links j - 1) 0)

-- is a kind that of such a member
unfoldable pub settles : ℕ → Bool
settles kind = if_member false (member_of_kind kind) (λ m. if_runs true (rule m) (λ f. false))

-- are all entries of a list such members, up to the body
abbrev pub is_plain : List ℕ → ℕ → ℕ → Bool
is_plain links body j = leb j body && (settles (kind_at links j) && is_below (first_at links j) j)

unfoldable pub are_plain : List ℕ → ℕ → List ℕ → Bool
are_plain links body [] = true
are_plain links body (j ∷ js) = is_plain links body j && are_plain links body js
