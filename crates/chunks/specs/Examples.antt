-- Runs by columns, computed: which lists go by columns, and where a tally ends. Assumes nothing.
use Rattle.std.specs.Prelude.{◌≡◌, refl, Bool, true, false, List, [], ◌∷◌, ◌++◌, ℕ, pos, negsuc, replicate, take, drop}
use Rattle.members.specs.Members
use Rattle.rules.specs.declared.Value.TheVariants.{Number, Missing}
use Rattle.rules.specs.Rules
use Rattle.values.specs.declared.runs.Tally.{Tally}
use Rattle.values.specs.Tallies
use Rattle.values.specs.Tallies.{begun}
use Rattle.values.specs.Packing
use Rattle.values.specs.Packing.{pack_of}
use Rattle.layout.specs.Nodes
use Rattle.chunks.specs.Rows
use Rattle.chunks.specs.Fitting
use Rattle.chunks.specs.Fitting.{by_columns}
use Rattle.chunks.specs.Chunks
use Rattle.chunks.specs.Chunks.{tallied_of}

-- 0 data, 1 the variable b, 2 a number, 3 b.gt(2), 4 b.add(3), 5 data.take(b), 6 data.take(b).sum(), 7 a function, 8 data.sumBy(7), 9 b.add(8)
abbrev entry : (kind first second : ℕ) → List ℕ
entry kind first second = kind ∷ first ∷ second ∷ 0 ∷ []

abbrev links : List ℕ
links = entry 3 0 0 ++ entry 1 0 0 ++ entry 0 0 0 ++ entry 9 2 3 ++ entry 5 2 4 ++ entry 12 1 2 ++ entry 14 6 0 ++ entry 4 4 0 ++ entry 19 1 8 ++ entry 5 2 9

-- whether a list goes by columns, whose last entry is the body: the variable is entry 1, and no mark is a column before
unfoldable goes : List ℕ → ℕ → ℕ → Bool
unfolding Fitting.by_columns Fitting.fits_of Fitting.fit_of Fitting.placed_of Rows.settles Nodes.member_of_kind Members.member_at Rules.rule
goes list body v = by_columns links list v body (replicate 512 0)

numbers : goes (3 ∷ 4 ∷ []) 4 2 ≡ true
unfolding goes
numbers = refl

-- a window and what is taken of it, of one argument and of none
windows : goes (5 ∷ 6 ∷ []) 6 2 ≡ true
unfolding goes
windows = refl

-- the body is the variable
alone : goes [] 1 2 ≡ true
unfolding goes
alone = refl

-- a member that runs a function
runs : goes (8 ∷ 9 ∷ []) 9 2 ≡ false
unfolding goes
runs = refl

-- an entry before one that it depends on
early : goes (4 ∷ 3 ∷ []) 4 2 ≡ false
unfolding goes
early = refl

-- a body that is no column, and a function of no variable
constant : goes [] 2 2 ≡ false
unfolding goes
constant = refl

unbound : goes (3 ∷ []) 3 0 ≡ false
unfolding goes
unbound = refl

-- more entries than there are columns
many : goes (replicate 127 3) 3 2 ≡ false
unfolding goes
many = refl

-- ---- tallies
abbrev cells : List ℕ
cells = pack_of (Number (pos 2)) ∷ pack_of (Number (pos 0)) ∷ pack_of (Number (negsuc 4)) ∷ pack_of (Missing 3) ∷ pack_of (Missing 4) ∷ pack_of (Number (pos 7)) ∷ []

unfoldable tallied : ℕ → ℕ → Tally
unfolding Chunks.tallied_of Packing.unpack_of Tallies.stepped Tallies.entered Tallies.noted
tallied at n = tallied_of (take n (drop at cells)) begun

-- three numbers: two other than 0, and their sum
all : tallied 0 3 ≡ record { stopped = false; reason = 0; count = 2; stretch = 1; longest = 1; total = negsuc 2 }
unfolding tallied
all = refl

-- the first missing result decides, and nothing behind it counts
stops : tallied 0 6 ≡ record { stopped = true; reason = 3; count = 0; stretch = 0; longest = 0; total = pos 0 }
unfolding tallied
stops = refl

-- from a place on
later : tallied 5 1 ≡ record { stopped = false; reason = 0; count = 1; stretch = 1; longest = 1; total = pos 7 }
unfolding tallied
later = refl
