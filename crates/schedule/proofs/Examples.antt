-- The work of a preview over a small table, computed: what is worked out, what is kept, and whether some is left. Assumes nothing.
use Rattle.std.specs.Prelude.{◌≡◌, refl, Bool, true, false, List, [], ◌∷◌, ◌++◌, map, ℕ, ◌+◌, ◌*◌, ℤ, pos, replicate, drop, length}
use Rattle.members.specs.Members
use Rattle.rules.specs.Values
use Rattle.rules.specs.Windows
use Rattle.rules.specs.Rules
use Rattle.rules.specs.Apply
use Rattle.values.specs.Packing
use Rattle.values.specs.Packing.{function_cell, delayed_cell}
use Rattle.values.specs.Applied
use Rattle.layout.specs.Links
use Rattle.layout.specs.Links.{value_at, name_at, other_at}
use Rattle.layout.specs.Nodes
use Rattle.table.specs.Waits
use Rattle.columns.specs.Calling
use Rattle.chunks.specs.Rows
use Rattle.evaluator.specs.Reach
use Rattle.evaluator.specs.Frames
use Rattle.evaluator.specs.Applying
use Rattle.schedule.specs.Works
use Rattle.schedule.specs.Works.{Work, worked}

-- 0 data, 1 and 2 the numbers 1 and 2, 3 data.skip(1), 4 data.skip(1).take(2), 5 data.sum(), 6 1.add(data.sum()), 7 and 8 the variables a and b,
-- 9 a.add(b), 10 \b -> a.add(b), 11 \a -> \b -> a.add(b); 12 the variable a of a function within another, 13 a.add(a) of both variables, 14 \a
-- within, and 15 the function around it
abbrev pub entry : (kind first second level : ℕ) → List ℕ
entry kind first second level = kind ∷ first ∷ second ∷ level ∷ []

abbrev pub links : List ℕ
links =
    let l : List ℕ =
    entry 3 0 0 0 ++ entry 0 0 0 0 ++ entry 0 0 0 0 ++ entry 11 1 2 0 ++ entry 12 4 3 0 ++ entry 14 1 0 0 ++ entry 5 2 6 0 ++ entry 1 0 0 0
    ++ entry 1 0 0 1 ++ entry 5 8 9 0 ++ entry 4 10 0 1 ++ entry 4 11 0 0 ++ entry 1 0 0 1 ++ entry 5 8 13 0 ++ entry 4 14 0 1 ++ entry 4 15 0 0 in
    l ++ drop (length l) (replicate 2048 0)

abbrev pub key : ℕ → List ℕ
key k = k ∷ 0 ∷ 0 ∷ 0 ∷ []

abbrev pub fresh : List ℕ
fresh =
    let c : List ℕ =
    key 0 ++ key 2147483649 ++ key 2147483650 ++ key 0 ++ key 0 ++ key 0 ++ key 0 ++ key 97 ++ key 98 ++ key 0 ++ key 98 ++ key 97
    ++ key 97 ++ key 0 ++ key 97 ++ key 97 in
    c ++ drop (length c) (replicate 2048 0)

abbrev pub recording : List ℤ
recording = pos 140 ∷ pos 152 ∷ pos 160 ∷ pos 148 ∷ pos 155 ∷ []

-- an entry's kept value and names
abbrev pub Kept : Type 0
Kept = ℕ × ℕ × ℕ

abbrev pub kept_of : List ℕ → ℕ → Kept
kept_of cells i = (value_at cells i, name_at cells i, other_at cells i)

-- the count, whether some is left, and what the members and functions keep
pub record Done : Type 0 where
  pub count : ℕ
  pub left : Bool
  pub members : List Kept
  pub functions : List Kept

abbrev pub done : Work → Done
done w = record {
  count = w.count;
  left = w.left;
  members = map (kept_of w.cells) (3 ∷ 4 ∷ 5 ∷ 6 ∷ []);
  functions = map (kept_of w.cells) (9 ∷ 10 ∷ 11 ∷ []);
}

-- the work on an entry with an allowance, as a definition that computes
unfoldable pub work_on : List ℕ → ℕ → ℕ → Work
unfolding Works.worked Works.work_from Works.chosen Works.need_of Works.need_from Works.raised Works.name_for Works.other_for Waits.waits_from
    Waits.waits_at Waits.joined_slots Waits.without_slot Waits.own_of Frames.start_from Frames.start_at Frames.leaf_of Rows.bound Frames.is_unset
    Frames.function_of Reach.flagged Reach.spread Reach.gather_from Reach.gathered Links.kept_with Nodes.member_of_kind Members.member_at
    Members.spelled Members.arguments Applying.apply_at Applying.plan_of Applying.finish_of Calling.ask_of Calling.call_of Applying.follow_of Calling.bounded_of
    Applying.judge_of Rows.fill_of Applied.applied1 Apply.apply0 Apply.apply1
    Rules.rule Windows.total Values.ranged Packing.unpack_of
work_on cells n a = worked recording links cells n a

-- ---- what is expected

abbrev pub none : Kept
none = (0, 0, 0)

abbrev pub number : ℕ → Kept
number n = (2147483649 + n, 0, 0)

abbrev pub window : ℕ → ℕ → Kept
window s l = (8589934592 + 65536 * s + l, 0, 0)

abbrev pub members : ℕ → Bool → List Kept → Done
members n l ks = record { count = n; left = l; members = ks; functions = none ∷ none ∷ none ∷ [] }

-- ---- each work by itself, so that a wrong one is seen in what is computed

-- the take with an allowance of 0
pub idle : done (work_on fresh 4 0) ≡ members 0 true (none ∷ none ∷ none ∷ none ∷ [])
unfolding work_on
idle = refl

-- of 1: the lowest is worked out
pub begun : done (work_on fresh 4 1) ≡ members 1 true (window 1 4 ∷ none ∷ none ∷ none ∷ [])
unfolding work_on
begun = refl

-- and of 1 once more: the other
pub gone-on : done (work_on (work_on fresh 4 1).cells 4 1) ≡ members 1 false (window 1 4 ∷ window 1 2 ∷ none ∷ none ∷ [])
unfolding work_on
gone-on = refl

-- of 9: both, and nothing that is not below
pub at_once : done (work_on fresh 4 9) ≡ members 2 false (window 1 4 ∷ window 1 2 ∷ none ∷ none ∷ [])
unfolding work_on
at_once = refl

-- the sum: nothing lower that is not below it
pub summed : done (work_on fresh 5 9) ≡ members 1 false (none ∷ none ∷ number 755 ∷ none ∷ [])
unfolding work_on
summed = refl

-- what is added to it: its argument first
pub added : done (work_on fresh 6 9) ≡ members 2 false (none ∷ none ∷ number 755 ∷ number 756 ∷ [])
unfolding work_on
added = refl

-- a part that waits for two variables keeps both names
pub names-shown : kept_of (work_on fresh 9 9).cells 9 ≡ (delayed_cell, 97, 98)
unfolding work_on
names-shown = refl

-- the function, with the names that it and the parts of its body show
pub functions-named : done (work_on fresh 11 9) ≡ record {
  count = 3;
  left = false;
  members = none ∷ none ∷ none ∷ none ∷ [];
  functions = (delayed_cell, 97, 98) ∷ (delayed_cell, 97, 0) ∷ (function_cell, 97, 0) ∷ [];
}
unfolding work_on
functions-named = refl

-- 02, T-05: two variables of one spelling are two, and a part that waits for both names it twice; each function puts its own
pub named-twice : map (kept_of (work_on fresh 15 9).cells) (13 ∷ 14 ∷ 15 ∷ []) ≡ (delayed_cell, 97, 97) ∷ (delayed_cell, 97, 0) ∷ (function_cell, 97, 0) ∷ []
unfolding work_on
named-twice = refl
