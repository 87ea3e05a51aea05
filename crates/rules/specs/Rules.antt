-- 01, "Members", and 02, T-01, T-02 and T-06: the rule of each member, in the papers' order. Assumes nothing: these are definitions.
use Rattle.std.specs.Prelude.{List, ℕ, ℤ, pos, ◌+ℤ◌, ◌-ℤ◌, ◌*ℤ◌}
use Rattle.std.specs.Int.Signed.{lt_z}
use Rattle.members.specs.declared.Member.{Member}
use Rattle.members.specs.declared.Member.TheVariants.{Add, Sub, Mul, Div, Gt, Eq, Skip, Take, Count, Sum, Min, Max, At, CountWhere, LongestRun, SumBy, BestSum, BestAt}
use Rattle.rules.specs.declared.Value.{Value}
use Rattle.rules.specs.declared.Value.TheVariants.{Number, Missing}
use Rattle.rules.specs.Values.{ranged, flag, sameℤ, wrong_kind}
use Rattle.rules.specs.Numbers.{divided}
use Rattle.rules.specs.Windows.{readings_in, skipped, taken, reading_from, total, lesser, greater, extreme}
use Rattle.rules.specs.Stretches.{best_sum, best_at}
use Rattle.rules.specs.Runs.{Results, numbers, because, results, Summary, summary}

-- a rule, by the kinds of what it is used on and with: a window is given as the recording, its start and its length, and a function as what
-- the numbers of its runs come to
pub data Rule : Type 0 where
  two_numbers : (ℤ → ℤ → Value) → Rule
  window : (List ℤ → ℕ → ℕ → Value) → Rule
  window_number : (List ℤ → ℕ → ℕ → ℤ → Value) → Rule
  window_runs : (Summary → Value) → Rule

unfoldable pub rule : Member → Rule
rule Add = two_numbers (λ a b. ranged (a +ℤ b))
rule Sub = two_numbers (λ a b. ranged (a -ℤ b))
rule Mul = two_numbers (λ a b. ranged (a *ℤ b))
rule Div = two_numbers divided
rule Gt = two_numbers (λ a b. flag (lt_z b a))
rule Eq = two_numbers (λ a b. flag (sameℤ a b))
rule Skip = window_number (λ xs s l n. skipped s l n)
rule Take = window_number (λ xs s l n. taken s l n)
rule Count = window (λ xs s l. Number (pos l))
rule Sum = window (λ xs s l. ranged (total (readings_in xs s l)))
rule Min = window (λ xs s l. extreme lesser (readings_in xs s l))
rule Max = window (λ xs s l. extreme greater (readings_in xs s l))
rule At = window_number (λ xs s l n. reading_from (readings_in xs s l) n)
rule CountWhere = window_runs (λ r. Number (pos r.count))
rule LongestRun = window_runs (λ r. Number (pos r.longest))
rule SumBy = window_runs (λ r. ranged r.total)
rule BestSum = window_number (λ xs s l n. best_sum (readings_in xs s l) n)
rule BestAt = window_number (λ xs s l n. best_at (readings_in xs s l) n)

-- by whether a rule runs a function: what is given if not, and what becomes of it
abbrev pub if_runs : {A : Type 0} → A → Rule → ((Summary → Value) → A) → A
if_runs other (two_numbers f) g = other
if_runs other (window f) g = other
if_runs other (window_number f) g = other
if_runs other (window_runs f) g = g f

-- ---- as the code has them: a rule, and a member, on what it is given; reason 2 for a rule of other kinds

abbrev pub by_numbers : Rule → ℤ → ℤ → Value
by_numbers (two_numbers f) a b = f a b
by_numbers (window f) a b = Missing wrong_kind
by_numbers (window_number f) a b = Missing wrong_kind
by_numbers (window_runs f) a b = Missing wrong_kind

abbrev pub by_window : Rule → List ℤ → ℕ → ℕ → Value
by_window (two_numbers f) xs s l = Missing wrong_kind
by_window (window f) xs s l = f xs s l
by_window (window_number f) xs s l = Missing wrong_kind
by_window (window_runs f) xs s l = Missing wrong_kind

abbrev pub by_window_number : Rule → List ℤ → ℕ → ℕ → ℤ → Value
by_window_number (two_numbers f) xs s l n = Missing wrong_kind
by_window_number (window f) xs s l n = Missing wrong_kind
by_window_number (window_number f) xs s l n = f xs s l n
by_window_number (window_runs f) xs s l n = Missing wrong_kind

abbrev pub by_runs : Rule → Summary → Value
by_runs r s = if_runs (Missing wrong_kind) r (λ f. f s)

unfoldable pub on_numbers : Member → ℤ → ℤ → Value
on_numbers m a b = by_numbers (rule m) a b

unfoldable pub of_window : Member → List ℤ → ℕ → ℕ → Value
of_window m xs s l = by_window (rule m) xs s l

unfoldable pub on_window : Member → List ℤ → ℕ → ℕ → ℤ → Value
on_window m xs s l n = by_window_number (rule m) xs s l n

abbrev pub concluded : Member → Results → Value
concluded m (numbers zs) = by_runs (rule m) (summary zs)
concluded m (because r) = Missing r

-- from the results of the runs
unfoldable pub of_runs : Member → List Value → Value
of_runs m vs = concluded m (results vs)
