-- The runs of a function, result by result: what is kept of the results so far, from which any of the members that run a function is
-- concluded. Nothing changes any more once a result was no number. Assumes nothing: these are definitions.
use Rattle.std.specs.Prelude.{◌≡◌, true, false, cond, List, [], ◌∷◌, ℕ, ◌+◌, ◌*◌, max, ◌≤◌, ℤ, pos, nat_abs, ◌+ℤ◌}
use Rattle.members.specs.declared.Member.{Member}
use Rattle.rules.specs.declared.Value.{Value}
use Rattle.rules.specs.declared.Value.TheVariants.{Number, Window, Function, Delayed, Missing}
use Rattle.values.specs.declared.runs.Tally.{Tally}
use Rattle.rules.specs.Values.{wrong_kind}
use Rattle.rules.specs.Runs.{is_nonzero, Summary}
use Rattle.rules.specs.Rules.{rule, if_runs}

abbrev pub begun : Tally
begun = record { stopped = false; reason = 0; count = 0; stretch = 0; longest = 0; total = pos 0 }

-- the stretch that ends with z
abbrev pub stretched : Tally → ℤ → ℕ
stretched t z = cond (is_nonzero z) (t.stretch + 1) 0

unfoldable pub noted : Tally → ℤ → Tally
noted t z = record {
  stopped = false;
  reason = 0;
  count = t.count + cond (is_nonzero z) 1 0;
  stretch = stretched t z;
  longest = max t.longest (stretched t z);
  total = t.total +ℤ z;
}

abbrev pub halted : ℕ → Tally
halted r = record { stopped = true; reason = r; count = 0; stretch = 0; longest = 0; total = pos 0 }

unfoldable pub entered : Tally → Value → Tally
entered t (Number z) = noted t z
entered t (Window s l) = halted wrong_kind
entered t Function = halted wrong_kind
entered t Delayed = halted wrong_kind
entered t (Missing r) = halted r

-- one more result
unfoldable pub stepped : Tally → Value → Tally
stepped t v = cond t.stopped t (entered t v)

unfoldable pub gathered : Tally → List Value → Tally
gathered t [] = t
gathered t (v ∷ vs) = gathered (stepped t v) vs

-- what it says of the numbers so far
abbrev pub summed : Tally → Summary
summed t = record { count = t.count; longest = t.longest; total = t.total }

unfoldable pub finished : Member → Tally → Value
finished m t = cond t.stopped (Missing t.reason) (if_runs (Missing wrong_kind) (rule m) (λ f. f (summed t)))

-- what k results of signed 32 bits can come to
pub record Within (k : ℕ) (t : Tally) : Type 0 where
  pub count : t.count ≤ k
  pub stretch : t.stretch ≤ k
  pub longest : t.longest ≤ k
  pub total : nat_abs t.total ≤ k * 2147483648

-- what a step promises: its result, and that the bound moves on with it
pub record Steps (t : Tally) (v : Value) (r : Tally) : Type 0 where
  pub same : r ≡ stepped t v
  pub bound : (k : ℕ) → Within k t → Within (k + 1) r
