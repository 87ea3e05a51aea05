-- The steps of planning an entry, each over plain numbers, values and lists. Assumes nothing.
use mathlib.Core.Path.{◌≡◌, sym, ap, ◌∙◌}
use mathlib.Core.Bool.{Bool, true, false}
use mathlib.Core.List.{List}
use Prim.Native.Nat.{ℕ, ◌-◌, ◌≤◌, ◌<◌}
use native.Mathlib.Omega.{arith}
use borrow.Author.Rules.{rules}
use borrow.Author.Tests.{lt-ltb, le-ltb, le-leb, lt-leb, eq-eqb, ne_eqb}
use lib.IntN.{ℤ}
use lib.ListN.{get_or}
use Rattle.language.specs.Limits.{table_entries}
use Rattle.rules.specs.declared.Value.{Value}
use Rattle.values.specs.declared.apply.Applied.{Applied}
use Rattle.values.specs.declared.apply.Applied.TheVariants.{Done, Run}
use Rattle.values.specs.Packing.{pack_of, wrong_cell}
use Rattle.layout.specs.Nodes.{function_kind, member_of_kind}
use Rattle.evaluator.specs.declared.working.Task.{Task}
use Rattle.evaluator.specs.declared.working.Task.TheVariants.{Known, Body}
use Rattle.evaluator.specs.declared.working.Purpose.{Purpose}
use Rattle.evaluator.specs.declared.working.Purpose.TheVariants.{Judge, Over}
use Rattle.layout.specs.Links.{kind_at, first_at, second_at, is_below}
use Rattle.table.proofs.Waiting.{below_one, below-most}
use Rattle.table.specs.Waits.{own_of}
use Rattle.evaluator.proofs.Framing.{function-waits}
use Rattle.evaluator.specs.Frames.{function_of}
use Rattle.columns.specs.Calling.{ask_of, call_of}
use Rattle.evaluator.specs.Applying.{graph, judge_of, run_of, follow_of, plan_of, Planned}

-- ---- tasks
pub known-right : (i c : ℕ) → Planned i (Known c)
unfolding Planned
known-right i c = tt

pub body-right : (i body v : ℕ) (p : Purpose) → body < i → v ≤ table_entries → Planned i (Body body v p)
unfolding Planned
body-right i body v p h k = (h, k)

pub lower-right : (i f : ℕ) (r : Task) → f ≤ i → Planned f r → Planned i r
unfolding Planned
lower-right i f (Known c) h p = tt
lower-right i f (Body body v q) h p = (omega (arith, p.0), p.1)

module _ (waits frame : List ℕ) (i body a v : ℕ) (e : v ≡ own_of (get_or waits body 0) (get_or waits i 0)) where
  pub judge-body : (r : Task) → (v ≡ 0 → ⊥) → v ≤ table_entries → r ≡ Body body v Judge → r ≡ judge_of waits frame i body a
  unfolding judge_of
  judge-body r h k d = rw (← e, le-leb 1 v (omega (arith, h)), le-leb _ _ k) d

  pub judge-far : (r : Task) → (v ≡ 0 → ⊥) → table_entries < v → r ≡ Known wrong_cell → r ≡ judge_of waits frame i body a
  unfolding judge_of
  judge-far r h k d = rw (← e, le-leb 1 v (omega (arith, h)), lt-leb _ _ k) d

  pub judge-done : (r : Task) (c : ℕ) → v ≡ 0 → c ≡ function_of frame (get_or waits i 0) a → r ≡ Known c → r ≡ judge_of waits frame i body a
  unfolding judge_of
  judge-done r c h k d = rw (← e, h, ← k) d

module _ (links waits : List ℕ) (f kind s l k : ℕ) (e : k ≡ kind_at links f) (r : Task) where
  pub run-other : (k ≡ function_kind → ⊥) → r ≡ Known wrong_cell → r ≡ run_of links waits f kind s l
  unfolding run_of
  run-other h d = rw (← e, ne_eqb _ _ h) d

  module _ (h : k ≡ function_kind) (first : ℕ) (p : first ≡ first_at links f) (b : Bool) (q : b ≡ is_below first f) where
    pub run-wild : b ≡ false → r ≡ Known wrong_cell → r ≡ run_of links waits f kind s l
    unfolding run_of
    run-wild t d = rw (← e, eq-eqb _ _ h, ← p, sym q ∙ t) d

    module _ (t : b ≡ true) (v : ℕ) (o : v ≡ own_of (get_or waits (first - 1) 0) (get_or waits f 0)) where
      pub run-far : table_entries < v → r ≡ Known wrong_cell → r ≡ run_of links waits f kind s l
      unfolding run_of
      run-far n d = rw (← e, eq-eqb _ _ h, ← p, sym q ∙ t, ← o, lt-leb _ _ n) d

      pub run-body : v ≤ table_entries → r ≡ Body (first - 1) v (Over kind s l) → r ≡ run_of links waits f kind s l
      unfolding run_of
      run-body n d = rw (← e, eq-eqb _ _ h, ← p, sym q ∙ t, ← o, le-leb _ _ n) d

module _ (links waits : List ℕ) (f kind : ℕ) (a : Applied) (r : Task) where
  pub follow-done : (v : Value) (c : ℕ) → a ≡ Done v → c ≡ pack_of v → r ≡ Known c → r ≡ follow_of links waits f kind a
  unfolding follow_of
  follow-done v c e p d = rw e (d ∙ ap Known p)

  pub follow-run : (s l : ℕ) → a ≡ Run s l → r ≡ run_of links waits f kind s l → r ≡ follow_of links waits f kind a
  unfolding follow_of
  follow-run s l e d = rw e d

-- ---- the plan
module _ (links waits : List ℕ) (xs : List ℤ) (frame : List ℕ) (i kind : ℕ) (e : kind ≡ kind_at links i) (r : Task) where
  abbrev Plans : Type 0
  Plans = r ≡ plan_of (graph links waits xs) frame i

  pub plan-leaf : kind < function_kind → r ≡ Known (get_or frame i 0) → Plans
  unfolding plan_of
  plan-leaf h d = rw (← e, lt-ltb _ _ h) d

  module _ (h : function_kind ≤ kind) (first : ℕ) (p : first ≡ first_at links i) (b : Bool) (q : b ≡ is_below first i) where
    pub plan-wild : b ≡ false → r ≡ Known wrong_cell → Plans
    unfolding plan_of
    plan-wild t d = rw (← e, le-ltb _ _ h, ← p, sym q ∙ t) d

    module _ (t : b ≡ true) where
      pub plan-function : kind ≡ function_kind → r ≡ judge_of waits frame i (first - 1) (get_or frame (first - 1) 0) → Plans
      unfolding plan_of
      plan-function k d = rw (← e, le-ltb _ _ h, ← p, sym q ∙ t, eq-eqb _ _ k) d

      module _ (k : kind ≡ function_kind → ⊥) (second : ℕ) (p' : second ≡ second_at links i) (b' : Bool) (q' : b' ≡ is_below second i) where
        pub plan-ask : (c : ℕ) → b' ≡ false → c ≡ ask_of (member_of_kind kind) xs (get_or frame (first - 1) 0) → r ≡ Known c → Plans
        unfolding plan_of
        plan-ask c t' o d = rw (← e, le-ltb _ _ h, ← p, sym q ∙ t, ne_eqb _ _ k, ← p', sym q' ∙ t', ← o) d

        pub plan-call : (u : Applied) → b' ≡ true → u ≡ call_of (member_of_kind kind) xs (get_or frame (first - 1) 0) (get_or frame (second - 1) 0)
            → r ≡ follow_of links waits (second - 1) kind u → Plans
        unfolding plan_of
        plan-call u t' o d = rw (← e, le-ltb _ _ h, ← p, sym q ∙ t, ne_eqb _ _ k, ← p', sym q' ∙ t', ← o) d

pub ruleset planning = (
  rules,
  below_one,
  below-most,
  function-waits,
  known-right,
  body-right,
  lower-right,
  judge-body,
  judge-far,
  judge-done,
  run-other,
  run-wild,
  run-far,
  run-body,
  follow-done,
  follow-run,
  plan-leaf,
  plan-wild,
  plan-function,
  plan-ask,
  plan-call,
)
