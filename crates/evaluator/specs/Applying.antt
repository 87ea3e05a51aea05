-- An entry's value from a frame, in the code's shape: what the entry asks for, and the runs of a function over a window. Inside a run only
-- what awaits its variable is worked out again. A function's body is judged with its own variable delayed, whatever a run around it has set.
-- Assumes nothing: these are definitions. What they come to is in refine's Meaning.
use Rattle.std.specs.Prelude.{◌≡◌, cond, ◌&&◌, List, ℕ, zero, suc, ◌+◌, ◌-◌, ◌≤◌, ◌<◌, leb, ltb, eqb, ℤ, get_or, ⊤}
use Rattle.language.specs.Limits.{table_entries}
use Rattle.values.specs.declared.apply.Applied.{Applied}
use Rattle.values.specs.declared.apply.Applied.TheVariants.{Done, Run}
use Rattle.rules.specs.Windows.{readings_in}
use Rattle.values.specs.Tallies.{begun}
use Rattle.values.specs.Packing.{pack_of, delayed_cell, wrong_cell}
use Rattle.layout.specs.Nodes.{function_kind, member_of_kind}
use Rattle.evaluator.specs.declared.working.Task.{Task}
use Rattle.evaluator.specs.declared.working.Task.TheVariants.{Known, Body}
use Rattle.evaluator.specs.declared.working.Purpose.TheVariants.{Judge, Over}
use Rattle.layout.specs.Links.{kind_at, first_at, second_at, is_below}
use Rattle.table.specs.Waits.{own_of}
use Rattle.evaluator.specs.Reach.{gathered}
use Rattle.columns.specs.Calling.{ask_of, call_of, conclude_of}
use Rattle.chunks.specs.Rows.{Go, set_of, over_of}
use Rattle.evaluator.specs.Frames.{function_of}

-- what working out reads: the links, what entries await, and the recording
pub record Graph : Type 0 where
  pub links : List ℕ
  pub waits : List ℕ
  pub xs : List ℤ

abbrev pub graph : List ℕ → List ℕ → List ℤ → Graph
graph links waits xs = record { links = links; waits = waits; xs = xs }

-- a function: its body is judged with its own variable delayed, where the body awaits that
unfoldable pub judge_of : List ℕ → List ℕ → ℕ → ℕ → ℕ → Task
judge_of waits frame i body a =
    cond (leb 1 (own_of (get_or waits body 0) (get_or waits i 0)))
    (cond (leb (own_of (get_or waits body 0) (get_or waits i 0)) table_entries) (Body body (own_of (get_or waits body 0) (get_or waits i 0)) Judge) (Known wrong_cell))
    (Known (function_of frame (get_or waits i 0) a))

-- the runs of the function that entry f is
unfoldable pub run_of : List ℕ → List ℕ → ℕ → ℕ → ℕ → ℕ → Task
run_of links waits f kind s l =
    let body : ℕ = first_at links f - 1 in
    let own : ℕ = own_of (get_or waits body 0) (get_or waits f 0) in
    cond (eqb (kind_at links f) function_kind && (is_below (first_at links f) f && leb own table_entries)) (Body body own (Over kind s l)) (Known wrong_cell)

-- what a member with one argument asks for
unfoldable pub follow_of : List ℕ → List ℕ → ℕ → ℕ → Applied → Task
follow_of links waits f kind (Done v) = Known (pack_of v)
follow_of links waits f kind (Run s l) = run_of links waits f kind s l

-- what entry i asks for, by its kind and what its dependencies have in the frame
unfoldable pub plan_of : Graph → List ℕ → ℕ → Task
plan_of g frame i =
    let kind : ℕ = kind_at g.links i in
    let first : ℕ = first_at g.links i in
    let second : ℕ = second_at g.links i in
    cond (ltb kind function_kind) (Known (get_or frame i 0))
    (cond (is_below first i)
    (cond (eqb kind function_kind) (judge_of g.waits frame i (first - 1) (get_or frame (first - 1) 0))
    (cond (is_below second i)
    (follow_of g.links g.waits (second - 1) kind (call_of (member_of_kind kind) g.xs (get_or frame (first - 1) 0) (get_or frame (second - 1) 0)))
    (Known (ask_of (member_of_kind kind) g.xs (get_or frame (first - 1) 0)))))
    (Known wrong_cell))

-- a body that an entry asks for lies below it
unfoldable pub Planned : ℕ → Task → Type 0
Planned i (Known c) = ⊤
Planned i (Body body v p) = (body < i) × (v ≤ table_entries)

-- what entry i comes to, once what it asks for is worked out
unfoldable pub finish_of : Graph → Go → List ℕ → ℕ → Task → ℕ
finish_of g go frame i (Known c) = c
finish_of g go frame i (Body body v Judge) =
    function_of frame (get_or g.waits i 0) (get_or (set_of go (body + 1) (gathered g.links g.waits v body) v delayed_cell frame) body 0)
finish_of g go frame i (Body body v (Over kind s l)) =
    conclude_of (member_of_kind kind) (over_of go body (gathered g.links g.waits v body) v frame begun (readings_in g.xs s l))

-- entries fall, so a fuel above the entry's number is enough
unfoldable pub apply_at : Graph → ℕ → Go
apply_at g zero frame i = 0
apply_at g (suc f) frame i = finish_of g (apply_at g f) frame i (plan_of g frame i)

abbrev pub Applies : Graph → List ℕ → ℕ → ℕ → Type 0
Applies g frame i r = (f : ℕ) → i < f → apply_at g f frame i ≡ r

pub record Fills (g : Graph) (body : ℕ) (list : List ℕ) (v c : ℕ) (frame after : List ℕ) (r : ℕ) : Type 0 where
  pub same : (f : ℕ) → body < f → set_of (apply_at g f) (body + 1) list v c frame ≡ after
  pub value : r ≡ get_or after body 0
