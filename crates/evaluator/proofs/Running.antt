-- The steps of the cycle: an entry that is done, a function that is judged, a turn of the runs over a window, a turn of the work on a list.
-- Each is over plain lists, for every fuel above the entry's number. Assumes nothing.
use mathlib.Core.Path.{◌≡◌, refl, sym, ap, ◌∙◌}
use mathlib.Core.Bool.{true, false, cond}
use mathlib.Core.List.{List, ◌∷◌}
use Prim.Native.Nat.{ℕ, zero, suc, ◌+◌, ◌-◌, ◌≤◌, ◌<◌}
use native.Mathlib.Omega.{arith}
use native.Mathlib.Numerals.{add-one}
use borrow.Author.Tests.{lt-leb}
use lib.IntN.{ℤ, pos}
use lib.ListN.{length, get_or, set, take, drop, length-drop, length-take, drop_of_length-le}
use Rattle.std.proofs.lemmas.List.{take_all}
use lib.Seq.{drop-cons, get_or-drop, get_or-take}
use Rattle.language.specs.Limits.{table_entries}
use Rattle.rules.specs.declared.Value.TheVariants.{Number}
use Rattle.values.specs.declared.runs.Tally.{Tally}
use Rattle.values.specs.Packing.{pack_of, delayed_cell}
use Rattle.values.specs.Tallies.{begun, Within}
use Rattle.values.specs.TallyLaws.{within_none, within_more}
use Rattle.rules.specs.Windows.{readings_in}
use Rattle.layout.specs.Nodes.{member_of_kind}
use Rattle.evaluator.specs.declared.working.Task.{Task}
use Rattle.evaluator.specs.declared.working.Task.TheVariants.{Known, Body}
use Rattle.evaluator.specs.declared.working.Purpose.{Purpose}
use Rattle.evaluator.specs.declared.working.Purpose.TheVariants.{Judge, Over}
use Rattle.evaluator.specs.Reach.{gathered, Gathers}
use Rattle.chunks.specs.Rows.{bound, fill_of, over_of}
use Rattle.chunks.specs.Chunks.{Tallied, Reruns, Ran}
use Rattle.evaluator.specs.Frames.{function_of}
use Rattle.evaluator.proofs.Plain.{over_plain}
use Rattle.columns.specs.Calling.{conclude_of}
use Rattle.evaluator.specs.Applying.{Graph, plan_of, Planned, finish_of, apply_at, Applies, Fills}

pub same-applies : (g : Graph) (frame : List ℕ) (i v r : ℕ) → v ≡ r → Applies g frame i r → Applies g frame i v
same-applies g frame i v r e a = rw e a

-- what is worked out again: the list that the sweep leaves at the end of an array
pub record Listed (g : Graph) (v body : ℕ) (list : List ℕ) : Type 0 where
  pub same : list ≡ gathered g.links g.waits v body
  pub upto : (k : ℕ) → k < length list → get_or list k 0 ≤ body

pub listed : (g : Graph) (v body : ℕ) (buffer flags : List ℕ) (at : ℕ) → Gathers g.links g.waits v body buffer flags at → Listed g v body (take (table_entries - at) (drop at buffer))
listed g v body buffer flags at s =
    let rest : length (drop at buffer) ≡ table_entries - at = length-drop at buffer ∙ ap (λ (n : ℕ). n - at) s.size in
    let all : take (table_entries - at) (drop at buffer) ≡ drop at buffer = take_all (table_entries - at) (drop at buffer) (omega (arith, rest)) in
    rw all (record { same = s.same; upto = λ k h. rw (get_or-drop at buffer k 0) (s.upto (at + k) (omega arith) (omega (arith, rest, s.within))) })

-- a body that is asked for lies below its entry
pub planned-body : {i : ℕ} {p : Task} {body v : ℕ} {u : Purpose} → p ≡ Body body v u → Planned i p → (body < i) × (v ≤ table_entries)
unfolding Planned
planned-body d q = rw d at q

module _ (g : Graph) (frame : List ℕ) (i : ℕ) {p : Task} (e : p ≡ plan_of g frame i) where
  applied : {r : ℕ} → ((f : ℕ) → i ≤ f → finish_of g (apply_at g f) frame i p ≡ r) → Applies g frame i r
  unfolding apply_at
  applied {r} h = go
    where
      go : (f : ℕ) → i < f → apply_at g f frame i ≡ r
      go zero l = absurd (omega arith)
      go (suc f) l = ap (finish_of g (apply_at g f) frame i) (sym e) ∙ h f (omega arith)

  pub known-applies : {c : ℕ} → p ≡ Known c → Applies g frame i c
  unfolding finish_of
  known-applies d = applied (λ f l. rw d)

  module _ {body v : ℕ} {u : Purpose} (d : p ≡ Body body v u) (q : Planned i p) {list : List ℕ} (s : Listed g v body list) where
    right : (body < i) × (v ≤ table_entries)
    right = planned-body d q

    pub reruns : i < table_entries → Reruns list body v
    reruns h = record { upto = s.upto; low = omega (arith, right.0); few = right.1 }

    pub columns-applies : {kind from most : ℕ} → u ≡ Over kind from most → {t : Tally} {r : ℕ} → Ran g.links g.xs list v body frame from most t
        → r ≡ conclude_of (member_of_kind kind) t → Applies g frame i r
    unfolding finish_of
    columns-applies {kind} {from} {most} k w o =
        applied (λ f l. rw (
          d,
          k,
          ← s.same,
          over_plain g.links g.waits g.xs body f (omega (arith, right.0)) list w.plain v (readings_in g.xs from most) frame begun,
          ← w.same,
        ) (sym o))

    pub judge-applies : u ≡ Judge → {after : List ℕ} {base r : ℕ} → Fills g body list v delayed_cell frame after base → r ≡ function_of frame (get_or g.waits i 0) base
        → Applies g frame i r
    unfolding finish_of
    judge-applies k w o = applied (λ f l. rw (d, k, ← s.same, w.same f (omega (arith, right.0)), ← w.value) (sym o))

    pub run-applies : {kind from most : ℕ} → u ≡ Over kind from most → {t : Tally} {r : ℕ}
        → ((f : ℕ) → body < f → over_of (apply_at g f) body list v frame begun (readings_in g.xs from most) ≡ t)
        → r ≡ conclude_of (member_of_kind kind) t → Applies g frame i r
    unfolding finish_of
    run-applies k w o = applied (λ f l. rw (d, k, ← s.same, w f (omega (arith, right.0))) (sym o))

-- the runs before reading k: what is left of them gives the same tally
pub record Runs (g : Graph) (body v : ℕ) (list frame : List ℕ) (zs : List ℤ) (local : List ℕ) (t : Tally) (k : ℕ) : Type 0 where
  pub within : Within k t
  pub same : (f : ℕ) → body < f → over_of (apply_at g f) body list v frame begun zs ≡ over_of (apply_at g f) body list v local t (drop k zs)

pub runs-begin : (g : Graph) (body v : ℕ) (list frame : List ℕ) (zs : List ℤ) (local : List ℕ) (t : Tally) (s : ℕ) → local ≡ frame → t ≡ begun → Runs g body v list frame zs local t (s - s)
runs-begin g body v list frame zs local t s o e =
    let n : 0 ≡ s - s = omega arith in
    rw (o, e, ← n) (record { within = within_none; same = λ f h. refl })

-- reading k of the recording is the window's, by its place in the window
pub reading-at : (xs : List ℤ) (s l k : ℕ) → s ≤ k → k - s < length (readings_in xs s l) → get_or xs k (pos 0) ≡ get_or (readings_in xs s l) (k - s) (pos 0)
reading-at xs s l k b h =
    let few : k - s < l = omega (arith, simp length-take at h) in
    let e : s + (k - s) ≡ k = omega arith in
    sym (get_or-take l (drop s xs) (k - s) (pos 0) few ∙ get_or-drop s xs (k - s) (pos 0) ∙ ap (λ (j : ℕ). get_or xs j (pos 0)) e)

module _ {g : Graph} {body v : ℕ} {list frame : List ℕ} {zs : List ℤ} {local : List ℕ} {t : Tally} {k : ℕ} (run : Runs g body v list frame zs local t k) where
  pub runs-within : k ≤ 65534 → Within 65534 t
  runs-within h = within_more k 65534 t h run.within

  pub runs-end : length zs ≤ k → (f : ℕ) → body < f → over_of (apply_at g f) body list v frame begun zs ≡ t
  unfolding over_of
  runs-end h f b = run.same f b ∙ ap (over_of (apply_at g f) body list v local t) (drop_of_length-le zs {i = k} h)

  module _ {ys : List ℤ} (same : ys ≡ zs) (h : k < length ys) {c : ℕ} (z : ℤ) (e : z ≡ get_or ys k (pos 0)) (o : c ≡ pack_of (Number z)) {after : List ℕ} {r : ℕ} (w : Fills g body list v c local after r) {u : Tally} (y : Tallied t r u) where
    turned : (f : ℕ) → body < f → over_of (apply_at g f) body list v frame begun zs ≡ cond u.stopped u (over_of (apply_at g f) body list v after u (drop (k + 1) zs))
    unfolding over_of
    turned f b =
        let left : drop k zs ≡ z ∷ drop (k + 1) zs = rw (add-one, e, same) (drop-cons zs k (pos 0) (rw same at h)) in
        run.same f b ∙ ap (over_of (apply_at g f) body list v local t) left ∙ rw (← o, w.same f b, ← w.value, ← y.same) refl

    pub runs-stop : u.stopped ≡ true → (f : ℕ) → body < f → over_of (apply_at g f) body list v frame begun zs ≡ u
    runs-stop d f b = turned f b ∙ rw d

    pub runs-again : u.stopped ≡ false → Runs g body v list frame zs after u (k + 1)
    runs-again d = record { within = y.bound k run.within; same = λ f b. turned f b ∙ rw d }

-- the work on a list before place k: what is left of it gives the same frame
pub record Works (g : Graph) (body : ℕ) (list begins frame : List ℕ) (k : ℕ) : Type 0 where
  pub same : (f : ℕ) → body < f → fill_of (apply_at g f) (body + 1) list begins ≡ fill_of (apply_at g f) (body + 1) (drop k list) frame

module _ {g : Graph} {body : ℕ} {list begins frame : List ℕ} {k : ℕ} (work : Works g body list begins frame k) where
  pub works-again : k < length list → get_or list k 0 ≤ body → {r : ℕ} → Applies g frame (get_or list k 0) r → Works g body list begins (set frame (get_or list k 0) r) (k + 1)
  unfolding fill_of
  works-again h m a =
      let q : drop k list ≡ get_or list k 0 ∷ drop (k + 1) list = rw add-one (drop-cons list k 0 h) in
      record { same = λ f l. work.same f l ∙ ap (λ (js : List ℕ). fill_of (apply_at g f) (body + 1) js frame) q ∙ rw (lt-leb (body + 1) (get_or list k 0) (omega arith), a f (omega arith)) }

  pub works-end : (v c : ℕ) (before : List ℕ) → begins ≡ bound before v c → length list ≤ k → Fills g body list v c before frame (get_or frame body 0)
  unfolding fill_of
  works-end v c before b h = record {
    same = λ f l.
        ap (fill_of (apply_at g f) (body + 1) list) (sym b) ∙ work.same f l
        ∙ ap (λ (js : List ℕ). fill_of (apply_at g f) (body + 1) js frame) (drop_of_length-le list {i = k} h);
    value = refl;
  }
