-- What apply computes for a member or a function is what its form comes to, in every environment whose values the frame holds.
-- Assumes nothing.
use Rattle.std.specs.Prelude.{◌≡◌, Bool, ◌&&◌, eqb, leb, ℤ, pos, nat_abs, ◌+ℤ◌, length, take, drop}
use Rattle.std.proofs.lemmas.Bool.{or_right}
use Rattle.std.proofs.Math.Path.{refl, sym, ap, subst}
use Rattle.std.proofs.Common.{◌∙◌}
use Rattle.std.proofs.Math.Logic.{inl, inr}
use Rattle.std.proofs.Math.Bool.{true, false, cond, not, and-eq-true_iff}
use mathlib.Core.List.{List, [], ◌∷◌, map}
use mathlib.Mathlib.Data.Bool.Basic.{or_inl}
use Prim.Native.Nat.{ℕ, zero, suc, ◌+◌, ◌-◌, ◌≤◌, ◌<◌}
use native.Mathlib.Omega.{arith}
use Rattle.std.proofs.Math.Decide.{dec_lt}
use borrow.Author.Tests.{eq-eqb, ne_eqb, eqb-true, lt-leb, le-leb, le-ltb}
use Rattle.std.proofs.Math.ListN.{get_or}
use Rattle.std.specs.Int.Signed.{mag}
use Rattle.table.specs.WaitsLaws.{variable_at}
use Rattle.table.specs.NodeKinds.{Fine, a_number, a_variable, an_unbound, the_readings, a_function, an_ask, a_call}
use Rattle.language.specs.Cases.{split, either}
use Rattle.language.specs.Limits.{table_entries, table_readings}
use Rattle.members.specs.Members.{arguments}
use Rattle.members.specs.declared.Member.{Member}
use Rattle.rules.specs.declared.Value.{Value}
use Rattle.rules.specs.declared.Value.TheVariants.{Number, Window, Function, Delayed, Missing}
use Rattle.values.specs.declared.apply.Applied.{Applied}
use Rattle.values.specs.declared.apply.Applied.TheVariants.{Done, Run}
use Rattle.values.specs.declared.runs.Tally.{Tally}
use Rattle.rules.specs.Apply.{apply0, is_missing, is_delayed}
use Rattle.values.specs.Applied.{applied1, completed}
use Rattle.values.specs.KeepableApply.{if-window, if-function, if-runs}
use Rattle.values.specs.ApplyLaws.{completed-is}
use Rattle.values.specs.Keepable.{Keepable}
use Rattle.values.specs.Packing.{pack_of, unpack_of, function_cell, delayed_cell, missing_cell}
use Rattle.values.specs.PackingLaws.{round}
use Rattle.values.specs.Ranges.{up-size}
use Rattle.rules.specs.Rules.{rule, of_runs}
use Rattle.values.specs.Tallies.{begun}
use Rattle.values.specs.Tallies as Tallies
use Rattle.values.specs.TallyLaws.{finished-is}
use Rattle.rules.specs.Windows.{readings_in}
use Rattle.meaning.specs.Forms.{Form, with_level, variable}
use Rattle.meaning.specs.Evaluation.{Result, plain, runs, value_of, run_of, Environment, bind, lookup, settled, function_of, evaluate, awaited, has_name}
use Rattle.layout.specs.Memory.{Node}
use Rattle.layout.specs.KindsLaws.{member-found}
use Rattle.layout.specs.Nodes.{variable_kind, function_kind, member_kind, member_of_kind}
use Rattle.layout.specs.Links.{kind_at, first_at, second_at}
use Rattle.table.specs.Waits.{slot_a, slot_b, has_slot, awaits, own_of}
use Rattle.columns.specs.Calling.{bounded_of, ask_of, call_of}
use Rattle.chunks.specs.Rows.{Go, bound, fill_of, over_of}
use Rattle.evaluator.specs.Reach.{gathered}
use Rattle.evaluator.specs.Frames as Code
use Rattle.evaluator.specs.declared.working.Task.TheVariants.{Known, Body}
use Rattle.evaluator.specs.declared.working.Purpose.TheVariants.{Judge, Over}
use Rattle.columns.specs.Calling.{conclude_of}
use Rattle.evaluator.specs.Applying.{graph, judge_of, run_of as task_run, follow_of, plan_of, finish_of, apply_at}
use Rattle.refine.specs.Free.{free, never, dec_eq, free-variable, free-call, free-function, unbound-same, settled-no, settled-find}
use Rattle.refine.specs.Tables.{Good, Parts, fine, parts, PlainValue, Plain, plain-lookup, kept_entry, Link, Sees, here, down, sees-free, sees_below}
use Rattle.refine.specs.Kinds.{is_function, ask-none, call_none}
use Rattle.refine.specs.Frames.{Right, GoRight, Small, turn, set_value, over-right}

-- ---- cells of values that can be kept
module _ (n : ℕ) (few : n ≤ table_readings) where
  missing-cell : (v : Value) → Keepable n v → leb missing_cell (pack_of v) ≡ is_missing v
  missing-cell (Number z) k = lt-leb missing_cell (pack_of (Number z)) (omega (arith, up-size 2147483648 z k.held))
  missing-cell (Window s l) k = lt-leb missing_cell (pack_of (Window s l)) (omega (arith, k.held.0, k.held.1))
  missing-cell Function k = refl
  missing-cell Delayed k = refl
  missing-cell (Missing r) k = le-leb missing_cell (pack_of (Missing r)) (omega arith)

  delayed-cell : (v : Value) → PlainValue v → eqb (pack_of v) delayed_cell ≡ is_delayed v
  delayed-cell (Number z) h = ne_eqb (pack_of (Number z)) delayed_cell (λ (e : ◌≡◌ {A = ℕ} (suc (nat_abs (z +ℤ pos 2147483648))) 25769803776). omega (arith, up-size 2147483648 z h))
  delayed-cell (Window s l) h = absurd h
  delayed-cell Function h = absurd h
  delayed-cell Delayed h = refl
  delayed-cell (Missing r) h = absurd h

  bounded-kept : (v : Value) → Keepable n v → bounded_of v ≡ v
  unfolding bounded_of
  bounded-kept (Number z) k = refl
  bounded-kept (Window s l) k = rw (le-leb (s + l) 65535 (omega (arith, k.inside)))
  bounded-kept Function k = refl
  bounded-kept Delayed k = refl
  bounded-kept (Missing r) k = refl

  -- a function's cell, from its body's value and whether it awaits a variable that has none
  function-cell : (frame : List ℕ) (w : ℕ) (v : Value) (s : Bool) (g : ℤ → Result) → Keepable n v → Code.is_open frame w ≡ not s
      → Code.function_of frame w (pack_of v) ≡ pack_of (value_of (function_of v s g))
  unfolding Code.function_of value_of
  function-cell frame w v s g k o = rw (missing-cell v k, o) (by v s)
    where
      by : (v : Value) (s : Bool) → cond (is_missing v) (pack_of v) (cond (not s) delayed_cell function_cell) ≡ pack_of (value_of (function_of v s g))
      by (Missing r) s = refl
      by (Number z) true = refl
      by (Number z) false = refl
      by (Window a l) true = refl
      by (Window a l) false = refl
      by Function true = refl
      by Function false = refl
      by Delayed true = refl
      by Delayed false = refl

-- ---- a run is of a function
abbrev RunsOn : Value → Applied → Type 0
RunsOn w (Done u) = Unit {0}
RunsOn w (Run s l) = w ≡ Function

runs-function : (m : Member) (xs : List ℤ) (v w : Value) → RunsOn w (applied1 m xs v w)
unfolding applied1
runs-function m xs v w =
    if-window (RunsOn w) _ tt v _
    (λ s l e. if-function (RunsOn w) _ tt w _ (λ f. if-runs (RunsOn w) _ tt (rule m) _ (λ g. f)))

function-runs : (v : Value) (s : Bool) (g : ℤ → Result) → value_of (function_of v s g) ≡ Function → function_of v s g ≡ runs g
unfolding value_of
function-runs v s g e = by v s e
  where
    no : {A : Type 0} → ◌≡◌ {A = Value} Delayed Function → A
    no q = let z : ◌≡◌ {A = ℕ} 0 1 = cc in absurd (omega arith)

    settles : (s : Bool) → value_of (cond s (runs g) (plain Delayed)) ≡ Function → cond s (runs g) (plain Delayed) ≡ runs g
    settles true q = refl
    settles false q = no q

    by : (v : Value) (s : Bool) → value_of (function_of v s g) ≡ Function → function_of v s g ≡ runs g
    by (Missing r) s q = let z : ◌≡◌ {A = ℕ} 0 1 = cc in absurd (omega arith)
    by (Number z) s q = settles s q
    by (Window a l) s q = settles s q
    by Function s q = settles s q
    by Delayed s q = settles s q

-- ---- the plan of each kind
module _ (links waits : List ℕ) (xs : List ℤ) (frame : List ℕ) (i : ℕ) where
  back : (d : ℕ) → suc d - 1 ≡ d
  back d = omega arith

  plan-ask : (m : Member) (d : ℕ) → kind_at links i ≡ member_kind m → first_at links i ≡ suc d → second_at links i ≡ 0 → d < i
      → plan_of (graph links waits xs) frame i ≡ Known (pack_of (apply0 m xs (unpack_of (get_or frame d 0))))
  unfolding plan_of ask_of
  plan-ask m d k f s l =
      rw (
        k,
        f,
        s,
        le-ltb (member_kind m) function_kind (omega arith),
        le-leb 1 (suc d) (omega arith),
        le-leb (suc d) i l,
        ne_eqb (member_kind m) function_kind (λ e. omega arith),
        member-found m,
        back d,
      )

  plan-call : (m : Member) (d a : ℕ) → kind_at links i ≡ member_kind m → first_at links i ≡ suc d → second_at links i ≡ suc a → d < i → a < i
      → plan_of (graph links waits xs) frame i ≡ follow_of links waits a (member_kind m) (applied1 m xs (bounded_of (unpack_of (get_or frame d 0))) (unpack_of (get_or frame a 0)))
  unfolding plan_of call_of
  plan-call m d a k f s l l' =
      rw (
        k,
        f,
        s,
        le-ltb (member_kind m) function_kind (omega arith),
        le-leb 1 (suc d) (omega arith),
        le-leb (suc d) i l,
        ne_eqb (member_kind m) function_kind (λ e. omega arith),
        le-leb 1 (suc a) (omega arith),
        le-leb (suc a) i l',
        member-found m,
        back d,
        back a,
      )

  plan-function : (b : ℕ) → kind_at links i ≡ function_kind → first_at links i ≡ suc b → b < i
      → plan_of (graph links waits xs) frame i ≡ judge_of waits frame i b (get_or frame b 0)
  unfolding plan_of
  plan-function b k f l = rw (k, f, le-leb 1 (suc b) (omega arith), le-leb (suc b) i l, back b)

  judge-kept : (b : ℕ) → own_of (get_or waits b 0) (get_or waits i 0) ≡ 0 → judge_of waits frame i b (get_or frame b 0) ≡ Known (Code.function_of frame (get_or waits i 0) (get_or frame b 0))
  unfolding judge_of
  judge-kept b e = rw e

  judge-again : (b j : ℕ) → own_of (get_or waits b 0) (get_or waits i 0) ≡ suc j → j < table_entries
      → judge_of waits frame i b (get_or frame b 0) ≡ Body b (suc j) Judge
  unfolding judge_of
  judge-again b j e h = rw (e, le-leb 1 (suc j) (omega arith), le-leb (suc j) table_entries h)

  run-task : (kind a b s l v : ℕ) → kind_at links a ≡ function_kind → first_at links a ≡ suc b → b < a → own_of (get_or waits b 0) (get_or waits a 0) ≡ v
      → v ≤ table_entries → task_run links waits a kind s l ≡ Body b v (Over kind s l)
  unfolding task_run
  run-task kind a b s l v k f h o m = rw (k, f, le-leb 1 (suc b) (omega arith), le-leb (suc b) a h, back b, o, le-leb v table_entries m)

-- the readings of a window are within signed 32 bits
module _ (xs : List ℤ) (small : (k : ℕ) → k < length xs → mag (get_or xs k (pos 0)) < 2147483648) where
  small-take : (l : ℕ) (ys : List ℤ) → ((k : ℕ) → k < length ys → mag (get_or ys k (pos 0)) < 2147483648) → Small (take l ys)
  small-take zero ys h = tt
  small-take (suc l) [] h = tt
  small-take (suc l) (y ∷ ys) h = (h 0 (omega arith), small-take l ys (λ k p. h (suc k) (omega arith)))

  small-drop : (s : ℕ) (ys : List ℤ) → ((k : ℕ) → k < length ys → mag (get_or ys k (pos 0)) < 2147483648) → (k : ℕ) → k < length (drop s ys) → mag (get_or (drop s ys) k (pos 0)) < 2147483648
  small-drop zero ys h = h
  small-drop (suc s) [] h = h
  small-drop (suc s) (y ∷ ys) h = small-drop s ys (λ k p. h (suc k) (omega arith))

  small-window : (s l : ℕ) → Small (readings_in xs s l)
  small-window s l = small-take l (drop s xs) (small-drop s xs small)

module _ (links cells waits : List ℕ) (xs : List ℤ) (n : ℕ) (φ : ℕ → Form) (good : Good links cells waits xs n φ) where
  -- a free name has a variable, and the entry sees it
  record Seen (i y : ℕ) : Type 0 where
    at : ℕ
    kind : kind_at links at ≡ variable_kind
    is : variable_at links cells at ≡ y
    form : φ at ≡ variable y
    sees : Sees links φ i at

  lift : (i d y : ℕ) → Link links i d → free y (φ i) ≡ true → Seen d y → Seen i y
  lift i d y l h s =
      record {
        at = s.at;
        kind = s.kind;
        is = s.is;
        form = s.form;
        sees = down i d s.at l s.sees (λ z e. subst (λ (k : ℕ). free k (φ i) ≡ true) (sym (eqb-true z y (sym (free-variable z y) ∙ subst (λ (f : Form). free z f ≡ true) s.form e))) h);
      }

  seen : (k i y : ℕ) → i < k → i < n → free y (φ i) ≡ true → Seen i y
  unfolding awaited has_name
  seen zero i y h h' e = absurd (omega arith)
  seen (suc k) i y h h' e = by (fine good h') (parts good h') (λ d l q. seen k d y (omega arith) (omega arith) q)
    where
      by : {q : Node} (k : Fine q) → Parts links cells φ i k → ((d : ℕ) → d < i → free y (φ d) ≡ true → Seen d y) → Seen i y
      by (a_number _) w again = never (rw w.form at e) refl
      by (a_variable name k _) w again =
          let x = with_level name k in
          let z : y ≡ x = eqb-true y x (sym (free-variable y x) ∙ (rw w.form at e)) in
          record { at = i; kind = w.kind; is = w.variable ∙ sym z; form = w.form ∙ ap variable (sym z); sees = here i }
      by (an_unbound _) w again = never (rw w.form at e) refl
      by the_readings w again = never (rw w.form at e) refl
      by (a_function name b k _) w again =
          let x = with_level name k in
          lift i b y (w.low, inl w.first) e (again b w.low ((and-eq-true_iff (not (eqb x y)) (free y (φ b))).0 (sym (free-function y x (φ b)) ∙ (rw w.form at e))).1)
      by (an_ask m d _) w again = lift i d y (w.low, inl w.first) e (again d w.low (rw w.form at e))
      by (a_call m d a _) w again =
          either (free y (φ d)) (free y (φ a)) (sym (free-call y m (φ d) (φ a)) ∙ (rw w.form at e))
          (λ p. lift i d y (w.low, inl w.first) e (again d w.low p))
          (λ p. lift i a y (w.next, inr w.second) e (again a w.next p))

  -- a function's own variable: one more than its number where the body awaits it, else 0
  record Own (x b v : ℕ) : Type 0 where
    at : ℕ
    is : v ≡ suc at
    kind : kind_at links at ≡ variable_kind
    variable : variable_at links cells at ≡ x
    low : at ≤ b

  module _ {i name b k : ℕ} {low : k < 2} (i-n : i < n) (entry : Parts links cells φ i (a_function name b k low)) where
    abbrev x : ℕ
    x = with_level name k

    abbrev wb : ℕ
    wb = get_or waits b 0

    abbrev wi : ℕ
    wi = get_or waits i 0

    b-n : b < n
    b-n = omega arith

    free-outer : (y : ℕ) → free y (φ i) ≡ (not (eqb x y) && free y (φ b))
    free-outer y = ap (free y) entry.form ∙ free-function y x (φ b)

    -- a variable that the body awaits and that has another name is awaited by the function
    held : (v : ℕ) → 1 ≤ v → has_slot wb v ≡ true → ((j : ℕ) → v ≡ suc j → j < n → kind_at links j ≡ variable_kind → variable_at links cells j ≡ x → ⊥)
        → has_slot wi v ≡ true
    held v p q other =
        let s = good.slots b v b-n p q in
        let j : ℕ = s.at in
        let jn : j < n = omega (arith, s.below) in
        let q' : has_slot wb (suc j) ≡ true = subst (λ (k : ℕ). has_slot wb k ≡ true) s.is q in
        let a : free (variable_at links cells j) (φ b) ≡ true = sym (good.awaited b j b-n jn s.kind) ∙ rw (le-leb 1 (suc j) (omega arith), q') in
        let d : eqb x (variable_at links cells j) ≡ false = ne_eqb x (variable_at links cells j) (λ z. other j s.is jn s.kind (sym z)) in
        let w : awaits wi (suc j) ≡ true = good.awaited i j i-n jn s.kind ∙ free-outer (variable_at links cells j) ∙ rw (d, a) in
        subst (λ (k : ℕ). has_slot wi k ≡ true) (sym s.is) ((and-eq-true_iff (leb 1 (suc j)) (has_slot wi (suc j))).0 w).1

    hold-a : has_slot wb (slot_a wb) ≡ true
    hold-a = rw (eq-eqb (slot_a wb) (slot_a wb) refl)

    hold-b : has_slot wb (slot_b wb) ≡ true
    hold-b = or_right (eqb (slot_a wb) (slot_b wb)) (eqb (slot_b wb) (slot_b wb)) (eq-eqb (slot_b wb) (slot_b wb) refl)

    own-none : free x (φ b) ≡ false → own_of wb wi ≡ 0
    unfolding own_of
    own-none e =
        elim (dec_lt 0 (slot_a wb)) [
          | yes p ↦
              rw (held (slot_a wb) p hold-a (clash (slot_a wb) hold-a))
              (elim (dec_lt 0 (slot_b wb)) [
                | yes q ↦ rw (held (slot_b wb) q hold-b (clash (slot_b wb) hold-b))
                | no q ↦ let z : slot_b wb ≡ 0 = omega arith in split (has_slot wi (slot_b wb)) (λ r. rw r) (λ r. rw r z)
              ])
          | no p ↦
              let z : slot_a wb ≡ 0 = omega arith in
              let u : slot_b wb ≡ 0 = good.filled b b-n z in
              split (has_slot wi (slot_a wb)) (λ r. rw r (split (has_slot wi (slot_b wb)) (λ s. rw s) (λ s. rw s u))) (λ r. rw r z)
        ]
      where
        clash : (v : ℕ) → has_slot wb v ≡ true → (j : ℕ) → v ≡ suc j → j < n → kind_at links j ≡ variable_kind → variable_at links cells j ≡ x → ⊥
        clash v q j z jn k y =
            let a : free (variable_at links cells j) (φ b) ≡ true = sym (good.awaited b j b-n jn k) ∙ rw (le-leb 1 (suc j) (omega arith), subst (λ (m : ℕ). has_slot wb m ≡ true) z q) in
            never (subst (λ (m : ℕ). free m (φ b) ≡ true) y a) e

    own-some : free x (φ b) ≡ true → Own x b (own_of wb wi)
    unfolding own_of
    own-some e =
        let s = seen (suc b) b x (omega arith) b-n e in
        let j : ℕ = s.at in
        let low = sees_below links φ b j s.sees in
        let jn : j < n = omega arith in
        let hb : has_slot wb (suc j) ≡ true =
        ((and-eq-true_iff (leb 1 (suc j)) (has_slot wb (suc j))).0
        (good.awaited b j b-n jn s.kind ∙ subst (λ (m : ℕ). free m (φ b) ≡ true) (sym s.is) e)).1 in
        let off : (leb 1 (suc j) && has_slot wi (suc j)) ≡ false = good.awaited i j i-n jn s.kind ∙ free-outer (variable_at links cells j) ∙ rw (eq-eqb x (variable_at links cells j) (sym s.is)) in
        let hi : has_slot wi (suc j) ≡ false = split (has_slot wi (suc j)) (λ r. never (rw (le-leb 1 (suc j) (omega arith), r)) off) (λ r. r) in
        record {
          at = j;
          kind = s.kind;
          variable = s.is;
          low = low;
          is = elim (dec_eq (slot_a wb) (suc j)) [
            | yes p ↦ rw (ap (has_slot wi) p ∙ hi) p
            | no p ↦
                let q : slot_b wb ≡ suc j = either (eqb (slot_a wb) (suc j)) (eqb (slot_b wb) (suc j)) hb (λ r. absurd (p (eqb-true _ _ r))) (λ r. eqb-true _ _ r) in
                let one : 1 ≤ slot_a wb = elim (dec_lt 0 (slot_a wb)) [
                  | yes r ↦ r
                  | no r ↦ let z : slot_b wb ≡ 0 = good.filled b b-n (omega arith) in absurd (omega arith)
                ] in
                rw (held (slot_a wb) one hold-a (λ k z kn kk ky. p (z ∙ ap suc (good.one k j kn jn kk s.kind (ky ∙ sym s.is)))), ap (has_slot wi) q ∙ hi) q
          ];
        }

  -- the frame at what entry i sees
  module _ (ρ : Environment) (plain : Plain ρ) (frame : List ℕ) (i : ℕ) (i-n : i < n) (below : (m : ℕ) → m < i → Sees links φ i m → Right links cells waits xs n φ ρ frame m) where
    -- a variable that entry i awaits has no value in the frame where it has none in the environment
    unset-is : (j : ℕ) → j < i → kind_at links j ≡ variable_kind → free (variable_at links cells j) (φ i) ≡ true
        → Code.is_unset frame (suc j) ≡ is_delayed (lookup ρ (variable_at links cells j))
    unfolding Code.is_unset evaluate value_of
    unset-is j h k e =
        let s = seen (suc i) i (variable_at links cells j) (omega arith) i-n e in
        let low = sees_below links φ i s.at s.sees in
        let z : s.at ≡ j = good.one s.at j (omega arith) (omega arith) s.kind k s.is in
        let t : Sees links φ i j = subst (λ (m : ℕ). Sees links φ i m) z s.sees in
        let w : φ j ≡ variable (variable_at links cells j) = subst (λ (m : ℕ). φ m ≡ variable (variable_at links cells j)) z s.form in
        let r : get_or frame j 0 ≡ pack_of (lookup ρ (variable_at links cells j)) = below j h t ∙ ap (λ (f : Form). pack_of (value_of (evaluate xs ρ f))) w in
        let q : suc j - 1 ≡ j = omega arith in
        rw (le-leb 1 (suc j) (omega arith), le-leb (suc j) table_entries (omega (arith, good.most)), q, r)
        (delayed-cell (length xs) good.few (lookup ρ (variable_at links cells j)) (plain-lookup ρ plain (variable_at links cells j)))

    unset-none : (v : ℕ) → v < 1 → Code.is_unset frame v ≡ false
    unfolding Code.is_unset
    unset-none v h = rw (lt-leb 1 v h)

    open-right : kind_at links i ≡ function_kind → Code.is_open frame (get_or waits i 0) ≡ not (settled ρ (φ i))
    open-right k = split (settled ρ (φ i)) (λ e. rw (e, shut e (slot_a w) a, shut e (slot_b w) b)) (λ e. rw e (opens e))
      where
        w : ℕ
        w = get_or waits i 0

        a : has_slot (get_or waits i 0) (slot_a (get_or waits i 0)) ≡ true
        a = rw (eq-eqb (slot_a (get_or waits i 0)) (slot_a (get_or waits i 0)) refl)

        b : has_slot (get_or waits i 0) (slot_b (get_or waits i 0)) ≡ true
        b = or_right (eqb (slot_a (get_or waits i 0)) (slot_b (get_or waits i 0))) (eqb (slot_b (get_or waits i 0)) (slot_b (get_or waits i 0))) (eq-eqb (slot_b (get_or waits i 0)) (slot_b (get_or waits i 0)) refl)

        shut : settled ρ (φ i) ≡ true → (v : ℕ) → has_slot (get_or waits i 0) v ≡ true → Code.is_unset frame v ≡ false
        shut e v h = elim (dec_lt 0 v) [
          | no p ↦ unset-none v (omega arith)
          | yes p ↦
              let s = good.slots i v i-n p h in
              let j : ℕ = s.at in
              let jn : j < n = omega (arith, s.below) in
              let ji : j < i = elim (dec_lt j i) [
                | yes r ↦ r
                | no r ↦
                    let z : j ≡ i = omega (arith, s.below) in
                    absurd (omega (arith, k, subst (λ (m : ℕ). kind_at links m ≡ variable_kind) z s.kind))
              ] in
              let fr : free (variable_at links cells j) (φ i) ≡ true =
              sym (good.awaited i j i-n jn s.kind)
              ∙ rw (le-leb 1 (suc j) (omega arith), subst (λ (m : ℕ). has_slot (get_or waits i 0) m ≡ true) s.is h) in
              ap (Code.is_unset frame) s.is ∙ unset-is j ji s.kind fr ∙ split (is_delayed (lookup ρ (variable_at links cells j))) (λ d. never e (settled-no ρ (φ i) (variable_at links cells j) fr d)) (λ d. d)
        ]

        opens : settled ρ (φ i) ≡ false → Code.is_open frame (get_or waits i 0) ≡ true
        opens e =
            let u = settled-find ρ (φ i) e in
            let s = seen (suc i) i u.name (omega arith) i-n u.is_free in
            let j : ℕ = s.at in
            let low = sees_below links φ i j s.sees in
            let ji : j < i = elim (dec_lt j i) [
              | yes r ↦ r
              | no r ↦ let z : j ≡ i = omega arith in absurd (omega (arith, k, subst (λ (m : ℕ). kind_at links m ≡ variable_kind) z s.kind))
            ] in
            let fr : free (variable_at links cells j) (φ i) ≡ true = subst (λ (m : ℕ). free m (φ i) ≡ true) (sym s.is) u.is_free in
            let h : has_slot (get_or waits i 0) (suc j) ≡ true =
            ((and-eq-true_iff (leb 1 (suc j)) (has_slot (get_or waits i 0) (suc j))).0 (good.awaited i j i-n (omega arith) s.kind ∙ fr)).1 in
            let d : Code.is_unset frame (suc j) ≡ true = unset-is j ji s.kind fr ∙ subst (λ (m : ℕ). is_delayed (lookup ρ m) ≡ true) (sym s.is) u.unset in
            either (eqb (slot_a (get_or waits i 0)) (suc j)) (eqb (slot_b (get_or waits i 0)) (suc j)) h
            (λ r. or_inl _ _ (ap (Code.is_unset frame) (eqb-true _ _ r) ∙ d))
            (λ r. or_right (Code.is_unset frame (slot_a (get_or waits i 0))) _ (ap (Code.is_unset frame) (eqb-true _ _ r) ∙ d))

    module _ (go : Go) (f : ℕ) (right : GoRight links cells waits xs n φ go f) (i-f : i ≤ f) (len : length frame ≡ table_entries) where
      abbrev value : ℕ → Value
      value m = value_of (evaluate xs ρ (φ m))

      abbrev done : ℕ
      done = finish_of (graph links waits xs) go frame i (plan_of (graph links waits xs) frame i)

      kept : (m : ℕ) → m < n → (σ : Environment) → Plain σ → Keepable (length xs) (value_of (evaluate xs σ (φ m)))
      kept = kept_entry links cells waits xs n φ good

      see : (d : ℕ) → Link links i d → ((y : ℕ) → free y (φ d) ≡ true → free y (φ i) ≡ true) → get_or frame d 0 ≡ pack_of (value d)
      see d l h = below d l.0 (down i d d l (here d) h)

      opened : (d : ℕ) → d < n → get_or frame d 0 ≡ pack_of (value d) → unpack_of (get_or frame d 0) ≡ value d
      opened d h e = ap unpack_of e ∙ round (value d) (kept d h ρ plain).held

      -- a member with no argument
      ask-right : (m : Member) (d : ℕ) (z : arguments m ≡ 0) → Parts links cells φ i (an_ask m d z) → done ≡ pack_of (value i)
      unfolding finish_of evaluate value_of awaited
      ask-right m d z e =
          ap (finish_of (graph links waits xs) go frame i) (plan-ask links waits xs frame i m d e.kind e.first e.second e.low)
          ∙ ap (λ (v : Value). pack_of (apply0 m xs v)) (opened d (omega arith) (see d (e.low, inl e.first) (λ y h. ap (free y) e.form ∙ h)))
          ∙ ap (λ (g : Form). pack_of (value_of (evaluate xs ρ g))) (sym e.form)

      -- the runs of the function that entry a is
      module _ (m : Member) (s l : ℕ) {a name b k : ℕ} {low : k < 2} (entry : Parts links cells φ a (a_function name b k low)) (link : Link links i a)
          (up : (y : ℕ) → free y (φ a) ≡ true → free y (φ i) ≡ true) where
        abbrev x' : ℕ
        x' = with_level name k

        abbrev run : ℤ → Value
        run z = value_of (evaluate xs (bind x' (Number z) ρ) (φ b))

        a-n : a < n
        a-n = omega arith

        b-n' : b < n
        b-n' = omega arith

        inner : (y : ℕ) → free y (φ b) ≡ true → (x' ≡ y → ⊥) → free y (φ a) ≡ true
        inner y h q = ap (free y) entry.form ∙ free-function y x' (φ b) ∙ rw (ne_eqb x' y q, h)

        -- what the body sees without the function's variable, entry i sees
        sees-rest : (p : ℕ) → Sees links φ b p → free x' (φ p) ≡ false → get_or frame p 0 ≡ pack_of (value p)
        sees-rest p t nf =
            let low = sees_below links φ b p t in
            let mid : (y : ℕ) → free y (φ p) ≡ true → free y (φ a) ≡ true = λ y h. inner y (sees-free links φ b p t y h) (λ q. never h (subst (λ (k : ℕ). free k (φ p) ≡ false) q nf)) in
            below p (omega arith) (down i a p link (down a b p (entry.low, inl entry.first) t mid) (λ y h. up y (mid y h)))

        conclude-right : (t : Tally) → t ≡ Tallies.gathered begun (map run (readings_in xs s l)) → conclude_of (member_of_kind (member_kind m)) t ≡ pack_of (of_runs m (map run (readings_in xs s l)))
        unfolding conclude_of
        conclude-right t e = rw (member-found m, e) (ap pack_of (finished-is m (map run (readings_in xs s l))))

        finish-run : (v : ℕ) → own_of (get_or waits b 0) (get_or waits a 0) ≡ v → v ≤ table_entries
            → finish_of (graph links waits xs) go frame i (task_run links waits a (member_kind m) s l)
            ≡ conclude_of (member_of_kind (member_kind m)) (over_of go b (gathered links waits v b) v frame begun (readings_in xs s l))
        unfolding finish_of
        finish-run v o h =
            ap (finish_of (graph links waits xs) go frame i) (run-task links waits xs frame i (member_kind m) a b s l v entry.kind entry.first entry.low o h)

        -- a body that does not await the variable comes to the same for every reading
        still : free x' (φ b) ≡ false → (zs : List ℤ) (t : Tally) → over_of go b (gathered links waits 0 b) 0 frame t zs ≡ Tallies.gathered t (map run zs)
        unfolding over_of fill_of gathered bound Tallies.gathered
        still e [] t = refl
        still e (z ∷ zs) t =
            let is : unpack_of (get_or frame b 0) ≡ run z = opened b b-n' (sees-rest b (here b) e) ∙ ap value_of (sym (unbound-same xs ρ x' (Number z) (φ b) e)) in
            rw is (turn (Tallies.stepped t (run z)) _ (map run zs) (Tallies.stepped t (run z)).stopped refl (still e zs (Tallies.stepped t (run z))))

        run-right : finish_of (graph links waits xs) go frame i (task_run links waits a (member_kind m) s l) ≡ pack_of (of_runs m (map run (readings_in xs s l)))
        run-right = split (free x' (φ b)) with-own without-own
          where
            with-own : free x' (φ b) ≡ true → finish_of (graph links waits xs) go frame i (task_run links waits a (member_kind m) s l) ≡ pack_of (of_runs m (map run (readings_in xs s l)))
            with-own e =
                let o = own-some a-n entry e in
                let j : ℕ = o.at in
                let jn : j < n = omega (arith, o.low) in
                let rest : (p : ℕ) → Sees links φ b p → free (variable_at links cells j) (φ p) ≡ false → get_or frame p 0 ≡ pack_of (value p) =
                λ p t nf. sees-rest p t (subst (λ (k : ℕ). free k (φ p) ≡ false) o.variable nf) in
                finish-run (suc j) o.is (omega (arith, good.most))
                ∙ conclude-right _
                (over-right links cells waits xs n φ good j jn o.kind go f right ρ plain b b-n' (omega arith) (readings_in xs s l) (small-window xs good.small s l) frame len rest begun
                ∙ ap (λ (k : ℕ). Tallies.gathered begun (map (λ z. value_of (evaluate xs (bind k (Number z) ρ) (φ b))) (readings_in xs s l))) o.variable)

            without-own : free x' (φ b) ≡ false → finish_of (graph links waits xs) go frame i (task_run links waits a (member_kind m) s l) ≡ pack_of (of_runs m (map run (readings_in xs s l)))
            without-own e = finish-run 0 (own-none a-n entry e) (omega arith) ∙ conclude-right _ (still e (readings_in xs s l) begun)

      -- only a function's entry comes to a function
      plain-none : (v : Value) → PlainValue v → is_function v ≡ false
      plain-none (Number z) h = refl
      plain-none (Window s l) h = absurd h
      plain-none Function h = absurd h
      plain-none Delayed h = refl
      plain-none (Missing r) h = absurd h

      module _ (m : Member) (a : ℕ) (link : Link links i a) (up : (y : ℕ) → free y (φ a) ≡ true → free y (φ i) ≡ true) where
        ran : (s l : ℕ) → value a ≡ Function → {q : Node} (k : Fine q) → Parts links cells φ a k
            → finish_of (graph links waits xs) go frame i (task_run links waits a (member_kind m) s l) ≡ pack_of (of_runs m (map (λ z. run_of (evaluate xs ρ (φ a)) z) (readings_in xs s l)))
        unfolding evaluate value_of run_of
        ran s l r (a_number _) e = never (ap is_function r) (rw e.form)
        ran s l r (a_variable name k _) e =
            let x = with_level name k in
            never (ap is_function r) (rw e.form (plain-none (lookup ρ x) (plain-lookup ρ plain x)))
        ran s l r (an_unbound _) e = never (ap is_function r) (rw e.form)
        ran s l r the_readings e = never (ap is_function r) (rw e.form)
        ran s l r (an_ask k d _) e = never (ap is_function r) (rw e.form (ask-none k xs (value_of (evaluate xs ρ (φ d)))))
        ran s l r (a_call k d c _) e = never (ap is_function r) (rw e.form (call_none k xs (value_of (evaluate xs ρ (φ d))) (value_of (evaluate xs ρ (φ c))) (run_of (evaluate xs ρ (φ c)))))
        ran s l r (a_function name b k _) e =
            let x = with_level name k in
            let q : evaluate xs ρ (φ a) ≡ runs (λ z. evaluate xs (bind x (Number z) ρ) (φ b)) =
            ap (evaluate xs ρ) e.form
            ∙ function-runs (value_of (evaluate xs (bind x Delayed ρ) (φ b))) (settled (bind x (Number (pos 0)) ρ) (φ b)) (λ z. evaluate xs (bind x (Number z) ρ) (φ b))
            (ap (λ (g : Form). value_of (evaluate xs ρ g)) (sym e.form) ∙ r) in
            run-right m s l e link up ∙ sym (λ k. pack_of (of_runs m (map (λ z. run_of (q k) z) (readings_in xs s l))))

        followed : (u : Applied) → RunsOn (value a) u → finish_of (graph links waits xs) go frame i (follow_of links waits a (member_kind m) u) ≡ pack_of (completed m xs (run_of (evaluate xs ρ (φ a))) u)
        unfolding follow_of completed finish_of
        followed (Done v) r = refl
        followed (Run s l) r = let h : a < n = omega arith in ran s l r (fine good h) (parts good h)

      -- a member with one argument
      call-right : (m : Member) (d a : ℕ) (z : arguments m ≡ 1) → Parts links cells φ i (a_call m d a z) → done ≡ pack_of (value i)
      unfolding evaluate value_of
      call-right m d a z e =
          let left : (y : ℕ) → free y (φ d) ≡ true → free y (φ i) ≡ true = λ y h. ap (free y) e.form ∙ free-call y m (φ d) (φ a) ∙ rw h in
          let up : (y : ℕ) → free y (φ a) ≡ true → free y (φ i) ≡ true = λ y h. ap (free y) e.form ∙ free-call y m (φ d) (φ a) ∙ or_right (free y (φ d)) (free y (φ a)) h in
          let od : bounded_of (unpack_of (get_or frame d 0)) ≡ value d =
          ap bounded_of (opened d (omega arith) (see d (e.low, inl e.first) left))
          ∙ bounded-kept (length xs) good.few (value d) (kept d (omega arith) ρ plain) in
          let oa : unpack_of (get_or frame a 0) ≡ value a = opened a (omega arith) (see a (e.next, inr e.second) up) in
          ap (finish_of (graph links waits xs) go frame i) (plan-call links waits xs frame i m d a e.kind e.first e.second e.low e.next)
          ∙ (λ t. finish_of (graph links waits xs) go frame i (follow_of links waits a (member_kind m) (applied1 m xs (od t) (oa t))))
          ∙ followed m a (e.next, inr e.second) up (applied1 m xs (value d) (value a)) (runs-function m xs (value d) (value a))
          ∙ ap pack_of (completed-is m xs (run_of (evaluate xs ρ (φ a))) (value d) (value a))
          ∙ ap (λ (g : Form). pack_of (value_of (evaluate xs ρ g))) (sym e.form)

      -- a function
      module _ {name b k : ℕ} {low : k < 2} (entry : Parts links cells φ i (a_function name b k low)) where
        abbrev x'' : ℕ
        x'' = with_level name k

        abbrev base : Value
        base = value_of (evaluate xs (bind x'' Delayed ρ) (φ b))

        judged : done ≡ Code.function_of frame (get_or waits i 0) (pack_of base)
        unfolding finish_of
        judged =
            ap (finish_of (graph links waits xs) go frame i) (plan-function links waits xs frame i b entry.kind entry.first entry.low)
            ∙ split (free x'' (φ b))
            (λ h.
            let o = own-some i-n entry h in
            let j : ℕ = o.at in
            let jn : j < n = omega (arith, o.low) in
            ap (finish_of (graph links waits xs) go frame i) (judge-again links waits xs frame i b j o.is (omega (arith, good.most)))
            ∙ ap (Code.function_of frame (get_or waits i 0))
            (set_value links cells waits xs n φ good j jn o.kind go f right ρ plain b (omega arith) (omega arith) Delayed tt frame len
            (λ p t nf. rest p t (subst (λ (m : ℕ). free m (φ p) ≡ false) o.variable nf))
            ∙ ap (λ (m : ℕ). pack_of (value_of (evaluate xs (bind m Delayed ρ) (φ b)))) o.variable))
            (λ h.
            ap (finish_of (graph links waits xs) go frame i) (judge-kept links waits xs frame i b (own-none i-n entry h))
            ∙ ap (Code.function_of frame (get_or waits i 0)) (rest b (here b) h ∙ ap (λ r. pack_of (value_of r)) (sym (unbound-same xs ρ x'' Delayed (φ b) h))))
          where
            rest : (p : ℕ) → Sees links φ b p → free x'' (φ p) ≡ false → get_or frame p 0 ≡ pack_of (value p)
            rest p t nf =
                let low = sees_below links φ b p t in
                below p (omega arith) (down i b p (entry.low, inl entry.first) t (λ y h.
                free-outer i-n entry y ∙ rw (ne_eqb x'' y (λ q. never h (subst (λ (m : ℕ). free m (φ p) ≡ false) q nf)), sees-free links φ b p t y h)))

        function-right : done ≡ pack_of (value i)
        unfolding evaluate settled
        function-right =
            judged
            ∙ function-cell (length xs) good.few frame (get_or waits i 0) base (settled (bind x'' (Number (pos 0)) ρ) (φ b)) (λ z. evaluate xs (bind x'' (Number z) ρ) (φ b))
            (kept b (omega arith) (bind x'' Delayed ρ) (tt, plain)) (open-right entry.kind ∙ ap (λ (g : Form). not (settled ρ g)) entry.form)
            ∙ ap (λ (g : Form). pack_of (value_of (evaluate xs ρ g))) (sym entry.form)

      step : function_kind ≤ kind_at links i → {q : Node} (k : Fine q) → Parts links cells φ i k → done ≡ pack_of (value i)
      step h (a_number _) e = absurd (omega arith)
      step h (a_variable _ _ _) e = absurd (omega arith)
      step h (an_unbound _) e = absurd (omega arith)
      step h the_readings e = absurd (omega arith)
      step h (a_function _ _ _ _) e = function-right e
      step h (an_ask m d z) e = ask-right m d z e
      step h (a_call m d a z) e = call-right m d a z e

  -- in every environment, for every fuel above the entry's number
  pub apply-right : (f : ℕ) → GoRight links cells waits xs n φ (apply_at (graph links waits xs) f) f
  unfolding apply_at
  apply-right zero ρ ps frame i i-n i-f k len below = absurd (omega arith)
  apply-right (suc f) ρ ps frame i i-n i-f k len below = step ρ ps frame i i-n below (apply_at (graph links waits xs) f) f (apply-right f) (omega arith) len k (fine good i-n) (parts good i-n)
