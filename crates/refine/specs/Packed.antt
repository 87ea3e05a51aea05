-- Working an entry out over any table and any frame whose cells are empty or packed values that may be kept gives such a value; and a
-- function only for a function's own entry. By the fuel, and by what the entry asks for. Assumes nothing.
use Rattle.std.specs.Prelude.{Option, Some, None}
use Rattle.std.proofs.lemmas.Bool.{cond_both}
use Rattle.std.specs.Prelude.{◌≡◌, Bool, true, false, cond, ◌&&◌, ◌⊎◌, ltb, eqb, pos, length, get_or, set, replicate}
use Rattle.std.proofs.Math.Path.{refl, sym, ap, subst}
use Rattle.std.proofs.Common.{◌∙◌, ⊎_elim}
use mathlib.Core.List.{List, [], ◌∷◌}
use Rattle.std.proofs.Math.Logic.{inl, inr}
use Prim.Native.Nat.{ℕ, zero, suc, ◌+◌, ◌-◌, ◌%◌, ◌≤◌, ◌<◌}
use native.Mathlib.Omega.{arith}
use borrow.Author.Tests.{le-leb, leb-true, eqb-true}
use Rattle.std.proofs.Math.Dec.{leb}
use Rattle.std.proofs.Math.IntN.{ℤ}
use Rattle.std.specs.Int.Signed.{mag}
use Rattle.language.specs.Cases.{split}
use Rattle.language.specs.Limits.{table_entries, table_readings}
use Rattle.members.specs.declared.Member.{Member}
use Rattle.rules.specs.declared.Value.{Value}
use Rattle.rules.specs.declared.Value.TheVariants.{Number, Window, Function, Delayed, Missing}
use Rattle.values.specs.declared.apply.Applied.{Applied}
use Rattle.values.specs.declared.apply.Applied.TheVariants.{Done, Run}
use Rattle.values.specs.declared.runs.Tally.{Tally}
use Rattle.rules.specs.Windows.{readings_in}
use Rattle.rules.specs.Runs.{results}
use Rattle.rules.specs.Rules.{of_runs}
use Rattle.rules.specs.Apply.{apply1}
use Rattle.values.specs.Applied.{applied1, completed}
use Rattle.values.specs.ApplyLaws.{completed-is}
use Rattle.values.specs.Tallies.{begun, stepped, gathered, finished}
use Rattle.values.specs.TallyLaws.{finished-is}
use Rattle.values.specs.WindowLaws.{readings-short}
use Rattle.values.specs.Keepable.{Keepable}
use Rattle.values.specs.KeepableLaws.{Readings, Each, wrong, readings-of, readings-small, closed-runs}
use Rattle.values.specs.KeepableApply.{Settled, kept-closed, kept-apply0, kept-applied1}
use Rattle.values.specs.Packing.{pack_of, unpack_of, is_packed, window_cell, function_cell, delayed_cell, missing_cell, wrong_cell}
use Rattle.values.specs.PackingLaws.{unpack-number, round, test-number, kept-passes, passes-packs}
use Rattle.values.specs.Ranges.{down-range}
use Rattle.layout.specs.Nodes.{number_kind, variable_kind, unbound_kind, function_kind, member_of_kind}
use Rattle.columns.specs.Calling.{bounded_of, ask_of, call_of}
use Rattle.chunks.specs.Rows.{Go, bound, fill_of, set_of, over_of}
use Rattle.evaluator.specs.declared.working.Task.{Task}
use Rattle.evaluator.specs.declared.working.Task.TheVariants.{Known, Body}
use Rattle.evaluator.specs.declared.working.Purpose.TheVariants.{Judge, Over}
use Rattle.layout.specs.Links.{kind_at, first_at, second_at, is_below}
use Rattle.table.specs.Waits.{own_of}
use Rattle.evaluator.specs.Reach.{gathered as list}
use Rattle.evaluator.specs.Frames.{leaf_of, start_at, start_from, is_open, function_of}
use Rattle.columns.specs.Calling.{conclude_of}
use Rattle.evaluator.specs.Applying.{Graph, judge_of, run_of, follow_of, plan_of, finish_of, apply_at}
use Rattle.refine.specs.Kinds.{is_function, concluded-none, ask-none, call_none}

-- a cell that is empty, or a packed value that may be kept beside n readings; a frame of such cells
abbrev pub Cell : ℕ → ℕ → Type 0
Cell n c = (c ≡ 0) ⊎ (is_packed c n ≡ true)

abbrev pub Cells : ℕ → List ℕ → Type 0
Cells n frame = (j : ℕ) → Cell n (get_or frame j 0)

pub set-cells : (n : ℕ) (frame : List ℕ) (i c : ℕ) → Cells n frame → Cell n c → Cells n (set frame i c)
set-cells n [] i c s p j = s j
set-cells n (x ∷ frame) zero c s p zero = p
set-cells n (x ∷ frame) zero c s p (suc j) = s (suc j)
set-cells n (x ∷ frame) (suc i) c s p zero = s 0
set-cells n (x ∷ frame) (suc i) c s p (suc j) = set-cells n frame i c (λ k. s (suc k)) p j

-- what an entry of a kind is worked out to
pub record Right (n kind c : ℕ) : Type 0 where
  pub packed : is_packed c n ≡ true
  pub function : c ≡ function_cell → kind ≡ function_kind

never : {A : Type 0} → true ≡ false → A
never e = absurd (subst (λ (b : Bool). cond b (Unit {0}) ⊥) e tt)

module _ (n : ℕ) where
  plain : (v : Value) → is_function v ≡ false → v ≡ Function → ⊥
  plain v p e = never (ap is_function (sym e) ∙ p)

  right-value : (kind : ℕ) (v : Value) → Keepable n v → is_function v ≡ false → Right n kind (pack_of v)
  right-value kind v k p = record { packed = kept-passes n v k; function = λ e. absurd (plain v p (sym (round v k.held) ∙ ap unpack_of e ∙ round Function tt)) }

  -- an empty cell reads as a number
  value-kept : (c : ℕ) → Cell n c → Keepable n (unpack_of c)
  value-kept c (inl e) = rw (e, unpack-number 0 (omega arith)) (record { held = down-range 2147483648 ((0 - 1) % 4294967296) (omega arith); inside = tt; reasoned = tt })
  value-kept c (inr e) = (passes-packs n c e).kept

  function-packed : (frame : List ℕ) (w base : ℕ) → Cell n base → is_packed (function_of frame w base) n ≡ true
  unfolding function_of
  function-packed frame w base c =
      split (leb missing_cell base)
      (λ p. rw p (⊎_elim (λ e. absurd (omega (arith, leb-true missing_cell base p))) (λ e. e) c))
      (λ p. rw p (split (is_open frame w)
      (λ q. rw q (kept-passes n Delayed (record { held = tt; inside = tt; reasoned = tt })))
      (λ q. rw q (kept-passes n Function (record { held = tt; inside = tt; reasoned = tt })))))

-- over a recording of signed 32-bit readings
module _ (g : Graph) (n : ℕ) (short : n ≤ 65535) (small : (k : ℕ) → k < length g.xs → mag (get_or g.xs k (pos 0)) < 2147483648) where
  kept-wrong : Keepable n (Missing 2)
  kept-wrong = wrong (Keepable n) (kept-closed n short)

  right-wrong : (kind : ℕ) → Right n kind wrong_cell
  right-wrong kind = right-value n kind (Missing 2) kept-wrong refl

  -- ---- members

  bounded-kept : (v : Value) → Keepable n v → Keepable n (bounded_of v)
  unfolding bounded_of
  bounded-kept (Window s l) k = cond_both (leb (s + l) 65535) _ _ (Keepable n) (λ h. k) (λ h. kept-wrong)
  bounded-kept (Number z) k = k
  bounded-kept Function k = k
  bounded-kept Delayed k = k
  bounded-kept (Missing r) k = k

  right-ask : (kind : ℕ) (f : Option Member) (a : ℕ) → Cell n a → Right n kind (ask_of f g.xs a)
  unfolding ask_of
  right-ask kind (Some m) a c = right-value n kind _ (kept-apply0 n short m g.xs small (unpack_of a) (value-kept n a c)) (ask-none m g.xs (unpack_of a))
  right-ask kind None a c = right-wrong kind

  -- what a member is done with is no function, and its runs are over a window that may be kept
  abbrev Follows : Applied → Type 0
  Follows (Done v) = Keepable n v × (is_function v ≡ false)
  Follows (Run s l) = Keepable n (Window s l)

  follows-applied : (m : Member) (v w : Value) → Keepable n v → Keepable n w → Follows (applied1 m g.xs v w)
  unfolding completed
  follows-applied m v w p q = by (applied1 m g.xs v w) refl (kept-applied1 n short m g.xs small v w p q)
    where
      run : ℤ → Value
      run z = Delayed

      by : (a : Applied) → applied1 m g.xs v w ≡ a → Settled (Keepable n) a → Follows a
      by (Done u) e k =
          let s : u ≡ apply1 m g.xs v w run = sym (ap (completed m g.xs run) e) ∙ completed-is m g.xs run v w in
          (k, ap is_function s ∙ call_none m g.xs v w run)
      by (Run s l) e k = k

  follows-call : (f : Option Member) (a b : ℕ) → Cell n a → Cell n b → Follows (call_of f g.xs a b)
  unfolding call_of
  follows-call (Some m) a b c d = follows-applied m (bounded_of (unpack_of a)) (unpack_of b) (bounded-kept (unpack_of a) (value-kept n a c)) (value-kept n b d)
  follows-call None a b c d = (kept-wrong, refl)

  -- ---- what an entry asks for

  Planned : ℕ → Task → Type 0
  Planned k (Known c) = Right n k c
  Planned k (Body body v Judge) = k ≡ function_kind
  Planned k (Body body v (Over kind s l)) = (kind ≡ k) × Keepable n (Window s l)

  module _ (frame : List ℕ) (cells : Cells n frame) where
    planned-judge : (i body a : ℕ) → Cell n a → Planned function_kind (judge_of g.waits frame i body a)
    unfolding judge_of Planned
    planned-judge i body a c =
        cond_both (leb 1 (own_of (get_or g.waits body 0) (get_or g.waits i 0))) _ _ (Planned function_kind)
        (λ e. cond_both (leb (own_of (get_or g.waits body 0) (get_or g.waits i 0)) table_entries) _ _ (Planned function_kind)
        (λ h. refl)
        (λ h. right-wrong function_kind))
        (λ e. (record { packed = function-packed n frame (get_or g.waits i 0) a c; function = λ h. refl }))

    planned-follow : (f kind : ℕ) (a : Applied) → Follows a → Planned kind (follow_of g.links g.waits f kind a)
    unfolding follow_of run_of Planned
    planned-follow f kind (Done v) k = right-value n kind v k.0 k.1
    planned-follow f kind (Run s l) k =
        let own : ℕ = own_of (get_or g.waits (first_at g.links f - 1) 0) (get_or g.waits f 0) in
        cond_both (eqb (kind_at g.links f) function_kind && (is_below (first_at g.links f) f && leb own table_entries)) _ _ (Planned kind)
        (λ e. (refl, k)) (λ e. right-wrong kind)

    planned : (i : ℕ) → ltb (kind_at g.links i) function_kind ≡ false → Planned (kind_at g.links i) (plan_of g frame i)
    unfolding plan_of Planned
    planned i high =
        let kind : ℕ = kind_at g.links i in
        let first : ℕ = first_at g.links i in
        let second : ℕ = second_at g.links i in
        cond_both (ltb kind function_kind) _ _ (Planned kind) (λ e. never (sym e ∙ high))
        (λ e. cond_both (is_below first i) _ _ (Planned kind)
        (λ e. cond_both (eqb kind function_kind) _ _ (Planned kind)
        (λ e. subst (λ (k : ℕ). Planned k (judge_of g.waits frame i (first - 1) (get_or frame (first - 1) 0)))
        (sym (eqb-true kind function_kind e)) (planned-judge i (first - 1) _ (cells (first - 1))))
        (λ e. cond_both (is_below second i) _ _ (Planned kind)
        (λ e. planned-follow (second - 1) kind _ (follows-call (member_of_kind kind) _ _ (cells (first - 1)) (cells (second - 1))))
        (λ e. right-ask kind (member_of_kind kind) _ (cells (first - 1)))))
        (λ e. right-wrong kind))

  -- ---- the runs, where each entry comes to an empty cell or a packed value

  abbrev Goes : Go → Type 0
  Goes go = (frame : List ℕ) → Cells n frame → (j : ℕ) → Cell n (go frame j)

  module _ (go : Go) (goes : Goes go) where
    filled : (top : ℕ) (js frame : List ℕ) → Cells n frame → Cells n (fill_of go top js frame)
    unfolding fill_of
    filled top [] frame c = c
    filled top (j ∷ js) frame c = split (leb top j) (λ e. rw e c) (λ e. rw e (filled top js (set frame j (go frame j)) (set-cells n frame j (go frame j) c (goes frame c j))))

    begins : (top : ℕ) (js : List ℕ) (v c : ℕ) (frame : List ℕ) → Cells n frame → is_packed c n ≡ true → Cells n (set_of go top js v c frame)
    unfolding bound
    begins top js v c frame s p = split (leb 1 v) (λ e. rw e (filled top js (set frame (v - 1) c) (set-cells n frame (v - 1) c s (inr p)))) (λ e. rw e (filled top js frame s))

    -- a tally of results that may be kept
    record Tallied (k : ℕ) (t r : Tally) : Type 0 where
      values : List Value
      same : r ≡ gathered t values
      kept : Each (Keepable n) values
      few : length values ≤ k

    tallied-if : (k : ℕ) (t : Tally) (b : Bool) (x y : Tally) → Tallied k t x → Tallied k t y → Tallied k t (cond b x y)
    tallied-if k t true x y p q = p
    tallied-if k t false x y p q = q

    tallied : (body : ℕ) (js : List ℕ) (v : ℕ) (frame : List ℕ) (t : Tally) (zs : List ℤ) → Cells n frame → Readings (Keepable n) zs → Tallied (length zs) t (over_of go body js v frame t zs)
    unfolding over_of gathered
    tallied body js v frame t [] c r = record { values = []; same = refl; kept = tt; few = omega arith }
    tallied body js v frame t (z ∷ zs) c r =
        let after : List ℕ = set_of go (body + 1) js v (pack_of (Number z)) frame in
        let s : Cells n after = begins (body + 1) js v (pack_of (Number z)) frame c (kept-passes n (Number z) (r 0 (omega arith))) in
        let x : Value = unpack_of (get_or after body 0) in
        let u : Tally = stepped t x in
        let k : Keepable n x = value-kept n (get_or after body 0) (s body) in
        let w = tallied body js v after u zs s (λ i h. r (suc i) (omega arith)) in
        tallied-if (length (z ∷ zs)) t u.stopped u (over_of go body js v after u zs)
        (record { values = x ∷ []; same = refl; kept = (k, tt); few = omega arith })
        (record { values = x ∷ w.values; same = w.same; kept = (k, w.kept); few = omega (arith, w.few) })

    right-conclude : (kind : ℕ) (f : Option Member) (s l : ℕ) (t : Tally) → Keepable n (Window s l) → Tallied l begun t → Right n kind (conclude_of f t)
    unfolding conclude_of of_runs
    right-conclude kind None s l t w k = right-wrong kind
    right-conclude kind (Some m) s l t w k =
        let e : finished m t ≡ of_runs m k.values = ap (finished m) k.same ∙ finished-is m k.values in
        rw e (right-value n kind (of_runs m k.values) (closed-runs (Keepable n) (kept-closed n short) s l w m k.values k.few k.kept) (concluded-none m (results k.values)))

    right-finish : (frame : List ℕ) (i kind : ℕ) (p : Task) → Cells n frame → Planned kind p → Right n kind (finish_of g go frame i p)
    unfolding finish_of Planned
    right-finish frame i kind (Known a) c h = h
    right-finish frame i kind (Body body v Judge) c h =
        let js = list g.links g.waits v body in
        record {
          packed =
              function-packed n frame (get_or g.waits i 0) _
              (begins (body + 1) js v delayed_cell frame c (kept-passes n Delayed (record { held = tt; inside = tt; reasoned = tt })) body);
          function = λ z. h;
        }
    right-finish frame i kind (Body body v (Over k s l)) c h =
        let js = list g.links g.waits v body in
        let zs = readings_in g.xs s l in
        let r = readings-small (Keepable n) (kept-closed n short) g.xs small in
        let t = tallied body js v frame begun zs c (readings-of (Keepable n) (kept-closed n short) g.xs s l r) in
        right-conclude kind (member_of_kind k) s l _ h.1 (record { values = t.values; same = t.same; kept = t.kept; few = omega (arith, t.few, readings-short g.xs s l) })

  -- ---- the entries

  leaf-stays : (go : Go) (frame : List ℕ) (i : ℕ) → ltb (kind_at g.links i) function_kind ≡ true
      → finish_of g go frame i (plan_of g frame i) ≡ get_or frame i 0
  unfolding finish_of plan_of
  leaf-stays go frame i e = rw e

  applied : (f : ℕ) → Goes (apply_at g f)
  unfolding apply_at
  applied zero frame c i = inl refl
  applied (suc f) frame c i =
      split (ltb (kind_at g.links i) function_kind) (λ e. rw (leaf-stays (apply_at g f) frame i e) (c i))
      (λ e. inr (right-finish (apply_at g f) (applied f) frame i (kind_at g.links i) (plan_of g frame i) c (planned frame c i e)).packed)

  pub apply-packed : (f : ℕ) (frame : List ℕ) (i : ℕ) → Cells n frame → ltb (kind_at g.links i) function_kind ≡ false
      → Right n (kind_at g.links i) (apply_at g (suc f) frame i)
  unfolding apply_at
  apply-packed f frame i c e = right-finish (apply_at g f) (applied f) frame i (kind_at g.links i) (plan_of g frame i) c (planned frame c i e)

-- ---- the frame at first: the leaves' values, and what is kept

pub leaf-packed : (size kind key : ℕ) → size ≤ table_readings → is_packed (leaf_of size kind key) size ≡ true
unfolding leaf_of
leaf-packed size kind key h =
    split (eqb kind number_kind)
    (λ a.
    let k : ℕ = key % 4294967296 + 1 in
    rw a (sym (test-number k size (omega arith)) ∙ rw (le-leb 1 k (omega arith), le-leb k 4294967296 (omega arith))))
    (λ a. split (eqb kind variable_kind) (λ b. rw (a, b) (kept-passes size Delayed (record { held = tt; inside = tt; reasoned = tt })))
    (λ b. split (eqb kind unbound_kind)
    (λ d. rw (a, b, d) (kept-passes size (Missing 1) (record { held = omega arith; inside = tt; reasoned = (omega arith, omega arith) })))
    (λ d.
    let e : window_cell + size ≡ pack_of (Window 0 size) = omega arith in
    rw (a, b, d) (rw e (kept-passes size (Window 0 size) (record { held = (omega arith, omega arith); inside = omega arith; reasoned = tt }))))))

pub zeros : (r n : ℕ) → Cells r (replicate n 0)
zeros r zero j = inl refl
zeros r (suc n) zero = inl refl
zeros r (suc n) (suc j) = zeros r n j

pub start-cells : (r size : ℕ) (links cells : List ℕ) (k i : ℕ) (frame : List ℕ) → Cells r frame
    → ((j : ℕ) → j < i + k → Cell r (start_at size links cells j)) → Cells r (start_from size links cells k i frame)
unfolding start_from
start-cells r size links cells zero i frame c h = c
start-cells r size links cells (suc k) i frame c h =
    start-cells r size links cells k (suc i) (set frame i (start_at size links cells i)) (set-cells r frame i _ c (h i (omega arith))) (λ j l. h j (omega arith))
