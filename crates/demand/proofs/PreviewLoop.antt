-- The loop of a preview over the table: each flagged entry that is to be worked out is kept as what its form shows, lowest number first, up
-- to the allowance. That is the model's loop over the entries held. Assumes nothing.
use Rattle.std.specs.Prelude.{◌≡◌, Bool, false, cond, not, ◌&&◌, List, [], ◌∷◌, map, ◌⊎◌, leb, ltb, ℤ, length, set}
use Rattle.std.proofs.Math.Path.{refl, sym, ap}
use Rattle.std.proofs.Common.{◌∙◌, inl, inr}
use Rattle.std.proofs.Math.Bool.{true, and-eq-true_iff}
use Rattle.std.proofs.Math.Option.{none, some}
use Prim.Native.Nat.{ℕ, zero, suc, ◌+◌, ◌*◌, ◌-◌, ◌<◌, ◌≤◌}
use native.Mathlib.Omega.{arith}
use borrow.Author.Tests.{eqb-true, eqb-false, leb-true, leb-false, ltb-true, ltb-false}
use Rattle.std.proofs.Math.Dec.{eqb}
use Rattle.std.proofs.Math.ListN.{get_or, get_elem?, length-set}
use Rattle.std.proofs.Math.Seq.{get_or-set_same, get_or-set_other}
use Rattle.language.specs.Cases.{split}
use Rattle.language.specs.Limits.{table_entries}
use Rattle.values.specs.Packing.{pack_of}
use Rattle.meaning.specs.Forms.{Form, readings, works, name_of, name_in}
use Rattle.meaning.specs.Evaluation.{value_of, nowhere, evaluate, awaited, Shown, shows}
use Rattle.model.specs.Lists.{is_some}
use Rattle.model.specs.Language.{Language}
use Rattle.model.specs.Model as Model
use Rattle.model.specs.Previews as Previews
use Rattle.model.specs.Previews.{mark_at, upward, chosen_from}
use Rattle.layout.specs.Memory.{Kept, kept_at, entries_from, nothing_kept}
use Rattle.layout.specs.Links.{entry_cells, kind_at, key_at, value_at}
use Rattle.layout.specs.LinksLaws.{kept-length as keep-length, kept-key as keep-key, kept-apart as keep_apart, kept_here as keep-here}
use Rattle.layout.specs.Nodes.{function_kind, works_kind}
use Rattle.table.specs.Waits.{slot_a, slot_b}
use Rattle.evaluator.specs.Applying.{graph, apply_at}
use Rattle.schedule.specs.Works.{chosen, name_for, other_for, kept, work_from}
use Rattle.refine.specs.Shows.{slot_names}
use Rattle.refine.specs.Tables.{Good, Link, Sees, here, down, kept_entry}
use Rattle.refine.specs.Meaning.{apply-right}
use Rattle.refine.specs.Counts.{chosen_in}
use Rattle.formulas.specs.Formulas.{formulas}
use Rattle.demand.specs.Holds.{with_marks, mark_of, kept_for}
use Rattle.demand.proofs.Starts.{shown-value, kept-cells}

-- form i, what it shows, and the cell of its value
abbrev pub form_at : List Form → ℕ → Form
form_at fs i = get_or fs i readings

abbrev pub shown_at : List ℤ → List Form → ℕ → Shown
shown_at xs fs i = shows xs (form_at fs i)

abbrev pub cell_at : List ℤ → List Form → ℕ → ℕ
cell_at xs fs i = pack_of (value_of (evaluate xs nowhere (form_at fs i)))

-- what c entries hold
abbrev pub held : List ℕ → List Form → ℕ → List ℕ → List (Model.Entry formulas)
held links fs c cells = with_marks fs (entries_from links cells 0 c)

-- the model's loop, one number on
module _ (L : Language) (flag : ℕ → Bool) (value : List (Model.Entry L) → ℕ → L.Shown) where
  upward-none : (k p : ℕ) (es : List (Model.Entry L)) → upward L flag value k p 0 es ≡ es
  unfolding upward
  upward-none zero p es = refl
  upward-none (suc k) p es = refl

  upward-skip : (k p a : ℕ) (es : List (Model.Entry L)) → Previews.chosen L flag p (get_elem? es p) ≡ false → upward L flag value (suc k) p a es ≡ upward L flag value k (suc p) a es
  unfolding upward
  upward-skip k p zero es h = sym (upward-none k (suc p) es)
  upward-skip k p (suc a) es h = rw h

  upward-take : (k p a b : ℕ) (es : List (Model.Entry L)) → Previews.chosen L flag p (get_elem? es p) ≡ true → a ≡ suc b
      → upward L flag value (suc k) p a es ≡ upward L flag value k (suc p) b (mark_at L p (value es p) es)
  unfolding upward
  upward-take k p a b es h q = rw (q, h)

-- entries held, number by number
joined-nth : (fs : List Form) (links cells : List ℕ) (p k i : ℕ) → length fs ≡ k → i < k
    → get_elem? (with_marks fs (entries_from links cells p k)) i ≡ some (record { form = form_at fs i; mark = mark_of (kept_at cells (p + i)) })
unfolding with_marks entries_from
joined-nth [] links cells p k i l h = absurd (omega arith)
joined-nth (f ∷ fs) links cells p zero i l h = absurd (omega arith)
joined-nth (f ∷ fs) links cells p (suc k) zero l h = let z : p + 0 ≡ p = omega arith in rw z
joined-nth (f ∷ fs) links cells p (suc k) (suc i) l h = let z : p + suc i ≡ suc p + i = omega arith in rw z (joined-nth fs links cells (suc p) k i (omega arith) (omega arith))

pub held-nth : (links : List ℕ) (fs : List Form) (c : ℕ) (cells : List ℕ) (i : ℕ) → length fs ≡ c → i < c
    → get_elem? (held links fs c cells) i ≡ some (record { form = form_at fs i; mark = mark_of (kept_at cells i) })
held-nth links fs c cells i l h = let z : 0 + i ≡ i = omega arith in rw z at (joined-nth fs links cells 0 c i l h)

joined_same : (fs : List Form) (links cells now : List ℕ) (p k : ℕ) → ((j : ℕ) → p ≤ j → kept_at now j ≡ kept_at cells j)
    → with_marks fs (entries_from links now p k) ≡ with_marks fs (entries_from links cells p k)
unfolding with_marks entries_from
joined_same [] links cells now p k h = refl
joined_same (f ∷ fs) links cells now p zero h = refl
joined_same (f ∷ fs) links cells now p (suc k) h = λ t. record { form = f; mark = mark_of (h p (omega arith) t) } ∷ joined_same fs links cells now (suc p) k (λ j l. h j (omega arith)) t

-- one of them is marked
joined-mark : (fs : List Form) (links cells now : List ℕ) (p k i : ℕ) (v : Shown) → length fs ≡ k → i < k → mark_of (kept_at now (p + i)) ≡ some v
    → ((j : ℕ) → (j ≡ p + i → ⊥) → kept_at now j ≡ kept_at cells j)
    → with_marks fs (entries_from links now p k) ≡ mark_at formulas i v (with_marks fs (entries_from links cells p k))
unfolding with_marks entries_from mark_at
joined-mark [] links cells now p k i v l h e o = absurd (omega arith)
joined-mark (f ∷ fs) links cells now p zero i v l h e o = absurd (omega arith)
joined-mark (f ∷ fs) links cells now p (suc k) zero v l h e o =
    let z : p + 0 ≡ p = omega arith in
    let q : mark_of (kept_at now p) ≡ some v = rw z at e in
    λ t. record { form = f; mark = q t } ∷ joined_same fs links cells now (suc p) k (λ j g. o j (λ u. omega arith)) t
joined-mark (f ∷ fs) links cells now p (suc k) (suc i) v l h e o =
    let z : p + suc i ≡ suc p + i = omega arith in
    λ t. record { form = f; mark = mark_of (o p (λ u. omega arith) t) } ∷ joined-mark fs links cells now (suc p) k i v (omega arith) (omega arith) (rw z at e) (λ j g. o j (λ u. g (omega arith))) t

-- what a preview of entry n, of c entries that stand for the forms fs, is given
pub record Ready (links cells waits flags : List ℕ) (xs : List ℤ) (fs : List Form) (c n : ℕ) (flag : ℕ → Bool) : Type 0 where
  pub size : length fs ≡ c
  pub inside : n < c
  pub room : entry_cells * c ≤ length cells
  pub good : Good links cells waits xs (suc n) (form_at fs)
  pub names : (i : ℕ) → i ≤ n → slot_names cells (get_or waits i 0) ≡ map name_in (awaited (form_at fs i))
  pub full : (i : ℕ) → i ≤ n → leb 1 (slot_a (get_or waits i 0)) ≡ false → leb 1 (slot_b (get_or waits i 0)) ≡ false
  pub keys : (i : ℕ) → i ≤ n → function_kind ≤ kind_at links i → key_at cells i ≡ name_in (name_of (form_at fs i))
  pub works : (i : ℕ) → i < c → works (form_at fs i) ≡ works_kind (kind_at links i)
  pub marks : (i : ℕ) → i < c → mark_of (kept_for (shown_at xs fs i)) ≡ some (shown_at xs fs i)
  -- what is flagged, and what it depends on
  pub told : (i : ℕ) → eqb (get_or flags i 0) 1 ≡ flag i
  pub closed : (i d : ℕ) → i ≤ n → Link links i d → flag i ≡ true → flag d ≡ true

-- cells with the same keys, where each entry keeps nothing or what its form shows
pub record Stored (cells : List ℕ) (xs : List ℤ) (fs : List Form) (c : ℕ) (now : List ℕ) : Type 0 where
  pub long : length now ≡ length cells
  pub keys : (j : ℕ) → key_at now j ≡ key_at cells j
  pub kept : (j : ℕ) → j < c → (kept_at now j ≡ nothing_kept) ⊎ (kept_at now j ≡ kept_for (shown_at xs fs j))

-- the frame that goes with them, where all that is flagged below i is done
pub record Framed (links : List ℕ) (xs : List ℤ) (fs : List Form) (n : ℕ) (flag : ℕ → Bool) (i : ℕ) (now frame : List ℕ) : Type 0 where
  pub size : length frame ≡ table_entries
  pub leaf : (j : ℕ) → j ≤ n → kind_at links j < function_kind → get_or frame j 0 ≡ cell_at xs fs j
  pub work : (j : ℕ) → j ≤ n → function_kind ≤ kind_at links j → get_or frame j 0 ≡ value_at now j
  pub done : (j : ℕ) → j < i → flag j ≡ true → get_or frame j 0 ≡ cell_at xs fs j

-- the loop
module _ (links cells waits flags : List ℕ) (xs : List ℤ) (fs : List Form) (c n : ℕ) (flag : ℕ → Bool) (ready : Ready links cells waits flags xs fs c n flag) where
  abbrev φ : ℕ → Form
  φ = form_at fs

  abbrev Keeping : List ℕ → Type 0
  Keeping = Stored cells xs fs c

  abbrev Going : ℕ → List ℕ → List ℕ → Type 0
  Going = Framed links xs fs n flag

  abbrev picks : List ℕ → ℕ → Bool
  picks now i = Previews.chosen formulas flag i (get_elem? (held links fs c now) i)

  -- the code chooses an entry where the model does
  swap : (a b : Bool) (v : Shown) → (a && b) ≡ (not (is_some (cond b none (some v))) && a)
  swap true true v = refl
  swap true false v = refl
  swap false true v = refl
  swap false false v = refl

  neither : (a b : Bool) → (a && false) ≡ (b && false)
  neither true true = refl
  neither true false = refl
  neither false true = refl
  neither false false = refl

  chosen-same : (i : ℕ) (now frame : List ℕ) → i ≤ n → ((function_kind ≤ kind_at links i) → get_or frame i 0 ≡ value_at now i)
      → chosen links flags frame i ≡ picks now i
  unfolding chosen kept_at
  chosen-same i now frame h e =
      let l = ready.inside in
      rw (held-nth links fs c now i ready.size (omega arith), ready.told i, ready.works i (omega arith))
      (split (works_kind (kind_at links i))
      (λ p. rw (p, e (leb-true function_kind (kind_at links i) p)) (swap (flag i) (eqb (value_at now i) 0) _))
      (λ p. rw p (neither (flag i) (not (is_some (mark_of (kept_at now i)))))))

  -- what a flagged entry sees is flagged
  seen : (i m : ℕ) → i ≤ n → Sees links φ i m → flag i ≡ true → flag m ≡ true
  seen i m h (here _) f = f
  seen i m h (down _ d _ l s up) f = let low = l.0 in seen d m (omega arith) s (ready.closed i d h l f)

  -- what is kept of an entry is its value
  kept-value : (i : ℕ) (now : List ℕ) → eqb (value_at now i) 0 ≡ false → (kept_at now i ≡ nothing_kept) ⊎ (kept_at now i ≡ kept_for (shown_at xs fs i)) → value_at now i ≡ cell_at xs fs i
  unfolding kept_at
  kept-value i now z (inl e) = absurd (eqb-false (value_at now i) 0 z (ap (λ (x : Kept). x.value) e))
  kept-value i now z (inr e) = ap (λ (x : Kept). x.value) e ∙ shown-value xs (φ i)

  module _ (i : ℕ) (now frame : List ℕ) (most : i ≤ n) (s : Keeping now) (g : Going i now frame) where
    -- an entry that is not chosen, where it is flagged, is done
    passed : chosen links flags frame i ≡ false → Going (suc i) now frame
    unfolding chosen
    passed h = record { size = g.size; leaf = g.leaf; work = g.work; done = done }
      where
        done : (j : ℕ) → j < suc i → flag j ≡ true → get_or frame j 0 ≡ cell_at xs fs j
        done j l f =
            let low = ready.inside in
            split (eqb j i)
            (λ e.
            let q = eqb-true j i e in
            let t : eqb (get_or flags i 0) 1 ≡ true = ready.told i ∙ rw q at f in
            rw q
            (split (works_kind (kind_at links i))
            (λ k. let w = g.work i most (leb-true function_kind (kind_at links i) k) in
            w ∙ kept-value i now (rw (t, k, w) at h) (s.kept i (omega arith)))
            (λ k. g.leaf i most (leb-false function_kind (kind_at links i) k))))
            (λ e. let q = eqb-false j i e in g.done j (omega arith) f)

    -- an entry that is chosen, worked out
    module _ (h : chosen links flags frame i ≡ true) where
      flagged : flag i ≡ true
      unfolding chosen
      flagged = sym (ready.told i) ∙ ((and-eq-true_iff (eqb (get_or flags i 0) 1) _).0 h).0

      kind : function_kind ≤ kind_at links i
      unfolding chosen
      kind =
          leb-true function_kind (kind_at links i)
          ((and-eq-true_iff (works_kind (kind_at links i)) _).0 ((and-eq-true_iff (eqb (get_or flags i 0) 1) _).0 h).1).0

      abbrev v : ℕ
      v = cell_at xs fs i

      value-right : apply_at (graph links waits xs) table_entries frame i ≡ v
      value-right =
          let most' = ready.good.most in
          apply-right links cells waits xs (suc n) φ ready.good table_entries nowhere tt frame i (omega arith) (omega arith) kind g.size
          (λ m l t. g.done m l (seen i m most t flagged))

      abbrev then : List ℕ
      then = kept now i v (get_or waits i 0)

      names-now : slot_names now (get_or waits i 0) ≡ map name_in (awaited (φ i))
      names-now = rw (s.keys (slot_a (get_or waits i 0) - 1), s.keys (slot_b (get_or waits i 0) - 1)) (ready.names i most)

      kept_here : kept_at then i ≡ kept_for (shown_at xs fs i)
      kept_here =
          let low = ready.inside in
          let room = ready.room in
          let l = s.long in
          keep-here now i v (name_for now i v (get_or waits i 0)) (other_for now v (get_or waits i 0)) (omega arith)
          ∙ sym (kept-cells now i (get_or waits i 0) xs (φ i) (ready.full i most) names-now
          (kept_entry links cells waits xs (suc n) φ ready.good i (omega arith) nowhere tt) ready.good.few (λ e. s.keys i ∙ ready.keys i most kind))

      kept-apart : (j : ℕ) → (j ≡ i → ⊥) → kept_at then j ≡ kept_at now j
      kept-apart = keep_apart now i v (name_for now i v (get_or waits i 0)) (other_for now v (get_or waits i 0))

      stored : Keeping then
      stored =
          record {
            long = keep-length now i v (name_for now i v (get_or waits i 0)) (other_for now v (get_or waits i 0)) ∙ s.long;
            keys = λ j. keep-key now i v (name_for now i v (get_or waits i 0)) (other_for now v (get_or waits i 0)) j ∙ s.keys j;
            kept = λ j l.
                split (eqb j i)
                (λ e. let q = eqb-true j i e in rw q (inr kept_here))
                (λ e. rw (kept-apart j (eqb-false j i e)) (s.kept j l));
          }

      framed : Going (suc i) then (set frame i v)
      unfolding kept_at
      framed =
          let most' = ready.good.most in
          let fit = g.size in
          let same = get_or-set_same frame i v 0 (omega arith) in
          record {
            size = length-set frame i v ∙ g.size;
            leaf = λ j l k. get_or-set_other frame i j v 0 (λ e. let q = kind in absurd (let k' = rw e at k in omega arith)) ∙ g.leaf j l k;
            work = λ j l k.
                split (eqb j i)
                (λ e. let q = eqb-true j i e in rw q (same ∙ sym (shown-value xs (φ i)) ∙ ap (λ (x : Kept). x.value) (sym kept_here)))
                (λ e. let q = eqb-false j i e in get_or-set_other frame i j v 0 q ∙ g.work j l k ∙ ap (λ (x : Kept). x.value) (sym (kept-apart j q)));
            done = λ j l f.
                split (eqb j i)
                (λ e. let q = eqb-true j i e in rw q same)
                (λ e. let q = eqb-false j i e in get_or-set_other frame i j v 0 q ∙ g.done j (omega arith) f);
          }

      marked : held links fs c then ≡ mark_at formulas i (shown_at xs fs i) (held links fs c now)
      marked =
          let low = ready.inside in
          let z : 0 + i ≡ i = omega arith in
          joined-mark fs links now then 0 c i (shown_at xs fs i) ready.size (omega arith) (rw (z, kept_here) (ready.marks i (omega arith))) (λ j q. kept-apart j (λ e. q (omega arith)))

  -- what the loop leaves
  pub record Left (now : List ℕ) (es : List (Model.Entry formulas)) : Type 0 where
    pub stored : Keeping now
    pub entries : held links fs c now ≡ es

  abbrev value : List (Model.Entry formulas) → ℕ → Shown
  value es p = shown_at xs fs p

  pub loop : (a k i : ℕ) (now frame : List ℕ) (count : ℕ) → i + k ≡ suc n → count ≤ a → Keeping now → Going i now frame
      → Left (work_from (apply_at (graph links waits xs) table_entries) links waits flags a k i now frame count).cells
      (upward formulas flag value k i (a - count) (held links fs c now))
  unfolding work_from upward
  loop a zero i now frame count e h s g = record { stored = s; entries = refl }
  loop a (suc k) i now frame count e h s g =
      let same = chosen-same i now frame (omega arith) (g.work i (omega arith)) in
      split (chosen links flags frame i)
      (λ p.
      rw p
      (split (ltb count a)
      (λ q.
      let less = ltb-true count a q in
      rw (
        q,
        value-right i now frame (omega arith) s g p,
        upward-take formulas flag value k i (a - count) (a - suc count) (held links fs c now) (sym same ∙ p) (omega arith),
        ← marked i now frame (omega arith) s g p,
      )
      (loop a k (suc i) _ _ (suc count) (omega arith) (omega arith) (stored i now frame (omega arith) s g p) (framed i now frame (omega arith) s g p)))
      (λ q. let most = ltb-false count a q in let z : a - count ≡ 0 = omega arith in
      rw (q, z) (record { stored = s; entries = sym (upward-none formulas flag value (suc k) i (held links fs c now)) }))))
      (λ p.
      rw (p, upward-skip formulas flag value k i (a - count) (held links fs c now) (sym same ∙ p))
      (loop a k (suc i) now frame count (omega arith) h s (passed i now frame (omega arith) s g p)))

  -- how many entries are chosen
  pub counts : (k i : ℕ) (now frame : List ℕ) → i + k ≡ suc n → ((j : ℕ) → j ≤ n → function_kind ≤ kind_at links j → get_or frame j 0 ≡ value_at now j)
      → chosen_in links flags frame k i ≡ chosen_from formulas flag k i (held links fs c now)
  unfolding chosen_in chosen_from
  counts zero i now frame e w = refl
  counts (suc k) i now frame e w = rw (chosen-same i now frame (omega arith) (w i (omega arith)), counts k (suc i) now frame (omega arith) w)
