-- A preview by numbers, second half: going up, each flagged entry that is to be worked out is worked out from the entries as they are then.
-- That is what the model's preview does. Assumes nothing.
use Rattle.std.specs.Prelude.{◌≡◌, Bool, false, cond, not, ◌&&◌, length}
use Rattle.std.proofs.lemmas.Bool.{false≢true}
use Rattle.std.proofs.Math.Path.{refl, sym, ap}
use Rattle.std.proofs.Common.{◌∙◌, subst, ⊎_elim}
use Rattle.std.proofs.Math.Bool.{true}
use mathlib.Core.List.{List, [], ◌∷◌, ◌++◌, map-append}
use Rattle.std.proofs.Math.Option.{Option, none, some}
use Prim.Native.Nat.{ℕ, zero, suc, ◌+◌, ◌≤◌, ◌<◌}
use native.Mathlib.Omega.{arith}
use Rattle.std.proofs.Math.ListN.{get_elem?}
use Rattle.std.proofs.Math.Seq.{append_snoc}
use Rattle.language.specs.Cases.{split}
use Rattle.model.specs.Lists.{All, count_if, on_firsts}
use Rattle.model.specs.Language.{Language}
use Rattle.model.specs.ListLaws.{nth-front, nth_seam, nth-map, old_or_last, length-snoc, all_append, count-none-nth, on-zero, on_none}
use Rattle.model.specs.Model.{Entry, State, forms, marked, pending, left, mark_with, work_out}
use Rattle.model.specs.Laws.{Tests, Laws}
use Rattle.model.specs.Invariant.{Kept, holds, done, Invariant}
use Rattle.model.specs.Entries.{is-pending, not-pending}
use Rattle.model.specs.Graph.{Graph, GraphLaws, Stands, links_at}
use Rattle.model.specs.Sweep.{needed, swept, above, linked}

module _ (L : Language) where
  open L use {Form, Shown, Reading, reach, works, shows}

  -- the entries with number p marked
  unfoldable pub mark_at : ℕ → Shown → List (Entry L) → List (Entry L)
  mark_at p v [] = []
  mark_at zero v (e ∷ es) = record { form = e.form; mark = some v } ∷ es
  mark_at (suc p) v (e ∷ es) = e ∷ mark_at p v es

  -- Where each entry below it is done, the value worked out for a number is what its form shows.
  abbrev pub Values : List Reading → List Form → (List (Entry L) → ℕ → Shown) → Type 0
  Values r fs value = (es : List (Entry L)) (p : ℕ) (e : Entry L) → forms L es ≡ fs → All (Kept L r) es → get_elem? es p ≡ some e → works e.form ≡ true
      → ((j : ℕ) (x : Entry L) → j < p → get_elem? es j ≡ some x → reach x.form e.form ≡ true → done L x ≡ true) → value es p ≡ shows r e.form

  mark-seam : (xs : List (Entry L)) (e : Entry L) (ys : List (Entry L)) (v : Shown)
      → mark_at (length xs) v (xs ++ (e ∷ ys)) ≡ xs ++ (record { form = e.form; mark = some v } ∷ ys)
  unfolding mark_at
  mark-seam [] e ys v = refl
  mark-seam (x ∷ xs) e ys v = ap (λ (l : List (Entry L)). x ∷ l) (mark-seam xs e ys v)

  forms-seam : (xs : List (Entry L)) (e e' : Entry L) (ys : List (Entry L)) → e'.form ≡ e.form
      → forms L ((xs ++ (e' ∷ [])) ++ ys) ≡ forms L (xs ++ (e ∷ ys))
  forms-seam xs e e' ys q =
      rw append_snoc
      (map-append (λ (x : Entry L). x.form) xs (e' ∷ ys)
      ∙ ap (λ (g : Form). forms L xs ++ (g ∷ forms L ys)) q
      ∙ sym (map-append (λ (x : Entry L). x.form) xs (e ∷ ys)))

module _ (L : Language) (flag : ℕ → Bool) where
  open L use {Form, Shown, Reading, reach, works, shows}

  -- number p is one to work out
  abbrev pub chosen : ℕ → Option (Entry L) → Bool
  chosen p none = false
  chosen p (some e) = not (marked L e) && (works e.form && flag p)

  -- how many of the k numbers from p on are
  unfoldable pub chosen_from : ℕ → ℕ → List (Entry L) → ℕ
  chosen_from zero p es = 0
  chosen_from (suc k) p es = cond (chosen p (get_elem? es p)) (suc (chosen_from k (suc p) es)) (chosen_from k (suc p) es)

  -- The loop over k numbers from p on; it works out a of them at most.
  unfoldable pub upward : (List (Entry L) → ℕ → Shown) → ℕ → ℕ → ℕ → List (Entry L) → List (Entry L)
  upward value zero p a es = es
  upward value (suc k) p zero es = es
  upward value (suc k) p (suc a) es =
      cond (chosen p (get_elem? es p)) (upward value k (suc p) a (mark_at L p (value es p) es))
      (upward value k (suc p) (suc a) es)

  -- the entries ys, from number p on: their flags say what lies at or below f, and past the next k none is to be worked out
  pub record Flagged (f : Form) (k p : ℕ) (ys : List (Entry L)) : Type 0 where
    pub room : k ≤ length ys
    pub told : (i : ℕ) (e : Entry L) → get_elem? ys i ≡ some e → flag (p + i) ≡ reach e.form f
    pub past : (i : ℕ) (e : Entry L) → get_elem? ys i ≡ some e → k ≤ i → pending L f e ≡ false

  flagged-tail : (f : Form) (k p : ℕ) (e : Entry L) (ys : List (Entry L)) → Flagged f (suc k) p (e ∷ ys) → Flagged f k (suc p) ys
  flagged-tail f k p e ys h =
      record {
        room = let z = h.room in omega arith;
        told = λ i x g. let q : p + suc i ≡ suc p + i = omega arith in rw q at (h.told (suc i) x g);
        past = λ i x g l. h.past (suc i) x g (omega arith);
      }

  chosen-first : (f : Form) (k p : ℕ) (e : Entry L) (ys : List (Entry L)) → Flagged f k p (e ∷ ys) → chosen p (some e) ≡ pending L f e
  unfolding pending
  chosen-first f k p e ys h = let q : p + 0 ≡ p = omega arith in let u = rw q at (h.told 0 e refl) in rw u

  chosen-seam : (f : Form) (k : ℕ) (xs : List (Entry L)) (e : Entry L) (ys : List (Entry L)) → Flagged f k (length xs) (e ∷ ys)
      → chosen (length xs) (get_elem? (xs ++ (e ∷ ys)) (length xs)) ≡ pending L f e
  chosen-seam f k xs e ys h = ap (chosen (length xs)) (nth_seam xs e ys) ∙ chosen-first f k (length xs) e ys h

  -- xs are behind, ys are ahead
  chosen-left : (f : Form) (k : ℕ) (xs ys : List (Entry L)) → Flagged f k (length xs) ys → chosen_from k (length xs) (xs ++ ys) ≡ left L f ys
  unfolding chosen_from count_if
  chosen-left f zero xs ys h = sym (count-none-nth (pending L f) ys (λ i e g. h.past i e g (omega arith)))
  chosen-left f (suc k) xs [] h = absurd (let z = h.room in omega arith)
  chosen-left f (suc k) xs (e ∷ ys) h =
      let n = length-snoc xs e in
      let ih = chosen-left f k (xs ++ (e ∷ [])) ys (rw n (flagged-tail f k (length xs) e ys h)) in
      let more : chosen_from k (suc (length xs)) (xs ++ (e ∷ ys)) ≡ left L f ys = rw (append_snoc, n) at ih in
      rw (chosen-seam f (suc k) xs e ys h) (split (pending L f e) (λ u. rw u (ap suc more)) (λ u. rw u more))

  -- one entry on
  visit : (value : List (Entry L) → ℕ → Shown) (k a : ℕ) (xs : List (Entry L)) (e : Entry L) (ys zs : List (Entry L))
      → upward value k (length (xs ++ (e ∷ []))) a ((xs ++ (e ∷ [])) ++ ys) ≡ (xs ++ (e ∷ [])) ++ zs
      → upward value k (suc (length xs)) a (xs ++ (e ∷ ys)) ≡ xs ++ (e ∷ zs)
  visit value k a xs e ys zs h = rw (length-snoc xs e, append_snoc xs e ys, append_snoc xs e zs) at h

  module _ (T : Tests L) (r : List Reading) (fs : List Form) (value : List (Entry L) → ℕ → Shown) (values : Values L r fs value) (f : Form) where
    -- while the allowance lasts, all behind that lies at or below f is done
    abbrev Behind : ℕ → List (Entry L) → Type 0
    Behind a xs = 0 < a → (j : ℕ) (x : Entry L) → get_elem? xs j ≡ some x → reach x.form f ≡ true → done L x ≡ true

    behind-snoc : (a b : ℕ) (xs : List (Entry L)) (e : Entry L) → 0 < a → Behind a xs → (reach e.form f ≡ true → done L e ≡ true)
        → Behind b (xs ++ (e ∷ []))
    behind-snoc a b xs e la h new z j x g q =
        ⊎_elim (λ o. h la j x o.1 q)
        (λ o. subst (λ (y : Entry L). done L y ≡ true) o.1 (new (subst (λ (y : Entry L). reach y.form f ≡ true) (sym o.1) q)))
        (old_or_last xs e j x g)

    upward-work_out : (k a : ℕ) (xs ys : List (Entry L)) → Flagged f k (length xs) ys → forms L (xs ++ ys) ≡ fs → All (Kept L r) xs
        → All (Kept L r) ys → Behind a xs
        → upward value k (length xs) a (xs ++ ys) ≡ xs ++ work_out L r a f ys
    unfolding upward on_firsts done
    upward-work_out zero a xs ys h fm kx ky be =
        ap (λ (l : List (Entry L)). xs ++ l) (sym (on_none (pending L f) (mark_with L r) a ys (λ i e g. h.past i e g (omega arith))))
    upward-work_out (suc k) zero xs ys h fm kx ky be = ap (λ (l : List (Entry L)). xs ++ l) (sym (on-zero (pending L f) (mark_with L r) ys))
    upward-work_out (suc k) (suc a) xs [] h fm kx ky be = absurd (let z = h.room in omega arith)
    upward-work_out (suc k) (suc a) xs (e ∷ ys) h fm kx ky be =
        let go : (b : ℕ) (e' : Entry L) → e'.form ≡ e.form → Kept L r e' → (reach e'.form f ≡ true → done L e' ≡ true)
        → upward value k (suc (length xs)) b (xs ++ (e' ∷ ys)) ≡ xs ++ (e' ∷ work_out L r b f ys) =
        λ b e' q kp new.
        visit value k b xs e' ys (work_out L r b f ys)
        (upward-work_out k b (xs ++ (e' ∷ [])) ys (rw (length-snoc xs e') (flagged-tail f k (length xs) e ys h)) (forms-seam L xs e e' ys q ∙ fm)
        (all_append (Kept L r) xs (e' ∷ []) kx (kp, tt)) ky.1 (behind-snoc (suc a) b xs e' (omega arith) be new)) in
        rw (chosen-seam f (suc k) xs e ys h)
        (split (pending L f e)
        (λ u.
        let w = is-pending L f e u in
        let v : value (xs ++ (e ∷ ys)) (length xs) ≡ shows r e.form =
        values (xs ++ (e ∷ ys)) (length xs) e fm (all_append (Kept L r) xs (e ∷ ys) kx ky) (nth_seam xs e ys) w.works
        (λ j x l g q. be (omega arith) j x (sym (nth-front xs (e ∷ ys) j l) ∙ g) (T.reach-through x.form e.form f q w.below)) in
        rw (u, v, mark-seam L xs e ys (shows r e.form)) (go a (mark_with L r e) refl (holds w.works refl) (λ q. refl)))
        (λ u. rw u (go (suc a) e refl ky.0 (not-pending L f e u))))

-- A preview of number n in a state of the model for whose forms a table stands: the loop goes over the numbers up to n, or further.
module _ (L : Language) (H : Laws L) (G : Graph L) (B : GraphLaws L G) (s : State L) (i : Invariant L H s)
    (ns : List G.Node) (st : Stands L G ns (forms L s.entries))
    (n : ℕ) (f : L.Form) (e : get_elem? (forms L s.entries) n ≡ some f) (k : ℕ) (over : n < k) (within : k ≤ length s.entries) where
  reached : (j : ℕ) (x : Entry L) → get_elem? s.entries j ≡ some x → needed L G ns n j ≡ L.reach x.form f
  reached j x h =
      swept L (forms L s.entries) (links_at L G ns) H.tests (linked L G B ns (forms L s.entries) st) n f e i.distinct j x.form
      (nth-map (λ (y : Entry L). y.form) s.entries j x h)

  flagged : Flagged L (needed L G ns n) f k 0 s.entries
  flagged =
      record {
        room = within;
        told = λ j x h. let o : 0 + j ≡ j = omega arith in rw o (reached j x h);
        past = λ j x h l.
            let z =
            sym (reached j x h)
            ∙ above L (forms L s.entries) (links_at L G ns) H.tests (linked L G B ns (forms L s.entries) st) n f e j (omega arith) in
            split (pending L f x) (λ p. absurd (false≢true (sym z ∙ (is-pending L f x p).below))) (λ p. p);
      }

  -- how many are to be worked out
  pub counts-as-model : chosen_from L (needed L G ns n) k 0 s.entries ≡ left L f s.entries
  counts-as-model = chosen-left L (needed L G ns n) f k [] s.entries flagged

  -- the entries afterwards
  pub works-as-model : (value : List (Entry L) → ℕ → L.Shown) → Values L s.recording (forms L s.entries) value → (a : ℕ)
      → upward L (needed L G ns n) value k 0 a s.entries ≡ work_out L s.recording a f s.entries
  works-as-model value v a =
      upward-work_out L (needed L G ns n) H.tests s.recording (forms L s.entries) value v f k a
      [] s.entries flagged refl tt i.kept (λ z j x g q. absurd (false≢true (cc)))
