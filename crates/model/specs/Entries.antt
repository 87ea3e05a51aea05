-- What edits and previews do to the entries. Assumes nothing.
use Rattle.std.specs.Prelude.{◌≡◌, Bool, true, false, not, ◌&&◌, length}
use Rattle.std.proofs.lemmas.Bool.{false≢true}
use Rattle.std.proofs.Math.Path.{refl, sym, ap}
use Rattle.std.proofs.Common.{◌∙◌, subst}
use Rattle.std.proofs.Math.Bool.{and-eq-true_iff}
use mathlib.Core.List.{List, [], ◌∷◌, ◌++◌, map, append-nil, append_assoc, append_cancel_left, map-append}
use Prim.Native.Nat.{ℕ, zero, suc, ◌+◌, ◌-◌, ◌≤◌, ◌<◌, min}
use native.Mathlib.Omega.{arith}
use borrow.Author.Tests.{not-true}
use Rattle.std.proofs.lemmas.List.{length-map}
use Rattle.language.specs.Cases.{split}
use Rattle.model.specs.Lists.{All, count_if, firsts, on_firsts, member, occurrences, insert, insert_all, Distinct}
use Rattle.model.specs.ListLaws.{length-snoc, all_append, all-always, all_map, unheld-front, count-append, count_none, count-every}
use Rattle.model.specs.ListLaws.{count_map, firsts-length, on-map, on-length, on-all, on-count, on-count-less, on-count-more}
use Rattle.model.specs.Language.{Language}
use Rattle.model.specs.Model.{Entry, forms, marked, unmarked, hold, hold_all, pending, left, mark_with, work_out}
use Rattle.model.specs.Runs.{marks}
use Rattle.model.specs.Laws.{Ordered, Tests}
use Rattle.model.specs.Forms.{reach-down, below-held}
use Rattle.model.specs.Invariant.{Kept, bare, holds, done, done_in, Settled}

module _ (L : Language) where
  open L use {Form, Shown, Reading, same, dependency, reach, works, shows}

  -- The marked entries of one form.
  abbrev pub marks_of : Form → List (Entry L) → ℕ
  marks_of f = count_if (λ (e : Entry L). marked L e && same e.form f)

  -- Edits. The forms are those inserted.
  forms-hold : (f : Form) (es : List (Entry L)) → forms L (hold L f es) ≡ insert same f (forms L es)
  unfolding hold insert
  forms-hold f es = split (member same f (forms L es)) (λ p. rw p) (λ p. rw p (map-append (λ (e : Entry L). e.form) es (unmarked L f ∷ [])))

  pub forms-hold_all : (fs : List Form) (es : List (Entry L)) → forms L (hold_all L fs es) ≡ insert_all same fs (forms L es)
  unfolding hold_all insert_all
  forms-hold_all [] es = refl
  forms-hold_all (f ∷ fs) es = forms-hold_all fs (hold L f es) ∙ ap (insert_all same fs) (forms-hold f es)

  pub length-hold_all : (fs : List Form) (es : List (Entry L)) → length (hold_all L fs es) ≤ length fs + length es
  unfolding hold_all hold
  length-hold_all [] es = omega arith
  length-hold_all (f ∷ fs) es =
      let ih = length-hold_all fs (hold L f es) in
      let z = length-snoc es (unmarked L f) in
      split (member same f (forms L es)) (λ p. let i = rw p at ih in rw p (omega arith)) (λ p. let i = rw p at ih in rw p (omega arith))

  -- The entries are extended by unmarked ones of forms that were not held.
  pub record Extends (es es' : List (Entry L)) : Type 0 where
    pub new : List Form
    pub is : es' ≡ es ++ map (unmarked L) new
    pub unheld : All (λ (g : Form). member same g (forms L es) ≡ false) new

  pub extends : (fs : List Form) (es : List (Entry L)) → Extends es (hold_all L fs es)
  unfolding hold_all hold
  extends [] es = record { new = []; is = sym (append-nil es); unheld = tt }
  extends (f ∷ fs) es =
      split (member same f (forms L es)) (λ p. rw p (extends fs es)) (λ p. rw p (more p (extends fs (es ++ (unmarked L f ∷ [])))))
    where
      before : (gs : List Form) → All (λ (g : Form). member same g (forms L (es ++ (unmarked L f ∷ []))) ≡ false) gs
          → All (λ (g : Form). member same g (forms L es) ≡ false) gs
      before [] h = tt
      before (g ∷ gs) h =
          (unheld-front same g (forms L es) (f ∷ []) (rw (map-append (λ (e : Entry L). e.form) es (unmarked L f ∷ [])) at h.0), before gs h.1)

      more : member same f (forms L es) ≡ false → {es' : List (Entry L)} → Extends (es ++ (unmarked L f ∷ [])) es' → Extends es es'
      more p x =
          record { new = f ∷ x.new; is = x.is ∙ append_assoc es (unmarked L f ∷ []) (map (unmarked L) x.new); unheld = (p, before x.new x.unheld) }

  -- an edit, told by the forms that it adds
  pub hold_all-as : (fs : List Form) (es : List (Entry L)) (added : List Form) → insert_all same fs (forms L es) ≡ forms L es ++ added
      → hold_all L fs es ≡ es ++ map (unmarked L) added
  hold_all-as fs es added e =
      let x = extends fs es in
      let all : forms L es ++ x.new ≡ forms L es ++ added =
      sym (ap (λ (l : List Form). forms L es ++ l) (forms-unmarked x.new)) ∙ sym (map-append (λ (y : Entry L). y.form) es (map (unmarked L) x.new))
      ∙ sym (ap (forms L) x.is) ∙ forms-hold_all fs es ∙ e in
      x.is ∙ ap (λ (l : List Form). es ++ map (unmarked L) l) (append_cancel_left (forms L es) x.new added all)
    where
      forms-unmarked : (gs : List Form) → forms L (map (unmarked L) gs) ≡ gs
      forms-unmarked [] = refl
      forms-unmarked (g ∷ gs) = ap (λ (l : List Form). g ∷ l) (forms-unmarked gs)

  -- a count that the new entries do not enter
  count-extended : (p : Entry L → Bool) (es es' : List (Entry L)) (x : Extends es es') → All (λ (g : Form). p (unmarked L g) ≡ false) x.new
      → count_if p es' ≡ count_if p es
  count-extended p es es' x h =
      let z = count-append p es (map (unmarked L) x.new) in
      let n = count_none p (map (unmarked L) x.new) (all_map (λ (e : Entry L). p e ≡ false) (unmarked L) x.new h) in
      rw x.is (omega arith)

  marks-by : (p : Entry L → Bool) → ((g : Form) → p (unmarked L g) ≡ false) → (fs : List Form) (es : List (Entry L))
      → count_if p (hold_all L fs es) ≡ count_if p es
  marks-by p h fs es = let x = extends fs es in count-extended p es (hold_all L fs es) x (all-always (λ (g : Form). p (unmarked L g) ≡ false) h x.new)

  pub marks-hold_all : (fs : List Form) (es : List (Entry L)) → marks L (hold_all L fs es) ≡ marks L es
  marks-hold_all = marks-by (marked L) (λ g. refl)

  pub marks_of-hold_all : (f : Form) (fs : List Form) (es : List (Entry L)) → marks_of f (hold_all L fs es) ≡ marks_of f es
  marks_of-hold_all f = marks-by (λ (e : Entry L). marked L e && same e.form f) (λ g. refl)

  pub kept-hold_all : (r : List Reading) (fs : List Form) (es : List (Entry L)) → All (Kept L r) es → All (Kept L r) (hold_all L fs es)
  kept-hold_all r fs es k =
      let x = extends fs es in
      rw x.is
      (all_append (Kept L r) es (map (unmarked L) x.new) k
      (all_map (Kept L r) (unmarked L) x.new (all-always (λ (g : Form). Kept L r (unmarked L g)) (λ g. bare refl) x.new)))

  settled-append : (pre es : List (Entry L)) (gs : List Form) → Settled L pre es → Settled L pre (es ++ map (unmarked L) gs)
  settled-append pre [] [] s = tt
  settled-append pre [] (g ∷ gs) s = (λ m d q. absurd (false≢true m), settled-append (unmarked L g ∷ pre) [] gs tt)
  settled-append pre (e ∷ es) gs s = (s.0, settled-append (e ∷ pre) es gs s.1)

  pub settled-hold_all : (fs : List Form) (es : List (Entry L)) → Settled L [] es → Settled L [] (hold_all L fs es)
  settled-hold_all fs es s = let x = extends fs es in rw x.is (settled-append [] es x.new s)

  -- Previews.
  pub record Pending (f : Form) (e : Entry L) : Type 0 where
    pub bare : marked L e ≡ false
    pub works : works e.form ≡ true
    pub below : reach e.form f ≡ true

  pub is-pending : (f : Form) (e : Entry L) → pending L f e ≡ true → Pending f e
  unfolding pending
  is-pending f e h =
      let p = (and-eq-true_iff (not (marked L e)) (works e.form && reach e.form f)).0 h in
      let q = (and-eq-true_iff (works e.form) (reach e.form f)).0 p.1 in
      record { bare = not-true (marked L e) p.0; works = q.0; below = q.1 }

  -- a marked entry is pending no longer, and keeps its form
  mark-ends : (r : List Reading) (f : Form) (e : Entry L) → pending L f (mark_with L r e) ≡ false
  unfolding pending
  mark-ends r f e = refl

  module _ (r : List Reading) (a : ℕ) (f : Form) where
    pub forms-work_out : (es : List (Entry L)) → forms L (work_out L r a f es) ≡ forms L es
    forms-work_out = on-map (pending L f) (mark_with L r) (λ (e : Entry L). e.form) (λ e. refl) a

    pub length-work_out : (es : List (Entry L)) → length (work_out L r a f es) ≡ length es
    length-work_out = on-length (pending L f) (mark_with L r) a

    pub left-work_out : (es : List (Entry L)) → left L f (work_out L r a f es) ≡ left L f es - a
    left-work_out = on-count (pending L f) (mark_with L r) (mark-ends r f) a

    pub left_other : (g : Form) (es : List (Entry L)) → left L g (work_out L r a f es) ≤ left L g es
    left_other g = on-count-less (pending L f) (mark_with L r) (pending L g) (mark-ends r g) a

    -- the forms that it marks
    abbrev pub worked : List (Entry L) → List Form
    worked es = forms L (firsts (pending L f) a es)

    pub length-worked : (es : List (Entry L)) → length (worked es) ≡ min a (left L f es)
    length-worked es = length-map (firsts (pending L f) a es) (λ (e : Entry L). e.form) ∙ firsts-length (pending L f) a es

    marks-more : (q : Entry L → Bool) (g : Form → Bool) → ((e : Entry L) → marked L e ≡ false → q e ≡ false)
        → ((e : Entry L) → q (mark_with L r e) ≡ g e.form)
        → (es : List (Entry L)) → count_if q (work_out L r a f es) ≡ count_if q es + count_if g (worked es)
    marks-more q g fails is es =
        on-count-more (pending L f) (mark_with L r) q (λ (e : Entry L). g e.form) (λ e h. fails e (is-pending f e h).bare) is a es
        ∙ ap (λ (k : ℕ). count_if q es + k) (count_map g (λ (e : Entry L). e.form) (firsts (pending L f) a es))

    pub marks-work_out : (es : List (Entry L)) → marks L (work_out L r a f es) ≡ marks L es + min a (left L f es)
    marks-work_out es =
        marks-more (marked L) (λ (g : Form). true) (λ e h. h) (λ e. refl) es
        ∙ ap (λ (k : ℕ). marks L es + k) (count-every (λ (g : Form). true) (λ g. refl) (worked es) ∙ length-worked es)

    pub marks_of-work_out : (g : Form) (es : List (Entry L)) → marks_of g (work_out L r a f es) ≡ marks_of g es + occurrences same g (worked es)
    marks_of-work_out g = marks-more (λ (e : Entry L). marked L e && same e.form g) (λ (x : Form). same x g) (λ e h. rw h) (λ e. refl)

    pub kept-work_out : (es : List (Entry L)) → All (Kept L r) es → All (Kept L r) (work_out L r a f es)
    kept-work_out = on-all (pending L f) (mark_with L r) (Kept L r) (λ e h. holds (is-pending f e h).works refl) a

  settled-more : (pre pre' es : List (Entry L)) → ((d : Form) → done_in L d pre ≡ true → done_in L d pre' ≡ true) → Settled L pre es → Settled L pre' es
  unfolding done_in
  settled-more pre pre' [] h s = tt
  settled-more pre pre' (e ∷ es) h s = (
    λ m d q. h d (s.0 m d q),
    settled-more (e ∷ pre) (e ∷ pre') es (λ d q. split (same e.form d) (λ p. rw p (rw p at q)) (λ p. rw p (h d (rw p at q)))) s.1,
  )

  pub not-pending : (f : Form) (e : Entry L) → pending L f e ≡ false → reach e.form f ≡ true → done L e ≡ true
  unfolding pending done
  not-pending f e h q = split (marked L e) (λ p. rw p) (λ p. rw p (split (works e.form) (λ w. absurd (false≢true (sym (rw (p, w, q) at h)))) (λ w. rw w)))

  marks_of-none : (f : Form) (es : List (Entry L)) → member same f (forms L es) ≡ false → marks_of f es ≡ 0
  unfolding count_if member
  marks_of-none f [] h = refl
  marks_of-none f (e ∷ es) h =
      split (same e.form f) (λ p. absurd (false≢true (sym (rw p at h))))
      (λ p. rw p (split (marked L e) (λ q. rw q (marks_of-none f es (rw p at h))) (λ q. rw q (marks_of-none f es (rw p at h)))))

  module _ (T : Tests L) where
    -- no form has two marks
    pub marks_of-one : (f : Form) (es : List (Entry L)) → Distinct same (forms L es) → marks_of f es ≤ 1
    unfolding count_if
    marks_of-one f [] h = omega arith
    marks_of-one f (e ∷ es) h =
        split (same e.form f)
        (λ p.
        let z = marks_of-none f es (subst (λ (x : Form). member same x (forms L es) ≡ false) (T.equality.equal e.form f p) h.0) in
        split (marked L e && same e.form f) (λ q. rw q (omega arith)) (λ q. rw q (omega arith)))
        (λ p. let ih = marks_of-one f es h.1 in rw p (split (marked L e) (λ q. rw q ih) (λ q. rw q ih)))

    -- an edit leaves what is to work out below a form held
    pub left-hold_all : (f : Form) (fs : List Form) (es : List (Entry L)) → Ordered L [] (forms L es) → member same f (forms L es) ≡ true
        → left L f (hold_all L fs es) ≡ left L f es
    left-hold_all f fs es o m = let x = extends fs es in count-extended (pending L f) es (hold_all L fs es) x (unreached x.new x.unheld)
      where
        unreached : (gs : List Form) → All (λ (g : Form). member same g (forms L es) ≡ false) gs
            → All (λ (g : Form). pending L f (unmarked L g) ≡ false) gs
        unreached [] h = tt
        unreached (g ∷ gs) h = (
          split (pending L f (unmarked L g))
              (λ p. absurd (false≢true (sym h.0 ∙ below-held L T (forms L es) o f g m (is-pending f (unmarked L g) p).below)))
              (λ p. p),
          unreached gs h.1,
        )

    -- marks stay closed under dependencies
    pub settled-work_out : (r : List Reading) (a : ℕ) (f : Form) (pre pre' es : List (Entry L))
        → ((d : Form) → done_in L d pre ≡ true → done_in L d pre' ≡ true)
        → ((d : Form) → reach d f ≡ true → member same d (forms L pre') ≡ true → 0 < a → done_in L d pre' ≡ true)
        → Ordered L (forms L pre') (forms L es) → Settled L pre es → Settled L pre' (work_out L r a f es)
    unfolding on_firsts done_in done member
    settled-work_out r a f pre pre' [] grow all o s = tt
    settled-work_out r zero f pre pre' (e ∷ es) grow all o s = settled-more pre pre' (e ∷ es) grow s
    settled-work_out r (suc a) f pre pre' (e ∷ es) grow all o s =
        split (pending L f e)
        (λ p. rw p (
          λ m d q. all d (reach-down L T d e.form f q (is-pending f e p).below) (o.0 d q) (omega arith),
          settled-work_out r a f (e ∷ pre) (mark_with L r e ∷ pre') es
              (λ d q. split (same e.form d) (λ u. rw u) (λ u. rw u (grow d (rw u at q))))
              (λ d q m z. split (same e.form d) (λ u. rw u) (λ u. rw u (all d q (rw u at m) (omega arith))))
              o.1 s.1,
        ))
        (λ p. rw p (
          λ m d q. grow d (s.0 m d q),
          settled-work_out r (suc a) f (e ∷ pre) (e ∷ pre') es
              (λ d q. split (same e.form d) (λ u. rw u (rw u at q)) (λ u. rw u (grow d (rw u at q))))
              (λ d q m z. split (same e.form d)
              (λ u. rw u (not-pending f e p (subst (λ (x : Form). reach x f ≡ true) (sym (T.equality.equal e.form d u)) q)))
              (λ u. rw u (all d q (rw u at m) z)))
              o.1 s.1,
        ))
