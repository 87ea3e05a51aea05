-- No form is worked out twice since an opening, and the counts in the answers add up to the forms worked out and to the marks.
-- Assumes nothing.
use Rattle.std.specs.Prelude.{◌≡◌, Bool}
use Rattle.std.proofs.lemmas.Bool.{false≢true}
use Rattle.std.proofs.Math.Path.{refl, sym, ap}
use Rattle.std.proofs.Common.{◌∙◌, arith, length-append}
use Rattle.std.proofs.Math.Bool.{true, false, cond}
use mathlib.Core.List.{List, [], ◌∷◌, ◌++◌, map}
use Prim.Native.Nat.{ℕ, zero, suc, ◌+◌, ◌≤◌}
use Rattle.std.proofs.Math.ListN.{length}
use Rattle.language.specs.Cases.{split}
use Rattle.language.specs.Limits.{table_readings}
use Rattle.model.specs.Lists.{count_if, firsts, on_firsts, occurrences}
use Rattle.model.specs.ListLaws.{count-append}
use Rattle.model.specs.Language.{Language}
use Rattle.model.specs.Model.{Entry, State, marked, start, Call, Answer, unmarked, hold_all, pending, work_out, said}
use Rattle.model.specs.Responses.{answer, next}
use Rattle.model.specs.Since.{total, Sendable}
use Rattle.model.specs.Runs.{model, marks, newly_marked, answers, after, work_log}
use Rattle.model.specs.Laws.{Laws}
use Rattle.model.specs.Entries.{marks_of, extends, marks-hold_all, marks_of-hold_all, is-pending, worked, length-worked, marks-work_out, marks_of-work_out, marks_of-one}
use Rattle.model.specs.Steps.{Step, declines, opens, edits, previews, prints, step}
use Rattle.model.specs.Preserved.{invariant-start, invariant-after}
use Rattle.model.specs.Numbers.{of-preview}

module _ (L : Language) where
  open L use {Form, Reading, Sound, same}

  new-unmarked : (gs : List Form) → newly_marked L [] (map (unmarked L) gs) ≡ []
  unfolding newly_marked
  new-unmarked [] = refl
  new-unmarked (g ∷ gs) = new-unmarked gs

  new-extended : (es : List (Entry L)) (gs : List Form) → newly_marked L es (es ++ map (unmarked L) gs) ≡ []
  unfolding newly_marked
  new-extended [] gs = new-unmarked gs
  new-extended (e ∷ es) gs = split (marked L e) (λ p. rw p (new-extended es gs)) (λ p. rw p (new-extended es gs))

  new-hold_all : (fs : List Form) (es : List (Entry L)) → newly_marked L es (hold_all L fs es) ≡ []
  new-hold_all fs es = let x = extends L fs es in rw x.is (new-extended es x.new)

  new-same : (es : List (Entry L)) → newly_marked L es es ≡ []
  unfolding newly_marked
  new-same [] = refl
  new-same (e ∷ es) = split (marked L e) (λ p. rw p (new-same es)) (λ p. rw p (new-same es))

  new-work_out : (r : List Reading) (a : ℕ) (f : Form) (es : List (Entry L)) → newly_marked L es (work_out L r a f es) ≡ worked L r a f es
  unfolding on_firsts firsts newly_marked
  new-work_out r a f [] = refl
  new-work_out r zero f (e ∷ es) = new-same (e ∷ es)
  new-work_out r (suc a) f (e ∷ es) =
      split (pending L f e)
      (λ p. let u = (is-pending L f e p).bare in rw p (rw u (ap (λ (l : List Form). e.form ∷ l) (new-work_out r a f es))))
      (λ p. let ih = new-work_out r (suc a) f es in rw p (split (marked L e) (λ q. rw q ih) (λ q. rw q ih)))

  -- One call: the rise in marked entries is the count in its answer, form by form.
  pub record Counted (s : State L) (c : Call L) : Type 0 where
    pub rise : marks L (next L s c).entries ≡ cond (said L (answer L s c)).opening 0 (marks L s.entries + (said L (answer L s c)).worked)
    pub each : (f : Form) → marks_of L f (next L s c).entries
        ≡ cond (said L (answer L s c)).opening 0 (marks_of L f s.entries + occurrences same f (newly_marked L s.entries (next L s c).entries))
    pub size : (said L (answer L s c)).opening ≡ false → length (newly_marked L s.entries (next L s c).entries) ≡ (said L (answer L s c)).worked

  counted : (H : Laws L) (s : State L) (c : Call L) → Counted s c
  unfolding count_if
  counted H s c = go (step L H s c)
    where
      go : Step L s c → Counted s c
      go (declines n at four e) =
          let z = new-same s.entries in
          record { rise = rw (e, answer, next) (omega arith); each = λ f. rw (e, answer, next) (rw z (omega arith)); size = λ q. rw (e, answer, next) (rw z) }
      go (prints n bs t q e) =
          let z = new-same s.entries in
          record { rise = rw (e, answer, next) (omega arith); each = λ f. rw (e, answer, next) (rw z (omega arith)); size = λ q. rw (e, answer, next) (rw z) }
      go (opens r q z e) = record { rise = rw (e, answer, next); each = λ f. rw (e, answer, next); size = λ o. absurd (false≢true (sym (rw (e, answer) at o))) }
      go (edits ps t order places whole q l room rd z e) =
          let u = new-hold_all order s.entries in
          let m = marks-hold_all L order s.entries in
          record {
            rise = rw (e, answer, next) (omega arith);
            each = λ f. rw (e, answer, next) (rw u (let mf = marks_of-hold_all L f order s.entries in omega arith));
            size = λ o. rw (e, answer, next) (rw u);
          }
      go (previews n a f q z e) =
          let r = s.recording in
          let u = new-work_out r a f s.entries in
          record {
            rise =
                rw (e, answer, next)
                (rw (of-preview L (λ (x : Answer L). (said L x).opening) false _ _ _ refl refl, of-preview L (λ (x : Answer L). (said L x).worked) _ _ _ _ refl refl)
                (marks-work_out L r a f s.entries));
            each = λ g. rw (e, answer, next) (rw (of-preview L (λ (x : Answer L). (said L x).opening) false _ _ _ refl refl, u) (marks_of-work_out L r a f g s.entries));
            size = λ o. rw (e, answer, next) (rw (of-preview L (λ (x : Answer L). (said L x).worked) _ _ _ _ refl refl, u) (length-worked L r a f s.entries));
          }

  module _ (H : Laws L) where
    totals-run : (s : State L) (k : ℕ) (cs : List (Call L)) → k ≡ marks L s.entries
        → total L k (answers (model L) s cs) ≡ marks L (after (model L) s cs).entries
    unfolding total answers after
    totals-run s k [] e = e
    totals-run s k (c ∷ cs) e =
        totals-run (next L s c) (cond (said L (answer L s c)).opening 0 (k + (said L (answer L s c)).worked)) cs (rw e (sym (counted H s c).rise))

    -- the forms worked out, with one call more
    abbrev logged : List Form → State L → Call L → List Form
    logged fs s c = cond (said L (answer L s c)).opening [] (fs ++ newly_marked L s.entries (next L s c).entries)

    log-marks : (f : Form) (fs : List Form) (s : State L) (cs : List (Call L)) → occurrences same f fs ≡ marks_of L f s.entries
        → occurrences same f (work_log (model L) fs s cs) ≡ marks_of L f (after (model L) s cs).entries
    unfolding work_log after
    log-marks f fs s [] e = e
    log-marks f fs s (c ∷ cs) e = log-marks f (logged fs s c) (next L s c) cs (now (said L (answer L s c)).opening ∙ sym ((counted H s c).each f))
      where
        now : (b : Bool) → occurrences same f (cond b [] (fs ++ newly_marked L s.entries (next L s c).entries))
            ≡ cond b 0 (marks_of L f s.entries + occurrences same f (newly_marked L s.entries (next L s c).entries))
        now true = unfold count_if in refl
        now false = count-append (λ (g : Form). same g f) fs (newly_marked L s.entries (next L s c).entries) ∙ rw e

    log-total : (fs : List Form) (s : State L) (cs : List (Call L))
        → length (work_log (model L) fs s cs) ≡ total L (length fs) (answers (model L) s cs)
    unfolding work_log total answers
    log-total fs s [] = refl
    log-total fs s (c ∷ cs) = log-total (logged fs s c) (next L s c) cs ∙ ap (λ (k : ℕ). total L k (answers (model L) (next L s c) cs)) now
      where
        now : length (logged fs s c) ≡ cond (said L (answer L s c)).opening 0 (length fs + (said L (answer L s c)).worked)
        now =
            split (said L (answer L s c)).opening (λ p. rw p)
            (λ p. rw p (length-append fs (newly_marked L s.entries (next L s c).entries) ∙ ap (λ (k : ℕ). length fs + k) ((counted H s c).size p)))

    -- After a run of calls from an opening.
    pub record Once (r : List Reading) (cs : List (Call L)) : Type 0 where
      pub once : (f : Form) → occurrences same f (work_log (model L) [] (start L r) cs) ≤ 1
      pub sum : total L 0 (answers (model L) (start L r) cs) ≡ length (work_log (model L) [] (start L r) cs)
      pub marked : total L 0 (answers (model L) (start L r) cs) ≡ marks L (after (model L) (start L r) cs).entries

    pub once : (r : List Reading) (cs : List (Call L)) → length r ≤ table_readings → Sound r → Sendable L cs → Once r cs
    unfolding count_if
    once r cs h sound sent =
        let i = invariant-after L H (start L r) cs sent (invariant-start L H r h sound) in
        record {
          once = λ f.
              let e = log-marks f [] (start L r) cs refl in
              let o = marks_of-one L H.tests f (after (model L) (start L r) cs).entries i.distinct in
              omega arith;
          sum = sym (log-total [] (start L r) cs);
          marked = totals-run (start L r) 0 cs refl;
        }
