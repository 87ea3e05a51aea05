-- A repeated preview is finished in time, whatever but an opening comes between. Assumes nothing.
use Rattle.std.specs.Prelude.{◌≡◌, refl, true, false, cond, ◌&&◌, ℕ, suc, ◌+◌, ◌-◌, ◌*◌, ◌/◌, ◌≤◌, ◌<◌, min, eqb}
use Rattle.std.proofs.lemmas.Bool.{false≢true}
use Rattle.std.proofs.Common.{sym, ap, ◌∙◌, suc-mul, div-lt_iff_lt-mul, eqb-true}
use Rattle.std.proofs.Math.Bool.{and-eq-true_iff}
use mathlib.Core.List.{List, [], ◌∷◌}
use Rattle.std.proofs.Math.Option.{some}
use Rattle.std.proofs.Math.Nat.{add-mul}
use native.Mathlib.Omega.{arith}
use Rattle.std.proofs.Math.ListN.{get_elem?}
use Rattle.language.specs.Cases.{split}
use Rattle.model.specs.ListLaws.{member-nth, nth-insert_all}
use Rattle.model.specs.Language.{Language}
use Rattle.model.specs.Model.{State, forms, Preview, Call, Answer, finished, Outcome, left, work_out, said}
use Rattle.model.specs.Responses.{answer, next}
use Rattle.model.specs.Since.{no_opening, asks, previews_of, Sendable}
use Rattle.model.specs.Runs.{model, rounds, answers, after}
use Rattle.model.specs.Laws.{Laws}
use Rattle.model.specs.Invariant.{Invariant}
use Rattle.model.specs.Entries.{forms-hold_all, left-hold_all, forms-work_out, left-work_out, left_other}
use Rattle.model.specs.Steps.{Step, declines, opens, edits, previews, prints, step, accepts-preview}
use Rattle.model.specs.Preserved.{invariant-next}
use Rattle.model.specs.Numbers.{of-preview}

enough-rounds : (k a t : ℕ) → 1 ≤ a → rounds k a ≤ suc t → k ≤ suc t * a
unfolding rounds
enough-rounds k a t h e =
    let x : (k + (a - 1)) / a < suc (suc t) = omega arith in
    let y : k + (a - 1) < suc (suc t) * a = (div-lt_iff_lt-mul h).0 x in
    let z = suc-mul (suc t) a in
    omega arith

module _ (L : Language) where
  open L use {Form, Shown, Reading, shows}

  abbrev pub previewing : ℕ → ℕ → Call L
  previewing n a = record { enough = true; request = Preview n a }

  -- what is left below a form is no more than the allowance: the preview is finished
  pub finishes : (n a : ℕ) (f : Form) (s : State L) → get_elem? (forms L s.entries) n ≡ some f → left L f s.entries ≤ a
      → answer L s (previewing n a) ≡ finished (min a (left L f s.entries)) (shows s.recording f)
  finishes n a f s e h =
      let z : left L f (work_out L s.recording a f s.entries) ≡ 0 = (let u = left-work_out L s.recording a f s.entries in omega arith) in
      ap (λ (o : Outcome L). o.answer) (accepts-preview L s n a f e) ∙ rw z

  module _ (H : Laws L) where
    -- From s to s', no opening between, with k accepted previews of number n and allowance a: the number keeps its form, and the work left falls.
    pub record Later (n a : ℕ) (f : Form) (s s' : State L) (k : ℕ) : Type 0 where
      pub form : get_elem? (forms L s'.entries) n ≡ some f
      pub recording : s'.recording ≡ s.recording
      pub fewer : left L f s'.entries ≤ left L f s.entries - k * a

    abbrev turn : ℕ → ℕ → Call L → Answer L → ℕ
    turn n a c x = cond ((said L x).preview && asks L n a c.request) 1 0

    later-step : (n a : ℕ) (f : Form) (s : State L) (c : Call L) → Invariant L H s → get_elem? (forms L s.entries) n ≡ some f
        → (said L (answer L s c)).opening ≡ false
        → Later n a f s (next L s c) (turn n a c (answer L s c))
    later-step n a f s c i e o = go (step L H s c)
      where
        none_of : 0 * a ≡ 0
        none_of = omega arith

        one_of : 1 * a ≡ a
        one_of = omega arith

        matched : (m b : ℕ) (g : Form) → get_elem? (forms L s.entries) m ≡ some g → (eqb n m && eqb a b) ≡ true
            → left L f (work_out L s.recording b g s.entries) ≤ left L f s.entries - a
        matched m b g z p =
            let pq = (and-eq-true_iff (eqb n m) (eqb a b)).0 p in
            let nm : n ≡ m = eqb-true n m pq.0 in
            let ab : b ≡ a = sym (eqb-true a b pq.1) in
            let z' : get_elem? (forms L s.entries) n ≡ some g = ap (get_elem? (forms L s.entries)) nm ∙ z in
            let gf : g ≡ f = cc in
            let ls = left-work_out L s.recording a f s.entries in
            rw (gf, ab) (omega arith)

        go : Step L s c → Later n a f s (next L s c) (turn n a c (answer L s c))
        go (declines m at four x) = record { form = rw (x, next) e; recording = rw (x, next); fewer = rw (x, answer, next) (omega arith) }
        go (prints m bs t q x) = record { form = rw (x, next) e; recording = rw (x, next); fewer = rw (x, answer, next) (omega arith) }
        go (opens r q z x) = absurd (false≢true (sym (rw (x, answer) at o)))
        go (edits ps t order places whole q l room rd z x) =
            let fh = forms-hold_all L order s.entries in
            let same_left = left-hold_all L H.tests f order s.entries i.ordered (member-nth H.tests.equality (forms L s.entries) n f e) in
            record {
              form = rw (x, next) (rw fh (nth-insert_all H.tests.equality n f order (forms L s.entries) e));
              recording = rw (x, next);
              fewer = rw (x, answer, next) (omega arith);
            }
        go (previews m b g q z x) =
            record {
              form = rw (x, next) (rw (forms-work_out L s.recording b g s.entries) e);
              recording = rw (x, next);
              fewer =
                  rw (x, q, answer, next)
                  (rw (of-preview L (λ (x : Answer L). (said L x).preview) true _ _ _ refl refl)
                  (split (eqb n m && eqb a b)
                  (λ p. rw p (rw one_of (matched m b g z p)))
                  (λ p. rw p (rw none_of (let u = left_other L s.recording b g f s.entries in omega arith)))));
            }

    later-run : (n a : ℕ) (f : Form) (s : State L) (cs : List (Call L)) → Sendable L cs → Invariant L H s
        → get_elem? (forms L s.entries) n ≡ some f → no_opening L (answers (model L) s cs) ≡ true
        → Later n a f s (after (model L) s cs) (previews_of L n a cs (answers (model L) s cs))
    unfolding after answers previews_of no_opening
    later-run n a f s [] sent i e q = record { form = e; recording = refl; fewer = let z : 0 * a ≡ 0 = omega arith in omega arith }
    later-run n a f s (c ∷ cs) sent i e q =
        split (said L (answer L s c)).opening (λ p. absurd (false≢true (rw p at q)))
        (λ p.
        let one = later-step n a f s c i e p in
        let more = later-run n a f (next L s c) cs sent.1 (invariant-next L H s c sent.0 i) one.form (rw p at q) in
        let sum = add-mul (turn n a c (answer L s c)) (previews_of L n a cs (answers (model L) (next L s c) cs)) a in
        record { form = more.form; recording = more.recording ∙ one.recording; fewer = rw sum (omega (arith, one.fewer, more.fewer)) })

    -- with k left, the preview numbered ⌈k/a⌉ is finished, and so is each later one
    pub in-time : (n a : ℕ) (f : Form) (s : State L) (cs : List (Call L)) → Sendable L cs → Invariant L H s
        → get_elem? (forms L s.entries) n ≡ some f → 1 ≤ a
        → no_opening L (answers (model L) s cs) ≡ true → rounds (left L f s.entries) a ≤ suc (previews_of L n a cs (answers (model L) s cs))
        → (k : ℕ) × (answer L (after (model L) s cs) (previewing n a) ≡ finished k (shows s.recording f))
    in-time n a f s cs sent i e h q m =
        let t = previews_of L n a cs (answers (model L) s cs) in
        let b = enough-rounds (left L f s.entries) a t h m in
        let l = later-run n a f s cs sent i e q in
        let z = suc-mul t a in (
          min a (left L f (after (model L) s cs).entries),
          finishes n a f (after (model L) s cs) l.form (omega (arith, l.fewer))
              ∙ ap (λ (r : List Reading). finished (min a (left L f (after (model L) s cs).entries)) (shows r f)) l.recording,
        )

    -- A finished preview shows what its form shows, and leaves nothing to work out below it.
    pub record Finished (f : Form) (r : List Reading) (s : State L) (v : Shown) : Type 0 where
      pub shown : v ≡ shows r f
      pub none_left : left L f s.entries ≡ 0

    pub finished-is : (s : State L) (c : Call L) (n a : ℕ) (f : Form) (k : ℕ) (v : Shown) → c.request ≡ Preview n a
        → get_elem? (forms L s.entries) n ≡ some f
        → answer L s c ≡ finished k v → Finished f s.recording (next L s c) v
    finished-is s c n a f k v q e x = go (step L H s c)
      where
        go : Step L s c → Finished f s.recording (next L s c) v
        go (declines m at four y) = let u = rw (y, answer) at x in absurd (false≢true (cc))
        go (opens r y z w) = absurd (false≢true (cc))
        go (prints m bs t y w) = absurd (false≢true (cc))
        go (edits ps t order places whole y l room rd z w) = absurd (false≢true (cc))
        go (previews m b g y z w) =
            let nm : n ≡ m = cc in
            let z' : get_elem? (forms L s.entries) n ≡ some g = ap (get_elem? (forms L s.entries)) nm ∙ z in
            let gf : g ≡ f = cc in
            let u = rw (w, answer) at x in
            split (eqb (left L g (work_out L s.recording b g s.entries)) 0)
            (λ p. let t = rw p at u in record { shown = cc; none_left = rw (w, next) (rw (← gf) (eqb-true _ _ p)) })
            (λ p. let t = rw p at u in absurd (false≢true (cc)))

    -- work is kept: after a finished preview, until an opening, no later one of that number works anything out
    pub work-kept : (s : State L) (c : Call L) (n b : ℕ) (f : Form) (k : ℕ) (v : Shown) → c.request ≡ Preview n b
        → get_elem? (forms L s.entries) n ≡ some f → answer L s c ≡ finished k v
        → Invariant L H s → (a : ℕ) (cs : List (Call L)) → Sendable L cs → no_opening L (answers (model L) (next L s c) cs) ≡ true
        → answer L (after (model L) (next L s c) cs) (previewing n a) ≡ finished 0 v
    work-kept s c n b f k v q e x i a cs sent o =
        let one = later-step n b f s c i e (rw x) in
        let now = finished-is s c n b f k v q e x in
        let later = later-run n a f (next L s c) cs sent (invariant-next L H s c (rw q tt) i) one.form o in
        let none : left L f (after (model L) (next L s c) cs).entries ≡ 0 = omega (arith, later.fewer, now.none_left) in
        let count : min a (left L f (after (model L) (next L s c) cs).entries) ≡ 0 = omega arith in
        finishes n a f (after (model L) (next L s c) cs) later.form (omega arith) ∙ rw (count, later.recording, one.recording, now.shown)
