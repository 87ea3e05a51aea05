-- Demand 3 holds of every engine that implements the model: by its agreement with the model over every run of calls, each part of the claim is
-- what was shown of the model. Assumes nothing.
use Rattle.std.specs.Prelude.{◌≡◌, true, List, [], map, ℕ, ◌≤◌, length}
use Rattle.std.proofs.lemmas.Bool.{false≢true}
use Rattle.std.proofs.Common.{sym, ◌∙◌}
use Rattle.std.proofs.Math.Option.{some}
use Rattle.std.proofs.Math.ListN.{get_elem?}
use Rattle.language.specs.Limits.{table_readings}
use Rattle.model.specs.Language.{Language}
use Rattle.model.specs.ListLaws.{all-nth, index-nth}
use Rattle.model.specs.Model.{Entry, forms, start, opened, Open}
use Rattle.model.specs.Since.{Part, Sendable}
use Rattle.model.specs.Runs.{after}
use Rattle.model.specs.Laws.{Laws}
use Rattle.model.specs.Invariant.{Kept, bare, holds as keeps}
use Rattle.model.specs.Preserved.{never-four}
use Rattle.model.specs.Numbers.{one_number, its-number}
use Rattle.model.specs.Counts.{once}
use Rattle.model.specs.Lasting.{recording-last}
use Rattle.model.specs.Progress.{in-time, finished-is, work-kept}
use Rattle.model.specs.Fresh.{Afresh, fresh}
use Rattle.model.specs.Engine.{Engine, Sent, told, machine}
use Rattle.model.specs.Demand.{memory_after, edit, preview, Anew, calls, last, Given, Demand}
use Rattle.model.specs.Implements.{Implements}
use Rattle.model.specs.Agreement.{accepted, opens, agree, carry, carry-log, carry-end}

-- a mark is on a member or a function, and is what its form shows
module _ (L : Language) where
  open L use {Reading, Shown, works, shows}

  marked-with : (r : List Reading) (e : Entry L) (v : Shown) → Kept L r e → e.mark ≡ some v → (works e.form ≡ true) × (v ≡ shows r e.form)
  marked-with r e v (bare n) h = absurd (false≢true (cc))
  marked-with r e v (keeps w k) h = (w, cc)

module _ (L : Language) (H : Laws L) (E : Engine L) (I : Implements L H E) where
  open L use {Form, Shown, Reading, Sound}
  open E use {Memory, fits, says, leaves, holds}

  anew : (n l : Memory) (r : List Reading) (x : Part L) (places : List ℕ) (a : ℕ) (v : Shown)
      → fits n ≡ true → fits l ≡ true → length r ≤ table_readings → Sound r → Afresh L H r x places a v → Anew L E n l r x places a v
  anew n l r x places a v f g h sound fr =
      let o = opens L H E I n r f h sound in
      let e = o.1 in
      let one = agree L H E I (leaves n (Open r)) (edit L E l places x.text) tt o.0 in
      let s = one.answer in
      let k = one.holds in
      record {
        opened = (I.opening n r f h sound).answer;
        number = fr.number;
        given = rw (s, e, g) fr.given;
        times = fr.times;
        shown =
            carry-end L H E I fr.times (memory_after L E (leaves n (Open r)) (edit L E l places x.text)) (preview L E l fr.number a) tt one.cache
            ∙ rw (k, e, g) fr.shown;
      }

  pub demand : (m : Memory) (r : List Reading) (cs : List (Sent E)) → says m (Open r) ≡ opened → Sound r → Sendable L (map (told E) cs) → Demand L E m r cs
  demand m r cs acc sound sent =
      let ready = accepted L H E I m r acc in
      let o = opens L H E I m r ready.0 ready.1 sound in
      let e = o.1 in
      let run = carry L H E I (leaves m (Open r)) cs sent o.0 in
      let s = rw e at run.answers in
      let k = rw e at run.holds in
      let lg = rw e at (carry-log L H E I [] (leaves m (Open r)) cs sent o.0) in
      let i = run.cache.invariant in
      let stands : (x : Part L) → Given L E m r cs x → get_elem? (forms L (holds (last L E m r cs)).entries) x.number ≡ some x.form =
      λ x ix. rw k (its-number L H r (calls L E m r cs) x (rw s at ix)) in
      let on = once L H r (calls L E m r cs) ready.1 sound sent in
      record {
        answered = s;
        placed = rw e at run.places;
        held = k;
        recording = rw (k, s) (recording-last L H (start L r) (calls L E m r cs));
        never-four = rw s (never-four L H (start L r) (calls L E m r cs));
        distinct =
            λ p q f a b.
            sym (index-nth H.tests.equality (forms L (holds (last L E m r cs)).entries) i.distinct p f a)
            ∙ index-nth H.tests.equality (forms L (holds (last L E m r cs)).entries) i.distinct q f b;
        few = i.few;
        mark-shown =
            λ n e v a b.
            let rec : List Reading = (holds (last L E m r cs)).recording in
            marked-with L rec e v (all-nth (Kept L rec) (holds (last L E m r cs)).entries n e i.kept a) b;
        bare = I.bare (last L E m r cs) run.cache.ok;
        shown =
            λ x ix c v fin.
            let asks = fin.2 in
            let says = sym (agree L H E I (last L E m r cs) c (rw asks tt) run.cache).answer ∙ fin.3 in
            (finished-is L H (holds (last L E m r cs)) (told E c) x.number fin.0 x.form fin.1 v asks (stands x ix) says).shown;
        fresh =
            λ x ix c v fin n l places a fits-n fits-l room la.
            let asks = fin.2 in
            let says = rw k at (sym (agree L H E I (last L E m r cs) c (rw asks tt) run.cache).answer ∙ fin.3) in
            anew n l (holds (last L E m r cs)).recording x places a v fits-n fits-l i.short i.sound
            (rw k (fresh L H r (calls L E m r cs) x (rw s at ix) (told E c) fin.0 fin.1 v asks says places a room la));
        one_number = λ x y ix iy. one_number L H r (calls L E m r cs) x y (rw s at ix) (rw s at iy);
        its-number = stands;
        once = λ f. rw lg (on.once f);
        sum = rw (lg, s) on.sum;
        marked = rw (s, k) on.marked;
        in-time =
            λ x ix a la ds fw l fl ro.
            let later = carry L H E I (last L E m r cs) ds fw.sendable run.cache in
            let s' = later.answers in
            let k' = later.holds in
            let z =
            in-time L H x.number a x.form (holds (last L E m r cs)) (map (told E) ds)
            fw.sendable i (stands x ix) la (rw s' at fw.quiet) (rw s' at ro) in
            (z.0, (agree L H E I (after (machine E) (last L E m r cs) ds) (preview L E l x.number a) tt later.cache).answer ∙ rw (k', fl) z.1);
        kept =
            λ x ix c v fin a ds fw l fl.
            let asks = fin.2 in
            let one = agree L H E I (last L E m r cs) c (rw asks tt) run.cache in
            let k₁ = one.holds in
            let later = carry L H E I (memory_after L E (last L E m r cs) c) ds fw.sendable one.cache in
            let s' = later.answers in
            let k' = later.holds in
            let says = sym one.answer ∙ fin.3 in
            let z =
            work-kept L H (holds (last L E m r cs)) (told E c) x.number fin.0 x.form fin.1 v asks (stands x ix) says i a (map (told E) ds)
            fw.sendable (rw (s', k₁) at fw.quiet) in
            (agree L H E I (after (machine E) (memory_after L E (last L E m r cs) c) ds) (preview L E l x.number a) tt later.cache).answer ∙ rw (k', k₁, fl) z;
      }
