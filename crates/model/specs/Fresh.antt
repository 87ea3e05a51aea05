-- What was sent before does not matter: a finished preview shows what its text shows after an opening over the same recording. Assumes nothing.
use Rattle.std.specs.Prelude.{◌≡◌, true, length}
use Rattle.std.proofs.Math.Bool.{false}
use mathlib.Core.List.{List, [], Memᴰ}
use Rattle.std.proofs.Math.Option.{some, or_else}
use Prim.Native.Nat.{ℕ, zero, suc, ◌-◌, ◌≤◌, ◌<◌}
use Rattle.std.proofs.Common.{arith}
use borrow.Author.Tests.{eqb-false}
use Rattle.std.proofs.Math.Dec.{eqb}
use Rattle.std.proofs.Math.ListN.{get_elem?}
use Rattle.language.specs.Cases.{split}
use Rattle.language.specs.Limits.{text_parts}
use Rattle.model.specs.Lists.{member}
use Rattle.model.specs.ListLaws.{nth-map, member-tail, member-nth, nth-index, insert_all-has}
use Rattle.model.specs.Language.{Language}
use Rattle.model.specs.Model.{State, forms, start, Edit, Preview, Call, finished, hold_all, number_of, left, work_out, previewed, said}
use Rattle.model.specs.Responses.{answer, next}
use Rattle.model.specs.Since.{Part, parts_given}
use Rattle.model.specs.Runs.{model, answers, after, in_the_end}
use Rattle.model.specs.Laws.{Laws}
use Rattle.model.specs.Entries.{forms-hold_all, length-hold_all, forms-work_out, left-work_out}
use Rattle.model.specs.Steps.{accepts-edit, accepts-preview}
use Rattle.model.specs.Numbers.{Known, known, its-number}
use Rattle.model.specs.Progress.{previewing, finished-is}

module _ (L : Language) where
  open L use {Form, Shown, Reading, same, shows}

  -- a preview repeated often enough shows in the end what its form shows
  ends : (times : ℕ) (s : State L) (n a : ℕ) (f : Form) → get_elem? (forms L s.entries) n ≡ some f → 1 ≤ a → left L f s.entries < times
      → in_the_end (model L) times s (previewing L n a) ≡ some (shows s.recording f)
  unfolding in_the_end or_else
  ends zero s n a f e h m = absurd (omega arith)
  ends (suc times) s n a f e h m =
      let z = accepts-preview L s n a f e in
      let l = left-work_out L s.recording a f s.entries in
      let w = forms-work_out L s.recording a f s.entries in
      rw (z, answer, next)
      (split (eqb (left L f (work_out L s.recording a f s.entries)) 0) (λ p. rw p)
      (λ p. rw p (ends times (previewed L s a f).state n a f (rw w e) h (less p l))))
    where
      less : eqb (left L f (work_out L s.recording a f s.entries)) 0 ≡ false
          → left L f (work_out L s.recording a f s.entries) ≡ left L f s.entries - a
          → left L f (work_out L s.recording a f s.entries) < times
      less p l = let ne = eqb-false (left L f (work_out L s.recording a f s.entries)) 0 p in omega (arith, ne)

  module _ (H : Laws L) where
    abbrev pub editing : List ℕ → List ℕ → Call L
    editing ps t = record { enough = true; request = Edit ps t }

    -- The part's text as the first edit after an opening over r: it is accepted and gives the part a number, whose preview shows v in the end.
    pub record Afresh (r : List Reading) (x : Part L) (ps : List ℕ) (a : ℕ) (v : Shown) : Type 0 where
      pub number : ℕ
      pub times : ℕ
      pub given : get_elem? (said L (answer L (start L r) (editing ps x.text))).numbers x.place ≡ some number
      pub shown : in_the_end (model L) times (next L (start L r) (editing ps x.text)) (previewing L number a) ≡ some v

    afresh : (r : List Reading) (fs : List Form) (x : Part L) (ps : List ℕ) (a : ℕ) → Known L fs x → text_parts ≤ length ps → 1 ≤ a
        → Afresh r x ps a (shows r x.form)
    afresh r fs x ps a k p h =
        let text = H.readable x.text k.order k.places k.whole k.short k.reads in
        let room = length-hold_all L k.order [] in
        let few = text.few in
        let z = accepts-edit L (start L r) ps x.text k.order k.places k.whole k.short p k.reads (omega arith) in
        let es = hold_all L k.order [] in
        let part = member-tail H.tests.equality k.whole x.form k.places
        (member-nth H.tests.equality k.places x.place x.form k.stands) in
        let held : member same x.form (forms L es) ≡ true =
        rw (forms-hold_all L k.order []) (insert_all-has H.tests.equality x.form k.order [] (text.bound x.form part)) in
        record {
          number = number_of L es x.form;
          times = suc (left L x.form es);
          given = rw (z, answer) (nth-map (number_of L es) k.places x.place x.form k.stands);
          shown =
              rw (z, next)
              (ends (suc (left L x.form es)) (record { recording = r; entries = es }) (number_of L es x.form) a x.form
              (nth-index H.tests.equality x.form (forms L es) held) h (omega arith));
        }

    -- after any run of calls from an opening
    pub fresh : (r : List Reading) (cs : List (Call L)) (x : Part L) → Memᴰ x (parts_given L [] cs (answers (model L) (start L r) cs))
        → (c : Call L) (b k : ℕ) (v : Shown) → c.request ≡ Preview x.number b → answer L (after (model L) (start L r) cs) c ≡ finished k v
        → (ps : List ℕ) (a : ℕ) → text_parts ≤ length ps → 1 ≤ a → Afresh (after (model L) (start L r) cs).recording x ps a v
    fresh r cs x i c b k v q e ps a p h =
        let s = after (model L) (start L r) cs in
        let z : v ≡ shows s.recording x.form = (finished-is L H s c x.number b x.form k v q (its-number L H r cs x i) e).shown in
        rw z (afresh s.recording (forms L s.entries) x ps a (known L H r cs x i) p h)
