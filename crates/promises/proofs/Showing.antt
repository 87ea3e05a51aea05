-- A field of an answer that has no value is 0: the numbers and names that preview gives are those of what it shows, and no others.
-- Assumes nothing.
use Rattle.std.specs.Prelude.{◌≡◌, refl, true, false, ◌&&◌, ◌||◌, ℕ, ◌<◌, ltb, eqb}
use Rattle.std.proofs.lemmas.Bool.{false≢true}
use Rattle.std.proofs.Common.{sym, ap, ◌∙◌, arith, eqb-true}
use Rattle.std.proofs.Math.Bool.{and-eq-true_iff}
use Rattle.language.specs.Cases.{split}
use Rattle.rules.specs.declared.Value.{Value}
use Rattle.rules.specs.declared.Value.TheVariants.{Number, Window, Function, Delayed, Missing}
use Rattle.values.specs.Packing.{function_cell, delayed_cell, unpack_of}
use Rattle.values.specs.PackingLaws.{unpack-function, unpack-delayed}
use Rattle.values.specs.Shown.{shown_numbers}
use Rattle.model.specs.Lists.{All}
use Rattle.layout.specs.Memory.{Memory, Kept, entry_count, reading_count, recording_of, kept_at}
use Rattle.layout.specs.Nodes.{variable_kind, function_kind, is_name}
use Rattle.table.specs.WellFormed.{nameless, names_right, well_formed}
use Rattle.schedule.specs.declared.View.{View}
use Rattle.layout.specs.Links.{kind_at, key_at, name_at, other_at}
use Rattle.evaluator.specs.Frames.{leaf_of, start_at}
use Rattle.schedule.specs.Works.{view, show_of}
use Rattle.interface.specs.Views.{view_of}
use Rattle.formulas.specs.Formulas.{IsReading}
use Rattle.std.specs.Prelude.{Ok}
use Rattle.interface.specs.declared.answers.Previewed.TheVariants.{Finished}
use Rattle.interface.specs.Answers.{shown_of}
use Rattle.interface.specs.Calls.{work_on, worked_memory, previewed}
use Rattle.interface.proofs.CallsLaws.{kept-names}
use Rattle.demand.proofs.Cells.{name-some}
use Rattle.promises.proofs.Finishing.{finished-by}

-- the names that a value may have beside it
abbrev Named : Value → ℕ → ℕ → Type 0
Named (Number z) name other = (name ≡ 0) × (other ≡ 0)
Named (Window s l) name other = (name ≡ 0) × (other ≡ 0)
Named Function name other = other ≡ 0
Named Delayed name other = name ≡ 0 → other ≡ 0
Named (Missing r) name other = (name ≡ 0) × (other ≡ 0)

view-plain : (v : Value) (name other : ℕ) → Named v name other → view (shown_numbers v) name other ≡ view_of (shown_of (view (shown_numbers v) name other))
unfolding shown_of view_of
view-plain (Number z) name other h = rw (h.0, h.1)
view-plain (Window s l) name other h = rw (h.0, h.1)
view-plain Function name other h = rw h
view-plain (Missing r) name other h = rw (h.0, h.1)
view-plain Delayed name other h =
    split (eqb name 0)
    (λ p. let z = eqb-true name 0 p in rw (z, h z))
    (λ p. split (eqb other 0) (λ q. let z = eqb-true other 0 q in rw (p, z)) (λ q. rw (p, q)))

-- no names beside any value
none_named : (v : Value) → Named v 0 0
none_named (Number z) = (refl, refl)
none_named (Window s l) = (refl, refl)
none_named Function = refl
none_named Delayed = λ _. refl
none_named (Missing r) = (refl, refl)

-- the names beside a kept value, where they are right
kept-named : (k : Kept) → names_right k ≡ true → Named (unpack_of k.value) k.name k.other
unfolding names_right
kept-named k h =
    split (eqb k.value function_cell)
    (λ p. let c = eqb-true k.value function_cell p in rw (unpack-function k.value (omega arith) (omega arith)) (eqb-true k.other 0 ((and-eq-true_iff (is_name k.name) _).0 (rw p at h)).1))
    (λ p. split (eqb k.value delayed_cell)
    (λ q. let c = eqb-true k.value delayed_cell q in rw (unpack-delayed k.value (omega arith) (omega arith)) (delayed (rw (p, q) at h)))
    (λ q. let z = (and-eq-true_iff (eqb k.name 0) _).0 (rw (p, q) at h) in
    rw (eqb-true k.name 0 z.0, eqb-true k.other 0 z.1) (none_named (unpack_of k.value))))
  where
    delayed : (nameless k || (is_name k.name && (eqb k.other 0 || is_name k.other))) ≡ true → k.name ≡ 0 → k.other ≡ 0
    delayed e z =
        split (nameless k)
        (λ p. eqb-true k.other 0 ((and-eq-true_iff (eqb k.name 0) _).0 p).1)
        (λ p. absurd (false≢true (sym (name-some k.name ((and-eq-true_iff _ _).0 (rw p at e)).0) ∙ rw z)))

-- an entry of a well-formed cache
module _ (m : Memory) (n : ℕ) where
  abbrev value : Value
  value = unpack_of (start_at (reading_count m) m.links m.cells n)

  variable-named : kind_at m.links n ≡ variable_kind → Named value (key_at m.cells n) 0
  unfolding start_at leaf_of
  variable-named e = rw e (rw (unpack-delayed delayed_cell (omega arith) (omega arith)) (λ _. refl))

  names-kept : ltb (kind_at m.links n) function_kind ≡ false → names_right (kept_at m.cells n) ≡ true
      → Named value (name_at m.cells n) (other_at m.cells n)
  unfolding start_at kept_at
  names-kept q h = rw q (kept-named (kept_at m.cells n) h)

  show-plain : well_formed m ≡ true → n < entry_count m
      → show_of (reading_count m) m.links m.cells n ≡ view_of (shown_of (show_of (reading_count m) m.links m.cells n))
  unfolding show_of
  show-plain w l =
      split (eqb (kind_at m.links n) variable_kind)
      (λ p. rw p (view-plain value (key_at m.cells n) 0 (variable-named (eqb-true (kind_at m.links n) variable_kind p))))
      (λ p. split (ltb (kind_at m.links n) function_kind)
      (λ q. rw (p, q) (view-plain value 0 0 (none_named value)))
      (λ q. rw (p, q) (view-plain value (name_at m.cells n) (other_at m.cells n) (names-kept q (kept-names m n w l)))))

-- what a finished preview shows
pub preview-plain : (m : Memory) (n a k : ℕ) (v : View) → previewed m n a ≡ Ok (Finished k v) → All IsReading (recording_of m) → v ≡ view_of (shown_of v)
preview-plain m n a k v e sound =
    let d = finished-by m n a k v e sound in
    sym d.shows ∙ show-plain (worked_memory m (work_on m n a)) n d.well d.held ∙ ap (λ (u : View). view_of (shown_of u)) d.shows
