-- An open over memory of any contents answers as the model does and leaves an empty cache with the recording. Assumes nothing.
use Rattle.std.specs.Prelude.{◌≡◌, refl, true, ℕ, ◌<◌, ◌≤◌, ℤ, length, set, drop}
use Rattle.std.proofs.Common.{sym, ◌∙◌, arith, lt-ltb, le-ltb, length-set, length-append, length-drop, get_or-set_same, get_or-set_other, take_at}
use Rattle.std.proofs.Math.Path.{ap}
use mathlib.Core.List.{List, []}
use Rattle.language.specs.Limits.{table_readings}
use Rattle.model.specs.Decoding.{decode_from}
use Rattle.model.specs.Model as Model
use Rattle.model.specs.Model.{refused, opened}
use Rattle.layout.specs.Memory.{Memory, fits, entry_count, reading_count, recording_of, entries_from, entries_of}
use Rattle.formulas.specs.Formulas.{formulas}
use Rattle.interface.specs.Calls.{opened_memory, open_answer, open_memory}
use Rattle.demand.specs.Holds.{with_marks, holds}
use Rattle.demand.proofs.Appended.{Lengths, lengths, long-enough}
use Rattle.demand.proofs.Editing.{Done}

-- what is written
module _ (m : Memory) (r : List ℤ) (l : Lengths m) (short : length r ≤ table_readings) where
  abbrev n : Memory
  n = opened_memory m r

  pub count-zero : entry_count n ≡ 0
  count-zero =
      let h = l.heads in
      let s = length-set m.heads 0 0 in
      get_or-set_other (set m.heads 0 0) 1 0 (length r) 0 (omega arith) ∙ get_or-set_same m.heads 0 0 0 (omega arith)

  pub count-readings : reading_count n ≡ length r
  count-readings = let h = l.heads in let s = length-set m.heads 0 0 in get_or-set_same (set m.heads 0 0) 1 (length r) 0 (omega arith)

  pub longer : Lengths n
  longer =
      let h = l.heads in
      let s = length-set m.heads 0 0 in
      let t = length-set (set m.heads 0 0) 1 (length r) in
      let a = length-append r (drop (length r) m.readings) in
      let d = length-drop (length r) m.readings in
      let k = l.readings in
      record { readings = omega arith; heads = omega arith; links = l.links; cells = l.cells }

  no-entries : entries_of n ≡ []
  unfolding entries_from
  no-entries = ap (λ (k : ℕ). entries_from m.links m.cells 0 k) count-zero

  recorded : recording_of n ≡ r
  recorded = take_at r (drop (length r) m.readings) (reading_count n) (sym count-readings)

  opened-done : Done n (record { answer = opened; state = Model.start formulas r }) opened
  unfolding with_marks decode_from
  opened-done =
      let e = no-entries in
      let c = count-readings in
      record {
        answer = refl;
        ok = record { whole = long-enough n longer; readings = rw c short; placed = rw e tt; written = rw e tt };
        holds = λ t. record { recording = recorded t; entries = joined-none t };
      }
    where
      joined-none : (holds n).entries ≡ []
      joined-none = rw no-entries

-- the call
pub opening : (m : Memory) (r : List ℤ) → fits m ≡ true → length r ≤ table_readings → Done (open_memory m r) (record { answer = opened; state = Model.start formulas r }) (open_answer m r)
unfolding open_memory open_answer
opening m r f h = let t = le-ltb table_readings (length r) h in rw (t, f) (opened-done m r (lengths m f) h)

pub too_long : (m : Memory) (r : List ℤ) → table_readings < length r → (open_answer m r ≡ refused 2 0) × (open_memory m r ≡ m)
unfolding open_memory open_answer
too_long m r h = let t = lt-ltb table_readings (length r) h in rw t (refl, refl)
