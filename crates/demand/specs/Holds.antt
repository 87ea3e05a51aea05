-- What a cache that was opened and kept holds, as a state of the reference model: its recording, the forms of its entries, and the kept
-- results as marks; and how such a cache is arranged. Assumes nothing: these are definitions.
use Rattle.std.specs.Prelude.{◌≡◌, true, cond, List, [], ◌∷◌, ◌⊎◌, ℕ, ◌≤◌, leb, eqb, get_or}
use Rattle.std.proofs.Math.Option.{Option, none, some}
use Rattle.language.specs.Limits.{table_readings}
use Rattle.rules.specs.declared.Value.TheVariants.{Number, Window, Function, Delayed, Missing}
use Rattle.values.specs.Packing.{pack_of, unpack_of}
use Rattle.meaning.specs.Forms.{Form}
use Rattle.meaning.specs.Evaluation.{Shown, a_number, a_window, a_function, a_delay, a_reason, shown_as}
use Rattle.model.specs.Lists.{All, count_if}
use Rattle.model.specs.Model as Model
use Rattle.model.specs.Graph.{AllPlaced}
use Rattle.layout.specs.Memory.{Memory, Kept, Entry, fits, reading_count, recording_of, entries_of, nodes_of, nothing_kept}
use Rattle.formulas.specs.Formulas.{formulas}
use Rattle.bridge.specs.Graphs.{nodes}
use Rattle.table.specs.EntryForms.{forms_of}
use Rattle.interface.specs.Answers.{names_of}

-- what an entry shows, by what is kept of it
abbrev pub shown_in : Kept → Shown
shown_in k = shown_as k.name (names_of k.name k.other) (unpack_of k.value)

-- the mark of an entry: nothing is kept where the value is 0
abbrev pub mark_of : Kept → Option Shown
mark_of k = cond (eqb k.value 0) none (some (shown_in k))

-- forms and entries, number by number
unfoldable pub with_marks : List Form → List Entry → List (Model.Entry formulas)
with_marks [] es = []
with_marks (f ∷ fs) [] = []
with_marks (f ∷ fs) (e ∷ es) = record { form = f; mark = mark_of e.kept } ∷ with_marks fs es

-- 01, "The plain book": the cache's recording, its forms by number, and its worked-out members and functions as marks
abbrev pub holds : Memory → Model.State formulas
holds m = record { recording = recording_of m; entries = with_marks (forms_of (nodes_of (entries_of m))) (entries_of m) }

-- 01, "Working out": the entries that previews worked out, which are those with a kept value, and how many there are
abbrev pub worked_out : Memory → ℕ
worked_out m = count_if (λ (e : Entry). leb 1 e.kept.value) (entries_of m)

-- the cells of what is shown
abbrev pub kept_for : Shown → Kept
kept_for (a_number z) = record { value = pack_of (Number z); name = 0; other = 0 }
kept_for (a_window s l) = record { value = pack_of (Window s l); name = 0; other = 0 }
kept_for (a_function x) = record { value = pack_of Function; name = x; other = 0 }
kept_for (a_delay xs) = record { value = pack_of Delayed; name = get_or xs 0 0; other = get_or xs 1 0 }
kept_for (a_reason r) = record { value = pack_of (Missing r); name = 0; other = 0 }

-- an entry keeps nothing, or the cells of what it shows
abbrev pub Written : Entry → Type 0
Written e = (e.kept ≡ nothing_kept) ⊎ ((v : Shown) × (e.kept ≡ kept_for v) × (mark_of (kept_for v) ≡ some v))

pub record Ok (m : Memory) : Type 0 where
  pub whole : fits m ≡ true
  pub readings : reading_count m ≤ table_readings
  pub placed : AllPlaced formulas nodes 0 (nodes_of (entries_of m))
  pub written : All Written (entries_of m)
