-- The invariant of the model: what holds of its state after every run of calls. Assumes nothing.
use Rattle.std.specs.Prelude.{◌≡◌, Bool, true, false, cond, not, ◌||◌, List, [], ◌∷◌, ◌≤◌, length}
use Rattle.std.proofs.Math.Option.{none, some}
use Rattle.language.specs.Limits.{table_readings, table_entries}
use Rattle.model.specs.Lists.{All, Distinct}
use Rattle.model.specs.Language.{Language}
use Rattle.model.specs.Model.{Entry, State, forms, marked}
use Rattle.model.specs.Laws.{Ordered, Laws}

module _ (L : Language) where
  open L use {Form, Reading, same, dependency, works, shows}

  -- A mark is on a member or a function, and is what its form shows.
  pub data Kept (r : List Reading) (e : Entry L) : Type 0 where
    bare : e.mark ≡ none → Kept r e
    holds : works e.form ≡ true → e.mark ≡ some (shows r e.form) → Kept r e

  -- An entry is done if it is marked or needs no work.
  unfoldable pub done : Entry L → Bool
  done e = marked L e || not (works e.form)

  unfoldable pub done_in : Form → List (Entry L) → Bool
  done_in f [] = false
  done_in f (e ∷ es) = cond (same e.form f) (done e) (done_in f es)

  -- The dependencies of a marked entry are done, among the entries before it.
  abbrev pub Settled : List (Entry L) → List (Entry L) → Type 0
  Settled pre [] = Unit {0}
  Settled pre (e ∷ es) = (marked L e ≡ true → (d : Form) → dependency d e.form ≡ true → done_in d pre ≡ true) × Settled (e ∷ pre) es

pub record Invariant (L : Language) (H : Laws L) (s : State L) : Type 0 where
  pub short : length s.recording ≤ table_readings
  pub sound : L.Sound s.recording
  pub few : length s.entries ≤ table_entries
  pub ordered : Ordered L [] (forms L s.entries)
  pub distinct : Distinct L.same (forms L s.entries)
  pub proper : All H.Proper (forms L s.entries)
  pub kept : All (Kept L s.recording) s.entries
  pub settled : Settled L [] s.entries
