-- What a record of a text shows, by the form that it stands for. Assumes nothing: these are definitions.
use Rattle.std.specs.Prelude.{◌≡◌, List, ℕ, ◌≤◌, ◌<◌, ℤ, length}
use Rattle.language.specs.Limits.{text_parts, table_readings}
use Rattle.values.specs.declared.shown.Shown.{Shown}
use Rattle.meaning.specs.Forms.{Form}
use Rattle.layout.specs.Held.{record_at}
use Rattle.schedule.specs.declared.View.{View}
use Rattle.interface.specs.Views.{view_of}
use Rattle.levels.specs.Interpreting.{shown_by}
use Rattle.interpreter.specs.Standing.{Stands}

-- a value as plain numbers, with two names
abbrev pub view_with : Shown → ℕ → ℕ → View
view_with v name other = record { kind = v.kind; first = v.first; second = v.second; name = name; other = other }

-- record i stands for a form
pub record Showable (xs : List ℤ) (R : List ℕ) (i : ℕ) : Type 0 where
  pub few : length xs ≤ table_readings
  pub low : i < text_parts
  pub form : Form
  pub stands : Stands (record_at R) i form

-- and shows what that form does
abbrev pub ShownAs : List ℤ → List ℕ → ℕ → View → Type 0
ShownAs xs R i r = (F : Form) → Stands (record_at R) i F → r ≡ view_of (shown_by xs F)
