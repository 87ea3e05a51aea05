-- 01, "When a call is declined": refusals 1 to 3, 13 and 14, and 15 and 16 of 02, as calls of the reference model with the number that it
-- answers; one computed check over the list. 5 to 12 are the text's (grammar/Refusals); 4 speaks of memory, which the model has none of. Assumes nothing.
use Rattle.std.specs.Prelude.{◌≡◌, refl, false, List, [], ◌∷◌, map, ℕ, zero, suc, pos, replicate}
use Rattle.language.specs.Names.{bytes}
use Rattle.meaning.specs.Forms.{with_level, number, variable, function}
use Rattle.model.specs.Model.{State, Entry, unmarked, Request, Open, Edit, Preview, Print, Call, refused, edited, start}
use Rattle.formulas.specs.Formulas.{formulas}
use Rattle.formulas.specs.Computed.{run}
use Rattle.formulas.specs.Samples.{recording, lent, edit_of}

-- 1 to 3 by number, 13 to 16
abbrev short : Request formulas → Call formulas
short q = record { enough = false; request = q }

unfoldable pub numbers_from : ℕ → ℕ → List (Entry formulas)
numbers_from zero z = []
numbers_from (suc n) z = unmarked formulas (number (pos z)) ∷ numbers_from n (suc z)

-- entries 0 to 511 are the numbers 0 to 511
abbrev full_state : State formulas
full_state = record { recording = recording; entries = numbers_from 512 0 }

abbrev begun : State formulas
begun = start formulas recording

abbrev places : ℕ → List ℕ
places n = replicate n 0

-- the variable a of that level; a number; a lambda variable; three functions in one another, and the second of two
abbrev a : ℕ → ℕ
a level = with_level 97 level

abbrev held_state : State formulas
held_state =
    record {
      recording = recording;
      entries =
          unmarked formulas (number (pos 12345))
          ∷ unmarked formulas (variable (a 0))
          ∷ unmarked formulas (function (a 0) (function (a 1) (function (a 2) (variable (a 2)))))
          ∷ unmarked formulas (function (a 1) (variable (a 1)))
          ∷ [];
    }

abbrev declined : List (State formulas × Call formulas × ℕ)
declined =
    (begun, edit_of (replicate 1025 32), 1)
    ∷ (begun, short (Edit (places 127) (replicate 1025 32)), 1)
    ∷ (begun, lent (Open (replicate 1025 (pos 0))), 2)
    ∷ (begun, short (Open (replicate 1025 (pos 0))), 2)
    ∷ (begun, short (Open []), 3)
    ∷ (begun, lent (Edit (places 127) (bytes "1")), 3)
    ∷ (begun, lent (Edit (places 127) (bytes "data.")), 3)
    ∷ (begun, short (Edit (places 128) (bytes "1")), 3)
    ∷ (begun, short (Preview 0 1), 3)
    ∷ (full_state, edit_of (bytes "512"), 13)
    ∷ (begun, lent (Preview 0 1), 14)
    ∷ (full_state, lent (Preview 512 1), 14)
    ∷ (begun, short (Print 0 []), 3)
    ∷ (begun, lent (Print 0 []), 14)
    -- one byte too few; a third open \, which the reader declines with 10; both before 16
    ∷ (held_state, lent (Print 0 (places 4)), 15)
    ∷ (held_state, lent (Print 2 (places 1024)), 15)
    ∷ (held_state, lent (Print 1 []), 15)
    -- a delayed part would be read as an unbound name, and a function from inside another lambda as one outside any
    ∷ (held_state, lent (Print 1 (places 1024)), 16)
    ∷ (held_state, lent (Print 3 (places 1024)), 16)
    ∷ []

abbrev Declining : Type 0
Declining = State formulas × Call formulas × ℕ

pub declined-by : map (λ (x : Declining). (run x.0 x.1).answer) declined ≡ map (λ (x : Declining). refused x.2 0) declined
unfolding run numbers_from
declined-by = refl

-- the full table takes a text with no new form
pub full-taken : (run full_state (edit_of (bytes "511"))).answer ≡ edited 511 1 0 (511 ∷ [])
unfolding run numbers_from
full-taken = refl
