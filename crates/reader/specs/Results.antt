-- What reading a whole text comes to, by descent's reading of it. Assumes nothing: these are definitions.
use Rattle.std.specs.Prelude.{◌≡◌, List, ℕ, eqb, replicate, Result, Ok, Err}
use Rattle.language.specs.declared.refusals.Refused.{Refused}
use Rattle.language.specs.Refusals.{text_refusal}
use Rattle.grammar.specs.Tokens.{when}
use Rattle.descent.specs.Cursor as D
use Rattle.descent.specs.Descent.{scope_cells, read_into}
use Rattle.reader.specs.declared.answer.Read.{Read}

-- a cursor's counts, or its refusal
unfoldable pub answer_of : D.Cursor → Result Read Refused
answer_of c =
    when (eqb c.number 0) (λ _. Ok (record { parts = c.parts; records = c.count; root = c.root }))
    (λ _. Err (record { refusal = text_refusal c.number; place = c.place }))

-- no binder is open
abbrev pub no_binders : List ℕ
no_binders = replicate scope_cells 0

-- the answer, and each cell of the two arrays
pub record ReadsInto (text R P : List ℕ) (r : Result Read Refused) (R' P' : List ℕ) : Type 0 where
  pub answer : r ≡ answer_of (read_into text R P no_binders).cursor
  pub records : R' ≡ (read_into text R P no_binders).records
  pub places : P' ≡ (read_into text R P no_binders).places
