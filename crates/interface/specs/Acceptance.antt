-- 01, "When a call is declined", with 02, T-04, T-05 and T-07: the numbers and places of each call's refusals, what an edit is accepted for, what a
-- text must be so that no edit is declined for it, and what print and evaluate read. That the calls do so is in AcceptanceLaws and EvaluateLaws.
-- Assumes nothing: these are definitions.
use Rattle.std.specs.Prelude.{◌≡◌, ◌⊎◌, true, List, ℕ, ◌≤◌, ◌<◌, ℤ, length}
use Rattle.language.specs.Limits.{text_bytes, text_parts, table_entries, table_readings}
use Rattle.grammar.specs.Grammar.{Expression, Spells}
use Rattle.grammar.specs.KeptLimits.{KeepsLimits}
use Rattle.grammar.specs.Reading.{IsTextRefusal, tree, tokens_of}
use Rattle.grammar.specs.Machine.{read_text}
use Rattle.printing.specs.Printed.{text_of}
use Rattle.model.specs.Model.{refused, edited, printed}
use Rattle.layout.specs.Memory.{Memory, fits, entry_count}
use Rattle.table.specs.WellFormed.{well_formed}
use Rattle.records.specs.Records.{records_of}
use Rattle.interface.specs.Answers.{Reply}
use Rattle.interface.specs.Calls.{bound_to, form_at}

-- the numbers and places of the refusals of an open, an edit, a preview, a print and an evaluate: a text's have a place in the text or at its end
abbrev pub OpenRefusal : (number place : ℕ) → Type 0
OpenRefusal n at = ((n ≡ 2) ⊎ (n ≡ 3)) × (at ≡ 0)

abbrev pub EditRefusal : (text : List ℕ) (number place : ℕ) → Type 0
EditRefusal text n at = ((((n ≡ 1) ⊎ (n ≡ 3)) ⊎ ((n ≡ 4) ⊎ (n ≡ 13))) × (at ≡ 0)) ⊎ (IsTextRefusal n × (at ≤ length text))

abbrev pub PreviewRefusal : (number : ℕ) → Type 0
PreviewRefusal n = ((n ≡ 3) ⊎ (n ≡ 4)) ⊎ (n ≡ 14)

abbrev pub PrintRefusal : (number : ℕ) → Type 0
PrintRefusal n = PreviewRefusal n ⊎ ((n ≡ 15) ⊎ (n ≡ 16))

abbrev pub EvaluateRefusal : (text : List ℕ) (number place : ℕ) → Type 0
EvaluateRefusal text n at = ((((n ≡ 1) ⊎ (n ≡ 2)) ⊎ (n ≡ 14)) × (at ≡ 0)) ⊎ (IsTextRefusal n × (at ≤ length text))

-- the answer to an edit that was accepted
abbrev pub IsEdited : Reply → Type 0
IsEdited x = (whole : ℕ) × (parts : ℕ) × (added : ℕ) × (numbers : List ℕ) × (x ≡ edited whole parts added numbers)

-- none of 1, 3 and 4 comes up
pub record Ready (m : Memory) (places text : List ℕ) : Type 0 where
  pub short : length text ≤ text_bytes
  pub whole : fits m ≡ true
  pub room : text_parts ≤ length places
  pub well : well_formed m ≡ true

-- nor 5 to 12, as the text is read, nor 13: its records bound to the entries held
pub record CanBind (m : Memory) (places text : List ℕ) : Type 0 where
  pub ready : Ready m places text
  pub expression : Expression
  pub read : read_text text ≡ tree expression
  pub held : length (bound_to m (records_of expression)).nodes ≤ table_entries

-- a text of the language: short enough, and its tokens are spelled by a tree that keeps the limits
abbrev pub InLanguage : (text : List ℕ) → Type 0
InLanguage text = (length text ≤ text_bytes) × ((e : Expression) × Spells e (tokens_of text) × KeepsLimits e)

-- declined for its text: too long, or refused by the reader
abbrev pub TextDeclined : Reply → Type 0
TextDeclined x = (number : ℕ) × (place : ℕ) × (x ≡ refused number place) × ((number ≡ 1) ⊎ IsTextRefusal number)

-- none of 3, 4 and 14 comes up: the memory fits, the cache is well-formed, and it holds entry n
pub record Held (m : Memory) (n : ℕ) : Type 0 where
  pub whole : fits m ≡ true
  pub well : well_formed m ≡ true
  pub inside : n < entry_count m

-- the text that entry n's form is printed as
abbrev pub text_at : Memory → ℕ → List ℕ
text_at m n = text_of (form_at m n)

-- the answer to a print that was accepted
abbrev pub IsPrinted : Reply → Type 0
IsPrinted x = (text : List ℕ) × (x ≡ printed text)

-- an evaluate's text and recording are no longer than allowed, and the text is read as a tree of which P holds
abbrev pub ReadWith : (text : List ℕ) → List ℤ → (Expression → Type 0) → Type 0
ReadWith text r P = (length text ≤ text_bytes) × (length r ≤ table_readings) × ((e : Expression) × (read_text text ≡ tree e) × P e)
