-- What a print answers once its memory has passed the tests. Assumes nothing: these are definitions.
use Rattle.std.specs.Prelude.{◌≡◌, cond, List, ℕ, length, Result, Ok, Err}
use Rattle.grammar.specs.Machine.{read_text}
use Rattle.meaning.specs.Forms.{Form}
use Rattle.model.specs.Model.{rejects, reads_as, printing, filled}
use Rattle.formulas.specs.Formulas.{parsed, formulas}
use Rattle.layout.specs.Memory.{Memory}
use Rattle.language.specs.declared.refusals.Refusal.{Refusal}
use Rattle.language.specs.Refusals.{refusal_number}
use Rattle.interface.specs.Answers.{PrintReply}
use Rattle.interface.specs.Calls.{form_at}

-- the refusal of the text t of the form f, 0 for none: the reader declines it; or, read by itself, it has another form
unfoldable pub judged : Form → List ℕ → ℕ
judged f t = cond (rejects formulas (parsed (read_text t))) 15 (cond (reads_as formulas f (parsed (read_text t))) 0 16)

-- a verdict by its number, 0 for none
abbrev pub verdict_number : Result (Unit {0}) Refusal → ℕ
verdict_number (Ok done) = 0
verdict_number (Err e) = refusal_number e

pub record PrintsHeld (m : Memory) (entry : ℕ) (bytes bytes' : List ℕ) (r : Result ℕ Refusal) : Type 0 where
  pub answer : PrintReply r (printing formulas (form_at m entry) (length bytes))
  pub filled : bytes' ≡ filled formulas (printing formulas (form_at m entry) (length bytes)) bytes
