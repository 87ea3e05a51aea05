-- What an edit answers and leaves once its memory and places have passed their tests. Assumes nothing: these are definitions.
use Rattle.std.specs.Prelude.{◌≡◌, List, ℕ, Result}
use Rattle.grammar.specs.Machine.{read_text}
use Rattle.model.specs.Model.{written}
use Rattle.formulas.specs.Formulas.{formulas}
use Rattle.layout.specs.Memory.{Memory}
use Rattle.language.specs.declared.refusals.Refused.{Refused}
use Rattle.interface.specs.declared.answers.Edited.{Edited}
use Rattle.interface.specs.Answers.{edit_reply}
use Rattle.interface.specs.Calls.{read_answer, read_memory}

pub record EditsRead (m : Memory) (places text : List ℕ) (m' : Memory) (places' : List ℕ) (r : Result Edited Refused) : Type 0 where
  pub answer : edit_reply r places' ≡ read_answer m (read_text text)
  pub memory : m' ≡ read_memory m (read_text text)
  pub placed : places' ≡ written formulas (read_answer m (read_text text)) places
