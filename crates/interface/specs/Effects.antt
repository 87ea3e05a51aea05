-- What the calls promise: the answer, and every cell of every lent slice. Assumes nothing: these are definitions.
use Rattle.std.specs.Prelude.{◌≡◌, List, ℕ, ◌<◌, ℤ, Result, Ok, Err}
use Rattle.layout.specs.Memory.{Memory}
use Rattle.language.specs.declared.refusals.Refusal.{Refusal}
use Rattle.language.specs.declared.refusals.Refused.{Refused}
use Rattle.interface.specs.declared.answers.Edited.{Edited}
use Rattle.interface.specs.declared.answers.Previewed.{Previewed}
use Rattle.interface.specs.declared.answers.Evaluated.{Evaluated}
use Rattle.interface.specs.declared.answers.EditAnswer.{EditAnswer}
use Rattle.interface.specs.declared.answers.PreviewAnswer.{PreviewAnswer}
use Rattle.interface.specs.declared.answers.PrintAnswer.{PrintAnswer}
use Rattle.interface.specs.declared.answers.EvaluateAnswer.{EvaluateAnswer}
use Rattle.interface.specs.Answers.{Opened, open_reply, edit_reply, PrintReply, printed_as, open_number, edit_numbers, preview_numbers, print_numbers, evaluate_numbers}
use Rattle.interface.specs.Calls.{open_answer, open_memory, edit_answer, edit_memory, edit_places, previewed, preview_memory, print_answer, print_bytes, evaluated}

-- the memory m before a call and m' after it
pub record Opens (m : Memory) (recording : List ℤ) (m' : Memory) (r : Opened) : Type 0 where
  pub answer : open_reply r ≡ open_answer m recording
  pub memory : m' ≡ open_memory m recording

pub record Edits (m : Memory) (places text : List ℕ) (m' : Memory) (places' : List ℕ) (r : Result Edited Refused) : Type 0 where
  pub answer : edit_reply r places' ≡ edit_answer m places text
  pub memory : m' ≡ edit_memory m places text
  pub placed : places' ≡ edit_places m places text

pub record Previews (m : Memory) (entry allowance : ℕ) (m' : Memory) (r : Result Previewed Refusal) : Type 0 where
  pub answer : r ≡ previewed m entry allowance
  pub memory : m' ≡ preview_memory m entry allowance

pub record Prints (m : Memory) (entry : ℕ) (bytes bytes' : List ℕ) (r : Result ℕ Refusal) : Type 0 where
  pub answer : PrintReply r (print_answer m entry bytes)
  pub same : r ≡ printed_as (print_answer m entry bytes)
  pub filled : bytes' ≡ print_bytes m entry bytes

-- the same for C: the numbers of an answer for which that holds
pub record OpensForC (m : Memory) (recording : List ℤ) (m' : Memory) (r : ℕ) : Type 0 where
  pub answer : Opened
  pub opens : Opens m recording m' answer
  pub numbers : r ≡ open_number answer

pub record EditsForC (m : Memory) (places text : List ℕ) (m' : Memory) (places' : List ℕ) (r : EditAnswer) : Type 0 where
  pub answer : Result Edited Refused
  pub edits : Edits m places text m' places' answer
  pub numbers : r ≡ edit_numbers answer

pub record PreviewsForC (m : Memory) (entry allowance : ℕ) (m' : Memory) (r : PreviewAnswer) : Type 0 where
  pub answer : Result Previewed Refusal
  pub previews : Previews m entry allowance m' answer
  pub numbers : r ≡ preview_numbers answer

pub record PrintsForC (m : Memory) (entry : ℕ) (bytes bytes' : List ℕ) (r : PrintAnswer) : Type 0 where
  pub answer : Result ℕ Refusal
  pub prints : Prints m entry bytes bytes' answer
  pub numbers : r ≡ print_numbers answer

pub record EvaluatesForC (text : List ℕ) (recording : List ℤ) (place : ℕ) (r : EvaluateAnswer) : Type 0 where
  pub answer : Result Evaluated Refused
  pub evaluates : answer ≡ evaluated text recording place
  pub numbers : r ≡ evaluate_numbers answer

-- a refusal's place is a number of 32 bits
abbrev pub PlaceFits : {A : Type 0} → Result A Refused → Type 0
PlaceFits (Ok x) = Unit {0}
PlaceFits (Err e) = e.place < 4294967296
