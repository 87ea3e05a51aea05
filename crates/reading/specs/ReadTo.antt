-- What a text was read into. Assumes nothing: these are definitions. That the reader leaves such arrays is in ReadToLaws.
use Rattle.std.specs.Prelude.{◌≡◌, List, ℕ, ◌≤◌, ◌<◌, length, take}
use Rattle.language.specs.Limits.{text_parts}
use Rattle.grammar.specs.Grammar.{Expression}
use Rattle.grammar.specs.Reading.{tree}
use Rattle.grammar.specs.Machine.{read_text}
use Rattle.records.specs.Records.{records_of}
use Rattle.model.specs.Lists.{All}
use Rattle.layout.specs.Numbered.{numbered}
use Rattle.layout.specs.Held.{record_at}

-- the arrays into which a text was read: two words a record, and the record of each part
pub record ReadTo (text : List ℕ) (n size root : ℕ) (R P : List ℕ) : Type 0 where
  pub expression : Expression
  pub reads : read_text text ≡ tree expression
  pub records : numbered (record_at R) 0 size ≡ (records_of expression).records
  pub places : take n P ≡ (records_of expression).places
  pub parts : n ≡ length (records_of expression).places
  pub whole : root ≡ (records_of expression).root
  pub low : root < size
  pub inside : All (λ (p : ℕ). p < size) (records_of expression).places
  pub few : n ≤ text_parts
  pub small : size ≤ text_parts
  pub room : length P ≡ text_parts
