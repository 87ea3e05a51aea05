-- What an edit plans in its own frame. Assumes nothing: these are definitions.
use Rattle.std.specs.Prelude.{◌≡◌, List, map, ℕ, ◌-◌, ◌≤◌, length, get_or, take, Result, Ok, Err}
use Rattle.language.specs.Limits.{text_parts, table_entries}
use Rattle.language.specs.declared.refusals.Refused.{Refused}
use Rattle.language.specs.Refusals.{refusal_number}
use Rattle.grammar.specs.Machine.{read_text}
use Rattle.model.specs.Model.{refused, edited}
use Rattle.layout.specs.Memory.{Memory, entry_count}
use Rattle.table.specs.Bind.{append_all}
use Rattle.layout.specs.Numbered.{numbered}
use Rattle.layout.specs.Held.{fresh_at}
use Rattle.interface.specs.Calls.{read_answer, read_memory}
use Rattle.planner.specs.declared.plan.Plan.{Plan}

-- the text is declined
pub record Declined (m : Memory) (text : List ℕ) (number place : ℕ) : Type 0 where
  pub answer : read_answer m (read_text text) ≡ refused number place
  pub memory : read_memory m (read_text text) ≡ m

-- the text is accepted: `parts` has the record of each part, `numbers` the entry of each record, `fresh` the entries to append
pub record Accepted (m : Memory) (text : List ℕ) (p : Plan) (parts numbers fresh : List ℕ) : Type 0 where
  pub answer : read_answer m (read_text text) ≡ edited p.whole p.parts (p.total - entry_count m) (map (λ (j : ℕ). get_or numbers j 0) (take p.parts parts))
  pub memory : read_memory m (read_text text) ≡ append_all m (numbered (fresh_at fresh) 0 (p.total - entry_count m))
  pub low : entry_count m ≤ p.total
  pub high : p.total ≤ table_entries
  pub few : p.parts ≤ text_parts
  pub room : length parts ≡ text_parts

-- and which of the two it was is told by the answer
abbrev pub Planned : (m : Memory) (text : List ℕ) (r : Result Plan Refused) (parts numbers fresh : List ℕ) → Type 0
Planned m text (Ok p) parts numbers fresh = Accepted m text p parts numbers fresh
Planned m text (Err e) parts numbers fresh = Declined m text (refusal_number e.refusal) e.place
