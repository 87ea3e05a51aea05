-- Which form a record of a text stands for, by the records before it that it links to. Assumes nothing: these are definitions.
use Rattle.std.specs.Prelude.{◌≡◌, ℕ, suc, ◌<◌}
use Rattle.members.specs.Members.{arguments}
use Rattle.members.specs.declared.Member.{Member}
use Rattle.meaning.specs.Forms.{Form, with_level, number, variable, unbound, readings, ask, call, function}
use Rattle.layout.specs.Memory.{Node, node_with, node}
use Rattle.layout.specs.Nodes.{number_kind, variable_kind, unbound_kind, readings_kind, function_kind, member_kind, number_of_key}

-- ν i is record i. A number has 32 bits, and a level is 0 or 1.
pub data Stands (ν : ℕ → Node) : ℕ → Form → Type 0 where
  a_number : (i key : ℕ) → ν i ≡ node number_kind key 0 0 → key < 4294967296 → Stands ν i (number (number_of_key key))
  a_variable : (i x k : ℕ) → ν i ≡ node_with variable_kind x 0 0 k → k < 2 → Stands ν i (variable (with_level x k))
  an_unbound : (i x : ℕ) → ν i ≡ node unbound_kind x 0 0 → Stands ν i (unbound x)
  the_readings : (i : ℕ) → ν i ≡ node readings_kind 0 0 0 → Stands ν i readings
  a_function : (i x b k : ℕ) (B : Form) → ν i ≡ node_with function_kind x (suc b) 0 k → k < 2 → b < i → Stands ν b B
      → Stands ν i (function (with_level x k) B)
  an_ask : (i : ℕ) (m : Member) (f : ℕ) (F : Form) → ν i ≡ node (member_kind m) 0 (suc f) 0 → arguments m ≡ 0 → f < i → Stands ν f F
      → Stands ν i (ask m F)
  a_call : (i : ℕ) (m : Member) (f a : ℕ) (F A : Form) → ν i ≡ node (member_kind m) 0 (suc f) (suc a) → arguments m ≡ 1 → f < i → Stands ν f F
      → a < i → Stands ν a A → Stands ν i (call m F A)
