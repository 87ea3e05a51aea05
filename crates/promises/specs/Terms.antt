-- What the promise page speaks of beside the calls and the model: the words of a text, cells beyond the sizes, when an edit and a print are
-- accepted, the readings of what is shown, a preview sent again and again, and the variables that a form awaits. Assumes nothing: these are
-- definitions.
use Rattle.std.specs.Prelude.{◌≡◌, true, cond, not, ◌&&◌, ◌||◌, List, [], ◌∷◌, ◌++◌, ℕ, zero, suc, ◌≤◌, ◌<◌, eqb, ℤ, length, take, drop}
use Rattle.language.specs.Limits.{text_bytes, text_parts, table_entries, table_readings}
use Rattle.members.specs.declared.Member.{Member}
use Rattle.grammar.specs.Tokens.{word, Located, tokens}
use Rattle.grammar.specs.Grammar.{Expression}
use Rattle.grammar.specs.KeptLimits.{KeepsLimits}
use Rattle.grammar.specs.Reading.{tree}
use Rattle.grammar.specs.Machine.{read_text}
use Rattle.model.specs.Model.{hold_all}
use Rattle.formulas.specs.Formulas.{formulas}
use Rattle.meaning.specs.Forms.{Form, number, variable, unbound, readings, ask, call, function}
use Rattle.meaning.specs.Binding.{form_of, forms_in_order}
use Rattle.meaning.specs.Evaluation.{has_name, joined, without, awaited}
use Rattle.printing.specs.Printed.{text_of}
use Rattle.printing.specs.Trees.{tree_of}
use Rattle.layout.specs.Links.{table_links, table_cells}
use Rattle.layout.specs.Memory.{Memory, memory, fits, entry_count}
use Rattle.schedule.specs.declared.View.{View}
use Rattle.interface.specs.Answers.{natural}
use Rattle.interface.specs.Calls.{form_at, preview_memory}
use Rattle.interface.specs.Acceptance.{text_at}
use Rattle.table.specs.WellFormed.{well_formed}
use Rattle.demand.specs.Holds.{holds}

-- the word w is a token of the text, at byte place p
pub record HasWord (text : List ℕ) (p : ℕ) (w : List ℕ) : Type 0 where
  pub before : List Located
  pub after : List Located
  pub is : tokens text ≡ before ++ (record { token = word w; place = p } ∷ after)

-- the cells beyond the cache's sizes
abbrev pub beyond : Memory → Memory
beyond m = memory (drop table_readings m.readings) (drop 2 m.heads) (drop table_links m.links) (drop table_cells m.cells)

-- an edit can be accepted: none of 1, 3 and 4 comes up, nor 5 to 12, as the text is read, nor 13: entries held plus new forms exceed 512
pub record CanEdit (m : Memory) (places text : List ℕ) : Type 0 where
  pub short : length text ≤ text_bytes
  pub whole : fits m ≡ true
  pub room : text_parts ≤ length places
  pub well : well_formed m ≡ true
  pub expression : Expression
  pub read : read_text text ≡ tree expression
  pub held : length (hold_all formulas (forms_in_order expression) (holds m).entries) ≤ table_entries

-- 02, T-04: entry n can be printed as t: none of 3, 4 and 14 comes up, nor 15, as t, the text of the entry's let-free form, fits the lent bytes and
-- is read, nor 16, as it is read with that form
pub record CanPrint (m : Memory) (n : ℕ) (bytes t : List ℕ) : Type 0 where
  pub whole : fits m ≡ true
  pub well : well_formed m ≡ true
  pub inside : n < entry_count m
  pub is : t ≡ text_of (form_at m n)
  pub room : length t ≤ length bytes
  pub short : length t ≤ text_bytes
  pub expression : Expression
  pub read : read_text t ≡ tree expression
  pub same : form_of expression ≡ form_at m n

-- the text of entry n's form fits the lent bytes, and an edit's text, and the tree that it spells keeps the limits
abbrev pub TextFits : Memory → (number : ℕ) (bytes : List ℕ) → Type 0
TextFits m n bytes = (length (text_at m n) ≤ length bytes) × (length (text_at m n) ≤ text_bytes) × KeepsLimits (tree_of (form_at m n))

-- the readings of what is shown: kind 2 is a window
unfoldable pub readings_of : List ℤ → View → List ℤ
readings_of xs v = cond (eqb v.kind 2) (take v.second (drop (natural v.first) xs)) []

-- the cache after so many previews of entry n, each with allowance a
unfoldable pub previews : (times : ℕ) → Memory → (number allowance : ℕ) → Memory
previews zero m n a = m
previews (suc times) m n a = previews times (preview_memory m n a) n a

-- Figure 5: a variable awaits itself (var); a member what its dependencies await, the receiver's variables first and each once (mem-expr); a
-- function what its body awaits but its own variable (fun-bind, fun-expr); all else is a value and awaits nothing (val)
pub record AwaitedNames : Type 0 where
  pub of_number : (z : ℤ) → awaited (number z) ≡ []
  pub of-variable : (x : ℕ) → awaited (variable x) ≡ x ∷ []
  pub of-unbound : (x : ℕ) → awaited (unbound x) ≡ []
  pub of-readings : awaited readings ≡ []
  pub of-ask : (m : Member) (f : Form) → awaited (ask m f) ≡ awaited f
  pub of-call : (m : Member) (f a : Form) → awaited (call m f a) ≡ joined (awaited f) (awaited a)
  pub of_function : (x : ℕ) (b : Form) → awaited (function x b) ≡ without x (awaited b)
  -- the variables of two lists joined are those of either, and of a list without x those that are not x
  pub either : (y : ℕ) (xs ys : List ℕ) → has_name y (joined xs ys) ≡ (has_name y xs || has_name y ys)
  pub others : (y x : ℕ) (ys : List ℕ) → has_name y (without x ys) ≡ (not (eqb x y) && has_name y ys)
