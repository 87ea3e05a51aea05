-- How an entry's text is written from right to left: what stands before the bytes written so far is told by the entry that is next and by
-- those that are open. Assumes nothing: these are definitions.
use Rattle.std.specs.Prelude.{◌≡◌, Option, Some, None, Bool, true, cond, ◌⊎◌, List, [], ◌∷◌, ◌++◌, ℕ, zero, suc, ◌+◌, ◌*◌, ◌/◌, ◌%◌, ◌≤◌, ◌<◌, eqb, length, get_or, drop}
use Rattle.language.specs.Limits.{text_bytes, table_entries}
use Rattle.language.specs.Names.{bytes}
use Rattle.members.specs.Members.{spelled}
use Rattle.meaning.specs.Forms.{Form, name_in, number, variable, unbound, readings, ask, call, function}
use Rattle.layout.specs.Memory.{Node, node_at}
use Rattle.layout.specs.Nodes.{function_kind, build}
use Rattle.layout.specs.Numbered.{numbered}
use Rattle.table.specs.Right.{node_right}
use Rattle.table.specs.EntryForms.{forms_of}
use Rattle.printing.specs.Printed.{unpacked, as_receiver, text_of}
use Rattle.writer.specs.declared.page.Page.{Page}
use Rattle.writer.specs.declared.write.Turn.{Turn}
use Rattle.writer.specs.declared.write.Turn.TheVariants.{Enter, Receiver, Leave, Done}
use Rattle.writer.specs.declared.write.Spot.{Spot}

-- the form of entry i
abbrev pub form_in : List ℕ → List ℕ → ℕ → ℕ → Form
form_in links cells count i = get_or (forms_of (numbered (node_at links cells) 0 count)) i readings

-- every entry has a right node, and the form that the node builds
pub record Tabled (links cells : List ℕ) (count : ℕ) : Type 0 where
  pub few : count ≤ table_entries
  pub right : (i : ℕ) → i < count → node_right i (node_at links cells i) ≡ true
  pub forms : (i : ℕ) → i < count → form_in links cells count i ≡ build (node_at links cells i) (form_in links cells count)

-- what stands before the text t of the last dependency of an open function or call; r: the function is a receiver
unfoldable pub before : Bool → Form → List ℕ → List ℕ
before r (function v b) t = cond r (bytes "(") [] ++ (bytes "\\" ++ (unpacked (name_in v) ++ (bytes " -> " ++ t)))
before r (call m f a) t = as_receiver f (text_of f) ++ (bytes "." ++ (spelled m ++ (bytes "(" ++ t)))
before r (number z) t = t
before r (variable x) t = t
before r (unbound x) t = t
before r readings t = t
before r (ask m f) t = t

-- the open entries, the innermost first: each is kept as twice its number, plus 1 for a function that is a receiver
unfoldable pub stack : List ℕ → ℕ → List ℕ
stack pending zero = []
stack pending (suc k) = get_or pending k 0 ∷ stack pending k

unfoldable pub around : (ℕ → Form) → List ℕ → List ℕ → List ℕ
around φ [] t = t
around φ (x ∷ xs) t = around φ xs (before (eqb (x % 2) 1) (φ (x / 2)) t)

-- the text of the next entry before what is written: it is entered (0), as a receiver (1), or it is written
abbrev pub next_text : ℕ → Form → List ℕ → List ℕ
next_text zero f t = text_of f ++ t
next_text (suc zero) f t = as_receiver f (text_of f) ++ t
next_text (suc (suc k)) f t = t

-- what is open: a function, or a call with an argument; with the open ones below it there is room in the list for all that are lower
abbrev pub Opens : Node → Type 0
Opens n = (n.kind ≡ function_kind) ⊎ ((n.kind ≡ function_kind → ⊥) × (1 ≤ n.second))

abbrev pub Waits : List ℕ → List ℕ → ℕ → List ℕ → Type 0
Waits links cells count [] = Unit {0}
Waits links cells count (x ∷ xs) = ((x / 2 < count) × (x / 2 + length xs < table_entries) × Opens (node_at links cells (x / 2))) × Waits links cells count xs

-- a turn by its number
abbrev pub turn_number : Turn → ℕ
turn_number Enter = 0
turn_number Receiver = 1
turn_number Leave = 2
turn_number Done = 3

abbrev pub IsEntering : Spot → Type 0
IsEntering s = turn_number s.turn ≤ 1

abbrev pub IsLeaving : Spot → Type 0
IsLeaving s = turn_number s.turn ≡ 2

abbrev pub IsOpen : Spot → Type 0
IsOpen s = turn_number s.turn ≤ 2

-- a spot of the writing on a page
pub record Ready (links cells : List ℕ) (count : ℕ) (s : Spot) (pending : List ℕ) (p : Page) : Type 0 where
  pub table : Tabled links cells count
  pub list : length pending ≡ table_entries
  pub room : p.low ≤ p.at
  pub top : p.at ≤ text_bytes
  pub entry : s.entry < count
  pub depth : s.entry + s.depth < table_entries
  pub waits : Waits links cells count (stack pending s.depth)

-- what is left to do, as a number: it falls at each step
abbrev pub rank : ℕ → ℕ → ℕ
rank zero e = suc e
rank (suc zero) e = suc e
rank (suc (suc k)) e = 0

abbrev pub left : Spot → Page → ℕ
left s p = cond (eqb (turn_number s.turn) 3) 0 (suc (p.at * 1024 + rank (turn_number s.turn) s.entry))

-- the text t is what is written, with what stands before it
abbrev pub Spelled : List ℕ → List ℕ → ℕ → Spot → List ℕ → Page → List ℕ → Type 0
Spelled links cells count s pending p t =
    around (form_in links cells count) (stack pending s.depth) (next_text (turn_number s.turn) (form_in links cells count s.entry) (drop p.at p.bytes)) ≡ t

-- a step that was made: the same text is spelled with more of it written
pub record Onward (links cells : List ℕ) (count : ℕ) (s : Spot) (pending : List ℕ) (p : Page) (s' : Spot) (pending' : List ℕ) (p' : Page) : Type 0 where
  pub ready : Ready links cells count s' pending' p'
  pub less : left s' p' < left s p
  pub spells : (t : List ℕ) → Spelled links cells count s pending p t → Spelled links cells count s' pending' p' t
  pub closed : turn_number s'.turn ≡ 3 → s'.depth ≡ 0

-- a step is made, or there is no room for the text
pub record Moves (links cells : List ℕ) (count : ℕ) (s : Spot) (pending : List ℕ) (p : Page) (r : Option Spot) (pending' : List ℕ) (p' : Page) : Type 0 where
  pub same : p'.low ≡ p.low
  pub top : p'.at ≤ text_bytes
  pub on : (s' : Spot) → r ≡ Some s' → Onward links cells count s pending p s' pending' p'
  pub full : r ≡ None → (t : List ℕ) → Spelled links cells count s pending p t → text_bytes < p.low + length t

-- the text t is being written
pub record Goes (links cells : List ℕ) (count low : ℕ) (t : List ℕ) (s : Spot) (pending : List ℕ) (p : Page) : Type 0 where
  pub same : p.low ≡ low
  pub ready : Ready links cells count s pending p
  pub spells : Spelled links cells count s pending p t
  pub closed : turn_number s.turn ≡ 3 → s.depth ≡ 0

-- the text stands at the end of the page
pub record Written (low : ℕ) (t : List ℕ) (p : Page) : Type 0 where
  pub room : low ≤ p.at
  pub text : drop p.at p.bytes ≡ t

-- it does, or there is no room for it
pub record Writes (low : ℕ) (t : List ℕ) (r : Option (Unit {0})) (p : Page) : Type 0 where
  pub same : p.low ≡ low
  pub top : p.at ≤ text_bytes
  pub written : r ≡ Some tt → Written low t p
  pub full : r ≡ None → text_bytes < low + length t
