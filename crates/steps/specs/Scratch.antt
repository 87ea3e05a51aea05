-- The code's cursor with the lent arrays stands for descent's state, and the room that is needed to write. Assumes nothing: these are
-- definitions.
use Rattle.std.specs.Prelude.{◌≡◌, List, ℕ, ◌-◌, ◌≤◌, ◌<◌, length, set, Result}
use Rattle.language.specs.Limits.{text_parts, open_marks}
use Rattle.layout.specs.Held.{kind_base}
use Rattle.descent.specs.Cursor.{binder_link}
use Rattle.descent.specs.Descent.{State}
use Rattle.descent.specs.Descent as D
use Rattle.steps.specs.declared.cursor.Cursor.{Cursor}
use Rattle.steps.specs.declared.scratch.Call.{Call}
use Rattle.lexer.specs.declared.tokens.Lexed.{Lexed}
use Rattle.lexer.specs.declared.tokens.TokenKind.TheVariants as K
use Rattle.language.specs.declared.refusals.Refused.{Refused}
use Rattle.lexer.specs.Lexing.{lex_at}
use Rattle.steps.specs.Cursors.{state_of, came_to, Leaves}

-- what a function that writes records and places does: whatever the text and the scope, in a scope, and for a text, where it may refuse
pub record Wrote (does : State → State) (c : Cursor) (records places : List ℕ) (r : Cursor) (records' places' : List ℕ) : Type 0 where
  pub same : (text scope : List ℕ) → state_of text r records' places' scope ≡ does (state_of text c records places scope)

pub record WroteIn (scope : List ℕ) (does : State → State) (c : Cursor) (records places : List ℕ) (r : Cursor) (records' places' : List ℕ) : Type 0 where
  pub same : (text : List ℕ) → state_of text r records' places' scope ≡ does (state_of text c records places scope)

pub record WroteFor (text : List ℕ) (does : State → State) (c : Cursor) (records places : List ℕ) (r : Result Cursor Refused) (records' places' : List ℕ) : Type 0 where
  pub leaves : (scope : List ℕ) → Leaves text r records' places' scope (does (state_of text c records places scope))

-- the code's cursor with another record last read
abbrev pub rooted_at : Cursor → ℕ → Cursor
rooted_at c j = record { at = c.at; parts = c.parts; count = c.count; root = j; name = c.name; takes = c.takes; number = c.number; place = c.place }

pub record Linked (p j : ℕ) (c : Cursor) (places : List ℕ) (r : Cursor) (places' : List ℕ) : Type 0 where
  pub cursor : r ≡ rooted_at c j
  pub written : places' ≡ set places p j

-- room for a record of these pieces, and for its part's place
pub record Recorded (c : Cursor) (p k f s : ℕ) : Type 0 where
  pub count : c.count < text_parts
  pub place : p < text_parts
  pub kind : k < kind_base
  pub first : f ≤ text_parts
  pub second : s ≤ text_parts

-- the same for a name that stands for a variable or for the record before j; for a name whose binder is the one before b, or none; and for a
-- name at a depth
pub record BoundRoom (c : Cursor) (p j : ℕ) : Type 0 where
  pub count : c.count < text_parts
  pub place : p < text_parts
  pub link : j ≤ text_parts

pub record ScopedRoom (c : Cursor) (p b : ℕ) (scope : List ℕ) : Type 0 where
  pub count : c.count < text_parts
  pub place : p < text_parts
  pub binder : b ≤ open_marks
  pub link : (b ≡ 0 → ⊥) → binder_link scope (b - 1) ≤ text_parts

pub record NameRoom (c : Cursor) (p d : ℕ) (scope : List ℕ) : Type 0 where
  pub count : c.count < text_parts
  pub place : p < text_parts
  pub depth : d ≤ open_marks
  pub links : (b : ℕ) → b < d → binder_link scope b ≤ text_parts

-- the token x is next, a name or a number, and there is room for what it writes; room for what the bracket that ends a call writes
pub record NameAhead (text : List ℕ) (x : Lexed) (d : ℕ) (c : Cursor) (scope : List ℕ) : Type 0 where
  pub next : x ≡ lex_at text c.at
  pub kind : x.kind ≡ K.Word
  pub parts : c.parts ≤ text_parts
  pub count : c.count ≤ c.parts
  pub depth : d ≤ open_marks
  pub links : (b : ℕ) → b < d → binder_link scope b ≤ c.count

pub record NumberAhead (text : List ℕ) (x : Lexed) (c : Cursor) : Type 0 where
  pub next : x ≡ lex_at text c.at
  pub kind : x.kind ≡ K.Number
  pub parts : c.parts ≤ text_parts
  pub count : c.count ≤ c.parts

pub record ShutAhead (k : Call) (c : Cursor) : Type 0 where
  pub count : c.count < text_parts
  pub place : k.place < text_parts
  pub kind : k.kind < kind_base
  pub receiver : k.receiver < text_parts
  pub argument : k.argument ≤ text_parts

abbrev pub call_of : Call → D.Call
call_of k = record { kind = k.kind; takes = k.takes; receiver = k.receiver; place = k.place; argument = k.argument }

-- what reading the bracket that ends a call does, in each text that has at the cursor a token that begins at start and ends before end; and with
-- all that descent's cursor holds, also where the bracket is refused
pub record WroteCall (start end : ℕ) (k : Call) (c : Cursor) (records places : List ℕ) (r : Result Cursor Refused) (records' places' : List ℕ) : Type 0 where
  pub leaves : (text scope : List ℕ) (x : Lexed) → x ≡ lex_at text c.at → x.start ≡ start → x.end ≡ end
      → Leaves text r records' places' scope (D.read_shut (length text) (call_of k) (state_of text c records places scope))
  pub whole : (text scope : List ℕ) (x : Lexed) → x ≡ lex_at text c.at → x.start ≡ start → x.end ≡ end
      → came_to text c r ≡ (D.read_shut (length text) (call_of k) (state_of text c records places scope)).cursor
