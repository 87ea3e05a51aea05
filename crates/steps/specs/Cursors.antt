-- The code's cursor stands for descent's: the tokens that are left are those from its place on. Assumes nothing: these are definitions.
use Rattle.std.specs.Prelude.{◌≡◌, List, ℕ, ◌+◌, ◌≤◌, length, Result, Ok, Err, IfOk}
use Rattle.language.specs.declared.refusals.Refusal.{Refusal}
use Rattle.language.specs.declared.refusals.Refused.{Refused}
use Rattle.language.specs.Limits.{text_parts}
use Rattle.language.specs.Refusals.{refusal_number}
use Rattle.descent.specs.Cursor as D
use Rattle.descent.specs.Descent.{State}
use Rattle.steps.specs.declared.cursor.Cursor.{Cursor}
use Rattle.lexer.specs.declared.tokens.Lexed.{Lexed}
use Rattle.lexer.specs.Lexing.{lex_at, tokens_from}

abbrev pub cursor_of : List ℕ → Cursor → D.Cursor
cursor_of text c =
    record { rest = tokens_from text c.at; parts = c.parts; count = c.count; root = c.root; name = c.name; takes = c.takes; number = c.number; place = c.place }

-- with the three arrays
abbrev pub state_of : List ℕ → Cursor → (records places scope : List ℕ) → State
state_of text c records places scope = record { cursor = cursor_of text c; records = records; places = places; scope = scope }

-- the code's cursor at another place, behind the token of a part, and behind a name
abbrev pub passed_to : Cursor → ℕ → Cursor
passed_to c at = record { at = at; parts = c.parts; count = c.count; root = c.root; name = c.name; takes = c.takes; number = c.number; place = c.place }

abbrev pub part_to : Cursor → ℕ → Cursor
part_to c at = record { at = at; parts = c.parts + 1; count = c.count; root = c.root; name = c.name; takes = c.takes; number = c.number; place = c.place }

abbrev pub named_to : Cursor → ℕ → ℕ → ℕ → Cursor
named_to c at name takes = record { at = at; parts = c.parts; count = c.count; root = c.root; name = name; takes = takes; number = c.number; place = c.place }

-- the refusal of a token that begins at the place
abbrev pub refused_at : ℕ → Refusal → Refused
refused_at place e = record { refusal = e; place = place }

-- the number of a verdict on a token: its refusal's, 0 for none
abbrev pub fault_of : Result (Unit {0}) Refusal → ℕ
fault_of (Ok u) = 0
fault_of (Err e) = refusal_number e

-- the code's cursor where a token that begins at start and ends before end is next, refused by the verdict or passed, or passed as a part
abbrev pub passed_or_refused : (start end : ℕ) → Result (Unit {0}) Refusal → Cursor → Result Cursor Refused
passed_or_refused start end (Ok u) c = Ok (passed_to c end)
passed_or_refused start end (Err e) c = Err (refused_at start e)

abbrev pub part_or_refused : (start end : ℕ) → Result (Unit {0}) Refusal → Cursor → Result Cursor Refused
part_or_refused start end (Ok u) c = Ok (part_to c end)
part_or_refused start end (Err e) c = Err (refused_at start e)

-- descent's cursor where the token at the code's cursor is refused, by a number at a place; and where the code comes to a cursor or a refusal
abbrev pub stopped_of : List ℕ → Cursor → (number place : ℕ) → D.Cursor
stopped_of text c n place =
    record { rest = tokens_from text c.at; parts = c.parts; count = c.count; root = c.root; name = c.name; takes = c.takes; number = n; place = place }

abbrev pub came_to : List ℕ → Cursor → Result Cursor Refused → D.Cursor
came_to text c (Ok r) = cursor_of text r
came_to text c (Err e) = stopped_of text c (refusal_number e.refusal) e.place

-- what the code comes to where descent comes to the cursor d: a cursor that stands for it, or its refusal
abbrev pub Comes : List ℕ → Result Cursor Refused → D.Cursor → Type 0
Comes text (Ok c) d = cursor_of text c ≡ d
Comes text (Err e) d = (refusal_number e.refusal ≡ d.number) × (e.place ≡ d.place)

-- and where it comes to the state s, with the arrays
pub record Leaves (text : List ℕ) (r : Result Cursor Refused) (R P S : List ℕ) (s : State) : Type 0 where
  pub cursor : Comes text r s.cursor
  pub records : R ≡ s.records
  pub places : P ≡ s.places
  pub scope : S ≡ s.scope

-- what a cursor that is given back takes along: of what was refused before, the number and the place
abbrev pub KeepsRefusal : Cursor → Result Cursor Refused → Type 0
KeepsRefusal c r = IfOk r (λ a. (a.number ≡ c.number) × (a.place ≡ c.place))

-- the token x is next, and a part can be counted
pub record PartAhead (text : List ℕ) (x : Lexed) (c : Cursor) : Type 0 where
  pub next : x ≡ lex_at text c.at
  pub parts : c.parts ≤ text_parts

-- the token at the cursor is refused by a number other than 0 and else passed, as a part, or as a name
abbrev pub passing : List ℕ → ℕ → Cursor → D.Cursor
passing text n c = D.judge (length text) n (cursor_of text c) (λ _. D.pass (cursor_of text c))

abbrev pub passing_part : List ℕ → ℕ → Cursor → D.Cursor
passing_part text n c = D.judge (length text) n (cursor_of text c) (λ _. D.pass_part (cursor_of text c))

abbrev pub binder_named : List ℕ → Cursor → D.Cursor
binder_named text c = D.judge (length text) (D.at_binder (tokens_from text c.at)) (cursor_of text c) (λ _. D.pass_name (cursor_of text c))

abbrev pub member_named : List ℕ → Cursor → D.Cursor
member_named text c = D.judge (length text) (D.at_member (tokens_from text c.at)) (cursor_of text c) (λ _. D.pass_member (cursor_of text c))

abbrev pub call_opened : List ℕ → ℕ → Cursor → D.Cursor
call_opened text marks c = D.judge (length text) (D.at_call_open marks (tokens_from text c.at)) (cursor_of text c) (λ _. D.pass (cursor_of text c))
