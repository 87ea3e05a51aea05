-- What the parser's functions require and ensure: descent's Fit and Reads of the states that the cursor and the arrays stand for.
-- Assumes nothing: these are definitions.
use Rattle.std.specs.Prelude.{◌≡◌, List, ℕ, ◌+◌, ◌*◌, ◌≤◌, length, Result, Ok, Err, IfOk}
use Rattle.descent.specs.Descent.{State, Mode, in_calls}
use Rattle.descent.specs.Fit.{Fit}
use Rattle.descent.specs.Paths.{Reads}
use Rattle.steps.specs.declared.cursor.Cursor.{Cursor}
use Rattle.language.specs.declared.refusals.Refused.{Refused}
use Rattle.lexer.specs.declared.tokens.Lexed.{Lexed}
use Rattle.lexer.specs.declared.tokens.TokenKind.{TokenKind}
use Rattle.lexer.specs.declared.tokens.TokenKind.TheVariants as K
use Rattle.lexer.specs.Lexing.{lex_at, tokens_from}
use Rattle.steps.specs.Cursors.{state_of, Leaves, KeepsRefusal}

-- nothing was refused before
abbrev pub IsClear : Cursor → Type 0
IsClear c = c.number ≡ 0

pub record Ready (m : Mode) (text : List ℕ) (c : Cursor) (records places scope : List ℕ) : Type 0 where
  pub clear : IsClear c
  pub fit : Fit m (state_of text c records places scope)

-- where the token x is next, of one kind
pub record ReadyAt (k : TokenKind) (x : Lexed) (m : Mode) (text : List ℕ) (c : Cursor) (records places scope : List ℕ) : Type 0 where
  pub next : x ≡ lex_at text c.at
  pub kind : x.kind ≡ k
  pub clear : IsClear c
  pub fit : Fit m (state_of text c records places scope)

-- where the token x is next, and begins neither a let nor a lambda
pub record ReadyAtom (x : Lexed) (m : Mode) (text : List ℕ) (c : Cursor) (records places scope : List ℕ) : Type 0 where
  pub next : x ≡ lex_at text c.at
  pub no-let : x.kind ≡ K.Let → ⊥
  pub no-lambda : x.kind ≡ K.Lambda → ⊥
  pub ready : Ready m text c records places scope

-- descent's reader m comes to a state, which is what the code leaves; a cursor that is left is clear too, and has the refusal's place that c has
pub record Parses (m : Mode) (text : List ℕ) (c : Cursor) (records places scope : List ℕ) (r : Result Cursor Refused) (records' places' scope' : List ℕ) : Type 0 where
  pub state : State
  pub reads : Reads (length text) m (state_of text c records places scope) state
  pub leaves : Leaves text r records' places' scope' state
  pub clear : IfOk r IsClear
  pub kept : KeepsRefusal c r

-- up to where calls may follow, behind an atom or the bracket that ends a call: a refusal on the way is the answer of the reader m, and else m
-- goes on with the calls from there
pub record Continues (m : Mode) (marks depth : ℕ) (text : List ℕ) (c : Cursor) (records places scope : List ℕ) (r : Result Cursor Refused) (records' places' scope' : List ℕ) : Type 0 where
  pub stops : (e : Refused) → r ≡ Err e → Parses m text c records places scope r records' places' scope'
  pub goes : (a : Cursor) → r ≡ Ok a → (q : Result Cursor Refused) (records'' places'' scope'' : List ℕ) → Parses (in_calls marks depth) text a records' places' scope' q records'' places'' scope''
      → Parses m text c records places scope q records'' places'' scope''
  pub fit : (a : Cursor) → r ≡ Ok a → Ready (in_calls marks depth) text a records' places' scope'
  pub less : (a : Cursor) → r ≡ Ok a → length (tokens_from text a.at) + 1 ≤ length (tokens_from text c.at)

-- three for each token that is left, and the order of the calls that pass none
abbrev pub measure : ℕ → List ℕ → Cursor → ℕ
measure rank text c = 3 * length (tokens_from text c.at) + rank
