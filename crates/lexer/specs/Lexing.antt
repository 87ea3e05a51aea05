-- 01, "The text": the token at a place of a text, from grammar's Tokens, as its kind and its two places. Assumes nothing: these are definitions.
-- That the tokens so found are the tokens of the text is in LexingLaws.
use Rattle.std.specs.Prelude.{cond, List, [], ◌∷◌, ℕ, ◌+◌, ◌-◌, eqb, ℤ, pos, neg_ℤ, length, take, drop, get_or, Option, Some, None}
use Rattle.std.specs.Int.Signed.{lt_z}
use Rattle.language.specs.Limits.{name_bytes, least_number, most_number}
use Rattle.language.specs.Names.{is_blank, packed}
use Rattle.grammar.specs.Tokens.{Token, k_let, k_in, k_equals, k_lambda, k_arrow, k_dot, k_open, k_shut, k_comma, word, number, other, leading, decimal, Lexeme, token_at, Located, scan}
use Rattle.lexer.specs.declared.tokens.Lexed.{Lexed}
use Rattle.lexer.specs.declared.tokens.TokenKind.{TokenKind}
use Rattle.lexer.specs.declared.tokens.TokenKind.TheVariants as K

-- the kinds
abbrev pub token_kind : Token → TokenKind
token_kind k_let = K.Let
token_kind k_in = K.In
token_kind k_equals = K.Equals
token_kind k_lambda = K.Lambda
token_kind k_arrow = K.Arrow
token_kind k_dot = K.Dot
token_kind k_open = K.Open
token_kind k_shut = K.Shut
token_kind k_comma = K.Comma
token_kind (word w) = K.Word
token_kind (number z) = K.Number
token_kind (other b) = K.Other

-- the kinds by number; 0 is the end of the text
abbrev pub kind_number : TokenKind → ℕ
kind_number K.End = 0
kind_number K.Let = 1
kind_number K.In = 2
kind_number K.Equals = 3
kind_number K.Lambda = 4
kind_number K.Arrow = 5
kind_number K.Dot = 6
kind_number K.Open = 7
kind_number K.Shut = 8
kind_number K.Comma = 9
kind_number K.Word = 10
kind_number K.Number = 11
kind_number K.Other = 12

-- a token of some width at a place, and the end of a text of length n
abbrev pub placed : ℕ → Lexeme → Lexed
placed p x = record { kind = token_kind x.0; start = p; end = p + x.1 }

abbrev pub ended : ℕ → Lexed
ended n = record { kind = K.End; start = n; end = n }

-- the first place from at on that holds no blank
unfoldable pub place_from : List ℕ → ℕ → ℕ
place_from text at = at + leading is_blank (drop at text)

-- the token at the front of what is left at place p, in a text of length n
unfoldable pub front_at : ℕ → ℕ → List ℕ → Lexed
front_at n p [] = ended n
front_at n p (b ∷ bs) = placed p (token_at b bs)

-- the token at a place, or behind the blanks there
unfoldable pub lex_at : List ℕ → ℕ → Lexed
lex_at text at = front_at (length text) (place_from text at) (drop (place_from text at) text)

-- the tokens of the text from a place on; tokens text are those from 0
abbrev pub tokens_from : List ℕ → ℕ → List Located
tokens_from text at = scan 0 at (drop at text)

-- the bytes from start up to end
abbrev pub bytes_at : List ℕ → ℕ → ℕ → List ℕ
bytes_at text start end = take (end - start) (drop start text)

-- the value of a number token's bytes: digits, with a minus sign before them or not
unfoldable pub value_of : List ℕ → ℤ
value_of w = cond (eqb (get_or w 0 0) 45) (neg_ℤ (pos (decimal (drop 1 w)))) (pos (decimal w))

-- 01, refusal 6: beyond signed 32 bits
unfoldable pub judged : ℤ → Option ℤ
judged z = cond (lt_z z least_number) None (cond (lt_z most_number z) None (Some z))

-- the packed name of a word, of its first 8 bytes where it is longer
unfoldable pub name_at : List ℕ → ℕ
name_at w = packed (take name_bytes w)

-- the token of a kind other than the end that has the bytes w
unfoldable pub token_for : TokenKind → List ℕ → Token
token_for K.End w = other 0
token_for K.Let w = k_let
token_for K.In w = k_in
token_for K.Equals w = k_equals
token_for K.Lambda w = k_lambda
token_for K.Arrow w = k_arrow
token_for K.Dot w = k_dot
token_for K.Open w = k_open
token_for K.Shut w = k_shut
token_for K.Comma w = k_comma
token_for K.Word w = word w
token_for K.Number w = number (value_of w)
token_for K.Other w = other (get_or w 0 0)
