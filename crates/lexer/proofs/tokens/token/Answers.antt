-- The place behind the blanks is the place of lex_at, and the first byte there picks the case of token_at. Assumes nothing.
use Rattle.language.specs.Names.{is_blank}
use Rattle.lexer.proofs.TokenPaths.{token_end, token-word, token-digits, token-minus, token-mark}
use Rattle.lexer.proofs.tokens.token.Goals as goal

pub returns-then-text-start : goal.returns-then-text-start
returns-then-text-start c = let e = c.run_end-start.ensures is_blank (λ b r q. q) in search token_end

pub returns-then-is_letter : goal.returns-then-is_letter
returns-then-is_letter c = let e = c.run_end-start.ensures is_blank (λ b r q. q) in search token-word

pub returns-then-is_digit : goal.returns-then-is_digit
returns-then-is_digit c = let e = c.run_end-start.ensures is_blank (λ b r q. q) in search token-digits

pub returns-then-b-eq45 : goal.returns-then-b-eq45
returns-then-b-eq45 c = let e = c.run_end-start.ensures is_blank (λ b r q. q) in search token-minus

pub returns : goal.returns
returns c =
    token-mark _ _ _ (c.run_end-start.ensures is_blank (λ b r q. q)) c.if-text-start.false _ c.is_letter.ensures
    c.if-is_letter.false _ c.is_digit.ensures _ c.if-is_digit.false c.if-b-eq45.false c.mark_kind.ensures
