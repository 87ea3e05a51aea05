-- The tokens that lex_at finds, one behind the other, are the tokens of the text. Assumes nothing.
use Rattle.std.specs.Prelude.{◌≡◌, Bool, true, false, cond, ◌||◌, ℕ, zero, suc, ◌+◌, ◌-◌, ◌≤◌, ◌<◌, ℤ, length, get_or, Some, None}
use Rattle.std.proofs.Math.Path.{refl, ap}
use Rattle.std.proofs.Common.{sym, ◌∙◌, true≢false, add-zero, length-drop, drop-drop, take_all, ltb-false}
use mathlib.Core.List.{List, [], ◌∷◌}
use native.Mathlib.Omega.{arith}
use Rattle.std.specs.Int.Signed.{lt_z}
use Rattle.std.proofs.Math.ListN.{drop}
use Rattle.language.specs.Limits.{name_bytes, least_number, most_number}
use Rattle.language.specs.Names.{is_blank, is_long, packed}
use Rattle.grammar.specs.Tokens.{Token, k_let, k_in, k_equals, k_lambda, k_arrow, k_dot, k_open, k_shut, k_comma, word, number, other, when, leading, Lexeme, token_at, Located, scan}
use Rattle.lexer.specs.declared.tokens.Lexed.{Lexed}
use Rattle.lexer.specs.declared.tokens.TokenKind.{TokenKind}
use Rattle.lexer.specs.declared.tokens.TokenKind.TheVariants as K
use Rattle.lexer.specs.Lexing.{token_kind, kind_number, placed, ended, place_from, front_at, lex_at, tokens_from, bytes_at, value_of, judged, name_at, token_for}
use Rattle.lexer.specs.TokenLaws.{Spans, token-spans}

-- ---- scan, past bytes inside a token and past blanks
inside : (n at : ℕ) (l : List ℕ) → scan n at l ≡ scan 0 (at + n) (drop n l)
unfolding scan
inside zero at l = rw add-zero
inside (suc n) at [] = refl
inside (suc n) at (b ∷ bs) = inside n (suc at) bs ∙ ap (λ (k : ℕ). scan 0 k (drop n bs)) (omega arith)

blanks : (at : ℕ) (l : List ℕ) → scan 0 at l ≡ scan 0 (at + leading is_blank l) (drop (leading is_blank l) l)
unfolding scan when leading
blanks at [] = refl
blanks at (b ∷ bs) = go (is_blank b) refl (blanks (suc at) bs)
  where
    n : ℕ
    n = leading is_blank bs

    go : (t : Bool) → is_blank b ≡ t → scan 0 (suc at) bs ≡ scan 0 (suc at + n) (drop n bs)
        → scan 0 at (b ∷ bs) ≡ scan 0 (at + when t (λ _. suc n) (λ _. 0)) (drop (when t (λ _. suc n) (λ _. 0)) (b ∷ bs))
    go true e ih = rw e (ih ∙ ap (λ (k : ℕ). scan 0 k (drop n bs)) (omega arith))
    go false e ih = rw add-zero

-- what stands behind the blanks is none
no-blank : (l : List ℕ) (b : ℕ) (bs : List ℕ) → drop (leading is_blank l) l ≡ b ∷ bs → is_blank b ≡ false
unfolding leading when
no-blank [] b bs e = let z : true ≡ false = cc in absurd (true≢false z)
no-blank (c ∷ cs) b bs e = go (is_blank c) refl e (no-blank cs b bs)
  where
    go : (t : Bool) → is_blank c ≡ t → drop (when t (λ _. suc (leading is_blank cs)) (λ _. 0)) (c ∷ cs) ≡ b ∷ bs
        → (drop (leading is_blank cs) cs ≡ b ∷ bs → is_blank b ≡ false) → is_blank b ≡ false
    go true q e ih = ih e
    go false q e ih = let z : c ≡ b = cc in rw z at q

-- the rest of the tokens, behind a token of n bytes
less : (n : ℕ) → suc n - 1 ≡ n
less n = omega arith

behind : (n at b : ℕ) (bs : List ℕ) → 1 ≤ n → scan (n - 1) (suc at) bs ≡ scan 0 (at + n) (drop n (b ∷ bs))
behind zero at b bs h = absurd (omega arith)
behind (suc n) at b bs h = rw less (inside n (suc at) bs ∙ ap (λ (k : ℕ). scan 0 k (drop n bs)) (omega arith))

front : (at b : ℕ) (bs : List ℕ) → is_blank b ≡ false
    → scan 0 at (b ∷ bs) ≡ record { token = (token_at b bs).0; place = at } ∷ scan 0 (at + (token_at b bs).1) (drop (token_at b bs).1 (b ∷ bs))
unfolding scan when
front at b bs e =
    rw e
    (ap (λ (l : List Located). record { token = (token_at b bs).0; place = at } ∷ l)
    (behind (token_at b bs).1 at b bs (token-spans b bs).some))

-- ---- kinds by number
unfoldable kind-at : ℕ → TokenKind
kind-at n = get_or (K.End ∷ K.Let ∷ K.In ∷ K.Equals ∷ K.Lambda ∷ K.Arrow ∷ K.Dot ∷ K.Open ∷ K.Shut ∷ K.Comma ∷ K.Word ∷ K.Number ∷ K.Other ∷ []) n K.End

kind-back : (k : TokenKind) → kind-at (kind_number k) ≡ k
unfolding kind-at
kind-back K.End = refl
kind-back K.Let = refl
kind-back K.In = refl
kind-back K.Equals = refl
kind-back K.Lambda = refl
kind-back K.Arrow = refl
kind-back K.Dot = refl
kind-back K.Open = refl
kind-back K.Shut = refl
kind-back K.Comma = refl
kind-back K.Word = refl
kind-back K.Number = refl
kind-back K.Other = refl

pub same-kind : (a b : TokenKind) → kind_number a ≡ kind_number b → a ≡ b
same-kind a b e = sym (kind-back a) ∙ ap kind-at e ∙ kind-back b

-- ---- the token that lex_at finds
-- a token stands at x, not before at: it is the next token of the text, and the others follow behind it
pub record Stands (text : List ℕ) (at : ℕ) (x : Lexed) : Type 0 where
  pub ahead : at ≤ x.start
  pub longer : x.start < x.end
  pub within : x.end ≤ length text
  pub kind-is : token_kind (token_for x.kind (bytes_at text x.start x.end)) ≡ x.kind
  pub next : tokens_from text at
      ≡ record { token = token_for x.kind (bytes_at text x.start x.end); place = x.start } ∷ tokens_from text x.end

record Lexes (text : List ℕ) (at : ℕ) (x : Lexed) : Type 0 where
  none : x.kind ≡ K.End → (x ≡ ended (length text)) × (tokens_from text at ≡ [])
  some : (x.kind ≡ K.End → ⊥) → Stands text at x

-- a kind stands for one kind of token
pub kind-for : (t : Token) (w : List ℕ) → token_kind (token_for (token_kind t) w) ≡ token_kind t
unfolding token_for
kind-for k_let w = refl
kind-for k_in w = refl
kind-for k_equals w = refl
kind-for k_lambda w = refl
kind-for k_arrow w = refl
kind-for k_dot w = refl
kind-for k_open w = refl
kind-for k_shut w = refl
kind-for k_comma w = refl
kind-for (word v) w = refl
kind-for (number z) w = refl
kind-for (other b) w = refl

kind-some : (t : Token) → token_kind t ≡ K.End → ⊥
unfolding token_for
kind-some t z = let c : K.Other ≡ K.End = rw z at (kind-for t []) in cc

-- a lexeme that the bytes at place p begin with, as a token of the text
module _ (text : List ℕ) (p b : ℕ) (bs : List ℕ) (q : drop p text ≡ b ∷ bs) (x : Lexeme) (f : Spans (b ∷ bs) x) where
  end-within : p + x.1 ≤ length text
  end-within = omega (arith, length-drop p text, ap length q, f.some, f.within)

  which : x.0 ≡ token_for (token_kind x.0) (bytes_at text p (p + x.1))
  which = let n : p + x.1 - p ≡ x.1 = omega arith in rw (n, q) (sym f.which)

  rest : drop x.1 (b ∷ bs) ≡ drop (p + x.1) text
  rest = ap (λ (l : List ℕ). drop x.1 l) (sym q) ∙ drop-drop x.1 p text

module _ (text : List ℕ) (at : ℕ) where
  moved : scan 0 at (drop at text) ≡ scan 0 (place_from text at) (drop (place_from text at) text)
  unfolding place_from
  moved =
      blanks at (drop at text)
      ∙ ap (λ (l : List ℕ). scan 0 (at + leading is_blank (drop at text)) l) (drop-drop (leading is_blank (drop at text)) at text)

  clear : (b : ℕ) (bs : List ℕ) → drop (place_from text at) text ≡ b ∷ bs → is_blank b ≡ false
  unfolding place_from
  clear b bs q = no-blank (drop at text) b bs (drop-drop (leading is_blank (drop at text)) at text ∙ q)

  from : at ≤ place_from text at
  unfolding place_from
  from = omega arith

  stands : (b : ℕ) (bs : List ℕ) → drop (place_from text at) text ≡ b ∷ bs → Stands text at (placed (place_from text at) (token_at b bs))
  stands b bs q =
      let p : ℕ = place_from text at in
      let x : Lexeme = token_at b bs in
      let f : Spans (b ∷ bs) x = token-spans b bs in
      record {
        ahead = from;
        longer = omega (arith, f.some);
        within = end-within text p b bs q x f;
        kind-is = kind-for x.0 (bytes_at text p (p + x.1));
        next =
            moved ∙ ap (λ (l : List ℕ). scan 0 p l) q ∙ front p b bs (clear b bs q)
            ∙ (λ i. record { token = which text p b bs q x f i; place = p } ∷ scan 0 (p + x.1) (rest text p b bs q x f i));
      }

  lexes : Lexes text at (lex_at text at)
  unfolding lex_at front_at scan
  lexes = go (drop (place_from text at) text) refl
    where
      go : (l : List ℕ) → drop (place_from text at) text ≡ l → Lexes text at (front_at (length text) (place_from text at) l)
      go [] q = record { none = λ _. (refl, moved ∙ ap (λ (l : List ℕ). scan 0 (place_from text at) l) q); some = λ n. absurd (n refl) }
      go (b ∷ bs) q =
          record { none = λ z. absurd (kind-some (token_at b bs).0 z); some = λ _. stands b bs q }

-- ---- for a reader: x is what `token` gave at a place
module _ (text : List ℕ) (at : ℕ) (x : Lexed) (e : x ≡ lex_at text at) where
  lexed : Lexes text at x
  lexed = rw e (lexes text at)

  -- at the end no token is left
  pub lex-none : x.kind ≡ K.End → tokens_from text at ≡ []
  lex-none z = (lexed.none z).1

  pub lex-end : x.kind ≡ K.End → x ≡ ended (length text)
  lex-end z = (lexed.none z).0

  -- else the token stands at its place, and the bytes left become fewer
  pub lex-some : (x.kind ≡ K.End → ⊥) → Stands text at x
  lex-some n = lexed.some n

  -- the next token by its kind
  pub lex-kind : (k : TokenKind) → (k ≡ K.End → ⊥) → x.kind ≡ k
      → tokens_from text at ≡ record { token = token_for k (bytes_at text x.start x.end); place = x.start } ∷ tokens_from text x.end
  lex-kind k n q = rw q at (lex-some (λ z. n (sym q ∙ z))).next

  pub lex-word : x.kind ≡ K.Word → tokens_from text at ≡ record { token = word (bytes_at text x.start x.end); place = x.start } ∷ tokens_from text x.end
  unfolding token_for
  lex-word q = lex-kind K.Word (λ z. cc) q

  pub lex-number : x.kind ≡ K.Number
      → tokens_from text at ≡ record { token = number (value_of (bytes_at text x.start x.end)); place = x.start } ∷ tokens_from text x.end
  unfolding token_for
  lex-number q = lex-kind K.Number (λ z. cc) q

-- ---- the value of a number token, and refusal 6's test
abbrev pub outside : ℤ → Bool
outside z = lt_z z least_number || lt_z most_number z

pub judged-in : (z n : ℤ) → judged z ≡ Some n → (n ≡ z) × (outside z ≡ false)
unfolding judged
judged-in z n = go (lt_z z least_number) (lt_z most_number z)
  where
    go : (t u : Bool) → cond t None (cond u None (Some z)) ≡ Some n → (n ≡ z) × ((t || u) ≡ false)
    go true u q = cc
    go false true q = cc
    go false false q = ((cc), refl)

pub judged-beyond : (z : ℤ) → judged z ≡ None → outside z ≡ true
unfolding judged
judged-beyond z = go (lt_z z least_number) (lt_z most_number z)
  where
    go : (t u : Bool) → cond t None (cond u None (Some z)) ≡ None → (t || u) ≡ true
    go true u q = refl
    go false true q = refl
    go false false q = cc

-- ---- a name that is not too long is packed whole
pub name-whole : (w : List ℕ) → is_long w ≡ false → name_at w ≡ packed w
unfolding name_at
name-whole w e = ap packed (take_all name_bytes w (ltb-false name_bytes (length w) e))
