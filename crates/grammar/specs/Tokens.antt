-- 01, "The text": the tokens of a text, longest first, each with its byte place. Assumes nothing: these are definitions.
use Rattle.std.specs.Prelude.{Bool, true, false, cond, List, [], ◌∷◌, ℕ, zero, suc, ◌+◌, ◌*◌, ◌-◌, eqb, ℤ, pos, neg_ℤ, take}
use Rattle.language.specs.Names.{is_letter, is_digit, in_word, is_blank, let_word, word_in}
use Rattle.members.specs.Members.{same_bytes}

-- let in = \ -> . ( ) , and words and numbers
pub data Token : Type 0 where
  k_let k_in k_equals k_lambda k_arrow k_dot k_open k_shut k_comma : Token
  word : List ℕ → Token
  number : ℤ → Token
  -- a byte that starts no token
  other : ℕ → Token

-- a choice whose branches wait
unfoldable pub when : {A : Type 0} → Bool → (Unit {0} → A) → (Unit {0} → A) → A
when true a b = a tt
when false a b = b tt

-- how many bytes at the front pass the test
unfoldable pub leading : (ℕ → Bool) → List ℕ → ℕ
leading p [] = 0
leading p (b ∷ bs) = when (p b) (λ _. suc (leading p bs)) (λ _. 0)

-- decimal digits, read onto n
unfoldable pub decimal_onto : ℕ → List ℕ → ℕ
decimal_onto n [] = n
decimal_onto n (b ∷ bs) = decimal_onto (n * 10 + (b - 48)) bs

abbrev pub decimal : List ℕ → ℕ
decimal ds = decimal_onto 0 ds

-- a token, and how many bytes it has
abbrev pub Lexeme : Type 0
Lexeme = Token × ℕ

-- let and in are never names or members
unfoldable pub word_token : List ℕ → Token
word_token w = cond (same_bytes w let_word) k_let (cond (same_bytes w word_in) k_in (word w))

-- a word is a letter, then letters and digits
unfoldable pub word_at : List ℕ → Lexeme
word_at t = let n : ℕ = leading in_word t in (word_token (take n t), n)

-- a number is decimal digits; leading zeros are allowed
unfoldable pub digits_at : List ℕ → Lexeme
digits_at t = let n : ℕ = leading is_digit t in (number (pos (decimal (take n t))), n)

-- after a minus sign: digits directly behind it, or the rest of an arrow
unfoldable pub minus_at : List ℕ → Lexeme
minus_at [] = (other 45, 1)
minus_at (b ∷ bs) =
    when (is_digit b)
    (λ _. let n : ℕ = leading is_digit (b ∷ bs) in (number (neg_ℤ (pos (decimal (take n (b ∷ bs))))), suc n))
    (λ _. cond (eqb b 62) (k_arrow, 2) (other 45, 1))

-- the tokens of one byte: = \ . ( ) ,
unfoldable pub mark_token : ℕ → Token
mark_token b =
    cond (eqb b 61) k_equals
    (cond (eqb b 92) k_lambda
    (cond (eqb b 46) k_dot
    (cond (eqb b 40) k_open
    (cond (eqb b 41) k_shut
    (cond (eqb b 44) k_comma
    (other b))))))

-- the token at the front of b ∷ bs, where b is no blank
unfoldable pub token_at : ℕ → List ℕ → Lexeme
token_at b bs =
    when (is_letter b) (λ _. word_at (b ∷ bs))
    (λ _. when (is_digit b) (λ _. digits_at (b ∷ bs))
    (λ _. when (eqb b 45) (λ _. minus_at bs)
    (λ _. (mark_token b, 1))))

-- a token and the place of its first byte
pub record Located : Type 0 where
  pub token : Token
  pub place : ℕ

-- from place at on, after the first inside bytes, which belong to the token before
unfoldable pub scan : (inside at : ℕ) → List ℕ → List Located
scan inside at [] = []
scan (suc n) at (b ∷ bs) = scan n (suc at) bs
scan zero at (b ∷ bs) =
    when (is_blank b)
    (λ _. scan zero (suc at) bs)
    (λ _. let x : Lexeme = token_at b bs in record { token = x.0; place = at } ∷ scan (x.1 - 1) (suc at) bs)

-- of a whole text
abbrev pub tokens : List ℕ → List Located
tokens t = scan 0 0 t
