-- What each path through a function that finds a token gives, from its tests and calls, over plain variables. Assumes nothing.
use mathlib.Core.Path.{◌≡◌, refl, ap, sym, ◌∙◌}
use mathlib.Core.Bool.{Bool, true, false, cond}
use mathlib.Core.List.{List, ◌∷◌}
use Prim.Native.Nat.{ℕ, suc, ◌+◌, ◌-◌, ◌≤◌, ◌<◌}
use native.Mathlib.Numerals.{add-one}
use native.Mathlib.Omega.{arith}
use lib.Dec.{eqb, lit<}
use lib.ListN.{length, take, drop, get_or, drop_of_length-le}
use lib.Seq.{drop-cons}
use borrow.Author.Tests.{eq-eqb, ne_eqb}
use Rattle.language.specs.Names.{is_letter, is_digit, in_word, is_blank, let_word, word_in, bytes, pack_onto, packed}
use Rattle.language.specs.NamesLaws.{Each, Byte}
use Rattle.members.specs.Members.{same_bytes}
use Rattle.members.specs.MembersLaws.{other-bytes, packed-tells}
use Rattle.grammar.specs.Tokens.{Lexeme, k_let, k_in, word, when, leading, word_token, word_at, digits_at, minus_at, mark_token, token_at}
use Rattle.lexer.specs.declared.tokens.Lexed.{Lexed}
use Rattle.lexer.specs.declared.tokens.TokenKind.{TokenKind}
use Rattle.lexer.specs.declared.tokens.TokenKind.TheVariants as K
use Rattle.lexer.specs.Lexing.{token_kind, placed, place_from, front_at, lex_at, bytes_at}
use Rattle.lexer.specs.Loops.{run_end}

-- ---- word_kind
module _ (w : List ℕ) (n : ℕ) (p : (n ≡ packed w) × Each Byte w) (t : Bool) where
  -- the word's number against that of a word of its length
  told : (v : List ℕ) → Each Byte v → length w ≡ length v → eqb n (packed v) ≡ t → same_bytes w v ≡ t
  told v b l e = sym (packed-tells w v p.1 b l) ∙ ap (λ (k : ℕ). eqb k (packed v)) (sym p.0) ∙ e

  pub word_two : length w ≡ 2 → eqb n 26990 ≡ t → cond t K.In K.Word ≡ token_kind (word_token w)
  unfolding word_token let_word word_in bytes pack_onto
  word_two l e = rw (other-bytes w let_word (λ q. omega (arith, ap length q)), told word_in (lit< tt, (lit< tt, tt)) l e) (by t)
    where
      by : (t : Bool) → cond t K.In K.Word ≡ token_kind (cond t k_in (word w))
      by true = refl
      by false = refl

  pub word-three : length w ≡ 3 → eqb n 7103860 ≡ t → cond t K.Let K.Word ≡ token_kind (word_token w)
  unfolding word_token let_word word_in bytes pack_onto
  word-three l e = rw (told let_word (lit< tt, (lit< tt, (lit< tt, tt))) l e, other-bytes w word_in (λ q. omega (arith, ap length q))) (by t)
    where
      by : (t : Bool) → cond t K.Let K.Word ≡ token_kind (cond t k_let (word w))
      by true = refl
      by false = refl

pub word-other : (w : List ℕ) → (length w ≡ 2 → ⊥) → (length w ≡ 3 → ⊥) → K.Word ≡ token_kind (word_token w)
unfolding word_token let_word word_in bytes
word-other w n m = rw (other-bytes w let_word (λ q. m (ap length q)), other-bytes w word_in (λ q. n (ap length q)))

-- ---- word, digits and minus
alike : {k k' : TokenKind} {e e' : ℕ} (s : ℕ) → k ≡ k' → e ≡ e'
    → ◌≡◌ {A = Lexed} (record { kind = k; start = s; end = e }) (record { kind = k'; start = s; end = e' })
alike s p q = λ i. record { kind = p i; start = s; end = q i }

module _ (text : List ℕ) (start : ℕ) where
  pub word-is : (end : ℕ) (k : TokenKind) (w : List ℕ) → end ≡ run_end in_word text start → w ≡ bytes_at text start end → k ≡ token_kind (word_token w)
      → record { kind = k; start = start; end = end } ≡ placed start (word_at (drop start text))
  unfolding run_end word_at
  word-is end k w e b q =
      let n : end - start ≡ leading in_word (drop start text) = omega arith in
      alike start (q ∙ ap (λ (x : List ℕ). token_kind (word_token x)) (b ∙ ap (λ (x : ℕ). take x (drop start text)) n)) e

  pub digits-is : (end : ℕ) → end ≡ run_end is_digit text start → record { kind = K.Number; start = start; end = end } ≡ placed start (digits_at (drop start text))
  unfolding run_end digits_at
  digits-is end e = alike start refl e

  module _ (h : start + 1 < length text) (r : Bool) (d : r ≡ is_digit (get_or text (start + 1) 0)) where
    next : drop (start + 1) text ≡ get_or text (start + 1) 0 ∷ drop (suc (start + 1)) text
    next = drop-cons text (start + 1) 0 h

    pub minus-digits : (end : ℕ) → r ≡ true → end ≡ run_end is_digit text (start + 1)
        → record { kind = K.Number; start = start; end = end } ≡ placed start (minus_at (drop (start + 1) text))
    unfolding minus_at when run_end
    minus-digits end t e =
        let n : end ≡ start + suc (leading is_digit (get_or text (start + 1) 0 ∷ drop (suc (start + 1)) text)) =
        omega (arith, ap (λ (l : List ℕ). leading is_digit l) next) in
        rw (next, sym d ∙ t) (alike start refl n)

    pub minus-arrow : r ≡ false → get_or text (start + 1) 0 ≡ 62
        → record { kind = K.Arrow; start = start; end = start + 1 + 1 } ≡ placed start (minus_at (drop (start + 1) text))
    unfolding minus_at when
    minus-arrow t e = rw (next, sym d ∙ t, eq-eqb (get_or text (start + 1) 0) 62 e) (alike start refl (omega arith))

    pub minus-other : r ≡ false → (get_or text (start + 1) 0 ≡ 62 → ⊥)
        → record { kind = K.Other; start = start; end = start + 1 } ≡ placed start (minus_at (drop (start + 1) text))
    unfolding minus_at when
    minus-other t e = rw (next, sym d ∙ t, ne_eqb (get_or text (start + 1) 0) 62 e)

  pub minus-last : length text ≤ start + 1 → record { kind = K.Other; start = start; end = start + 1 } ≡ placed start (minus_at (drop (start + 1) text))
  unfolding minus_at
  minus-last h = rw (drop_of_length-le text h)

-- ---- token
module _ (text : List ℕ) (at start : ℕ) (blanks : start ≡ run_end is_blank text at) where
  here : lex_at text at ≡ front_at (length text) start (drop start text)
  unfolding lex_at place_from run_end
  here = rw (← blanks)

  pub token_end : length text ≤ start → record { kind = K.End; start = length text; end = length text } ≡ lex_at text at
  unfolding front_at
  token_end h = sym (here ∙ rw (drop_of_length-le text h))

  module _ (h : start < length text) (letter : Bool) (l : letter ≡ is_letter (get_or text start 0)) where
    front : drop start text ≡ get_or text start 0 ∷ drop (suc start) text
    front = drop-cons text start 0 h

    found : (x : Lexeme) → token_at (get_or text start 0) (drop (suc start) text) ≡ x → placed start x ≡ lex_at text at
    unfolding front_at
    found x e = sym (here ∙ rw (front, e))

    pub token-word : (x : Lexed) → letter ≡ true → x ≡ placed start (word_at (drop start text)) → x ≡ lex_at text at
    unfolding token_at when
    token-word x t e = e ∙ found (word_at (drop start text)) (rw (sym l ∙ t, front))

    module _ (no : letter ≡ false) (digit : Bool) (d : digit ≡ is_digit (get_or text start 0)) where
      pub token-digits : (x : Lexed) → digit ≡ true → x ≡ placed start (digits_at (drop start text)) → x ≡ lex_at text at
      unfolding token_at when
      token-digits x t e = e ∙ found (digits_at (drop start text)) (rw (sym l ∙ no, sym d ∙ t, front))

      pub token-minus : (x : Lexed) → digit ≡ false → get_or text start 0 ≡ 45 → x ≡ placed start (minus_at (drop (start + 1) text)) → x ≡ lex_at text at
      unfolding token_at when
      token-minus x t m e =
          e ∙ found (minus_at (drop (start + 1) text)) (rw (sym l ∙ no, sym d ∙ t, eq-eqb (get_or text start 0) 45 m, add-one))

      pub token-mark : (k : TokenKind) → digit ≡ false → (get_or text start 0 ≡ 45 → ⊥) → k ≡ token_kind (mark_token (get_or text start 0))
          → record { kind = k; start = start; end = start + 1 } ≡ lex_at text at
      unfolding token_at when
      token-mark k t m e =
          alike start e refl ∙ found (mark_token (get_or text start 0), 1) (rw (sym l ∙ no, sym d ∙ t, ne_eqb (get_or text start 0) 45 m))
