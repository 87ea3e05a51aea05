-- 02, T-04: the tokens of a printed text are the tokens that the form's tree spells. A word, or a number, that nothing of a word follows is one
-- token, and no printed part is followed by more of a word. Assumes nothing.
use Rattle.std.specs.Prelude.{◌≡◌, Bool, true, false, cond, ℕ, suc, ◌-◌, ◌≤◌, leb, ℤ, pos, negsuc, neg_ℤ, length, take}
use Rattle.std.proofs.Math.Path.{refl}
use Rattle.std.proofs.Common.{sym, ap, ◌∙◌, arith, leb-true, ne_eqb, leb→le}
use Rattle.std.proofs.Math.Bool.{and-eq-true_iff}
use mathlib.Core.List.{List, [], ◌∷◌, ◌++◌, map, append_assoc, append-nil}
use mathlib.Mathlib.Data.Bool.Basic.{or-eq-false-eq-eq-false-and-eq-false as neither}
use Rattle.std.proofs.lemmas.Bool.{lt-leb}
use Rattle.std.proofs.Math.Seq.{take-append_seam}
use Rattle.language.specs.Cases.{either}
use Rattle.language.specs.Names.{bytes, between, is_letter, is_digit, in_word, is_blank, data_word}
use Rattle.language.specs.NamesLaws.{Each}
use Rattle.members.specs.Members.{spelled}
use Rattle.grammar.specs.Tokens.{Token, k_lambda, k_arrow, k_dot, k_open, k_shut, word, number, when, leading, decimal}
use Rattle.grammar.specs.Tokens.{word_token, word_at, digits_at, minus_at, mark_token, token_at, Located, scan}
use Rattle.grammar.proofs.Words.{IsWord}
use Rattle.grammar.specs.Grammar.{Calls, done, call, none, first, last, spell_e, spell_c}
use Rattle.grammar.specs.KeptLimits.{InRange}
use Rattle.grammar.specs.Reading.{tokens_of}
use Rattle.meaning.specs.Forms.{Form, name_in, variable, unbound, readings, ask, function}
use Rattle.layout.specs.Nodes.{is_name}
use Rattle.printing.specs.Printed.{digits, decimals, unpacked, is_function, text_of}
use Rattle.printing.specs.Trees.{tree_with, tree_of}
use Rattle.printing.proofs.Printable.{Printable}
use Rattle.printing.proofs.NameLaws.{name-word, member-word, data-word}
use Rattle.printing.proofs.DigitLaws.{NotEmpty, digits-again, all_digits, some-digits}

-- the bytes have these tokens, from any place on
abbrev Scans : List ℕ → List Token → Type 0
Scans u ts = (at : ℕ) → map (λ (x : Located). x.token) (scan 0 at u) ≡ ts

-- the first byte, if there is one, does not pass the test
abbrev Stops : (ℕ → Bool) → List ℕ → Type 0
Stops p [] = Unit {0}
Stops p (b ∷ u) = p b ≡ false

-- the first byte belongs to no word and to no number
abbrev Ends : List ℕ → Type 0
Ends u = Stops in_word u

-- what passes the test is counted up to where it ends
leading-all : (p : ℕ → Bool) (w u : List ℕ) → Each (λ b. p b ≡ true) w → Stops p u → leading p (w ++ u) ≡ length w
unfolding leading when
leading-all p [] [] h s = refl
leading-all p [] (b ∷ u) h s = rw s
leading-all p (b ∷ w) u h s = rw (h.0, leading-all p w u h.1 s)

-- the bytes inside a token are passed over
passed : (w u : List ℕ) (ts : List Token) → Scans u ts → (at : ℕ) → map (λ (x : Located). x.token) (scan (length w) at (w ++ u)) ≡ ts
unfolding scan
passed [] u ts h at = h at
passed (b ∷ w) u ts h at = passed w u ts h (suc at)

-- a token of the byte b and the bytes w
one_token : (b : ℕ) (w u : List ℕ) (t : Token) (ts : List Token) → is_blank b ≡ false → token_at b (w ++ u) ≡ (t, suc (length w)) → Scans u ts
    → Scans (b ∷ (w ++ u)) (t ∷ ts)
unfolding scan when
one_token b w u t ts n e h at =
    let z : suc (length w) - 1 ≡ length w = omega arith in
    rw (n, e, z) (ap (λ (us : List Token). t ∷ us) (passed w u ts h (suc at)))

-- letters and digits are no blanks, and digits are no letters
word-range : (b : ℕ) → in_word b ≡ true → 48 ≤ b
word-range b h =
    either (is_letter b) (is_digit b) h
    (λ l.
    either (between 65 90 b) (between 97 122 b) l
    (λ e. omega (arith, leb-true 65 b ((and-eq-true_iff (leb 65 b) _).0 e).0))
    (λ e. omega (arith, leb-true 97 b ((and-eq-true_iff (leb 97 b) _).0 e).0)))
    (λ e. leb-true 48 b ((and-eq-true_iff (leb 48 b) _).0 e).0)

no-blank : (b : ℕ) → in_word b ≡ true → is_blank b ≡ false
no-blank b h =
    let l = word-range b h in
    rw (ne_eqb b 32 (λ e. omega arith), ne_eqb b 9 (λ e. omega arith), ne_eqb b 13 (λ e. omega arith), ne_eqb b 10 (λ e. omega arith))

no-letter : (b : ℕ) → is_digit b ≡ true → is_letter b ≡ false
no-letter b h =
    let l = leb-true b 57 ((and-eq-true_iff (leb 48 b) _).0 h).1 in
    rw (lt-leb 65 b (omega arith), lt-leb 97 b (omega arith))

digit-word : (b : ℕ) → is_digit b ≡ true → in_word b ≡ true
digit-word b h = rw (no-letter b h) h

-- a word
scans-word : (w u : List ℕ) (ts : List Token) → IsWord w → Ends u → Scans u ts → Scans (w ++ u) (word w ∷ ts)
unfolding token_at word_at word_token when
scans-word w u ts h s k =
    let c : in_word h.head ≡ true = rw h.letter in
    let is = h.is in
    let n : leading in_word (h.head ∷ (h.tail ++ u)) ≡ suc (length h.tail) = leading-all in_word (h.head ∷ h.tail) u (c, h.rest) s in
    let t : take (suc (length h.tail)) (h.head ∷ (h.tail ++ u)) ≡ w = take-append_seam (h.head ∷ h.tail) u ∙ sym is in
    rw is
    (one_token h.head h.tail u (word (h.head ∷ h.tail)) ts (no-blank h.head c)
    (rw (h.letter, n, t, h.no-let, h.no-in, is))
    k)

-- digits, and - directly before digits
no_digit : (u : List ℕ) → Ends u → Stops is_digit u
no_digit [] s = tt
no_digit (b ∷ u) s = ((neither (is_letter b) (is_digit b)).0 s).1

scans-digits : (ds u : List ℕ) (ts : List Token) → NotEmpty ds → Each (λ b. is_digit b ≡ true) ds → Ends u → Scans u ts
    → Scans (ds ++ u) (number (pos (decimal ds)) ∷ ts)
unfolding token_at digits_at when
scans-digits [] u ts o h s k = absurd o
scans-digits (d ∷ ds) u ts o h s k =
    one_token d ds u (number (pos (decimal (d ∷ ds)))) ts (no-blank d (digit-word d h.0))
    (rw (no-letter d h.0, h.0, leading-all is_digit (d ∷ ds) u h (no_digit u s), take-append_seam (d ∷ ds) u))
    k

scans-minus : (ds u : List ℕ) (ts : List Token) → NotEmpty ds → Each (λ b. is_digit b ≡ true) ds → Ends u → Scans u ts
    → Scans (45 ∷ (ds ++ u)) (number (neg_ℤ (pos (decimal ds))) ∷ ts)
unfolding token_at minus_at when
scans-minus [] u ts o h s k = absurd o
scans-minus (d ∷ ds) u ts o h s k =
    one_token 45 (d ∷ ds) u (number (neg_ℤ (pos (decimal (d ∷ ds))))) ts refl
    (rw (h.0, leading-all is_digit (d ∷ ds) u h (no_digit u s), take-append_seam (d ∷ ds) u))
    k

-- marks of one byte, and -> between blanks
module _ (u : List ℕ) (ts : List Token) (h : Scans u ts) where
  scans-open : Scans (40 ∷ u) (k_open ∷ ts)
  unfolding token_at mark_token when
  scans-open = one_token 40 [] u k_open ts refl refl h

  scans-shut : Scans (41 ∷ u) (k_shut ∷ ts)
  unfolding token_at mark_token when
  scans-shut = one_token 41 [] u k_shut ts refl refl h

  scans-dot : Scans (46 ∷ u) (k_dot ∷ ts)
  unfolding token_at mark_token when
  scans-dot = one_token 46 [] u k_dot ts refl refl h

  scans-backslash : Scans (92 ∷ u) (k_lambda ∷ ts)
  unfolding token_at mark_token when
  scans-backslash = one_token 92 [] u k_lambda ts refl refl h

  scans-arrow : Scans (32 ∷ 45 ∷ 62 ∷ 32 ∷ u) (k_arrow ∷ ts)
  unfolding token_at minus_at when scan
  scans-arrow at = one_token 45 (62 ∷ []) (32 ∷ u) k_arrow ts refl refl (λ k. h (suc k)) (suc at)

-- a number of a form
scans-number : (z : ℤ) (u : List ℕ) (ts : List Token) → InRange z → Ends u → Scans u ts → Scans (decimals z ++ u) (number z ∷ ts)
unfolding decimals
scans-number (pos k) u ts h s n =
    let most = leb→le k 2147483647 h.1.le in
    let e = digits-again k (omega arith) in
    rw e at (scans-digits (digits k) u ts (some-digits k) (all_digits k) s n)
scans-number (negsuc k) u ts h s n =
    let least = leb→le k 2147483647 h.0.le in
    let e = digits-again (suc k) (omega arith) in
    rw e at (scans-minus (digits (suc k)) u ts (some-digits (suc k)) (all_digits (suc k)) s n)

-- something is called
is_call : Calls → Bool
is_call done = false
is_call (call m a) = true

-- the text of a form with the calls r behind it
abbrev standing : Form → Calls → List ℕ
standing f r = cond (is_function f) (cond (is_call r) (bytes "(" ++ (text_of f ++ bytes ")")) (text_of f)) (text_of f)

same-either : (b : Bool) (t : List ℕ) → cond b t t ≡ t
same-either true t = refl
same-either false t = refl

-- where nothing is called on the form
alone : (f : Form) (u : List ℕ) (ts : List Token) → Scans (standing f done ++ u) ts → Scans (text_of f ++ u) ts
unfolding is_call
alone f u ts h = rw (same-either (is_function f) (text_of f)) at h

-- \ name -> and what follows
scans-function : (x : ℕ) (u : List ℕ) (ts : List Token) → is_name x ≡ true → Scans u ts
    → Scans (92 ∷ (unpacked x ++ (32 ∷ 45 ∷ 62 ∷ 32 ∷ u))) (k_lambda ∷ word (unpacked x) ∷ k_arrow ∷ ts)
scans-function x u ts h k = scans-backslash _ _ (scans-word (unpacked x) _ _ (name-word x h) refl (scans-arrow u ts k))

-- a form with the calls r behind it: what follows its text has the tokens of those calls, and begins with no letter and no digit
scans-form : (f : Form) → Printable f → (r : Calls) (u : List ℕ) (ts : List Token) → Ends u → Scans u (spell_c r ts)
    → Scans (standing f r ++ u) (spell_e (tree_with f r) ts)
unfolding text_of tree_with spell_e bytes is_call
scans-form (Form.number z) p r u ts e k = scans-number z u (spell_c r ts) p e k
scans-form (variable v) p r u ts e k = scans-word (unpacked (name_in v)) u (spell_c r ts) (name-word (name_in v) p) e k
scans-form (unbound x) p r u ts e k = scans-word (unpacked x) u (spell_c r ts) (name-word x p) e k
scans-form readings p r u ts e k = scans-word data_word u (spell_c r ts) data-word e k
scans-form (ask m f) p r u ts e k =
    simp append_assoc
    (scans-form f p (call (spelled m) (none r)) (46 ∷ (spelled m ++ (40 ∷ 41 ∷ u))) ts refl
    (scans-dot _ _ (scans-word (spelled m) _ _ (member-word m) refl (scans-open _ _ (scans-shut u (spell_c r ts) k)))))
scans-form (Form.call m f a) p r u ts e k =
    simp append_assoc
    (scans-form f p.0 (call (spelled m) (first (tree_of a) (last r))) (46 ∷ (spelled m ++ (40 ∷ (text_of a ++ (41 ∷ u))))) ts refl
    (scans-dot _ _ (scans-word (spelled m) _ _ (member-word m) refl
    (scans-open _ _ (alone a _ _ (scans-form a p.1 done (41 ∷ u) (k_shut ∷ spell_c r ts) refl (scans-shut u (spell_c r ts) k)))))))
scans-form (function v b) p done u ts e k =
    simp append_assoc (scans-function (name_in v) (text_of b ++ u) (spell_e (tree_of b) ts) p.0 (alone b _ _ (scans-form b p.1 done u ts e k)))
scans-form (function v b) p (call m a) u ts e k =
    simp append_assoc
    (scans-open _ _ (scans-function (name_in v) (text_of b ++ (41 ∷ u)) (spell_e (tree_of b) (k_shut ∷ spell_c (call m a) ts)) p.0
    (alone b _ _ (scans-form b p.1 done (41 ∷ u) (k_shut ∷ spell_c (call m a) ts) refl (scans-shut u (spell_c (call m a) ts) k)))))

-- the tokens of a form's text are those of its tree
pub tokens-spelled : (f : Form) → Printable f → tokens_of (text_of f) ≡ spell_e (tree_of f) []
unfolding scan spell_e
tokens-spelled f p = rw append-nil at (alone f [] _ (scans-form f p done [] [] tt (λ at. refl)) 0)
