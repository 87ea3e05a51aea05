-- A word of at most 8 bytes that is not data, packed, passes the table's test of names. Assumes nothing.
use Rattle.std.specs.Prelude.{◌≡◌, refl, true, false, List, [], ◌∷◌, ℕ, zero, suc, ◌+◌, ◌-◌, ◌*◌, ◌/◌, ◌%◌, ◌<◌, ◌≤◌, ltb, leb, eqb, length}
use Rattle.std.proofs.lemmas.Bool.{false≢true}
use Rattle.std.proofs.Common.{sym, ap, ◌∙◌, subst, arith, ne_eqb, lt-ltb, le-ltb, leb-true}
use Rattle.std.proofs.Math.Bool.{and-eq-true_iff}
use Rattle.language.specs.Limits.{name_bytes}
use Rattle.language.specs.Names.{bytes, between, is_letter, in_word, pack_onto, packed, let_word, word_in, is_data}
use Rattle.language.specs.NamesLaws.{Each, NameByte, word_byte, packed-injective}
use Rattle.members.specs.Members.{same_bytes}
use Rattle.members.specs.MembersLaws.{same_bytes_lem}
use Rattle.language.specs.Cases.{split, either}
use Rattle.grammar.proofs.Words.{IsWord, word_bytes}
use Rattle.layout.specs.Nodes.{word_number, is_name}

letter-range : (b : ℕ) → is_letter b ≡ true → (65 ≤ b) × (b < 256)
letter-range b h =
    either (between 65 90 b) (between 97 122 b) h
    (λ e. let l = leb-true 65 b ((and-eq-true_iff _ _).0 e).0 in let u = leb-true b 90 ((and-eq-true_iff (leb 65 b) _).0 e).1 in (omega arith, omega arith))
    (λ e. let l = leb-true 97 b ((and-eq-true_iff _ _).0 e).0 in let u = leb-true b 122 ((and-eq-true_iff (leb 97 b) _).0 e).1 in (omega arith, omega arith))

number-first : (n b : ℕ) → is_letter b ≡ true → word_number (suc n) b ≡ true
unfolding word_number
number-first n b h = let r = letter-range b h in rw (lt-ltb b 256 r.1) h

-- one more byte
number_more : (n k b : ℕ) → 1 ≤ k → word_number n k ≡ true → in_word b ≡ true → word_number (suc n) (k * 256 + b) ≡ true
unfolding word_number
number_more n k b h w i =
    let r = (word_byte b i).1 in
    let q : (k * 256 + b) % 256 ≡ b = omega arith in
    let d : (k * 256 + b) / 256 ≡ k = omega arith in
    rw (le-ltb (k * 256 + b) 256 (omega arith), q, d, i) w

number-onto : (w : List ℕ) (n m k : ℕ) → n + length w ≡ m → 1 ≤ k → word_number n k ≡ true → Each (λ b. in_word b ≡ true) w → word_number m (pack_onto k w) ≡ true
unfolding pack_onto
number-onto [] n m k e h w r = let q : n ≡ m = omega arith in rw q at w
number-onto (b ∷ v) n m k e h w r = number-onto v (suc n) m (k * 256 + b) (omega arith) (omega arith) (number_more n k b h w r.0) r.1

number-longer : (n k : ℕ) → word_number n k ≡ true → word_number (suc n) k ≡ true
unfolding word_number
number-longer zero k h = absurd (false≢true h)
number-longer (suc n) k h =
    split (ltb k 256)
    (λ e. rw e (rw e at h))
    (λ e. let u = rw e at h in let a = ((and-eq-true_iff (in_word (k % 256)) (word_number n (k / 256))).0 u).0 in rw (e, a) (number-longer n (k / 256) ((and-eq-true_iff (in_word (k % 256)) _).0 u).1))

number_up : (j n k : ℕ) → word_number n k ≡ true → word_number (j + n) k ≡ true
number_up zero n k h = let q : 0 + n ≡ n = omega arith in rw q h
number_up (suc j) n k h = let q : suc j + n ≡ suc (j + n) = omega arith in rw q (number-longer (j + n) k (number_up j n k h))

word_number_lem : (w : List ℕ) → IsWord w → length w ≤ name_bytes → word_number name_bytes (packed w) ≡ true
unfolding pack_onto
word_number_lem w h l =
    let x = h.is in
    let r = letter-range h.head h.letter in
    let b = r.0 in
    let k : length w ≡ suc (length h.tail) = ap length x in
    let z : 0 * 256 + h.head ≡ h.head = omega arith in
    let v : word_number (1 + length h.tail) (pack_onto h.head h.tail) ≡ true =
    number-onto h.tail 1 (1 + length h.tail) h.head refl (omega arith) (number-first 0 h.head h.letter) h.rest in
    let j : (8 - (1 + length h.tail)) + (1 + length h.tail) ≡ 8 = omega arith in
    rw (x, z) (subst (λ (m : ℕ). word_number m (pack_onto h.head h.tail) ≡ true) j (number_up (8 - (1 + length h.tail)) (1 + length h.tail) (pack_onto h.head h.tail) v))

other_word : (w v : List ℕ) → IsWord w → Each NameByte v → same_bytes w v ≡ false → eqb (packed w) (packed v) ≡ false
other_word w v h b e = ne_eqb (packed w) (packed v) (λ q. absurd (false≢true (sym e ∙ (same_bytes_lem w v).1 (packed-injective w v (word_bytes w h) b q))))

let-bytes : Each NameByte let_word
unfolding let_word bytes
let-bytes = ((omega arith, omega arith), ((omega arith, omega arith), ((omega arith, omega arith), tt)))

in_bytes : Each NameByte word_in
unfolding word_in bytes
in_bytes = ((omega arith, omega arith), ((omega arith, omega arith), tt))

-- a word of at most 8 bytes that is not data is a name
pub word-name : (w : List ℕ) → IsWord w → length w ≤ name_bytes → is_data w ≡ false → is_name (packed w) ≡ true
unfolding is_name is_data
word-name w h l d = rw (word_number_lem w h l, other_word w let_word h let-bytes h.no-let, other_word w word_in h in_bytes h.no-in, d)
