-- 02, T-04: the bytes of a name. The bytes that a name's number packs are a word of at most 8 bytes, neither let, in nor data, and packed
-- again they are that number. The name of a member is a word too, and so is data. Assumes nothing.
use Rattle.std.specs.Prelude.{◌≡◌, refl, Bool, true, false, not, ◌&&◌, ◌||◌, ℕ, zero, suc, ◌+◌, ◌*◌, ◌/◌, ◌%◌, ◌≤◌, ltb, eqb, length}
use Rattle.std.proofs.Common.{sym, ap, ◌∙◌, arith, ne_eqb, ltb-true, ltb-false}
use Rattle.std.proofs.Math.Bool.{and-eq-true_iff}
use mathlib.Core.List.{List, [], ◌∷◌}
use mathlib.Mathlib.Data.Bool.Basic.{or-eq-false-eq-eq-false-and-eq-false as neither}
use Rattle.std.proofs.lemmas.Bool.{eqb-false, not-true, false≢true}
use Rattle.language.specs.Cases.{split}
use Rattle.language.specs.Limits.{name_bytes}
use Rattle.language.specs.Names.{bytes, is_letter, in_word, pack_onto, packed, let_word, word_in, data_word, is_data}
use Rattle.language.specs.NamesLaws.{Each, word_byte}
use Rattle.members.specs.Members.{spelled, same_bytes}
use Rattle.members.specs.MembersLaws.{each, other-bytes}
use Rattle.members.specs.declared.Member.{Member}
use Rattle.grammar.proofs.Words.{IsWord}
use Rattle.layout.specs.Nodes.{word_number, is_name}
use Rattle.printing.specs.Printed.{unpack_onto, unpacked}

-- w is what the number k of at most n bytes unpacks to, and then u
record Unpacks (n k : ℕ) (u w : List ℕ) : Type 0 where
  head : ℕ
  tail : List ℕ
  is : w ≡ head ∷ tail
  letter : is_letter head ≡ true
  rest : Each (λ b. in_word b ≡ true) tail
  again : packed w ≡ pack_onto k u
  short : length w ≤ n + length u

-- nothing is left to unpack
unpack-none : (n : ℕ) (u : List ℕ) → unpack_onto n 0 u ≡ u
unfolding unpack_onto
unpack-none zero u = refl
unpack-none (suc n) u = refl

letter-positive : (k : ℕ) → is_letter k ≡ true → eqb k 0 ≡ false
letter-positive k h = let p = (word_byte k (rw h)).0 in ne_eqb k 0 (λ e. omega arith)

unpacks : (n k : ℕ) (u : List ℕ) → word_number n k ≡ true → Each (λ b. in_word b ≡ true) u → Unpacks n k u (unpack_onto n k u)
unfolding word_number unpack_onto pack_onto
unpacks zero k u h r = absurd (false≢true h)
unpacks (suc n) k u h r =
    split (ltb k 256)
    (λ e.
    let lt = ltb-true k 256 e in
    let l : is_letter k ≡ true = rw e at h in
    let d : k / 256 ≡ 0 = omega arith in
    let m : k % 256 ≡ k = omega arith in
    let z : 0 * 256 + k ≡ k = omega arith in
    let p = letter-positive k l in
    rw (p, d, m, unpack-none n (k ∷ u))
    (record { head = k; tail = u; is = refl; letter = l; rest = r; again = rw z; short = omega arith }))
    (λ e.
    let ge = ltb-false k 256 e in
    let p = ne_eqb k 0 (λ q. omega arith) in
    let both = (and-eq-true_iff (in_word (k % 256)) (word_number n (k / 256))).0 (rw e at h) in
    let i = unpacks n (k / 256) ((k % 256) ∷ u) both.1 (both.0, r) in
    let m : k / 256 * 256 + k % 256 ≡ k = omega arith in
    rw p
    (record { head = i.head; tail = i.tail; is = i.is; letter = i.letter; rest = i.rest; again = rw m at i.again; short = omega (arith, i.short) }))

module _ (x : ℕ) (h : is_name x ≡ true) where
  the-bytes : Unpacks name_bytes x [] (unpacked x)
  unfolding is_name
  the-bytes = unpacks name_bytes x [] ((and-eq-true_iff (word_number name_bytes x) _).0 h).0 tt

  pub name-again : packed (unpacked x) ≡ x
  unfolding pack_onto
  name-again = the-bytes.again

  pub name-short : length (unpacked x) ≤ name_bytes
  name-short = omega (arith, the-bytes.short)

  -- let, in and data are no names
  no_name : (eqb x (packed let_word) ≡ false) × (eqb x (packed word_in) ≡ false) × (eqb x (packed data_word) ≡ false)
  unfolding is_name
  no_name =
      let a = (neither (eqb x (packed let_word)) _).0 (not-true _ ((and-eq-true_iff (word_number name_bytes x) _).0 h).1) in
      let b = (neither (eqb x (packed word_in)) _).0 a.1 in
      (a.0, b.0, b.1)

  not-word : (w : List ℕ) → eqb x (packed w) ≡ false → same_bytes (unpacked x) w ≡ false
  not-word w e = other-bytes (unpacked x) w (λ q. eqb-false x (packed w) e (sym name-again ∙ ap packed q))

  pub name-not-data : is_data (unpacked x) ≡ false
  unfolding is_data
  name-not-data = rw name-again no_name.2

  pub name-word : IsWord (unpacked x)
  name-word =
      record {
        head = the-bytes.head;
        tail = the-bytes.tail;
        is = the-bytes.is;
        letter = the-bytes.letter;
        rest = the-bytes.rest;
        no-let = not-word let_word no_name.0;
        no-in = not-word word_in no_name.1;
      }

-- the names of members, and data, are words, as a test shows
all_in_word : List ℕ → Bool
all_in_word [] = true
all_in_word (b ∷ w) = in_word b && all_in_word w

is_word : List ℕ → Bool
is_word [] = false
is_word (b ∷ w) = is_letter b && (all_in_word w && not (same_bytes (b ∷ w) let_word || same_bytes (b ∷ w) word_in))

all-in-word : (w : List ℕ) → all_in_word w ≡ true → Each (λ b. in_word b ≡ true) w
unfolding all_in_word
all-in-word [] h = tt
all-in-word (b ∷ w) h = let both = (and-eq-true_iff (in_word b) (all_in_word w)).0 h in (both.0, all-in-word w both.1)

is_word_lem : (w : List ℕ) → is_word w ≡ true → IsWord w
unfolding is_word
is_word_lem [] h = absurd (false≢true h)
is_word_lem (b ∷ w) h =
    let a = (and-eq-true_iff (is_letter b) _).0 h in
    let c = (and-eq-true_iff (all_in_word w) _).0 a.1 in
    let n = (neither (same_bytes (b ∷ w) let_word) _).0 (not-true _ c.1) in
    record { head = b; tail = w; is = refl; letter = a.0; rest = all-in-word w c.0; no-let = n.0; no-in = n.1 }

pub member-word : (m : Member) → IsWord (spelled m)
unfolding is_word all_in_word same_bytes let_word word_in bytes spelled
member-word m = is_word_lem (spelled m) (each (λ k. is_word (spelled k)) refl m)

pub data-word : IsWord data_word
unfolding is_word all_in_word same_bytes let_word word_in data_word bytes
data-word = is_word_lem data_word refl
