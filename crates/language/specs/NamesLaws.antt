-- What packing keeps: a word's number is below 256 to the word's length, and two words of bytes from 1 to 255 have one number only if
-- they are one word. So a name may be kept as its number. Assumes nothing.
use Rattle.std.specs.Prelude.{◌≡◌, refl, true, List, [], ◌∷◌, ◌↔◌, ℕ, suc, ◌+◌, ◌*◌, ◌^◌, ◌≤◌, ◌<◌, leb, length, get_or, drop}
use Rattle.std.proofs.Common.{sym, ap, le_antisymm, pow-suc, zero-add, add-zero, suc-add, add-suc, add-one, arith, lit<, drop_of_length-le, drop-cons, eqb-true, eq-eqb, leb-true}
use Rattle.std.proofs.Math.Bool.{and-eq-true_iff}
use Rattle.std.proofs.Math.Nat.{pow-le-pow_right}
use Rattle.std.proofs.Math.Decide.{dec_lt}
use Rattle.language.specs.Cases.{either}
use Rattle.language.specs.Names.{between, is_letter, is_digit, in_word, pack_onto, packed, same_name}

-- every byte of a word is such
abbrev pub Each : (ℕ → Type 0) → List ℕ → Type 0
Each P [] = Unit {0}
Each P (b ∷ w) = P b × Each P w

pub each_map : {P Q : ℕ → Type 0} → ((b : ℕ) → P b → Q b) → (w : List ℕ) → Each P w → Each Q w
each_map f [] h = tt
each_map f (b ∷ w) h = (f b h.0, each_map f w h.1)

abbrev pub Byte : ℕ → Type 0
Byte b = b < 256

pub bytes-at : (w : List ℕ) → ((k : ℕ) → k < length w → Byte (get_or w k 0)) → Each Byte w
bytes-at [] h = tt
bytes-at (b ∷ w) h = (h 0 (omega arith), bytes-at w (λ k l. h (suc k) (omega arith)))

-- a byte that a name may have: letters and digits are among them
abbrev pub NameByte : ℕ → Type 0
NameByte b = (0 < b) × (b < 256)

-- one byte more is one digit more in base 256
pub digit-below : (i n b : ℕ) → n < 256 ^ i → Byte b → n * 256 + b < 256 ^ suc i
digit-below i n b h k = omega (arith, pow-suc 256 i)

digit-above : (i n b : ℕ) → 256 ^ i ≤ n → 256 ^ suc i ≤ n * 256 + b
digit-above i n b h = omega (arith, pow-suc 256 i)

onto-below : (w : List ℕ) (i n : ℕ) → Each Byte w → n < 256 ^ i → pack_onto n w < 256 ^ (length w + i)
unfolding pack_onto
onto-below [] i n hs h = rw zero-add h
onto-below (b ∷ w) i n hs h = rw (suc-add, ← add-suc) (onto-below w (suc i) _ hs.1 (digit-below i n b h hs.0))

onto-above : (w : List ℕ) (i n : ℕ) → 256 ^ i ≤ n → 256 ^ (length w + i) ≤ pack_onto n w
unfolding pack_onto
onto-above [] i n h = rw zero-add h
onto-above (b ∷ w) i n h = rw (suc-add, ← add-suc) (onto-above w (suc i) _ (digit-above i n b h))

pub packed-below : (w : List ℕ) → Each Byte w → packed w < 256 ^ length w
packed-below w hs = rw add-zero at (onto-below w 0 0 hs (lit< tt))

packed_above : (b : ℕ) (w : List ℕ) → 0 < b → 256 ^ length w ≤ packed (b ∷ w)
unfolding pack_onto
packed_above b w h = rw add-zero at (onto-above w 0 (0 * 256 + b) (omega arith))

pub packed-word : (w : List ℕ) → length w ≤ 8 → Each Byte w → packed w < 2 ^ 64
packed-word w le hs = omega (arith, packed-below w hs, pow-le-pow_right {n = 256} (lit< tt) le)

-- packing, byte by byte: there is room for eight
pub pack-more : (w : List ℕ) (i n : ℕ) → i < length w → pack_onto (n * 256 + get_or w i 0) (drop (i + 1) w) ≡ pack_onto n (drop i w)
unfolding pack_onto
pack-more w i n h = rw (add-one, drop-cons w i 0 h)

pub pack-done : (w : List ℕ) (i n : ℕ) → length w ≤ i → pack_onto n (drop i w) ≡ n
unfolding pack_onto
pack-done w i n h = rw (drop_of_length-le w h)

pub pack-room : (i n : ℕ) → i < 8 → n < 256 ^ i → n < 256 ^ 7
pack-room i n le h = omega (arith, pow-le-pow_right {n = 256} (lit< tt) {i = i} {j = 7} (omega arith))

-- two words of one length that pack to one number are one word, packed onto one number
onto-equal : (v w : List ℕ) (m n : ℕ) → Each Byte v → Each Byte w → length v ≡ length w → pack_onto m v ≡ pack_onto n w → (m ≡ n) × (v ≡ w)
unfolding pack_onto
onto-equal [] [] m n hv hw l e = (e, refl)
onto-equal [] (b ∷ w) m n hv hw l e = absurd (omega arith)
onto-equal (a ∷ v) [] m n hv hw l e = absurd (omega arith)
onto-equal (a ∷ v) (b ∷ w) m n hv hw l e =
    let ih = onto-equal v w (m * 256 + a) (n * 256 + b) hv.1 hw.1 (omega arith) e in
    let t : v ≡ w = ih.1 in
    let d : m * 256 + a ≡ n * 256 + b = ih.0 in
    let ab : a ≡ b = omega arith in
    (omega arith, cc)

power-order : (i j : ℕ) → 256 ^ i < 256 ^ j → i < j
power-order i j h =
    elim (dec_lt i j) [ yes lt ↦ lt | no ge ↦ let le : j ≤ i = omega arith in absurd (omega (arith, pow-le-pow_right {n = 256} (lit< tt) le)) ]

-- a first byte that is not zero keeps its place
not-longer : (v w : List ℕ) → Each Byte v → Each NameByte w → packed v ≡ packed w → length w ≤ length v
not-longer v [] hv hw e = omega arith
not-longer v (b ∷ w) hv hw e = power-order (length w) (length v) (omega (arith, packed-below v hv, packed_above b w hw.0.0))

name-bytes : (w : List ℕ) → Each NameByte w → Each Byte w
name-bytes = each_map (λ b h. h.1)

-- two words of one length have one number only if they are one word, whatever their bytes
pub packed-same : (v w : List ℕ) → Each Byte v → Each Byte w → length v ≡ length w → packed v ≡ packed w → v ≡ w
packed-same v w hv hw l e = (onto-equal v w 0 0 hv hw l e).1

-- and of any lengths, if none of their bytes is 0
pub packed-injective : (v w : List ℕ) → Each NameByte v → Each NameByte w → packed v ≡ packed w → v ≡ w
packed-injective v w hv hw e =
    let bv = name-bytes v hv in
    let bw = name-bytes w hw in
    packed-same v w bv bw (le_antisymm (not-longer w v bw hv (sym e)) (not-longer v w bv hw e)) e

pub same-name : (v w : List ℕ) → Each NameByte v → Each NameByte w → (same_name v w ≡ true) ↔ (v ≡ w)
same-name v w hv hw = (λ e. packed-injective v w hv hw (eqb-true (packed v) (packed w) e), λ e. eq-eqb (packed v) (packed w) (ap packed e))

-- letters and digits are bytes of names
name-between : (lo hi b : ℕ) → 0 < lo → hi < 256 → between lo hi b ≡ true → NameByte b
name-between lo hi b l h e =
    let both = (and-eq-true_iff (leb lo b) (leb b hi)).0 e in
    omega (arith, leb-true lo b both.0, leb-true b hi both.1)

pub word_byte : (b : ℕ) → in_word b ≡ true → NameByte b
word_byte b e =
    either (is_letter b) (is_digit b) e
    (λ l. either (between 65 90 b) (between 97 122 b) l (name-between 65 90 b (lit< tt) (lit< tt)) (name-between 97 122 b (lit< tt) (lit< tt)))
    (name-between 48 57 b (lit< tt) (lit< tt))
