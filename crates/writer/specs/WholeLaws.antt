-- All eight bytes of a packed word, and how many of these the word packs. Assumes nothing.
use Rattle.std.specs.Prelude.{◌≡◌, refl, List, [], ◌∷◌, ◌++◌, eqb, length, take, drop, set}
use Rattle.std.proofs.Common.{sym, ap, ◌∙◌, subst, arith, length-append, pow-add, pow_mono, drop-drop}
use Prim.Native.Nat.{ℕ, zero, suc, ◌+◌, ◌-◌, ◌*◌, ◌/◌, ◌%◌, ◌^◌, ◌≤◌, ◌<◌}
use Rattle.std.proofs.Math.Nat.{pow-suc, one-le-pow, mul_comm, div-div-eq-div-mul}
use Rattle.std.proofs.Math.Seq.{drop_at, length-take-le}
use Rattle.std.specs.Int.{byte_at, bytes_high_first, to_be_bytes, w64}
use borrow.Author.Tests.{ne_eqb}
use Rattle.std.specs.Int.Count.{count_leading_zeros}
use Rattle.std.proofs.lemmas.Nat.{leading_length}
use Rattle.language.specs.Limits.{name_bytes}
use Rattle.language.specs.Cases.{split}
use Rattle.printing.specs.Printed.{unpack_onto, unpacked}
use Rattle.writer.specs.Whole.{whole_onto}

-- the byte above another is that byte of the number without its lowest, and so are all above it
byte-above : (n k : ℕ) → byte_at (suc n) k ≡ byte_at n (k / 256)
byte-above zero k = refl
byte-above (suc n) k =
    let e : 256 ^ suc (suc n) ≡ 256 * 256 ^ suc n = pow-suc 256 (suc n) ∙ mul_comm (256 ^ suc n) 256 in
    ap (λ m. k / m % 256) e ∙ ap (λ m. m % 256) (sym (div-div-eq-div-mul k 256 (256 ^ suc n)))

bytes-above : (n k : ℕ) (u : List ℕ) → bytes_high_first (suc n) k ++ u ≡ bytes_high_first n (k / 256) ++ ((k % 256) ∷ u)
bytes-above zero k u = refl
bytes-above (suc n) k u = λ i. byte-above n k i ∷ bytes-above n k u i

-- the bytes of a word, the highest first, are the ones that are put before others
bytes-whole : (n k : ℕ) (u : List ℕ) → bytes_high_first n k ++ u ≡ whole_onto n k u
unfolding whole_onto
bytes-whole zero k u = refl
bytes-whole (suc n) k u = bytes-above n k u ∙ bytes-whole n (k / 256) ((k % 256) ∷ u)

pub whole-put : (start word : ℕ) (out new : List ℕ) → start + name_bytes ≤ length out → new ≡ to_be_bytes w64 word
    → drop start (take start out ++ (new ++ drop (start + name_bytes - start) (drop start out))) ≡ whole_onto name_bytes word (drop (start + name_bytes) out)
whole-put start word out new h e =
    let q : start + (start + name_bytes - start) ≡ start + name_bytes = omega arith in
    drop_at (take start out) _ start (length-take-le start out (omega arith))
    ∙ (λ i. e i ++ (drop-drop (start + name_bytes - start) start out ∙ ap (λ m. drop m out) q) i)
    ∙ bytes-whole name_bytes word _

-- byte by byte: one byte more, and the end
pub drop-set : (out : List ℕ) (k b : ℕ) → k < length out → drop k (set out k b) ≡ b ∷ drop (suc k) out
drop-set [] k b h = absurd (omega arith)
drop-set (x ∷ out) zero b h = refl
drop-set (x ∷ out) (suc k) b h = drop-set out k b (omega arith)

pub whole-byte : (start left left' rest b : ℕ) (out w : List ℕ) → suc left' ≡ left → start + left ≤ length out → b ≡ rest % 256
    → whole_onto left rest (drop (start + left) out) ≡ w → whole_onto left' (rest / 256) (drop (start + left') (set out (start + left') b)) ≡ w
unfolding whole_onto
whole-byte start left left' rest b out w z h e p =
    let q : suc (start + left') ≡ start + left = omega arith in
    let x : whole_onto (suc left') rest (drop (start + left) out) ≡ w = subst (λ k. whole_onto k rest (drop (start + left) out) ≡ w) (sym z) p in
    rw (drop-set out (start + left') b (omega arith), q, e) x

pub whole-end : (start left rest : ℕ) (out w : List ℕ) → left ≡ 0 → whole_onto left rest (drop (start + left) out) ≡ w → drop start out ≡ w
unfolding whole_onto
whole-end start left rest out w z p = let s : start + 0 ≡ start = omega arith in rw (z, s) at p

-- of these the ones that the word packs: behind the zeros
pub append-unpacked : (n k : ℕ) (v u : List ℕ) → unpack_onto n k (v ++ u) ≡ unpack_onto n k v ++ u
unfolding unpack_onto
append-unpacked zero k v u = refl
append-unpacked (suc n) k v u = split (eqb k 0) (λ z. rw z) (λ z. rw z (append-unpacked n (k / 256) ((k % 256) ∷ v) u))

past-whole : (n k : ℕ) (u : List ℕ) → drop n (whole_onto n k u) ≡ u
unfolding whole_onto
past-whole zero k u = refl
past-whole (suc n) k u =
    let t : List ℕ = whole_onto n (k / 256) ((k % 256) ∷ u) in
    let z : suc n ≡ n + 1 = omega arith in
    ap (λ m. drop m t) z ∙ sym (drop-drop 1 n t) ∙ ap (drop 1) (past-whole n (k / 256) ((k % 256) ∷ u))

pub past-zeros : (n k : ℕ) (u : List ℕ) → drop (n - length (unpack_onto n k [])) (whole_onto n k u) ≡ unpack_onto n k u
unfolding unpack_onto whole_onto
past-zeros zero k u = refl
past-zeros (suc n) k u =
    split (eqb k 0)
    (λ z. let d : suc n - 0 ≡ suc n = omega arith in rw (z, d) (past-whole (suc n) k u))
    (λ z.
    let q : ℕ = k / 256 in
    let l = ap length (append-unpacked n q [] ((k % 256) ∷ [])) ∙ length-append (unpack_onto n q []) ((k % 256) ∷ []) in
    let d : suc n - length (unpack_onto n q ((k % 256) ∷ [])) ≡ n - length (unpack_onto n q []) = omega (arith, l) in
    rw (z, d) (past-zeros n q ((k % 256) ∷ u)))

-- how many bytes a word packs: it is below this power of 256, and not below the one before
unpacked-length : (n k r : ℕ) (u : List ℕ) → k < 256 ^ r → 256 ^ r ≤ 256 * k + 255 → r ≤ n → length (unpack_onto n k u) ≡ r + length u
unfolding unpack_onto
unpacked-length zero k zero u h l s = omega arith
unpacked-length zero k (suc r) u h l s = absurd (omega arith)
unpacked-length (suc n) k zero u h l s = let z : k ≡ 0 = omega arith in rw z (omega arith)
unpacked-length (suc n) k (suc r) u h l s =
    let p = pow-suc 256 r in
    let g : 1 ≤ 256 ^ r = one-le-pow r 256 (omega arith) in
    let i = unpacked-length n (k / 256) r ((k % 256) ∷ u) (omega (arith, p)) (omega (arith, p)) (omega arith) in
    rw (ne_eqb k 0 (λ e. omega (arith, p, g))) (omega (arith, i))

power : (r : ℕ) → 256 ^ r ≡ 2 ^ (8 * r)
power zero = refl
power (suc r) =
    let z : 8 * suc r ≡ 8 * r + 8 = omega arith in
    pow-suc 256 r ∙ ap (λ x. x * 256) (power r) ∙ sym (ap (λ k. 2 ^ k) z ∙ pow-add 2 (8 * r) 8)

-- eight less the leading bytes that are 0
pub width-zeros : (word : ℕ) → word < 2 ^ 64 → name_bytes - count_leading_zeros 64 word / 8 ≡ length (unpacked word)
width-zeros word h =
    let t = leading_length 64 word h in
    let r : ℕ = name_bytes - count_leading_zeros 64 word / 8 in
    let u : 2 ^ t.0 ≤ 2 ^ (8 * r) = pow_mono (omega (arith, t.1)) in
    let v : 2 ^ (8 * r) ≤ 2 ^ (t.0 + 7) = pow_mono (omega (arith, t.1)) in
    let i = unpacked-length name_bytes word r [] (omega (arith, power r, t.2, u)) (omega (arith, power r, t.3, v, pow-add 2 t.0 7)) (omega arith) in
    omega (arith, i)
