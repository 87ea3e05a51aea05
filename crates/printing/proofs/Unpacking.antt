-- What a packed word unpacks to: the word, if it has at most so many bytes and none of them is 0. Assumes nothing.
use Rattle.std.specs.Prelude.{◌≡◌, refl, false, List, [], ◌∷◌, ◌++◌, ℕ, zero, suc, ◌+◌, ◌-◌, ◌*◌, ◌/◌, ◌%◌, ◌≤◌, eqb, length}
use Rattle.std.proofs.Common.{ap, ◌∙◌, append-nil, arith, ne_eqb}
use Rattle.language.specs.Limits.{name_bytes}
use Rattle.language.specs.Names.{pack_onto, packed}
use Rattle.language.specs.NamesLaws.{Each, NameByte}
use Rattle.printing.specs.Printed.{unpack_onto, unpacked}

-- a byte more
one_more : (n k b : ℕ) (u : List ℕ) → NameByte b → unpack_onto (suc n) (k * 256 + b) u ≡ unpack_onto n k (b ∷ u)
unfolding unpack_onto
one_more n k b u h =
    let z : eqb (k * 256 + b) 0 ≡ false = ne_eqb (k * 256 + b) 0 (λ e. omega (arith, h.0)) in
    let q : (k * 256 + b) / 256 ≡ k = omega (arith, h.1) in
    let r : (k * 256 + b) % 256 ≡ b = omega (arith, h.1) in
    rw (z, q, r)

unpack-onto : (w : List ℕ) (n k : ℕ) (u : List ℕ) → Each NameByte w → unpack_onto (length w + n) (pack_onto k w) u ≡ unpack_onto n k (w ++ u)
unfolding pack_onto
unpack-onto [] n k u h = let z : 0 + n ≡ n = omega arith in rw z
unpack-onto (b ∷ w) n k u h =
    let z : suc (length w) + n ≡ length w + suc n = omega arith in
    rw z (unpack-onto w (suc n) (k * 256 + b) u h.1) ∙ one_more n k b (w ++ u) h.0

pub none-packed : (n : ℕ) (u : List ℕ) → unpack_onto n 0 u ≡ u
unfolding unpack_onto
none-packed zero u = refl
none-packed (suc n) u = refl

pub unpack-packed : (w : List ℕ) → Each NameByte w → length w ≤ name_bytes → unpacked (packed w) ≡ w
unpack-packed w h l =
    let z : name_bytes ≡ length w + (name_bytes - length w) = omega arith in
    ap (λ n. unpack_onto n (packed w) []) z ∙ unpack-onto w (name_bytes - length w) 0 [] h ∙ none-packed (name_bytes - length w) (w ++ []) ∙ append-nil w
