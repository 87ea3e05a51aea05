-- 02, T-04: the text that a let-free form is printed as. No blanks but one on either side of ->; brackets only where the grammar needs them,
-- around a function that is a receiver; shortest decimals; arguments parted by a comma alone, of which no member takes two. Of a variable only
-- the name is printed, and not its level (T-05).
-- Assumes nothing: these are definitions. Which tokens the text has is in TokenLaws.
use Rattle.std.specs.Prelude.{Bool, true, false, cond, List, [], ◌∷◌, ◌++◌, ℕ, zero, suc, ◌+◌, ◌/◌, ◌%◌, ltb, eqb, ℤ, pos, negsuc}
use Rattle.language.specs.Limits.{name_bytes}
use Rattle.language.specs.Names.{bytes, byte_base, data_word}
use Rattle.members.specs.Members.{spelled}
use Rattle.meaning.specs.Forms.{Form, name_in, number, variable, unbound, readings, ask, call, function}

-- a number is within signed 32 bits: it has at most 10 digits
abbrev pub number_digits : ℕ
number_digits = 10

-- the decimal digits of k, at most so many, and then u: the last one, and before it those of a tenth
unfoldable pub digits_onto : ℕ → ℕ → List ℕ → List ℕ
digits_onto zero k u = u
digits_onto (suc n) k u = cond (ltb k 10) ((48 + k) ∷ u) (digits_onto n (k / 10) ((48 + k % 10) ∷ u))

abbrev pub digits : ℕ → List ℕ
digits k = digits_onto number_digits k []

-- of a number: - directly before its digits
unfoldable pub decimals : ℤ → List ℕ
decimals (pos k) = digits k
decimals (negsuc k) = 45 ∷ digits (suc k)

-- the bytes that a number packs, at most so many, and then u: the last one, and before it those of the rest
unfoldable pub unpack_onto : ℕ → ℕ → List ℕ → List ℕ
unpack_onto zero k u = u
unpack_onto (suc n) k u = cond (eqb k 0) u (unpack_onto n (k / byte_base) ((k % byte_base) ∷ u))

-- of a name, which has at most 8
abbrev pub unpacked : ℕ → List ℕ
unpacked x = unpack_onto name_bytes x []

abbrev pub is_function : Form → Bool
is_function (number z) = false
is_function (variable v) = false
is_function (unbound x) = false
is_function readings = false
is_function (ask m f) = false
is_function (call m f a) = false
is_function (function v b) = true

-- the text t of the receiver f
abbrev pub as_receiver : Form → List ℕ → List ℕ
as_receiver f t = cond (is_function f) (bytes "(" ++ (t ++ bytes ")")) t

-- the text of a form
unfoldable pub text_of : Form → List ℕ
text_of (number z) = decimals z
text_of (variable v) = unpacked (name_in v)
text_of (unbound x) = unpacked x
text_of readings = data_word
text_of (ask m f) = as_receiver f (text_of f) ++ (bytes "." ++ (spelled m ++ bytes "()"))
text_of (call m f a) = as_receiver f (text_of f) ++ (bytes "." ++ (spelled m ++ (bytes "(" ++ (text_of a ++ bytes ")"))))
text_of (function v b) = bytes "\\" ++ (unpacked (name_in v) ++ (bytes " -> " ++ text_of b))
