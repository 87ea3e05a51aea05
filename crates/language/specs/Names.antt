-- 01, "The text": bytes, words and names. A name is kept as one number, its bytes packed in base 256, the first byte highest.
-- Assumes nothing: these are definitions. That packing loses nothing is in NamesLaws.
use Rattle.std.specs.Prelude.{Bool, ◌&&◌, ◌||◌, List, [], ◌∷◌, ℕ, ◌+◌, ◌*◌, leb, ltb, eqb, length}
use Prim.Native.Char.{code}
use Prim.Native.String.{String, [] as empty_text, ◌∷◌ as ◌then◌}
use Rattle.language.specs.Limits.{name_bytes}

-- the bytes of a quoted ASCII text
unfoldable pub bytes : String → List ℕ
bytes empty_text = []
bytes (c then s) = code c ∷ bytes s

-- from lo to hi
abbrev pub between : ℕ → ℕ → ℕ → Bool
between lo hi b = leb lo b && leb b hi

abbrev pub is_letter : ℕ → Bool
is_letter b = between 65 90 b || between 97 122 b

abbrev pub is_digit : ℕ → Bool
is_digit b = between 48 57 b

abbrev pub in_word : ℕ → Bool
in_word b = is_letter b || is_digit b

-- space, tab, CR, LF
abbrev pub is_blank : ℕ → Bool
is_blank b = eqb b 32 || (eqb b 9 || (eqb b 13 || eqb b 10))

-- how many values a byte has: the base in which the bytes of a name are packed
abbrev pub byte_base : ℕ
byte_base = 256

-- the number that stands for a list of bytes
unfoldable pub pack_onto : ℕ → List ℕ → ℕ
pack_onto n [] = n
pack_onto n (b ∷ w) = pack_onto (n * byte_base + b) w

abbrev pub packed : List ℕ → ℕ
packed w = pack_onto 0 w

-- two names are one name
abbrev pub same_name : List ℕ → List ℕ → Bool
same_name v w = eqb (packed v) (packed w)

-- 01, refusal 7: over 8 bytes
abbrev pub is_long : List ℕ → Bool
is_long w = ltb name_bytes (length w)

-- the reserved words and the recording's name
unfoldable pub let_word : List ℕ
let_word = bytes "let"

unfoldable pub word_in : List ℕ
word_in = bytes "in"

unfoldable pub data_word : List ℕ
data_word = bytes "data"

unfoldable pub is_data : List ℕ → Bool
unfolding data_word
is_data w = same_name w data_word
