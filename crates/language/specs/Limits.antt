-- 01, "Four calls" and "The text": the limits, each under the thing that it limits. Assumes nothing: these are definitions.
use Rattle.std.specs.Prelude.{ℕ, ℤ, pos, negsuc}

-- a text: its bytes, its parts, the marks open at a point, the lambdas among them, and the bytes of a name
abbrev pub text_bytes : ℕ
text_bytes = 1024

abbrev pub text_parts : ℕ
text_parts = 128

abbrev pub open_marks : ℕ
open_marks = 16

abbrev pub open_lambdas : ℕ
open_lambdas = 2

abbrev pub name_bytes : ℕ
name_bytes = 8

-- a table of entries, and the recording beside it
abbrev pub table_entries : ℕ
table_entries = 512

abbrev pub table_readings : ℕ
table_readings = 1024

-- a number: signed 32 bits
abbrev pub least_number : ℤ
least_number = negsuc 2147483647

abbrev pub most_number : ℤ
most_number = pos 2147483647
