-- What the measured functions answer, as one number, and what they leave in lent memory. Where the arguments are out of range the answer is 0
-- and nothing is written. Assumes nothing: these are definitions.
use Rattle.std.specs.Prelude.{◌≡◌, Bool, false, cond, ◌&&◌, List, [], ◌++◌, ℕ, ◌+◌, ◌*◌, ◌-◌, ◌%◌, min, leb, ltb, ℤ, length, get_or, drop, Result, Ok, Err}
use Rattle.language.specs.Limits.{text_bytes, text_parts, table_entries, table_readings}
use Rattle.layout.specs.Links.{table_cells}
use Rattle.layout.specs.Memory.{node_at}
use Rattle.layout.specs.Held.{record_at}
use Rattle.table.specs.WellFormed.{distinct}
use Rattle.table.specs.Right.{right_at}
use Rattle.layout.specs.Numbered.{all_from, numbered}
use Rattle.table.specs.Bind.{Bound, bind_all}
use Rattle.binder.specs.Records.{bound}
use Rattle.schedule.specs.Works.{Work, work_of, worked}
use Rattle.descent.specs.Descent.{read_into}
use Rattle.reader.specs.Results.{answer_of, no_binders}
use Rattle.reader.specs.declared.answer.Read.{Read}
use Rattle.language.specs.declared.refusals.Refused.{Refused}
use Rattle.language.specs.Refusals.{refusal_number}
use Rattle.printing.specs.Printed.{text_of}
use Rattle.writer.specs.Writing.{form_in}

-- 1 for yes
abbrev pub flag : Bool → ℕ
flag b = cond b 1 0

-- reading: the number of parts and the number of records, or the refusal and its place
abbrev pub read_number : Result Read Refused → ℕ
read_number (Ok a) = 65536 * a.parts + a.records
read_number (Err e) = 4294967296 * refusal_number e.refusal + e.place % 65536

-- the answer, and each cell of the two arrays
pub record ReadInto (text R P : List ℕ) (r : ℕ) (R' P' : List ℕ) : Type 0 where
  pub answer : r ≡ read_number (answer_of (read_into text R P no_binders).cursor)
  pub records : R' ≡ (read_into text R P no_binders).records
  pub places : P' ≡ (read_into text R P no_binders).places

-- binding n records to the first `count` entries: the number of entries then, and the last record's entry
abbrev pub can_bind : List ℕ → List ℕ → ℕ → ℕ → Bool
can_bind links cells count n = leb count table_entries && ((leb 1 n && leb n text_parts) && distinct (numbered (node_at links cells) 0 count))

abbrev pub bound_all : List ℕ → List ℕ → ℕ → List ℕ → ℕ → Bound
bound_all links cells count records n = bind_all (bound (numbered (node_at links cells) 0 count) []) (numbered (record_at records) 0 n)

abbrev pub bound_number : ℕ → ℕ → ℕ
bound_number total last = 65536 * total + last

unfoldable pub bind_number : List ℕ → List ℕ → ℕ → List ℕ → ℕ → ℕ
bind_number links cells count records n =
    cond (can_bind links cells count n)
    (bound_number (length (bound_all links cells count records n).nodes) (get_or (bound_all links cells count records n).numbers (n - 1) 0))
    0

-- working out: twice the number of entries worked out, and one more if some are left
abbrev pub packed_work : ℕ → Bool → ℕ
packed_work count left = cond left (2 * count + 1) (2 * count)

abbrev pub can_work : List ℤ → List ℕ → ℕ → Bool
can_work xs cells n = leb (length xs) table_readings && (leb table_cells (length cells) && ltb n table_entries)

unfoldable pub work_measured : List ℤ → List ℕ → List ℕ → ℕ → ℕ → Work
work_measured xs links cells n allowance = cond (can_work xs cells n) (worked xs links cells n allowance) (work_of cells 0 false)

pub record Worked (xs : List ℤ) (links cells : List ℕ) (n allowance : ℕ) (after : List ℕ) (r : ℕ) : Type 0 where
  pub answer : r ≡ packed_work (work_measured xs links cells n allowance).count (work_measured xs links cells n allowance).left
  pub kept : after ≡ (work_measured xs links cells n allowance).cells

-- printing entry n of a table in which the nodes up to it are right
unfoldable pub can_print : List ℕ → List ℕ → ℕ → Bool
can_print links cells n = ltb n table_entries && all_from (right_at links cells) (n + 1) 0

-- the text of its form
abbrev pub entry_text : List ℕ → List ℕ → ℕ → List ℕ
entry_text links cells n = text_of (form_in links cells (n + 1) n)

-- what is written: the text, where the lent bytes have room for it and it is no longer than a text may be
unfoldable pub printed_bytes : List ℕ → List ℕ → ℕ → ℕ → List ℕ
printed_bytes links cells n lent =
    cond (can_print links cells n && leb (length (entry_text links cells n)) (min lent text_bytes)) (entry_text links cells n) []

-- the number of bytes that are written, and each lent byte: those behind them keep their contents
pub record PrintedInto (links cells : List ℕ) (n : ℕ) (bytes bytes' : List ℕ) (r : ℕ) : Type 0 where
  pub answer : r ≡ length (printed_bytes links cells n (length bytes))
  pub filled : bytes' ≡ printed_bytes links cells n (length bytes) ++ drop (length (printed_bytes links cells n (length bytes))) bytes
