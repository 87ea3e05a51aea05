-- 01, "Four calls" and "When a call is declined", and 02, T-04 and T-07: what open, edit, preview and print answer and what they leave in the lent
-- memory, what fetch hands out, and what evaluate answers, for every text, recording, number and memory. Assumes nothing: these are definitions.
use Rattle.std.specs.Prelude.{Bool, cond, not, ◌&&◌, ◌||◌, List, [], ◌++◌, map, ℕ, ◌-◌, leb, ltb, ℤ, length, get_or, set, take, drop, Result, Ok, Err}
use Rattle.language.specs.Limits.{text_bytes, text_parts, table_entries, table_readings}
use Rattle.grammar.specs.Grammar.{Expression}
use Rattle.grammar.specs.Reading.{Reading, tree, refused as refused_at}
use Rattle.grammar.specs.Machine.{read_text}
use Rattle.records.specs.Records.{Recorded, records_of}
use Rattle.model.specs.Model.{refused, opened, edited, written, filled, printing}
use Rattle.formulas.specs.Formulas.{formulas}
use Rattle.meaning.specs.Forms.{Form, readings}
use Rattle.meaning.specs.Binding.{forms_by_place}
use Rattle.meaning.specs.Evaluation.{shows}
use Rattle.rules.specs.declared.Value.{Value}
use Rattle.rules.specs.Values.{if_window}
use Rattle.values.specs.Packing.{unpack_of}
use Rattle.layout.specs.Memory.{Memory, memory, fits, entry_count, reading_count, recording_of, entries_of, nodes_of}
use Rattle.table.specs.EntryForms.{forms_of}
use Rattle.table.specs.WellFormed.{done_at, well_formed}
use Rattle.table.specs.Bind.{Bound, bind_all, append_all}
use Rattle.evaluator.specs.Frames.{start_at}
use Rattle.schedule.specs.Works.{Work, worked, show_of}
use Rattle.language.specs.declared.refusals.Refusal.{Refusal}
use Rattle.language.specs.declared.refusals.Refusal.TheVariants.{TextTooLong, RecordingTooLong, MemoryTooSmall, CacheIllFormed, NoSuchEntry}
use Rattle.language.specs.declared.refusals.Refused.{Refused}
use Rattle.language.specs.Refusals.{text_refusal}
use Rattle.interface.specs.declared.answers.Previewed.{Previewed}
use Rattle.interface.specs.declared.answers.Previewed.TheVariants.{NotYet, Finished}
use Rattle.interface.specs.declared.answers.Evaluated.{Evaluated}
use Rattle.interface.specs.Answers.{Reply, declined, preview_reply}
use Rattle.interface.specs.Views.{view_of}

-- Open: the counts and the recording are written, and nothing else.
unfoldable pub open_answer : Memory → List ℤ → Reply
open_answer m r = cond (ltb table_readings (length r)) (refused 2 0) (cond (fits m) opened (refused 3 0))

abbrev pub opened_memory : Memory → List ℤ → Memory
opened_memory m r = memory (r ++ drop (length r) m.readings) (set (set m.heads 0 0) 1 (length r)) m.links m.cells

unfoldable pub open_memory : Memory → List ℤ → Memory
open_memory m r = cond (not (ltb table_readings (length r)) && fits m) (opened_memory m r) m

-- Edit: the records of the text are bound to the entries held.
abbrev pub bound_to : Memory → Recorded → Bound
bound_to m R = bind_all (record { nodes = nodes_of (entries_of m); numbers = [] }) R.records

-- 01, refusal 13: entries held plus new forms exceed 512
abbrev pub too_many : Bound → Bool
too_many b = ltb table_entries (length b.nodes)

-- the whole's entry, the number of parts, the number of new entries, and each part's entry by place
abbrev pub edited_as : Memory → Recorded → Bound → Reply
edited_as m R b =
    cond (too_many b) (refused 13 0)
    (edited (get_or b.numbers R.root 0) (length R.places) (length b.nodes - entry_count m) (map (λ (j : ℕ). get_or b.numbers j 0) R.places))

-- the new entries are appended
abbrev pub edited_memory : Memory → Bound → Memory
edited_memory m b = cond (too_many b) m (append_all m (drop (entry_count m) b.nodes))

-- of what is read: 5 to 12, or the edit's answer
unfoldable pub read_answer : Memory → Reading → Reply
read_answer m (refused_at n at) = refused n at
read_answer m (tree e) = edited_as m (records_of e) (bound_to m (records_of e))

unfoldable pub read_memory : Memory → Reading → Memory
read_memory m (refused_at n at) = m
read_memory m (tree e) = edited_memory m (bound_to m (records_of e))

-- the refusals before the text is read: 1, 3 and 4 by number
abbrev pub declines : Memory → List ℕ → List ℕ → Bool
declines m places text = ltb text_bytes (length text) || (not (fits m && leb text_parts (length places)) || not (well_formed m))

-- 01: 1 to 4 are tested by number; then 5 to 12; then 13
unfoldable pub edit_answer : Memory → (places text : List ℕ) → Reply
edit_answer m places text =
    cond (ltb text_bytes (length text)) (refused 1 0)
    (cond (not (fits m && leb text_parts (length places))) (refused 3 0)
    (cond (not (well_formed m)) (refused 4 0)
    (read_answer m (read_text text))))

unfoldable pub edit_memory : Memory → (places text : List ℕ) → Memory
edit_memory m places text = cond (declines m places text) m (read_memory m (read_text text))

-- the first parts' places get their numbers, and the others keep their contents
abbrev pub edit_places : Memory → (places text : List ℕ) → List ℕ
edit_places m places text = written formulas (edit_answer m places text) places

-- Preview: the work on entry n, up to the allowance.
abbrev pub work_on : Memory → ℕ → ℕ → Work
work_on m n a = worked (recording_of m) m.links m.cells n a

abbrev pub worked_memory : Memory → Work → Memory
worked_memory m w = memory m.readings m.heads m.links w.cells

-- what the entry shows, unless some of the work is left
abbrev pub previewed_as : Memory → ℕ → Work → Previewed
previewed_as m n w = cond w.left (NotYet w.count) (Finished w.count (show_of (reading_count m) m.links w.cells n))

-- 01: 1 to 4 are tested by number; then 14
unfoldable pub previewed : Memory → (number allowance : ℕ) → Result Previewed Refusal
previewed m n a =
    cond (not (fits m)) (Err MemoryTooSmall)
    (cond (not (well_formed m)) (Err CacheIllFormed)
    (cond (not (ltb n (entry_count m))) (Err NoSuchEntry)
    (Ok (previewed_as m n (work_on m n a)))))

abbrev pub preview_answer : Memory → (number allowance : ℕ) → Reply
preview_answer m n a = preview_reply (previewed m n a)

unfoldable pub preview_memory : Memory → (number allowance : ℕ) → Memory
preview_memory m n a = cond (fits m && (well_formed m && ltb n (entry_count m))) (worked_memory m (work_on m n a)) m

-- Fetch: the part of the readings that entry n shows. For an entry not worked out, not a window or not existing, or a cache refused under 3
-- or 4, it is the empty part at the start.
pub record Part : Type 0 where
  pub start : ℕ
  pub length : ℕ

abbrev pub window_in : Value → Part
window_in v = if_window {A = Part} (record { start = 0; length = 0 }) v (λ s l. record { start = s; length = l })

-- 01, "Four calls": the empty part where the entry is not worked out or does not exist, or the cache is refused
unfoldable pub part_of : Memory → ℕ → Part
part_of m n =
    cond (fits m && (well_formed m && done_at (entries_of m) n)) (window_in (unpack_of (start_at (reading_count m) m.links m.cells n)))
    (record { start = 0; length = 0 })

-- that very part of the kept readings
abbrev pub fetched : Memory → ℕ → List ℤ
fetched m n = take (part_of m n).length (drop (part_of m n).start m.readings)

-- Print: the let-free form that entry n stands for, as text in the lent bytes. The cache is only read.
abbrev pub form_at : Memory → ℕ → Form
form_at m n = get_or (forms_of (nodes_of (entries_of m))) n readings

-- 02, T-04: 3, 4 and 14 as for preview; then 15 and 16, as the reference model has them
unfoldable pub print_answer : Memory → (number : ℕ) (bytes : List ℕ) → Reply
print_answer m n bytes =
    cond (not (fits m)) (refused 3 0)
    (cond (not (well_formed m)) (refused 4 0)
    (cond (not (ltb n (entry_count m))) (refused 14 0)
    (printing formulas (form_at m n) (length bytes))))

-- the first bytes get the text, and the others keep their contents
abbrev pub print_bytes : Memory → (number : ℕ) (bytes : List ℕ) → List ℕ
print_bytes m n bytes = filled formulas (print_answer m n bytes) bytes

-- Evaluate: what the part at a place of a text shows over a recording, without a cache. Nothing is lent.
abbrev pub part_shown : List ℤ → Expression → (place : ℕ) → Result Evaluated Refused
part_shown r e p =
    cond (ltb p (length (forms_by_place e)))
    (Ok (record { parts = length (forms_by_place e); shown = view_of (shows r (get_or (forms_by_place e) p readings)) }))
    (Err (declined NoSuchEntry 0))

unfoldable pub read_evaluated : List ℤ → (place : ℕ) → Reading → Result Evaluated Refused
read_evaluated r p (refused_at n at) = Err (declined (text_refusal n) at)
read_evaluated r p (tree e) = part_shown r e p

-- 02, T-07: 1, then 2; then 5 to 12; and last 14
unfoldable pub evaluated : (text : List ℕ) → List ℤ → (place : ℕ) → Result Evaluated Refused
evaluated text r p =
    cond (ltb text_bytes (length text)) (Err (declined TextTooLong 0))
    (cond (ltb table_readings (length r)) (Err (declined RecordingTooLong 0))
    (read_evaluated r p (read_text text)))
