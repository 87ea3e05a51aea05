-- The reference model (01: the plain book): what it holds, and what each call answers and leaves. The tests of a call stand in the order in
-- which they are made, each with its number of 'When a call is declined'. Assumes nothing.
use Rattle.std.specs.Prelude.{Bool, true, false, cond, not, ◌&&◌, ◌||◌, List, [], ◌∷◌, ◌++◌, map, ℕ, ◌-◌, min, ltb, eqb, length, drop}
use Rattle.std.proofs.Math.Option.{Option, none, some}
use Rattle.std.proofs.Math.ListN.{get_elem?}
use Rattle.language.specs.Limits.{text_bytes, text_parts, table_readings, table_entries}
use Rattle.model.specs.Lists.{is_some, count_if, on_firsts, member, index}
use Rattle.model.specs.Language.{Language, Parsed, rejected, parts}

module _ (L : Language) where
  open L use {Form, Shown, Reading, same, reach, works, shows, read, print}

  -- What the model holds: a recording, forms numbered from 0, and marks on some of them. A mark is what its form shows.
  pub record Entry : Type 0 where
    pub form : Form
    pub mark : Option Shown

  pub record State : Type 0 where
    pub recording : List Reading
    pub entries : List Entry

  -- The forms by number; and whether an entry is marked.
  abbrev pub forms : List Entry → List Form
  forms es = map (λ (e : Entry). e.form) es

  abbrev pub marked : Entry → Bool
  marked e = is_some e.mark

  -- What it is fed: a call's arguments, with an edit's lent places and a print's lent bytes, and whether the memory lent has the cache's size.
  pub data Request : Type 0 where
    Open : (readings : List Reading) → Request
    Edit : (places text : List ℕ) → Request
    Preview : (number allowance : ℕ) → Request
    Print : (number : ℕ) (bytes : List ℕ) → Request

  pub record Call : Type 0 where
    pub enough : Bool
    pub request : Request

  -- What it answers: a refusal's number and byte place; of an edit the whole's number, the number of parts, the number of forms added and each
  -- part's number by place; of a preview how many it marked, and 'not yet' or what the form shows; of a print the text.
  pub data Answer : Type 0 where
    refused : (number place : ℕ) → Answer
    opened : Answer
    edited : (whole parts added : ℕ) (numbers : List ℕ) → Answer
    not_yet : (worked : ℕ) → Answer
    finished : (worked : ℕ) (shown : Shown) → Answer
    printed : (text : List ℕ) → Answer

  -- What an answer says: whether it is an opening, which is an accepted open; the parts' numbers by place that an accepted edit gives; whether it is
  -- an accepted preview; how many this marked, and what it shows if it is finished; the text that an accepted print gives.
  pub record Said : Type 0 where
    pub opening : Bool
    pub numbers : List ℕ
    pub preview : Bool
    pub worked : ℕ
    pub shown : Option Shown
    pub text : List ℕ

  abbrev pub said : Answer → Said
  said (refused n at) = record { opening = false; numbers = []; preview = false; worked = 0; shown = none; text = [] }
  said opened = record { opening = true; numbers = []; preview = false; worked = 0; shown = none; text = [] }
  said (edited w p k ns) = record { opening = false; numbers = ns; preview = false; worked = 0; shown = none; text = [] }
  said (not_yet k) = record { opening = false; numbers = []; preview = true; worked = k; shown = none; text = [] }
  said (finished k v) = record { opening = false; numbers = []; preview = true; worked = k; shown = some v; text = [] }
  said (printed t) = record { opening = false; numbers = []; preview = false; worked = 0; shown = none; text = t }

  -- What is written to the first of lent cells; all others keep their contents.
  abbrev pub overwritten : (new old : List ℕ) → List ℕ
  overwritten new old = new ++ drop (length new) old

  -- The lent places after an edit's answer: an accepted edit writes its parts' numbers. The lent bytes after a print's: an accepted one writes
  -- its text.
  unfoldable pub written : Answer → List ℕ → List ℕ
  written x places = overwritten (said x).numbers places

  unfoldable pub filled : Answer → List ℕ → List ℕ
  filled x bytes = overwritten (said x).text bytes

  abbrev pub lent_after : Request → Answer → List ℕ
  lent_after (Open r) x = []
  lent_after (Edit places text) x = written x places
  lent_after (Preview n a) x = []
  lent_after (Print n bytes) x = filled x bytes

  -- What a call gets, and what the model then holds.
  pub record Outcome : Type 0 where
    pub answer : Answer
    pub state : State

  -- A declined call changes nothing.
  abbrev pub refuse : ℕ → ℕ → State → Outcome
  refuse n at s = record { answer = refused n at; state = s }

  abbrev pub refuse_if : Bool → ℕ → State → Outcome → Outcome
  refuse_if test n s accepted = cond test (refuse n 0 s) accepted

  -- Open: the recording is stored, forms and marks are cleared.
  abbrev pub start : List Reading → State
  start r = record { recording = r; entries = [] }

  unfoldable pub on_open : State → Bool → List Reading → Outcome
  on_open s enough r = refuse_if (ltb table_readings (length r)) 2 s (refuse_if (not enough) 3 s (record { answer = opened; state = start r }))

  -- Edit: each of the parts' forms that is not yet held takes the next number, unmarked.
  abbrev pub unmarked : Form → Entry
  unmarked f = record { form = f; mark = none }

  -- A form that is held stays where it is; any other takes the next number.
  unfoldable pub hold : Form → List Entry → List Entry
  hold f es = cond (member same f (forms es)) es (es ++ (unmarked f ∷ []))

  unfoldable pub hold_all : List Form → List Entry → List Entry
  hold_all [] es = es
  hold_all (f ∷ fs) es = hold_all fs (hold f es)

  abbrev pub number_of : List Entry → Form → ℕ
  number_of es f = index same f (forms es)

  -- The whole's number, the number of parts, the number of forms added, and each part's number at its place.
  abbrev pub edited_to : State → List Entry → List Form → Form → Outcome
  edited_to s es places whole =
      record {
        answer = edited (number_of es whole) (length places) (length es - length s.entries) (map (number_of es) places);
        state = record { recording = s.recording; entries = es };
      }

  -- The reader's refusals, 5 to 12; then 13: entries held plus new forms exceed 512.
  unfoldable pub bind : State → Parsed Form → Outcome
  bind s (rejected n at) = refuse n at s
  bind s (parts order places whole) =
      let es : List Entry = hold_all order s.entries in
      refuse_if (ltb table_entries (length es)) 13 s (edited_to s es places whole)

  -- 1: text over 1,024 bytes. 3: places under 128 entries, or cache memory under its size.
  unfoldable pub on_edit : State → Bool → List ℕ → List ℕ → Outcome
  on_edit s enough places text =
      refuse_if (ltb text_bytes (length text)) 1 s (refuse_if (not enough || ltb (length places) text_parts) 3 s (bind s (read text)))

  -- Preview: the unmarked members and functions at or below form f are pending. The a lowest are marked, or all if they are fewer.
  unfoldable pub pending : Form → Entry → Bool
  pending f e = not (marked e) && (works e.form && reach e.form f)

  abbrev pub left : Form → List Entry → ℕ
  left f = count_if (pending f)

  abbrev pub mark_with : List Reading → Entry → Entry
  mark_with r e = record { form = e.form; mark = some (shows r e.form) }

  abbrev pub work_out : List Reading → ℕ → Form → List Entry → List Entry
  work_out r a f = on_firsts (pending f) (mark_with r) a

  -- It answers how many it marked and, with some left, 'not yet'; otherwise what the form shows.
  abbrev pub previewed : State → ℕ → Form → Outcome
  previewed s a f =
      let es : List Entry = work_out s.recording a f s.entries in
      let k : ℕ = min a (left f s.entries) in
      record {
        answer = cond (eqb (left f es) 0) (finished k (shows s.recording f)) (not_yet k);
        state = record { recording = s.recording; entries = es };
      }

  -- 14: no such entry.
  unfoldable pub look : State → ℕ → Option Form → Outcome
  look s a none = refuse 14 0 s
  look s a (some f) = previewed s a f

  -- 3: cache memory under its size.
  unfoldable pub on_preview : State → Bool → ℕ → ℕ → Outcome
  on_preview s enough n a = refuse_if (not enough) 3 s (look s a (get_elem? (forms s.entries) n))

  -- Print: nothing changes. 15: the text exceeds the lent bytes, or the reader would decline it with 1 or 5 to 12. 16: read by itself, it has
  -- another form.
  abbrev pub rejects : Parsed Form → Bool
  rejects (rejected n at) = true
  rejects (parts order places whole) = false

  abbrev pub reads_as : Form → Parsed Form → Bool
  reads_as f (rejected n at) = false
  reads_as f (parts order places whole) = same whole f

  unfoldable pub printing : Form → (room : ℕ) → Answer
  printing f room =
      let t : List ℕ = print f in
      cond (ltb room (length t) || (ltb text_bytes (length t) || rejects (read t))) (refused 15 0)
      (cond (reads_as f (read t)) (printed t) (refused 16 0))

  -- 14: no such entry.
  unfoldable pub print_found : State → ℕ → Option Form → Outcome
  print_found s room none = refuse 14 0 s
  print_found s room (some f) = record { answer = printing f room; state = s }

  -- 3: cache memory under its size.
  unfoldable pub on_print : State → Bool → ℕ → List ℕ → Outcome
  on_print s enough n bytes = refuse_if (not enough) 3 s (print_found s (length bytes) (get_elem? (forms s.entries) n))

  -- Any call: what it gets, and what is then held.
  unfoldable pub on_request : State → Bool → Request → Outcome
  on_request s enough (Open r) = on_open s enough r
  on_request s enough (Edit places text) = on_edit s enough places text
  on_request s enough (Preview n a) = on_preview s enough n a
  on_request s enough (Print n bytes) = on_print s enough n bytes

  abbrev pub respond : State → Call → Outcome
  respond s c = on_request s c.enough c.request
