-- Why the plan of an edit is what its definition says. Assumes nothing.
use mathlib.Core.Path.{◌≡◌, refl, sym, ap, ◌∙◌}
use mathlib.Core.Bool.{true, false}
use mathlib.Core.List.{List, [], ◌∷◌, map}
use Prim.Native.Nat.{ℕ, ◌-◌, ◌≤◌, ◌<◌}
use native.Mathlib.Omega.{arith}
use borrow.Author.Tests.{ltb-false}
use lib.Dec.{ltb}
use lib.IntN.{ℤ}
use lib.ListN.{length, get_or, take, drop}
use lib.Seq.{get_or-take}
use Rattle.language.specs.Limits.{text_parts, table_entries}
use Rattle.grammar.specs.Machine.{read_text}
use Rattle.model.specs.Lists.{All}
use Rattle.model.specs.Model.{edited}
use Rattle.layout.specs.Memory.{Memory, Node, entry_count, node_at, memory}
use Rattle.table.specs.Bind.{Bound, bind_all, append_all}
use Rattle.layout.specs.Numbered.{numbered}
use Rattle.layout.specs.Held.{fresh_at, record_at, text_words}
use Rattle.table.specs.CheckedLaws.{nodes-are}
use Rattle.binder.specs.Records.{bound, BoundAll, is_full}
use Rattle.binder.specs.RecordsLaws.{bound-waits, bound-numbers, bound-total}
use Rattle.records.specs.Records.{Recorded, records_of}
use Rattle.reader.specs.Results.{ReadsInto}
use Rattle.reader.specs.declared.answer.Read.{Read}
use Rattle.reading.specs.ReadTo.{ReadTo}
use Rattle.reading.specs.ReadToLaws.{read-refused}
use Rattle.std.specs.Prelude.{Result, Ok, Err, IsErrAnd}
use Rattle.std.proofs.lemmas.Result.{err_from_is_err_and}
use Rattle.language.specs.declared.refusals.Refusal.TheVariants.{TableFull}
use Rattle.language.specs.declared.refusals.Refused.{Refused}
use Rattle.interface.specs.Answers.{declined}
use Rattle.interface.specs.Calls.{bound_to, too_many, edited_as, edited_memory, read_answer, read_memory}
use Rattle.planner.specs.declared.plan.Plan.{Plan}
use Rattle.planner.specs.Plans.{Planned}

-- A text that the reader refuses.
pub planned-refused : (m : Memory) (text R P : List ℕ) (r : Result Read Refused) (R' P' : List ℕ) → ReadsInto text R P r R' P' → length R ≡ text_words → length P ≡ text_parts
    → (e : Refused) → r ≡ Err e → (N F : List ℕ) (x : Result Plan Refused) → IsErrAnd x (λ f. f ≡ e) → Planned m text x P' N F
unfolding read_answer read_memory
planned-refused m text R P r R' P' reading lr lp e q N F x w =
    let z = read-refused text R P r R' P' reading lr lp e q in
    let y = err_from_is_err_and x w in
    rw (y.1, y.2) (record { answer = ap (read_answer m) z; memory = ap (read_memory m) z })

-- A text that is read and bound, whether or not there is room for its new entries.
taken : (numbers : List ℕ) (size : ℕ) (ps : List ℕ) → All (λ (p : ℕ). p < size) ps → map (λ (j : ℕ). get_or (take size numbers) j 0) ps ≡ map (λ (j : ℕ). get_or numbers j 0) ps
taken numbers size [] h = refl
taken numbers size (p ∷ ps) h = rw (get_or-take size numbers p 0 h.0, taken numbers size ps h.1)

module _ (readings : List ℤ) (heads links cells : List ℕ) (count : ℕ) (held : get_or heads 0 0 ≡ count) (text R P : List ℕ) (n size root : ℕ) (read : ReadTo text n size root R P)
    (total : ℕ) (N F : List ℕ) (all : BoundAll links cells count R size total N F) where
  abbrev m : Memory
  m = memory readings heads links cells

  abbrev Z : Recorded
  Z = records_of read.expression

  abbrev b : Bound
  b = bound_to m Z

  bound-is : b ≡ bind_all (bound (numbered (node_at links cells) 0 count) []) (numbered (record_at R) 0 size)
  bound-is =
      ap (λ (ns : List Node). bind_all (bound ns []) Z.records) (nodes-are links cells 0 (get_or heads 0 0) ∙ ap (numbered (node_at links cells) 0) held)
      ∙ ap (bind_all (bound (numbered (node_at links cells) 0 count) [])) (sym read.records)

  total-is : length b.nodes ≡ total
  total-is = ap (λ (x : Bound). length x.nodes) bound-is ∙ sym (bound-total links cells count R size total N F all)

  numbers-are : b.numbers ≡ take size N
  numbers-are = ap (λ (x : Bound). x.numbers) bound-is ∙ sym (bound-numbers links cells count R size total N F all)

  fresh-are : drop (entry_count m) b.nodes ≡ numbered (fresh_at F) 0 (total - entry_count m)
  fresh-are =
      ap (drop (get_or heads 0 0)) (ap (λ (x : Bound). x.nodes) bound-is)
      ∙ ap (λ (k : ℕ). drop k (bind_all (bound (numbered (node_at links cells) 0 count) []) (numbered (record_at R) 0 size)).nodes) held
      ∙ sym (bound-waits links cells count R size total N F all) ∙ ap (λ (k : ℕ). numbered (fresh_at F) 0 (total - k)) (sym held)

  low : entry_count m ≤ total
  low = omega (arith, all.low)

  answer-is : read_answer m (read_text text) ≡ edited_as m Z b
  unfolding read_answer
  answer-is = ap (read_answer m) read.reads

  memory-is : read_memory m (read_text text) ≡ edited_memory m b
  unfolding read_memory
  memory-is = ap (read_memory m) read.reads

  pub planned-full : is_full total ≡ true → (e : Refused) → e ≡ declined TableFull 0 → Planned m text (Err e) P N F
  planned-full t e w =
      let q : too_many b ≡ true = ap (ltb table_entries) total-is ∙ t in
      record { answer = answer-is ∙ rw (q, w); memory = memory-is ∙ rw q }

  whole-is : get_or b.numbers Z.root 0 ≡ get_or N root 0
  whole-is =
      let l = read.low in
      let w = read.whole in
      ap (λ (l : List ℕ). get_or l Z.root 0) numbers-are ∙ get_or-take size N Z.root 0 (omega arith) ∙ ap (λ (j : ℕ). get_or N j 0) (sym read.whole)

  places-are : map (λ (j : ℕ). get_or b.numbers j 0) Z.places ≡ map (λ (j : ℕ). get_or N j 0) (take n P)
  places-are =
      ap (λ (l : List ℕ). map (λ (j : ℕ). get_or l j 0) Z.places) numbers-are ∙ taken N size Z.places read.inside
      ∙ ap (map (λ (j : ℕ). get_or N j 0)) (sym read.places)

  pub planned-done : is_full total ≡ false → Planned m text (Ok (record { whole = get_or N root 0; parts = n; total = total })) P N F
  planned-done t =
      let q : too_many b ≡ false = ap (ltb table_entries) total-is ∙ t in
      record {
        answer = answer-is ∙ rw q (λ i. edited (whole-is i) (sym read.parts i) (total-is i - entry_count m) (places-are i));
        memory = memory-is ∙ rw q (ap (append_all m) fresh-are);
        low = low;
        high = ltb-false table_entries total t;
        few = read.few;
        room = read.room;
      }
