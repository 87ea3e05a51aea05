-- The measured functions' paths: where the arguments are in range the engine's function is called, and otherwise nothing is done.
-- Assumes nothing.
use mathlib.Core.Path.{◌≡◌, refl, sym, ap, ◌∙◌}
use mathlib.Core.Bool.{Bool, true, false, ◌&&◌, and-eq-true_iff}
use mathlib.Core.List.{List, ◌++◌}
use Prim.Native.Nat.{ℕ, ◌+◌, ◌-◌, ◌≤◌, ◌<◌, min}
use native.Mathlib.Omega.{arith}
use borrow.Author.Tests.{leb-true, ltb-true, le-leb, lt-leb, lt-ltb, le-ltb}
use lib.Dec.{leb, ltb}
use lib.IntN.{ℤ}
use lib.ListN.{length, get_or, take, drop, length-drop}
use lib.Seq.{take-length, get_or-take}
use Rattle.layout.specs.Links.{table_cells}
use Rattle.language.specs.Limits.{text_bytes, text_parts, table_entries, table_readings}
use Rattle.layout.specs.Memory.{node_at}
use Rattle.table.specs.WellFormed.{distinct}
use Rattle.table.specs.Right.{right_at}
use Rattle.table.specs.RightLaws.{right-at}
use Rattle.table.specs.Bind.{Bound}
use Rattle.layout.specs.Numbered.{all_from, numbered}
use Rattle.layout.specs.Held.{held_at}
use Rattle.binder.specs.Records.{BoundAll}
use Rattle.table.specs.ChainLaws.{length-numbered}
use Rattle.schedule.specs.Works.{work_of, Lent, Works}
use Rattle.std.specs.Prelude.{Result}
use Rattle.language.specs.declared.refusals.Refused.{Refused}
use Rattle.reader.specs.declared.answer.Read.{Read}
use Rattle.reader.specs.Results.{ReadsInto}
use Rattle.writer.specs.declared.page.Page.{Page}
use Rattle.writer.specs.Writing.{Tabled, Written}
use Rattle.measured.specs.Measures.{read_number, ReadInto, can_bind, bound_all, bound_number, bind_number, packed_work, can_work, work_measured, Worked, can_print, entry_text, printed_bytes, PrintedInto}
use Rattle.printer.specs.TabledLaws.{tabled-right}

-- reading
pub read-into : (text R P : List ℕ) (r : Result Read Refused) (R' P' : List ℕ) → ReadsInto text R P r R' P' → (n : ℕ) → n ≡ read_number r → ReadInto text R P n R' P'
read-into text R P r R' P' h n e = record { answer = e ∙ ap read_number h.answer; records = h.records; places = h.places }

-- binding
module _ (links cells : List ℕ) (count n : ℕ) where
  pub can-few : count ≤ table_entries → (d : Bool) → d ≡ distinct (numbered (node_at links cells) 0 count) → ((leb 1 n && leb n text_parts) && d) ≡ can_bind links cells count n
  can-few few d e = rw (le-leb count table_entries few, e) refl

  pub can-many : table_entries < count → false ≡ can_bind links cells count n
  can-many many = rw (lt-leb count table_entries many) refl

module _ (links cells : List ℕ) (count n : ℕ) (can : Bool) (told : can ≡ can_bind links cells count n) where
  all : can ≡ true → can_bind links cells count n ≡ true
  all so = sym told ∙ so

  within : can ≡ true → (leb 1 n && leb n text_parts) ≡ true
  within so = ((and-eq-true_iff (leb 1 n && leb n text_parts) _).0 ((and-eq-true_iff (leb count table_entries) _).0 (all so)).1).0

  pub bind-count : can ≡ true → count ≤ table_entries
  bind-count so = leb-true _ _ ((and-eq-true_iff (leb count table_entries) _).0 (all so)).0

  pub bind-some : can ≡ true → 1 ≤ n
  bind-some so = leb-true _ _ ((and-eq-true_iff (leb 1 n) _).0 (within so)).0

  pub bind-few : can ≡ true → n ≤ text_parts
  bind-few so = leb-true _ _ ((and-eq-true_iff (leb 1 n) _).0 (within so)).1

  pub bind-apart : can ≡ true → distinct (numbered (node_at links cells) 0 count) ≡ true
  bind-apart so = ((and-eq-true_iff (leb 1 n && leb n text_parts) _).0 ((and-eq-true_iff (leb count table_entries) _).0 (all so)).1).1

  pub bind_done : can ≡ true → (records : List ℕ) (total : ℕ) (numbers fresh : List ℕ) → BoundAll links cells count records n total numbers fresh
      → (last : ℕ) → last ≡ get_or numbers (n - 1) 0 → (r : ℕ) → r ≡ bound_number total last → r ≡ bind_number links cells count records n
  unfolding bind_number
  bind_done so records total numbers fresh h last l r e =
      let some : 1 ≤ n = bind-some so in
      let entries : length (bound_all links cells count records n).nodes ≡ total =
      ap (λ (b : Bound). length b.nodes) (sym h.is) ∙ length-numbered (held_at links cells count fresh) 0 total in
      let of : get_or (bound_all links cells count records n).numbers (n - 1) 0 ≡ last =
      ap (λ (b : Bound). get_or b.numbers (n - 1) 0) (sym h.is) ∙ (get_or-take n numbers (n - 1) 0 (omega arith) ∙ sym l) in
      rw (all so, entries, of) e

  pub bind-none : can ≡ false → (records : List ℕ) → 0 ≡ bind_number links cells count records n
  unfolding bind_number
  bind-none not records = rw (sym told ∙ not) refl

-- working out
module _ (xs : List ℤ) (links cells : List ℕ) (n allowance : ℕ) (can : Bool) (told : can ≡ can_work xs cells n) where
  pub work-lent : can ≡ true → Lent xs cells n
  work-lent so =
      let all : can_work xs cells n ≡ true = sym told ∙ so in
      let rest : (leb table_cells (length cells) && ltb n table_entries) ≡ true = ((and-eq-true_iff (leb (length xs) table_readings) _).0 all).1 in
      record {
        few = leb-true _ _ ((and-eq-true_iff (leb (length xs) table_readings) _).0 all).0;
        room = leb-true _ _ ((and-eq-true_iff (leb table_cells (length cells)) _).0 rest).0;
        entry = ltb-true _ _ ((and-eq-true_iff (leb table_cells (length cells)) _).0 rest).1;
      }

  pub work-done : can ≡ true → (after : List ℕ) (count : ℕ) (left : Bool) → Works xs links cells n allowance after count left
      → (r : ℕ) → r ≡ packed_work count left → Worked xs links cells n allowance after r
  unfolding work_measured
  work-done so after count left w r e =
      let is : work_measured xs links cells n allowance ≡ work_of after count left = rw (sym told ∙ so) (sym w.same) in
      record { answer = rw (e, is) refl; kept = rw is refl }

  pub work_none : can ≡ false → Worked xs links cells n allowance cells 0
  unfolding work_measured
  work_none not = record { answer = rw (sym told ∙ not) refl; kept = rw (sym told ∙ not) refl }

-- printing
module _ (links cells : List ℕ) (n : ℕ) where
  pub can-held : n < table_entries → (d : Bool) → d ≡ all_from (right_at links cells) (n + 1) 0 → d ≡ can_print links cells n
  unfolding can_print
  can-held low d e = rw (lt-ltb n table_entries low) e

  pub can-beyond : table_entries ≤ n → false ≡ can_print links cells n
  unfolding can_print
  can-beyond high = rw (le-ltb n table_entries high) refl

  module _ (so : can_print links cells n ≡ true) where
    pub print-low : n < table_entries
    unfolding can_print
    print-low = ltb-true _ _ ((and-eq-true_iff (ltb n table_entries) _).0 so).0

    pub print-tabled : Tabled links cells (n + 1)
    unfolding can_print
    print-tabled =
        let low = print-low in
        let all = ((and-eq-true_iff (ltb n table_entries) _).0 so).1 in
        tabled-right links cells (n + 1) (omega arith) (λ i h. right-at links cells (n + 1) i all h)

    -- the text is on a page that has room for as many bytes as are lent, or has no room in them
    module _ (bytes : List ℕ) (low : ℕ) (lowest : low ≡ text_bytes - length bytes) where
      pub print-stopped : text_bytes < low + length (entry_text links cells n) → PrintedInto links cells n bytes bytes 0
      unfolding printed_bytes
      print-stopped h =
          let long : min (length bytes) text_bytes < length (entry_text links cells n) = omega arith in
          let q = lt-leb _ _ long in
          record { answer = rw (so, q) refl; filled = rw (so, q) refl }

      module _ (page : Page) (w : Written low (entry_text links cells n) page) where
        fits : length (entry_text links cells n) ≤ min (length bytes) text_bytes
        fits =
            let z = w.room in
            let q = sym (ap length w.text) ∙ length-drop page.at page.bytes in
            let l = page.whole in
            let i = page.inside in
            omega arith

        pub print-fits : length (drop page.at page.bytes) ≤ length bytes
        print-fits = let h = fits in rw w.text (omega arith)

        pub print-done : (text bytes' : List ℕ) → text ≡ drop page.at page.bytes → bytes' ≡ text ++ drop (length text) bytes
            → PrintedInto links cells n bytes bytes' (length text)
        unfolding printed_bytes
        print-done text bytes' t b =
            let q = le-leb _ _ fits in
            let e : text ≡ entry_text links cells n = t ∙ w.text in
            record { answer = rw (so, q) (ap length e); filled = rw (so, q) (rw e at b) }

  pub print-wrong : (can : Bool) → can ≡ can_print links cells n → can ≡ false → (bytes : List ℕ) → PrintedInto links cells n bytes bytes 0
  unfolding printed_bytes
  print-wrong can told not bytes = record { answer = rw (sym told ∙ not) refl; filled = rw (sym told ∙ not) refl }
