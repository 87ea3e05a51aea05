-- Fetch hands out the readings of the window that preview shows for the entry, and the empty part at the start where it shows none.
-- Assumes nothing.
use Rattle.std.specs.Prelude.{◌≡◌, refl, true, false, ◌&&◌, List, ℕ, ◌<◌, ltb, eqb, ℤ, take, drop}
use Rattle.std.proofs.Common.{sym, ap, ◌∙◌, lt-ltb}
use Rattle.language.specs.Cases.{split}
use Rattle.rules.specs.declared.Value.{Value}
use Rattle.rules.specs.declared.Value.TheVariants.{Number, Window, Function, Delayed, Missing}
use Rattle.values.specs.Packing.{unpack_of}
use Rattle.values.specs.Shown.{shown_numbers}
use Rattle.meaning.specs.Evaluation.{a_window}
use Rattle.model.specs.Lists.{All}
use Rattle.formulas.specs.Formulas.{IsReading}
use Rattle.layout.specs.Memory.{Memory, fits, entry_count, reading_count, recording_of, entries_of}
use Rattle.table.specs.WellFormed.{done_at, well_formed}
use Rattle.layout.specs.Links.{kind_at, key_at, name_at, other_at}
use Rattle.layout.specs.Nodes.{variable_kind, function_kind}
use Rattle.evaluator.specs.Frames.{start_at}
use Rattle.schedule.specs.declared.View.{View}
use Rattle.schedule.specs.Works.{view, show_of}
use Rattle.std.specs.Prelude.{Ok}
use Rattle.interface.specs.declared.answers.Previewed.TheVariants.{Finished}
use Rattle.interface.specs.Answers.{shown_of}
use Rattle.interface.specs.Calls.{work_on, worked_memory, previewed, preview_memory, window_in, part_of, fetched}
use Rattle.interface.proofs.CallsLaws.{part_held}
use Rattle.promises.specs.Terms.{readings_of}
use Rattle.promises.proofs.Finishing.{finished-by}

-- of a value, whatever its names
value-shown : (xs : List ℤ) (v : Value) (name other : ℕ)
    → readings_of xs (view (shown_numbers v) name other) ≡ take (window_in v).length (drop (window_in v).start xs)
unfolding readings_of shown_of
value-shown xs (Number z) name other = refl
value-shown xs (Window s l) name other = refl
value-shown xs Function name other = refl
value-shown xs Delayed name other = refl
value-shown xs (Missing r) name other = refl

-- an entry of a cache that is not refused
pub fetch-shown : (m : Memory) (n : ℕ) → fits m ≡ true → well_formed m ≡ true → n < entry_count m
    → fetched m n ≡ readings_of m.readings (show_of (reading_count m) m.links m.cells n)
unfolding show_of
fetch-shown m n f w l =
    let v : Value = unpack_of (start_at (reading_count m) m.links m.cells n) in
    rw (part_held m n) (rw (f, w, lt-ltb n (entry_count m) l)
    (split (eqb (kind_at m.links n) variable_kind)
    (λ p. rw p (sym (value-shown m.readings v (key_at m.cells n) 0)))
    (λ p. rw p (split (ltb (kind_at m.links n) function_kind)
    (λ q. rw q (sym (value-shown m.readings v 0 0)))
    (λ q. rw q (sym (value-shown m.readings v (name_at m.cells n) (other_at m.cells n))))))))

-- an entry that is not worked out or does not exist, and a cache that is refused
pub fetch-none : (m : Memory) (n : ℕ) → (fits m && (well_formed m && done_at (entries_of m) n)) ≡ false → part_of m n ≡ record { start = 0; length = 0 }
unfolding part_of
fetch-none m n h = rw h

-- an entry that shows no window
no-window : (v : Value) (name other : ℕ) → ((s l : ℕ) → ¬ (shown_of (view (shown_numbers v) name other) ≡ a_window s l))
    → window_in v ≡ record { start = 0; length = 0 }
unfolding shown_of
no-window (Number z) name other h = refl
no-window (Window s l) name other h = absurd (h s l refl)
no-window Function name other h = refl
no-window Delayed name other h = refl
no-window (Missing r) name other h = refl

pub fetch-windowless : (m : Memory) (n : ℕ) → ((s l : ℕ) → ¬ (shown_of (show_of (reading_count m) m.links m.cells n) ≡ a_window s l))
    → part_of m n ≡ record { start = 0; length = 0 }
unfolding part_of show_of
fetch-windowless m n h =
    split (fits m && (well_formed m && done_at (entries_of m) n)) (λ p. rw p none) (λ p. rw p)
  where
    v : Value
    v = unpack_of (start_at (reading_count m) m.links m.cells n)

    none : window_in v ≡ record { start = 0; length = 0 }
    none =
        split (eqb (kind_at m.links n) variable_kind)
        (λ p. no-window v (key_at m.cells n) 0 (λ s l e. h s l (rw p e)))
        (λ p. split (ltb (kind_at m.links n) function_kind)
        (λ q. no-window v 0 0 (λ s l e. h s l (rw (p, q) e)))
        (λ q. no-window v (name_at m.cells n) (other_at m.cells n) (λ s l e. h s l (rw (p, q) e))))

-- an entry whose preview is finished, in the cache that it leaves
pub fetch-previewed : (m : Memory) (n a k : ℕ) (v : View) → previewed m n a ≡ Ok (Finished k v) → All IsReading (recording_of m)
    → fetched (preview_memory m n a) n ≡ readings_of m.readings v
fetch-previewed m n a k v e sound =
    let d = finished-by m n a k v e sound in
    ap (λ (after : Memory). fetched after n) d.memory ∙ fetch-shown (worked_memory m (work_on m n a)) n d.whole d.well d.held ∙ rw d.shows
