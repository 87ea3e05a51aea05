-- Laws of the calls' definitions: the part that fetch hands out, and what a well-formed cache keeps. Assumes nothing.
use Rattle.std.specs.Prelude.{◌≡◌, Bool, false, ◌&&◌, cond, List, ℕ, ◌+◌, ◌<◌, leb}
use Rattle.std.proofs.lemmas.Bool.{false≢true}
use Rattle.std.proofs.Math.Path.{refl}
use Rattle.std.proofs.Common.{sym, ◌∙◌, arith}
use Rattle.std.proofs.Math.Bool.{true, and-eq-true_iff}
use borrow.Author.Tests.{le-leb, lt-leb, leb-false, ltb-true, ltb-false}
use Rattle.std.proofs.Math.Dec.{ltb}
use Rattle.language.specs.Cases.{split}
use Rattle.language.specs.Limits.{table_entries, table_readings}
use Rattle.layout.specs.Memory.{Memory, fits, entry_count, reading_count, kept_at, entry_at, entries_from, entries_of}
use Rattle.table.specs.WellFormed.{distinct, awaits_few, done_at, settled, names_right, kept_right, well_formed}
use Rattle.layout.specs.Numbered.{all_from}
use Rattle.table.specs.RightLaws.{all-at}
use Rattle.table.specs.Checked.{kept_ok, entries_right}
use Rattle.table.specs.CheckedLaws.{done-is, well-is}
use Rattle.values.specs.Packing.{unpack_of}
use Rattle.values.specs.PackingLaws.{unpack-number}
use Rattle.layout.specs.Links.{kind_at, value_at}
use Rattle.layout.specs.Nodes.{function_kind}
use Rattle.evaluator.specs.Frames.{start_at}
use Rattle.interface.specs.Calls.{Part, window_in, part_of}

-- an entry that is not worked out has the cell 0, which is no window's
module _ (m : Memory) (n : ℕ) where
  abbrev shown_part : Part
  shown_part = window_in (unpack_of (start_at (reading_count m) m.links m.cells n))

  abbrev no_part : Part
  no_part = record { start = 0; length = 0 }

  unworked : done_at (entries_of m) n ≡ false → ltb n (entry_count m) ≡ true → shown_part ≡ no_part
  unfolding start_at
  unworked d h =
      let e = done-is m.links m.cells (entry_count m) n (kind_at m.links n) (value_at m.cells n) refl refl ∙ d in
      split (ltb (kind_at m.links n) function_kind)
      (λ t. absurd (false≢true (sym e ∙ rw (h, lt-leb function_kind (kind_at m.links n) (ltb-true (kind_at m.links n) function_kind t)))))
      (λ t. split (leb 1 (value_at m.cells n))
      (λ v. absurd (false≢true (sym e ∙ rw (h, le-leb function_kind (kind_at m.links n) (ltb-false (kind_at m.links n) function_kind t), v))))
      (λ v. let z = leb-false 1 (value_at m.cells n) v in rw t (rw (unpack-number (value_at m.cells n) (omega arith)))))

  pub part_held : part_of m n ≡ cond (fits m && (well_formed m && ltb n (entry_count m))) shown_part no_part
  unfolding part_of
  part_held =
      split (done_at (entries_of m) n)
      (λ d. rw (d, done_held d))
      (λ d. split (ltb n (entry_count m)) (λ h. rw (d, h) (both-empty (fits m) (well_formed m) (unworked d h))) (λ h. rw (d, h)))
    where
      done_held : done_at (entries_of m) n ≡ true → ltb n (entry_count m) ≡ true
      done_held d = ((and-eq-true_iff _ _).0 (done-is m.links m.cells (entry_count m) n (kind_at m.links n) (value_at m.cells n) refl refl ∙ d)).0

      both-empty : (a b : Bool) → shown_part ≡ no_part → cond (a && (b && false)) shown_part no_part ≡ cond (a && (b && true)) shown_part no_part
      both-empty true true e = sym e
      both-empty true false e = refl
      both-empty false b e = refl

pub kept-right : (links cells : List ℕ) (k count n : ℕ) → entries_right links cells k count ≡ true → n < count → kept_right k (entry_at links cells n) ≡ true
unfolding entries_right kept_ok
kept-right links cells k count n e h =
    let here : 0 + n ≡ n = omega arith in
    let behind = ((and-eq-true_iff (distinct _) _).0 ((and-eq-true_iff (all_from _ _ _) _).0 e).1).1 in
    let all : all_from (kept_ok links cells count k) count 0 ≡ true = ((and-eq-true_iff (awaits_few _) _).0 behind).1 in
    let right : kept_ok links cells count k n ≡ true = rw here at (all-at (kept_ok links cells count k) count n 0 all h) in
    ((and-eq-true_iff (settled (entries_from links cells 0 count) (entry_at links cells n)) _).0 right).1

-- what a well-formed cache has beside the kept values
pub kept-names : (m : Memory) (n : ℕ) → well_formed m ≡ true → n < entry_count m → names_right (kept_at m.cells n) ≡ true
unfolding kept_right
kept-names m n w h =
    let e = sym (well-is m.readings m.heads m.links m.cells) ∙ w in
    let entries = ((and-eq-true_iff (leb (reading_count m) table_readings) _).0 ((and-eq-true_iff (leb (entry_count m) table_entries) _).0 e).1).1 in
    ((and-eq-true_iff _ _).0 (kept-right m.links m.cells (reading_count m) (entry_count m) n entries h)).0
