-- Laws of open, each with a premise for every call and test on the code's way: the test of the lent memory, the copy of the recording, and
-- the answers. Assumes nothing.
use Rattle.std.specs.Prelude.{◌≡◌, Bool, false, List, ◌++◌, ℕ, suc, ◌+◌, ◌≤◌, ◌<◌, ℤ, pos, length, get_or, set, take, drop}
use Rattle.std.proofs.Math.Path.{sym}
use Rattle.std.proofs.Common.{◌∙◌, append_assoc, add-one, arith, take-suc, drop-cons, length-take-le}
use Rattle.std.proofs.Math.Bool.{true, and-eq-true_iff}
use borrow.Author.Tests.{lt-ltb, le-ltb, leb-true}
use Rattle.std.proofs.lemmas.List.{set_at}
use Rattle.std.proofs.Math.Seq.{take-length}
use Rattle.language.specs.Limits.{table_readings}
use Rattle.layout.specs.Links.{table_links, table_cells}
use Rattle.layout.specs.Memory.{Memory, fits, memory}
use Rattle.binder.specs.Written.{Whole}
use Rattle.binder.specs.WrittenLaws.{whole_is}
use Rattle.std.specs.Prelude.{Ok, Err}
use Rattle.language.specs.declared.refusals.Refusal.TheVariants.{RecordingTooLong, MemoryTooSmall}
use Rattle.interface.specs.Calls.{open_answer, open_memory}
use Rattle.interface.specs.Effects.{Opens}

-- the copy so far: the recording up to i, and behind it the readings as they were
module _ (xs ys zs : List ℤ) (i : ℕ) (all : zs ≡ take i xs ++ drop i ys) where
  pub copy_go : (z : ℤ) → z ≡ get_or xs i (pos 0) → i < length xs → length xs ≤ length ys → set zs i z ≡ take (i + 1) xs ++ drop (i + 1) ys
  copy_go z q h k =
      rw (all, add-one i, take-suc xs i (pos 0) h, drop-cons ys i (pos 0) (omega arith), append_assoc)
      (set_at (take i xs) (get_or ys i (pos 0)) (drop (suc i) ys) z i (length-take-le i xs (omega arith)) ∙ rw q)

  pub copy_end : i ≤ length xs → length xs ≤ i → zs ≡ xs ++ drop (length xs) ys
  copy_end h k = let e : i ≡ length xs = omega arith in all ∙ rw (e, take-length)

-- the lengths of a cache that is lent whole
pub record Room (readings heads links cells : ℕ) : Type 0 where
  pub in-readings : table_readings ≤ readings
  pub in-heads : 2 ≤ heads
  pub in-links : table_links ≤ links
  pub in_cells : table_cells ≤ cells

module _ (rs : List ℤ) (heads links cells : List ℕ) (b : Bool) (q : b ≡ fits (memory rs heads links cells)) where
  pub fits-room : b ≡ true → Room (length rs) (length heads) (length links) (length cells)
  unfolding fits
  fits-room t =
      let e : fits (memory rs heads links cells) ≡ true = sym q ∙ t in
      let w : Whole heads links cells = whole_is (memory rs heads links cells) e in
      record {
        in-readings = leb-true table_readings (length rs) ((and-eq-true_iff _ _).0 e).0;
        in-heads = w.in-heads;
        in-links = w.in-links;
        in_cells = w.in_cells;
      }

  -- the answers, and what is left in the memory
  module _ (xs : List ℤ) where
    pub open-short : length xs ≤ table_readings → b ≡ false → Opens (memory rs heads links cells) xs (memory rs heads links cells) (Err MemoryTooSmall)
    unfolding open_answer open_memory
    open-short h t = record { answer = rw (le-ltb table_readings (length xs) h, ← q, t); memory = rw (le-ltb table_readings (length xs) h, ← q, t) }

    pub open_done : (rs' : List ℤ) → length xs ≤ table_readings → b ≡ true → rs' ≡ xs ++ drop (length xs) rs
        → Opens (memory rs heads links cells) xs (memory rs' (set (set heads 0 0) 1 (length xs)) links cells) (Ok tt)
    unfolding open_answer open_memory
    open_done rs' h t e =
        record { answer = rw (le-ltb table_readings (length xs) h, ← q, t); memory = rw (e, le-ltb table_readings (length xs) h, ← q, t) }

pub open-long : (m : Memory) (xs : List ℤ) → table_readings < length xs → Opens m xs m (Err RecordingTooLong)
unfolding open_answer open_memory
open-long m xs h = record { answer = rw (lt-ltb table_readings (length xs) h); memory = rw (lt-ltb table_readings (length xs) h) }

pub ruleset opening = (open-long, open-short, open_done)
