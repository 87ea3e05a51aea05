-- Entries appended to the memory: the entries held are the old ones and then the new, with nothing kept; everything else stays.
-- Assumes nothing.
use Rattle.std.specs.Prelude.{◌≡◌, refl, true, List, [], ◌∷◌, ◌++◌, map, ℕ, zero, suc, ◌+◌, ◌<◌, ◌≤◌, leb, length}
use Rattle.std.proofs.Common.{sym, ap, ◌∙◌, append-nil, append_assoc, arith, leb-true, le-leb}
use Rattle.std.proofs.Math.Bool.{and-eq-true_iff}
use Rattle.language.specs.Limits.{table_entries, table_readings}
use Rattle.layout.specs.Links.{table_links, table_cells}
use Rattle.layout.specs.Memory.{Memory, Node, Entry, fits, entry_count, reading_count, entries_from, entries_of}
use Rattle.table.specs.Bind.{append, append_all}
use Rattle.binder.specs.AppendedLaws.{new_entry, append-fits, append-count, append-readings, append-entries}

-- the lengths of memory that is lent whole
pub record Lengths (m : Memory) : Type 0 where
  pub readings : table_readings ≤ length m.readings
  pub heads : 2 ≤ length m.heads
  pub links : table_links ≤ length m.links
  pub cells : table_cells ≤ length m.cells

pub lengths : (m : Memory) → fits m ≡ true → Lengths m
unfolding fits
lengths m h =
    let r = ((and-eq-true_iff (leb table_readings (length m.readings)) _).0 h).1 in
    let l = ((and-eq-true_iff (leb 2 (length m.heads)) _).0 r).1 in
    record {
      readings = leb-true _ _ ((and-eq-true_iff _ _).0 h).0;
      heads = leb-true _ _ ((and-eq-true_iff _ _).0 r).0;
      links = leb-true _ _ ((and-eq-true_iff _ _).0 l).0;
      cells = leb-true _ _ ((and-eq-true_iff (leb table_links (length m.links)) _).0 l).1;
    }

pub long-enough : (m : Memory) → Lengths m → fits m ≡ true
unfolding fits
long-enough m l = rw (le-leb _ _ l.readings, le-leb _ _ l.heads, le-leb _ _ l.links, le-leb _ _ l.cells)

pub entries-length : (l c : List ℕ) (i n : ℕ) → length (entries_from l c i n) ≡ n
unfolding entries_from
entries-length l c i zero = refl
entries-length l c i (suc n) = ap suc (entries-length l c (suc i) n)

-- one more entry
pub record Grown (m m' : Memory) (new : List Node) : Type 0 where
  pub long : Lengths m'
  pub count : entry_count m' ≡ entry_count m + length new
  pub readings : reading_count m' ≡ reading_count m
  pub same : m'.readings ≡ m.readings
  pub entries : entries_of m' ≡ entries_of m ++ map new_entry new

grown-one : (m : Memory) (n : Node) → Lengths m → entry_count m < table_entries → Grown m (append m n) (n ∷ [])
unfolding append
grown-one m n l h =
    let f = long-enough m l in
    let c = append-count m n f in
    record {
      long = lengths (append m n) (append-fits m n ∙ f);
      count = omega arith;
      readings = append-readings m n f;
      same = refl;
      entries = append-entries m n f h;
    }

pub grown : (m : Memory) (ns : List Node) → Lengths m → entry_count m + length ns ≤ table_entries → Grown m (append_all m ns) ns
unfolding append_all
grown m [] l h = record { long = l; count = omega arith; readings = refl; same = refl; entries = sym (append-nil (entries_of m)) }
grown m (n ∷ ns) l h =
    let a = grown-one m n l (omega arith) in
    let c = a.count in
    let b = grown (append m n) ns a.long (omega arith) in
    let d = b.count in
    record {
      long = b.long;
      count = omega arith;
      readings = b.readings ∙ a.readings;
      same = b.same ∙ a.same;
      entries = b.entries ∙ ap (λ (es : List Entry). es ++ map new_entry ns) a.entries ∙ append_assoc (entries_of m) (new_entry n ∷ []) (map new_entry ns);
    }
