-- Cells lent beyond the sizes keep their contents whatever is called. Assumes nothing.
use Rattle.std.specs.Prelude.{◌≡◌, refl, true, ◌&&◌, List, [], ◌∷◌, ◌++◌, leb, ltb, ℤ, length, get_or, set, drop}
use Rattle.std.proofs.Common.{◌∙◌, subst, arith, ltb-true, ltb-false, leb-true, length-drop, drop-drop}
use Rattle.std.proofs.Math.Bool.{and-eq-true_iff}
use Prim.Native.Nat.{ℕ, zero, suc, ◌+◌, ◌≤◌, ◌<◌, ◌-◌}
use Rattle.std.proofs.Math.ListN.{length-set}
use Rattle.std.proofs.Math.Seq.{drop-set-lt, get_or-set_same, drop-append-add}
use Rattle.language.specs.Limits.{text_bytes, text_parts, table_entries, table_readings}
use Rattle.language.specs.Cases.{split}
use Rattle.grammar.specs.Reading.{Reading, tree, refused as refused_at}
use Rattle.grammar.specs.Machine.{read_text}
use Rattle.layout.specs.Links.{table_links, table_cells, kind_index, first_index, second_index, level_index, key_index, value_index, name_index, other_index, links_with, kept_with}
use Rattle.layout.specs.Memory.{Memory, memory, Node, fits, entry_count}
use Rattle.table.specs.WellFormed.{well_formed}
use Rattle.table.specs.Bind.{Bound, append, append_all}
use Rattle.schedule.specs.Works.{chosen, name_for, other_for, kept, work_from, worked}
use Rattle.records.specs.Records.{records_of}
use Rattle.interface.specs.Calls.{opened_memory, open_memory, bound_to, too_many, edited_memory, read_memory, edit_memory, work_on, worked_memory, preview_memory}
use Rattle.demand.proofs.Appended.{lengths}
use Rattle.promises.specs.Terms.{beyond}

-- beyond the cache's sizes the memory n has the cells of m
pub record Outside (m n : Memory) : Type 0 where
  pub readings : drop table_readings n.readings ≡ drop table_readings m.readings
  pub heads : drop 2 n.heads ≡ drop 2 m.heads
  pub links : drop table_links n.links ≡ drop table_links m.links
  pub cells : drop table_cells n.cells ≡ drop table_cells m.cells

all-beyond : (m n : Memory) → Outside m n → beyond n ≡ beyond m
all-beyond m n o = λ i. memory (o.readings i) (o.heads i) (o.links i) (o.cells i)

same : (m : Memory) → Outside m m
same m = record { readings = refl; heads = refl; links = refl; cells = refl }

-- open
behind : {A : Type 0} (n : ℕ) (r xs : List A) → length r ≤ n → drop n (r ++ drop (length r) xs) ≡ drop n xs
behind n r xs h =
    let e : length r + (n - length r) ≡ n = omega arith in
    subst (λ (k : ℕ). drop k (r ++ drop (length r) xs) ≡ drop k xs) e
    (drop-append-add r (drop (length r) xs) (n - length r) ∙ drop-drop (n - length r) (length r) xs)

pub open_kept : (m : Memory) (r : List ℤ) → Outside m (open_memory m r)
unfolding open_memory
open_kept m r =
    split (ltb table_readings (length r)) (λ p. rw p (same m))
    (λ p. split (fits m) (λ q. rw (p, q) (opened (ltb-false table_readings (length r) p))) (λ q. rw (p, q) (same m)))
  where
    opened : length r ≤ table_readings → Outside m (opened_memory m r)
    opened h =
        record {
          readings = behind table_readings r m.readings h;
          heads = drop-set-lt 2 (set m.heads 0 0) 1 (length r) (omega arith) ∙ drop-set-lt 2 m.heads 0 0 (omega arith);
          links = refl;
          cells = refl;
        }

-- three cells set before the nth
three-before : (n : ℕ) (l : List ℕ) (i j k x y z : ℕ) → i < n → j < n → k < n → drop n (set (set (set l i x) j y) k z) ≡ drop n l
three-before n l i j k x y z hi hj hk = drop-set-lt n (set (set l i x) j y) k z hk ∙ drop-set-lt n (set l i x) j y hj ∙ drop-set-lt n l i x hi

-- edit
module _ (m : Memory) (n : Node) (l : entry_count m < table_entries) where
  append-outside : Outside m (append m n)
  unfolding append links_with kept_with
  append-outside =
      let k : ℕ = entry_count m in
      record {
        readings = refl;
        heads = drop-set-lt 2 m.heads 0 (suc k) (omega arith);
        links =
            drop-set-lt table_links (set (set (set m.links (kind_index k) n.kind) (first_index k) n.first) (second_index k) n.second) (level_index k) n.level (omega arith)
            ∙ three-before table_links m.links (kind_index k) (first_index k) (second_index k) n.kind n.first n.second (omega arith) (omega arith) (omega arith);
        cells =
            three-before table_cells (set m.cells (key_index k) n.key) (value_index k) (name_index k) (other_index k) 0 0 0 (omega arith) (omega arith) (omega arith)
            ∙ drop-set-lt table_cells m.cells (key_index k) n.key (omega arith);
      }

  one_more : 0 < length m.heads → entry_count (append m n) ≡ suc (entry_count m)
  unfolding append
  one_more h = get_or-set_same m.heads 0 (suc (entry_count m)) 0 h

  same-heads : length (append m n).heads ≡ length m.heads
  unfolding append
  same-heads = length-set m.heads 0 (suc (entry_count m))

both : (a b c : Memory) → Outside a b → Outside b c → Outside a c
both a b c p q =
    record {
      readings = q.readings ∙ p.readings;
      heads = q.heads ∙ p.heads;
      links = q.links ∙ p.links;
      cells = q.cells ∙ p.cells;
    }

appended-outside : (m : Memory) (ns : List Node) → 0 < length m.heads → entry_count m + length ns ≤ table_entries → Outside m (append_all m ns)
unfolding append_all
appended-outside m [] h l = same m
appended-outside m (n ∷ ns) h l =
    let less : entry_count m < table_entries = omega arith in
    let c = one_more m n less h in
    let s = same-heads m n less in
    both m (append m n) (append_all (append m n) ns) (append-outside m n less) (appended-outside (append m n) ns (omega arith) (omega arith))

edited-outside : (m : Memory) (b : Bound) → 0 < length m.heads → entry_count m ≤ table_entries → Outside m (edited_memory m b)
edited-outside m b h few =
    split (too_many b) (λ p. rw p (same m))
    (λ p.
    let l = ltb-false table_entries (length b.nodes) p in
    let d = length-drop (entry_count m) b.nodes in
    rw p (appended-outside m (drop (entry_count m) b.nodes) h (omega arith)))

pub few-entries : (m : Memory) → well_formed m ≡ true → entry_count m ≤ table_entries
unfolding well_formed
few-entries m w = leb-true _ _ ((and-eq-true_iff _ _).0 w).0

read-outside : (m : Memory) (x : Reading) → fits m ≡ true → well_formed m ≡ true → Outside m (read_memory m x)
unfolding read_memory
read-outside m (refused_at n at) f w = same m
read-outside m (tree e) f w = let l = (lengths m f).heads in edited-outside m (bound_to m (records_of e)) (omega arith) (few-entries m w)

pub edit-kept : (m : Memory) (places text : List ℕ) → Outside m (edit_memory m places text)
unfolding edit_memory
edit-kept m places text =
    split (ltb text_bytes (length text)) (λ p. rw p (same m))
    (λ p. split (fits m && leb text_parts (length places))
    (λ q. split (well_formed m) (λ w. rw (p, q, w) (read-outside m (read_text text) ((and-eq-true_iff _ _).0 q).0 w)) (λ w. rw (p, q, w) (same m)))
    (λ q. rw (p, q) (same m)))

-- preview
kept-outside : (cells : List ℕ) (i c name other : ℕ) → i < table_entries → drop table_cells (kept_with cells i c name other) ≡ drop table_cells cells
unfolding kept_with
kept-outside cells i c name other h = three-before table_cells cells (value_index i) (name_index i) (other_index i) c name other (omega arith) (omega arith) (omega arith)

work-outside : (value : List ℕ → ℕ → ℕ) (links waits flags : List ℕ) (a k i : ℕ) (cells frame : List ℕ) (count : ℕ) → i + k ≤ table_entries
    → drop table_cells (work_from value links waits flags a k i cells frame count).cells ≡ drop table_cells cells
unfolding work_from
work-outside value links waits flags a zero i cells frame count h = refl
work-outside value links waits flags a (suc k) i cells frame count h =
    split (chosen links flags frame i)
    (λ p. split (ltb count a)
    (λ q. let v = value frame i in let w = get_or waits i 0 in rw (p, q)
    (work-outside value links waits flags a k (suc i) (kept cells i v w) (set frame i v) (suc count) (omega arith)
    ∙ kept-outside cells i v (name_for cells i v w) (other_for cells v w) (omega arith)))
    (λ q. rw (p, q)))
    (λ p. rw p (work-outside value links waits flags a k (suc i) cells frame count (omega arith)))

pub preview-kept : (m : Memory) (n a : ℕ) → Outside m (preview_memory m n a)
unfolding preview_memory worked
preview-kept m n a =
    split (fits m && (well_formed m && ltb n (entry_count m)))
    (λ p. let q = (and-eq-true_iff (well_formed m) _).0 ((and-eq-true_iff (fits m) _).0 p).1 in rw p (by q.0 (ltb-true _ _ q.1)))
    (λ p. rw p (same m))
  where
    by : well_formed m ≡ true → n < entry_count m → Outside m (worked_memory m (work_on m n a))
    by w l = let few = few-entries m w in record { readings = refl; heads = refl; links = refl; cells = work-outside _ _ _ _ a (suc n) 0 m.cells _ 0 (omega arith) }

pub open-outside : (m : Memory) (r : List ℤ) → beyond (open_memory m r) ≡ beyond m
open-outside m r = all-beyond m (open_memory m r) (open_kept m r)

pub edit-outside : (m : Memory) (places text : List ℕ) → beyond (edit_memory m places text) ≡ beyond m
edit-outside m places text = all-beyond m (edit_memory m places text) (edit-kept m places text)

pub preview-outside : (m : Memory) (n a : ℕ) → beyond (preview_memory m n a) ≡ beyond m
preview-outside m n a = all-beyond m (preview_memory m n a) (preview-kept m n a)
