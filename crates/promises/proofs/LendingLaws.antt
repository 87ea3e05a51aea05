-- Lending changes nothing that a cache holds: what is held depends only on the cells within the sizes. Memory under its size stays so when it
-- is lent, and what comes back as it was lent leaves the cache as it was. Assumes nothing.
use Rattle.std.specs.Prelude.{◌≡◌, true, false, List, [], ◌∷◌, ◌++◌, leb, ℤ, length, take, drop, get_or}
use Rattle.std.proofs.lemmas.Bool.{false≢true}
use Rattle.std.proofs.Math.Path.{refl}
use Rattle.std.proofs.Common.{sym, ap, ◌∙◌, append-nil, inl, inr, arith, leb-true, leb-false, length-take, length-drop, length-append, take-append-drop, take_all, take_at, take-take, get_or-take}
use Rattle.std.proofs.Math.Option.{none, some}
use Prim.Native.Nat.{ℕ, zero, suc, ◌+◌, ◌<◌, ◌≤◌}
use Rattle.std.proofs.Math.ListN.{get_elem?}
use Rattle.language.specs.Limits.{table_readings, table_entries}
use Rattle.language.specs.Cases.{split}
use Rattle.model.specs.ListLaws.{nth-below, all-nth}
use Rattle.model.specs.Model as Model
use Rattle.model.specs.Invariant.{Invariant}
use Rattle.meaning.specs.Forms.{Form}
use Rattle.formulas.specs.Formulas.{formulas}
use Rattle.bridge.specs.FormulaLaws.{formula-laws}
use Rattle.table.specs.EntryForms.{forms_of}
use Rattle.layout.specs.Links.{table_links, table_cells, kind_index, first_index, second_index, level_index, key_index, value_index, name_index, other_index}
use Rattle.layout.specs.Memory.{Memory, Entry, fits, entry_count, reading_count, recording_of, nothing_kept, entry_at, node_at, kept_at}
use Rattle.layout.specs.Memory.{entries_from, entries_of, nodes_of}
use Rattle.interface.specs.Calls.{open_memory, edit_memory, preview_memory}
use Rattle.demand.specs.Holds.{holds, with_marks, mark_of, Written, Ok}
use Rattle.demand.proofs.Appended.{Lengths, lengths, long-enough, entries-length}
use Rattle.demand.proofs.Needs.{entry-nth}
use Rattle.demand.proofs.Accepted.{accepted}
use Rattle.promises.proofs.Outside.{Outside, open_kept, few-entries, edit-kept, preview-kept}
use Rattle.promises.proofs.Accepting.{open-fits, edit-fits, preview-fits}
use Rattle.promises.specs.Lending.{lend_slice, lend, FirstOf, back_slice, back}

-- one slice
module _ {A : Type 0} (size : ℕ) where
  lent_length : (ys xs : List A) → size ≤ length xs → length (lend_slice size ys xs) ≡ length ys
  lent_length ys xs h =
      let a = length-append (take (length ys) (take size xs)) (drop size ys) in
      let b = length-take (length ys) (take size xs) in
      let c = length-take size xs in
      let d = length-drop size ys in
      omega arith

  lent-most : (ys xs : List A) → length (lend_slice size ys xs) ≤ length ys
  lent-most ys xs =
      let a = length-append (take (length ys) (take size xs)) (drop size ys) in
      let b = length-take (length ys) (take size xs) in
      let c = length-take size xs in
      let d = length-drop size ys in
      omega arith

  -- lent whole, its first cells are the cache's
  lent-first : (ys xs : List A) → size ≤ length xs → size ≤ length ys → take size (lend_slice size ys xs) ≡ take size xs
  lent-first ys xs h l =
      let c = length-take size xs in
      let e = take_all (length ys) (take size xs) (omega arith) in
      rw e (take_at (take size xs) (drop size ys) size (omega arith))

  -- as much of the cache as is lent
  lent-part : (ys xs : List A) → size ≤ length xs → take size (lend_slice size ys xs) ≡ take (length ys) (take size xs)
  lent-part ys xs h =
      let c = length-take size xs in
      split (leb size (length ys))
      (λ p. let l = leb-true size (length ys) p in lent-first ys xs h l ∙ sym (take_all (length ys) (take size xs) (omega arith)))
      (λ p.
      let l = leb-false size (length ys) p in
      let b = length-take (length ys) (take size xs) in
      let d = length-drop size ys in
      let e = lent_length ys xs h in
      take_all size (lend_slice size ys xs) (omega arith) ∙ nothing-behind (take (length ys) (take size xs)) (drop size ys) (omega arith))
    where
      nothing-behind : (us vs : List A) → length vs ≡ 0 → us ++ vs ≡ us
      nothing-behind us [] z = append-nil us
      nothing-behind us (v ∷ vs) z = absurd (omega arith)

  -- back as it was lent
  back-lent : (ys xs : List A) → size ≤ length xs → back_slice size xs (lend_slice size ys xs) ≡ xs
  back-lent ys xs h = let p = lent-part ys xs h in rw p (whole (length ys))
    where
      whole : (k : ℕ) → take k (take size xs) ++ drop (length (take k (take size xs))) xs ≡ xs
      whole k =
          let c = length-take size xs in
          let b = length-take k (take size xs) in
          split (leb size k)
          (λ p.
          let l = leb-true size k p in
          let e = take_all k (take size xs) (omega arith) in
          let n : length (take size xs) ≡ size = omega arith in
          rw (e, n) (take-append-drop size xs))
          (λ p.
          let l = leb-false size k p in
          let e = take-take k size xs (omega arith) in
          let n : length (take k (take size xs)) ≡ k = omega arith in
          rw (n, e) (take-append-drop k xs))

  -- any slice whose first cells are the cache's
  lent_any : (ys xs : List A) → take size ys ≡ take (length ys) (take size xs) → lend_slice size ys xs ≡ ys
  lent_any ys xs e = ap (λ (l : List A). l ++ drop size ys) (sym e) ∙ take-append-drop size ys

  -- the slice itself
  lent-self : (xs : List A) → take size xs ≡ take (length xs) (take size xs)
  lent-self xs = let c = length-take size xs in sym (take_all (length xs) (take size xs) (omega arith))

  back-self : (xs ps : List A) → size ≤ length ps → drop size ps ≡ drop size xs → back_slice size xs ps ≡ ps
  back-self xs ps h e =
      let c = length-take size ps in
      let n : length (take size ps) ≡ size = omega arith in
      ap (λ (k : ℕ). take size ps ++ drop k xs) n ∙ ap (λ (l : List A). take size ps ++ l) (sym e) ∙ take-append-drop size ps

  -- back as a call left it
  back-first : (xs ps : List A) → size ≤ length ps → take size (back_slice size xs ps) ≡ take size ps
  back-first xs ps h = let c = length-take size ps in take_at (take size ps) (drop (length (take size ps)) xs) size (omega arith)

  back-length : (xs ps : List A) → size ≤ length ps → size ≤ length (back_slice size xs ps)
  back-length xs ps h =
      let c = length-take size ps in
      let a = length-append (take size ps) (drop (length (take size ps)) xs) in
      omega arith

  -- cells within the size
  same-cell : (xs ys : List A) → take size ys ≡ take size xs → (i : ℕ) (d : A) → i < size → get_or ys i d ≡ get_or xs i d
  same-cell xs ys e i d h = sym (get_or-take size ys i d h) ∙ ap (λ (l : List A). get_or l i d) e ∙ get_or-take size xs i d h

-- a memory
pub any_lent : (m n : Memory) → FirstOf m n → lend n m ≡ n
any_lent m n p =
    λ t. record {
      readings = lent_any table_readings n.readings m.readings p.readings t;
      heads = lent_any 2 n.heads m.heads p.heads t;
      links = lent_any table_links n.links m.links p.links t;
      cells = lent_any table_cells n.cells m.cells p.cells t;
    }

pub itself : (m : Memory) → lend m m ≡ m
itself m =
    any_lent m m
    (record {
      readings = lent-self table_readings m.readings;
      heads = lent-self 2 m.heads;
      links = lent-self table_links m.links;
      cells = lent-self table_cells m.cells;
    })

itself-back : (m p : Memory) → fits p ≡ true → Outside m p → back m p ≡ p
itself-back m p f o =
    let l = lengths p f in
    λ t. record {
      readings = back-self table_readings m.readings p.readings l.readings o.readings t;
      heads = back-self 2 m.heads p.heads l.heads o.heads t;
      links = back-self table_links m.links p.links l.links o.links t;
      cells = back-self table_cells m.cells p.cells l.cells o.cells t;
    }

pub open-back : (m : Memory) (r : List ℤ) → fits m ≡ true → back m (open_memory m r) ≡ open_memory m r
open-back m r f = itself-back m (open_memory m r) (open-fits m r ∙ f) (open_kept m r)

pub edit-back : (m : Memory) (places text : List ℕ) → fits m ≡ true → back m (edit_memory m places text) ≡ edit_memory m places text
edit-back m places text f = itself-back m (edit_memory m places text) (edit-fits m places text ∙ f) (edit-kept m places text)

pub preview-back : (m : Memory) (n a : ℕ) → fits m ≡ true → back m (preview_memory m n a) ≡ preview_memory m n a
preview-back m n a f = itself-back m (preview_memory m n a) (preview-fits m n a ∙ f) (preview-kept m n a)

-- two memories with the same cells within the sizes
record Alike (m n : Memory) : Type 0 where
  readings : take table_readings n.readings ≡ take table_readings m.readings
  heads : take 2 n.heads ≡ take 2 m.heads
  links : take table_links n.links ≡ take table_links m.links
  cells : take table_cells n.cells ≡ take table_cells m.cells

module _ (m n : Memory) (a : Alike m n) where
  same_count : entry_count n ≡ entry_count m
  same_count = same-cell 2 m.heads n.heads a.heads 0 0 (omega arith)

  same-readings : reading_count n ≡ reading_count m
  same-readings = same-cell 2 m.heads n.heads a.heads 1 0 (omega arith)

  same-recording : reading_count m ≤ table_readings → recording_of n ≡ recording_of m
  same-recording h =
      let c = same-readings in
      let e = a.readings in
      rw c
      (sym (take-take (reading_count m) table_readings n.readings h)
      ∙ ap (λ (l : List ℤ). take (reading_count m) l) e
      ∙ take-take (reading_count m) table_readings m.readings h)

  same-entry : (i : ℕ) → i < table_entries → entry_at n.links n.cells i ≡ entry_at m.links m.cells i
  unfolding node_at kept_at
  same-entry i h =
      let link = same-cell table_links m.links n.links a.links in
      let cell = same-cell table_cells m.cells n.cells a.cells in
      let l₀ = link (kind_index i) 0 (omega arith) in
      let l₁ = link (first_index i) 0 (omega arith) in
      let l₂ = link (second_index i) 0 (omega arith) in
      let l₃ = link (level_index i) 0 (omega arith) in
      let c₀ = cell (key_index i) 0 (omega arith) in
      let c₁ = cell (value_index i) 0 (omega arith) in
      let c₂ = cell (name_index i) 0 (omega arith) in
      let c₃ = cell (other_index i) 0 (omega arith) in
      λ t. record {
        node = record { kind = l₀ t; key = c₀ t; first = l₁ t; second = l₂ t; level = l₃ t };
        kept = record { value = c₁ t; name = c₂ t; other = c₃ t };
      }

  from : (i k : ℕ) → i + k ≤ table_entries → entries_from n.links n.cells i k ≡ entries_from m.links m.cells i k
  unfolding entries_from
  from i zero h = refl
  from i (suc k) h = λ t. same-entry i (omega arith) t ∷ from (suc i) k (omega arith) t

  same_entries : entry_count m ≤ table_entries → entries_of n ≡ entries_of m
  same_entries h = let c = same_count in rw c (from 0 (entry_count m) (omega arith))

-- memory has the sizes if it has them as it is lent, and the other way round where the cache has them
pub lent_fits : (n m : Memory) → fits m ≡ true → fits (lend n m) ≡ fits n
unfolding fits
lent_fits n m f =
    let l = lengths m f in
    rw (lent_length table_readings n.readings m.readings l.readings, lent_length 2 n.heads m.heads l.heads)
    (rw (lent_length table_links n.links m.links l.links, lent_length table_cells n.cells m.cells l.cells))

pub lent-short : (n m : Memory) → fits n ≡ false → fits (lend n m) ≡ false
lent-short n m f = split (fits (lend n m)) (λ e. absurd (false≢true (sym f ∙ long-enough n (longer (lengths (lend n m) e))))) (λ e. e)
  where
    longer : Lengths (lend n m) → Lengths n
    longer l =
        let a = lent-most table_readings n.readings m.readings in
        let b = lent-most 2 n.heads m.heads in
        let c = lent-most table_links n.links m.links in
        let d = lent-most table_cells n.cells m.cells in
        record {
          readings = omega (arith, l.readings);
          heads = omega (arith, l.heads);
          links = omega (arith, l.links);
          cells = omega (arith, l.cells);
        }

-- back as it was lent
pub restored : (n m : Memory) → fits m ≡ true → back m (lend n m) ≡ m
restored n m f =
    let l = lengths m f in
    λ t. record {
      readings = back-lent table_readings n.readings m.readings l.readings t;
      heads = back-lent 2 n.heads m.heads l.heads t;
      links = back-lent table_links n.links m.links l.links t;
      cells = back-lent table_cells n.cells m.cells l.cells t;
    }

-- a cache
module _ (m : Memory) (o : Ok m) (i : Invariant formulas formula-laws (holds m)) where
  same-held : (n : Memory) → Alike m n → fits n ≡ true → Ok n × (holds n ≡ holds m)
  same-held n a f =
      let e = same_entries m n a (few-entries m (accepted m o i)) in
      let c = same-readings m n a in
      let r = same-recording m n a o.readings in
      (record { whole = f; readings = rw c o.readings; placed = rw e o.placed; written = rw e o.written }, rw (e, r))

  -- lent in memory of its size, and as it is back after a call
  pub lent-whole : (n : Memory) → fits n ≡ true → Ok (lend n m) × (holds (lend n m) ≡ holds m)
  lent-whole n f =
      let l = lengths m o.whole in
      let k = lengths n f in
      same-held (lend n m)
      (record {
        readings = lent-first table_readings n.readings m.readings l.readings k.readings;
        heads = lent-first 2 n.heads m.heads l.heads k.heads;
        links = lent-first table_links n.links m.links l.links k.links;
        cells = lent-first table_cells n.cells m.cells l.cells k.cells;
      })
      (lent_fits n m o.whole ∙ f)

  pub back_whole : (c : Memory) → Ok (back c m) × (holds (back c m) ≡ holds m)
  back_whole c =
      let l = lengths m o.whole in
      same-held (back c m)
      (record {
        readings = back-first table_readings c.readings m.readings l.readings;
        heads = back-first 2 c.heads m.heads l.heads;
        links = back-first table_links c.links m.links l.links;
        cells = back-first table_cells c.cells m.cells l.cells;
      })
      (long-enough (back c m)
      (record {
        readings = back-length table_readings c.readings m.readings l.readings;
        heads = back-length 2 c.heads m.heads l.heads;
        links = back-length table_links c.links m.links l.links;
        cells = back-length table_cells c.cells m.cells l.cells;
      }))

-- an entry without a mark keeps nothing
marked_by : (fs : List Form) (es : List Entry) (n : ℕ) (e : Model.Entry formulas) → get_elem? (with_marks fs es) n ≡ some e
    → (x : Entry) × (get_elem? es n ≡ some x) × (e.mark ≡ mark_of x.kept)
unfolding with_marks
marked_by [] es n e h = absurd (false≢true (cc))
marked_by (f ∷ fs) [] n e h = absurd (false≢true (cc))
marked_by (f ∷ fs) (x ∷ es) zero e h = (x, refl, ap (λ (y : Model.Entry formulas). y.mark) (some_one h))
  where
    some_one : {u v : Model.Entry formulas} → some u ≡ some v → v ≡ u
    some_one q = cc
marked_by (f ∷ fs) (x ∷ es) (suc n) e h = marked_by fs es n e h

pub keeps-none : (m : Memory) → Ok m → (n : ℕ) (e : Model.Entry formulas) → get_elem? (holds m).entries n ≡ some e → e.mark ≡ none
    → kept_at m.cells n ≡ nothing_kept
keeps-none m o n e h bare =
    let b = marked_by (forms_of (nodes_of (entries_of m))) (entries_of m) n e h in
    let l = nth-below (entries_of m) n b.0 b.1 in
    let c = entries-length m.links m.cells 0 (entry_count m) in
    let x : b.0 ≡ entry_at m.links m.cells n = let p = entry-nth m n (omega arith) in let q = b.1 in cc in
    sym (ap (λ (y : Entry). y.kept) x) ∙ none_written b.0 (all-nth Written (entries_of m) n b.0 o.written b.1) (sym b.2 ∙ bare)
  where
    none_written : (y : Entry) → Written y → mark_of y.kept ≡ none → y.kept ≡ nothing_kept
    none_written y (inl w) q = w
    none_written y (inr w) q = let k = w.1 in let s = w.2 in absurd (false≢true (let z = rw k at q in cc))
