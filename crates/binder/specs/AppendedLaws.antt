-- A cache after entries are appended: those held stay as they are, the new ones have nothing kept, and the cache stays well-formed where
-- each new entry is right, new, and awaits two names at most. Assumes nothing.
use Rattle.std.specs.Prelude.{◌≡◌, Bool, true, false, ◌&&◌, eqb, leb, length}
use Rattle.std.proofs.lemmas.Bool.{false≢true}
use Rattle.std.proofs.Math.Path.{refl, subst}
use Rattle.std.proofs.Common.{sym, ap, ◌∙◌, leb-true, le-leb, length-set}
use Rattle.std.proofs.Math.Bool.{and-eq-true_iff}
use mathlib.Core.List.{List, [], ◌∷◌, ◌++◌}
use Prim.Native.Nat.{ℕ, zero, suc, ◌+◌, ◌≤◌, ◌<◌}
use Rattle.std.proofs.Math.Decide.{dec_lt}
use native.Mathlib.Omega.{arith}
use Rattle.std.proofs.Math.Seq.{get_or-set_same, get_or-set_other}
use Rattle.language.specs.Cases.{split}
use Rattle.language.specs.Limits.{table_entries, table_readings}
use Rattle.model.specs.Decoding.{decode_from}
use Rattle.layout.specs.Links.{level_index, other_index, links_with, cells_with}
use Rattle.layout.specs.LinksLaws.{links-length, links-apart, links-here, cells-length, cells-apart, cells-kept, cells-key, cells-nothing}
use Rattle.layout.specs.Memory.{Memory, Node, Entry, nothing_kept, fits, entry_count, reading_count, node_at, entry_at, entries_from, entries_of}
use Rattle.layout.specs.Nodes.{kids}
use Rattle.table.specs.Awaits.{awaited_by, awaited_after}
use Rattle.table.specs.AwaitedBuild.{few-is}
use Rattle.table.specs.WellFormed.{every, has_node, distinct, awaits_few, done_at, all_done, settled, names_right, kept_right, well_formed}
use Rattle.table.specs.Bind.{append, append_all}
use Rattle.table.specs.Right.{node_right, right_at}
use Rattle.layout.specs.Numbered.{all_from, numbered}
use Rattle.table.specs.RightLaws.{all-at, all_of, right-at}
use Rattle.binder.specs.WrittenLaws.{whole_is}
use Rattle.table.specs.ChainLaws.{numbered-last, numbered-agree, distinct_snoc}
use Rattle.table.specs.AwaitsLaws.{after-snoc}
use Rattle.table.specs.Checked.{kept_ok, entries_right}
use Rattle.table.specs.CheckedLaws.{well-is}

-- a new entry
abbrev pub new_entry : Node → Entry
new_entry n = record { node = n; kept = nothing_kept }

module _ (links cells : List ℕ) (k : ℕ) (n : Node) where
  abbrev links' : List ℕ
  links' = links_with links k n.kind n.first n.second n.level

  abbrev cells' : List ℕ
  cells' = cells_with cells k n.key

  -- entries held stay as they are
  entry_old : (i : ℕ) → i < k → entry_at links' cells' i ≡ entry_at links cells i
  entry_old i h =
      rw (
        links-apart links k n.kind n.first n.second n.level cells' i (λ e. omega arith),
        cells-apart cells k n.key links i (λ e. omega arith),
        cells-kept cells k n.key i (λ e. omega arith),
      )

  -- the new one is n, with nothing kept
  entry_new : level_index k < length links → other_index k < length cells → entry_at links' cells' k ≡ new_entry n
  entry_new hl hc =
      rw (
        links-here links k n.kind n.first n.second n.level cells' hl,
        cells-key cells k n.key hc,
        cells-nothing cells k n.key hc,
      )

  entries-old : (i m : ℕ) → i + m ≤ k → entries_from links' cells' i m ≡ entries_from links cells i m
  unfolding entries_from
  entries-old i zero h = refl
  entries-old i (suc m) h = rw (entry_old i (omega arith), entries-old (suc i) m (omega arith))

  entries-last : (ls cs : List ℕ) (i m : ℕ) → entries_from ls cs i (suc m) ≡ entries_from ls cs i m ++ (entry_at ls cs (i + m) ∷ [])
  unfolding entries_from
  entries-last ls cs i zero = let q : i + 0 ≡ i = omega arith in rw q
  entries-last ls cs i (suc m) = let q : suc i + m ≡ i + suc m = omega arith in rw (entries-last ls cs (suc i) m, q)

  entries-more : level_index k < length links → other_index k < length cells → entries_from links' cells' 0 (suc k) ≡ entries_from links cells 0 k ++ (new_entry n ∷ [])
  entries-more hl hc =
      let q : 0 + k ≡ k = omega arith in
      entries-last links' cells' 0 k ∙ rw (entries-old 0 k (omega arith), q, entry_new hl hc)

append-as : (m : Memory) (n : Node) (j : ℕ)
    → entries_from (append m n).links (append m n).cells 0 j
    ≡ entries_from (links_with m.links (entry_count m) n.kind n.first n.second n.level) (cells_with m.cells (entry_count m) n.key) 0 j
unfolding append
append-as m n j = refl

-- The memory with one entry more.
module _ (m : Memory) (n : Node) where
  pub append-fits : fits (append m n) ≡ fits m
  unfolding fits append
  append-fits = simp (length-set, links-length, cells-length)

  module _ (f : fits m ≡ true) where
    pub append-count : entry_count (append m n) ≡ suc (entry_count m)
    unfolding append
    append-count = let w = whole_is m f in get_or-set_same m.heads 0 (suc (entry_count m)) 0 (omega arith)

    pub append-readings : reading_count (append m n) ≡ reading_count m
    unfolding append
    append-readings = get_or-set_other m.heads 0 1 (suc (entry_count m)) 0 (λ e. omega arith)

    pub append-entries : entry_count m < table_entries → entries_of (append m n) ≡ entries_of m ++ (new_entry n ∷ [])
    append-entries h =
        let w = whole_is m f in
        rw append-count (append-as m n (suc (entry_count m)) ∙ entries-more m.links m.cells (entry_count m) n (omega arith) (omega arith))

pub append-all-fits : (m : Memory) (ns : List Node) → fits (append_all m ns) ≡ fits m
unfolding append_all
append-all-fits m [] = refl
append-all-fits m (n ∷ ns) = append-all-fits (append m n) ns ∙ append-fits m n

-- What well-formedness says, part by part.
pub record Well (m : Memory) : Type 0 where
  pub few : entry_count m ≤ table_entries
  pub readings : reading_count m ≤ table_readings
  pub right : (i : ℕ) → i < entry_count m → node_right i (node_at m.links m.cells i) ≡ true
  pub apart : distinct (numbered (node_at m.links m.cells) 0 (entry_count m)) ≡ true
  pub names : awaits_few (numbered (node_at m.links m.cells) 0 (entry_count m)) ≡ true
  pub kept : (i : ℕ) → i < entry_count m → kept_ok m.links m.cells (entry_count m) (reading_count m) i ≡ true

at_zero : (p : ℕ → Bool) (n i : ℕ) → all_from p n 0 ≡ true → i < n → p i ≡ true
at_zero p n i h l = let z : 0 + i ≡ i = omega arith in rw z at (all-at p n i 0 h l)

pub well-parts : (m : Memory) → well_formed m ≡ true → Well m
unfolding entries_right
well-parts m w =
    let e = sym (well-is m.readings m.heads m.links m.cells) ∙ w in
    let r = ((and-eq-true_iff (leb (entry_count m) table_entries) _).0 e).1 in
    let a = ((and-eq-true_iff (leb (reading_count m) table_readings) _).0 r).1 in
    let b = ((and-eq-true_iff (all_from (right_at m.links m.cells) (entry_count m) 0) _).0 a).1 in
    let c = ((and-eq-true_iff (distinct (numbered (node_at m.links m.cells) 0 (entry_count m))) _).0 b).1 in
    let d = ((and-eq-true_iff (awaits_few (numbered (node_at m.links m.cells) 0 (entry_count m))) _).0 c).1 in
    record {
      few = leb-true (entry_count m) table_entries ((and-eq-true_iff _ _).0 e).0;
      readings = leb-true (reading_count m) table_readings ((and-eq-true_iff _ _).0 r).0;
      right = λ i l. right-at m.links m.cells (entry_count m) i ((and-eq-true_iff _ _).0 a).0 l;
      apart = ((and-eq-true_iff _ _).0 b).0;
      names = ((and-eq-true_iff _ _).0 c).0;
      kept = λ i l. at_zero (kept_ok m.links m.cells (entry_count m) (reading_count m)) (entry_count m) i d l;
    }

pub well-from : (m : Memory) → Well m → well_formed m ≡ true
unfolding entries_right right_at
well-from m w =
    well-is m.readings m.heads m.links m.cells
    ∙ rw (
      le-leb (entry_count m) table_entries w.few,
      le-leb (reading_count m) table_readings w.readings,
      all_of (right_at m.links m.cells) (entry_count m) 0 (λ j h l. w.right j (omega arith)),
      w.apart,
      w.names,
      all_of (kept_ok m.links m.cells (entry_count m) (reading_count m)) (entry_count m) 0 (λ j h l. w.kept j (omega arith)),
    )

-- a cache with no entries
pub well-empty : (m : Memory) → entry_count m ≡ 0 → reading_count m ≤ table_readings → well_formed m ≡ true
unfolding well_formed entries_from every distinct decode_from
well-empty m e h = rw (e, le-leb (reading_count m) table_readings h)

pub and-true : (a b : Bool) → a ≡ true → b ≡ true → (a && b) ≡ true
and-true a b p q = rw (p, q)

every-snoc : {A : Type 0} (p : A → Bool) (i : ℕ) (xs : List A) (x : A) → every (λ (k : ℕ) (y : A). p y) i xs ≡ true → p x ≡ true → every (λ (k : ℕ) (y : A). p y) i (xs ++ (x ∷ [])) ≡ true
unfolding every
every-snoc p i [] x h e = rw e
every-snoc p i (y ∷ ys) x h e = and-true (p y) _ ((and-eq-true_iff _ _).0 h).0 (every-snoc p (suc i) ys x ((and-eq-true_iff (p y) _).0 h).1 e)

-- what is worked out stays so
done_more : (es : List Entry) (x : Entry) (i : ℕ) → done_at es i ≡ true → done_at (es ++ (x ∷ [])) i ≡ true
unfolding done_at
done_more [] x i h = absurd (false≢true h)
done_more (e ∷ es) x zero h = h
done_more (e ∷ es) x (suc i) h = done_more es x i h

-- so an entry that is settled stays so
module _ (es later : List Entry) (stays : (i : ℕ) → done_at es i ≡ true → done_at later i ≡ true) where
  all-done-later : (is : List ℕ) → all_done es is ≡ true → all_done later is ≡ true
  unfolding all_done
  all-done-later [] h = refl
  all-done-later (i ∷ is) h = rw (stays i ((and-eq-true_iff _ _).0 h).0, all-done-later is ((and-eq-true_iff (done_at es i) _).0 h).1)

  pub settled-later : (e : Entry) → settled es e ≡ true → settled later e ≡ true
  settled-later e h = split (eqb e.kept.value 0) (λ p. rw p) (λ p. rw p (all-done-later (kids e.node) (rw p at h)))

new-kept : (readings : ℕ) (n : Node) (es : List Entry) → (settled es (new_entry n) && kept_right readings (new_entry n)) ≡ true
unfolding kept_right names_right
new-kept readings n es = refl

-- THE LAW: a right entry that is new and awaits two names at most keeps the cache well-formed.
module _ (m : Memory) (n : Node) (f : fits m ≡ true) (w : Well m) (room : entry_count m < table_entries) where
  abbrev k : ℕ
  k = entry_count m

  abbrev held : List Node
  held = numbered (node_at m.links m.cells) 0 k

  abbrev old : List Entry
  old = entries_from m.links m.cells 0 k

  abbrev ls : List ℕ
  ls = links_with m.links k n.kind n.first n.second n.level

  abbrev cs : List ℕ
  cs = cells_with m.cells k n.key

  node-old : (i : ℕ) → i < k → node_at ls cs i ≡ node_at m.links m.cells i
  node-old i h = ap (λ (e : Entry). e.node) (entry_old m.links m.cells k n i h)

  last_entry : entry_at ls cs k ≡ new_entry n
  last_entry = let u = whole_is m f in entry_new m.links m.cells k n (omega arith) (omega arith)

  node-new : node_at ls cs k ≡ n
  node-new = ap (λ (e : Entry). e.node) last_entry

  nodes-more : numbered (node_at ls cs) 0 (suc k) ≡ held ++ (n ∷ [])
  nodes-more =
      numbered-last (node_at ls cs) k
      ∙ rw (numbered-agree (node_at ls cs) (node_at m.links m.cells) 0 k (λ j l. node-old j (omega arith)), node-new)

  all-entries : entries_from ls cs 0 (suc k) ≡ entries_from m.links m.cells 0 k ++ (new_entry n ∷ [])
  all-entries = let u = whole_is m f in entries-more m.links m.cells k n (omega arith) (omega arith)

  right-more : node_right k n ≡ true → (i : ℕ) → i < suc k → node_right i (node_at ls cs i) ≡ true
  right-more r i l =
      elim (dec_lt i k) [
        | yes less ↦ rw (node-old i less) (w.right i less)
        | no most ↦ let q : i ≡ k = omega arith in rw q (rw node-new r)
      ]

  kept_more : (i : ℕ) → i < suc k → kept_ok ls cs (suc k) (reading_count m) i ≡ true
  unfolding kept_ok
  kept_more i l =
      subst (λ (es : List Entry). (settled es (entry_at ls cs i) && kept_right (reading_count m) (entry_at ls cs i)) ≡ true) (sym all-entries)
      (elim (dec_lt i k) [
        | yes less ↦
            let h = w.kept i less in
            subst (λ (e : Entry). (settled (old ++ (new_entry n ∷ [])) e && kept_right (reading_count m) e) ≡ true) (sym (entry_old m.links m.cells k n i less))
            (and-true _ _
            (settled-later old (old ++ (new_entry n ∷ [])) (done_more old (new_entry n)) (entry_at m.links m.cells i) ((and-eq-true_iff _ _).0 h).0)
            ((and-eq-true_iff (settled old (entry_at m.links m.cells i)) _).0 h).1)
        | no most ↦
            let q : i ≡ k = omega arith in
            subst (λ (e : Entry). (settled (old ++ (new_entry n ∷ [])) e && kept_right (reading_count m) e) ≡ true) (sym (ap (entry_at ls cs) q ∙ last_entry))
            (new-kept (reading_count m) n (old ++ (new_entry n ∷ [])))
      ])

  module _ (r : node_right k n ≡ true) (u : has_node n held ≡ false) (a : length (awaited_by (awaited_after [] held) n) ≤ 2) where
    few-more : awaits_few (held ++ (n ∷ [])) ≡ true
    few-more =
        sym (few-is (held ++ (n ∷ [])))
        ∙ rw (after-snoc (node_at ls cs) [] held n) (every-snoc (λ (x : List ℕ). leb (length x) 2) 0 (awaited_after [] held) (awaited_by (awaited_after [] held) n) (few-is held ∙ w.names) (le-leb _ _ a))

    pub append-well : well_formed (append m n) ≡ true
    unfolding append
    append-well =
        let c = append-count m n f in
        let d = append-readings m n f in
        well-from (append m n)
        record {
          few = rw c (omega arith);
          readings = rw d w.readings;
          right = λ i l. right-more r i (rw c at l);
          apart = rw c (ap distinct nodes-more ∙ distinct_snoc n held ∙ rw (w.apart, u));
          names = rw c (ap (λ (ns : List Node). awaits_few ns) nodes-more ∙ few-more);
          kept = λ i l. rw (c, d) (kept_more i (rw c at l));
        }
