-- The turns of runs by columns: a chunk of readings is read, its rows are worked out, and their results are tallied. The tally is that of the
-- runs reading by reading, since each row gives what its run does, from any frame that has the same constants. Assumes nothing.
use mathlib.Core.Path.{◌≡◌, refl, sym, ap, ◌∙◌}
use mathlib.Core.Bool.{Bool, true, false, cond, and-false}
use mathlib.Core.List.{List, [], ◌∷◌}
use Prim.Native.Nat.{ℕ, zero, suc, ◌+◌, ◌-◌, ◌*◌, ◌/◌, ◌≤◌, ◌<◌}
use native.Mathlib.Nat.{mul-div-le, div-le_self, le-div_iff_mul-le, mul-le-mul_right, add-mul}
use native.Mathlib.Numerals.{add-one}
use native.Mathlib.Omega.{arith}
use borrow.Author.Count.{below_more}
use borrow.Author.Rules.{rules}
use borrow.Author.Tests.{leb-true, leb-false, le-leb, lt-leb}
use lib.Dec.{leb}
use lib.IntN.{ℤ, pos}
use lib.ListN.{length, get_or, set, drop, length-set, length-drop, length-take, take, drop_of_length-le}
use lib.Seq.{drop-cons, get_or-take, get_or-drop, get_or-set_same, get_or-set_other}
use Rattle.language.specs.Limits.{table_entries}
use Rattle.language.specs.Cases.{split}
use Rattle.rules.specs.declared.Value.TheVariants.{Number}
use Rattle.rules.specs.Windows.{readings_in}
use Rattle.values.specs.declared.runs.Tally.{Tally}
use Rattle.values.specs.Tallies.{begun, stepped, Within}
use Rattle.values.specs.TallyLaws.{within_none, within_more}
use Rattle.values.specs.Packing.{pack_of, unpack_of}
use Rattle.chunks.specs.Rows.{Go, set_of, over_of, plain_of}
use Rattle.chunks.specs.Fitting.{most_columns, placed_of, fits_of, by_columns}
use Rattle.chunks.specs.Chunks.{column_at, Read, Marks, Fitted, Agrees, Row, Chunks, Chunked, tallied_of, Takes, Tallied, Counts, Reruns, Columns, Ran}
use Rattle.chunks.specs.FittingLaws.{Mapped, mapped, plain}

-- ---- the readings of a chunk

module _ {xs : List ℤ} {from r : ℕ} {before buf : List ℕ} (so : Read xs from r before buf) where
  pub read_again : {v : ℕ} → 2 + r < length before → v ≡ pack_of (Number (get_or xs (from + r) (pos 0))) → Read xs from (r + 1) before (set buf (2 + r) v)
  read_again {v} h e = record {
    size = length-set buf (2 + r) v ∙ so.size;
    cell = below_more (λ (k : ℕ). get_or (set buf (2 + r) v) (2 + k) 0 ≡ pack_of (Number (get_or xs (from + k) (pos 0)))) r
        (λ k l. get_or-set_other buf (2 + r) (2 + k) v 0 (λ q. omega arith) ∙ so.cell k l)
        (get_or-set_same buf (2 + r) v 0 (omega (arith, so.size)) ∙ e);
  }

  pub read-end : {c : ℕ} → c ≤ r → Read xs from c before buf
  read-end h = record { size = so.size; cell = λ k l. so.cell k (omega arith) }

-- ---- the results of a chunk

-- the results before row i: what is left of them gives the same tally
pub record Taking (cells : List ℕ) (t u : Tally) (i : ℕ) : Type 0 where
  pub same : tallied_of cells t ≡ tallied_of (drop i cells) u
  pub bound : (k : ℕ) → Within k t → Within (k + i) u

pub taking-begin : (cells : List ℕ) (t : Tally) → Taking cells t t 0
taking-begin cells t = record { same = refl; bound = λ k w. within_more k (k + 0) t (omega arith) w }

module _ {cells : List ℕ} {t u : Tally} {i : ℕ} (so : Taking cells t u i) where
  pub taking-asks : i < length cells → length cells ≤ table_entries → Within (65535 - length cells) t → Within 65534 u
  taking-asks h l w = within_more (65535 - length cells + i) 65534 u (omega arith) (so.bound (65535 - length cells) w)

  module _ (h : i < length cells) {r : Tally} (y : Tallied u (get_or cells i 0) r) where
    turned : tallied_of cells t ≡ cond r.stopped r (tallied_of (drop (i + 1) cells) r)
    unfolding tallied_of
    turned =
        let q : drop i cells ≡ get_or cells i 0 ∷ drop (i + 1) cells = rw add-one (drop-cons cells i 0 h) in
        so.same ∙ ap (λ (cs : List ℕ). tallied_of cs u) q ∙ rw (← y.same)

    more : (k m : ℕ) → k + i + 1 ≤ m → Within k t → Within m r
    more k m l w = within_more (k + i + 1) m r l (y.bound (k + i) (so.bound k w))

    pub taking-stop : r.stopped ≡ true → Takes cells t r
    taking-stop d = record { same = sym (turned ∙ rw d); bound = λ k w. more k (k + length cells) (omega arith) w }

    pub taking-again : r.stopped ≡ false → Taking cells t r (i + 1)
    taking-again d = record { same = turned ∙ rw d; bound = λ k w. more k (k + (i + 1)) (omega arith) w }

  pub taking-end : length cells ≤ i → i ≤ length cells → Takes cells t u
  unfolding tallied_of
  taking-end h l = record {
    same = sym (so.same ∙ ap (λ (cs : List ℕ). tallied_of cs u) (drop_of_length-le cells {i = i} h));
    bound = λ k w. within_more (k + i) (k + length cells) u (omega arith) (so.bound k w);
  }

-- ---- how wide a column is

-- what a width asks: some rows, and room for a column for the variable and one for each entry
pub record Wide (size width : ℕ) : Type 0 where
  pub some : 1 ≤ width
  pub few : width ≤ table_entries
  pub room : 2 + (size + 1) * width ≤ table_entries

wide_enough : (size : ℕ) → size ≤ most_columns → Wide size ((table_entries - 2) / (size + 1))
wide_enough size short = record {
  some = (le-div_iff_mul-le {k = size + 1} {x = 1} {y = table_entries - 2} (omega arith)).1 (omega arith);
  few = omega (arith, div-le_self (table_entries - 2) (size + 1));
  room = omega (arith, mul-div-le (table_entries - 2) (size + 1));
}

-- a column lies within the buffer
column-room : (size width m : ℕ) → Wide size width → m - 2 ≤ size → column_at width m + width ≤ table_entries
column-room size width m w h = omega (arith, w.room, mul-le-mul_right {m = m - 2 + 1} {n = size + 1} width (omega arith), add-mul (m - 2) 1 width)

-- that of the body does
body-room : (links list : List ℕ) (v body : ℕ) (map : List ℕ) (width : ℕ) → Fitted links list v body map → Wide (length list) width
    → column_at width (get_or map body 0) + width ≤ table_entries
body-room links list v body map width f w =
    let q : Mapped links list v body map = mapped links list v body map f in
    column-room (length list) width (get_or map body 0) w
    (split (leb 3 (get_or map body 0))
    (λ e. omega (arith, q.few body (leb-true 3 (get_or map body 0) e), leb-true 3 (get_or map body 0) e))
    (λ e. omega (arith, leb-false 3 (get_or map body 0) e)))

-- what the place of the body's column asks
pub place-asks : {links list : List ℕ} {v body : ℕ} {map buf : List ℕ} {width : ℕ} → Columns links list v body map buf → width ≡ (table_entries - 2) / (length list + 1)
    → (2 ≤ get_or map body 0) × (width ≤ table_entries)
place-asks {links} {list} {v} {body} {map} {buf} {width} q w = (
  (mapped links list v body map q.fitted).body-there,
  rw w (wide_enough (length list) q.fitted.short).few,
)

-- ---- the runs

cond-true : {A : Type 0} (b : Bool) (x y : A) → b ≡ true → cond b x y ≡ x
cond-true b x y e = rw e

cond-false : {A : Type 0} (b : Bool) (x y : A) → b ≡ false → cond b x y ≡ y
cond-false b x y e = rw e

drop-reading : (xs : List ℤ) (s l k : ℕ) → k < length (readings_in xs s l) → drop k (readings_in xs s l) ≡ get_or xs (s + k) (pos 0) ∷ drop (k + 1) (readings_in xs s l)
drop-reading xs s l k h =
    let few : k < l = omega (arith, simp length-take at h) in
    rw add-one (drop-cons (readings_in xs s l) k (pos 0) h ∙ ap (λ (z : ℤ). z ∷ drop (suc k) (readings_in xs s l)) (get_or-take l (drop s xs) k (pos 0) few ∙ get_or-drop s xs k (pos 0)))

-- what is left from reading i with the tally t comes to u, or to what is left from reading j with u
record Over (go : Go) (body : ℕ) (list : List ℕ) (v : ℕ) (map frame : List ℕ) (zs : List ℤ) (other : List ℕ) (t u : Tally) (i j : ℕ) : Type 0 where
  pub next : List ℕ
  pub agrees : Agrees map frame next
  pub same : over_of go body list v other t (drop i zs) ≡ cond u.stopped u (over_of go body list v next u (drop j zs))

module _ (go : Go) (body : ℕ) (list : List ℕ) (v : ℕ) (map frame : List ℕ) (xs : List ℤ) (s l k c : ℕ) (earlier before cells : List ℕ)
    (read : Read xs (s + k) c earlier before) (few : k + c ≤ length (readings_in xs s l)) (size : length cells ≡ c)
    (row : (r : ℕ) → r < c → (other : List ℕ) → Agrees map frame other → Row go body list v (get_or before (2 + r) 0) map frame other (get_or cells r 0)) where
  abbrev zs : List ℤ
  zs = readings_in xs s l

  over : (n i : ℕ) → i + n ≡ c → (other : List ℕ) → Agrees map frame other → (t : Tally) → t.stopped ≡ false
      → Over go body list v map frame zs other t (tallied_of (drop i cells) t) (k + i) (k + c)
  unfolding tallied_of over_of
  over zero i e other a t d =
      let j : k + i ≡ k + c = omega arith in
      let none : drop i cells ≡ [] = drop_of_length-le cells {i = i} (omega (arith, size)) in
      rw none (record { next = other; agrees = a; same = ap (λ (m : ℕ). over_of go body list v other t (drop m zs)) j ∙ sym (cond-false t.stopped _ _ d) })
  over (suc n) i e other a t d =
      let here : Row go body list v (get_or before (2 + i) 0) map frame other (get_or cells i 0) = row i (omega arith) other a in
      let u : Tally = stepped t (unpack_of (get_or cells i 0)) in
      let w : List ℕ = set_of go (body + 1) list v (get_or before (2 + i) 0) other in
      let j : s + k + i ≡ s + (k + i) = omega arith in
      let z : get_or before (2 + i) 0 ≡ pack_of (Number (get_or xs (s + (k + i)) (pos 0))) = read.cell i (omega arith) ∙ ap (λ (m : ℕ). pack_of (Number (get_or xs m (pos 0)))) j in
      let one : over_of go body list v other t (drop (k + i) zs) ≡ cond u.stopped u (over_of go body list v w u (drop (k + i + 1) zs)) =
      ap (over_of go body list v other t) (drop-reading xs s l (k + i) (omega arith)) ∙ rw (← z, here.value) in
      let this : drop i cells ≡ get_or cells i 0 ∷ drop (i + 1) cells = rw add-one (drop-cons cells i 0 (omega (arith, size))) in
      let cut : tallied_of (drop i cells) t ≡ cond u.stopped u (tallied_of (drop (i + 1) cells) u) = ap (λ (cs : List ℕ). tallied_of cs t) this in
      split u.stopped
      (λ q.
      let whole : tallied_of (drop i cells) t ≡ u = cut ∙ cond-true u.stopped _ _ q in
      record {
        next = other;
        agrees = a;
        same = one ∙ cond-true u.stopped _ _ q ∙ sym (ap (λ (m : Tally). cond m.stopped m (over_of go body list v other m (drop (k + c) zs))) whole ∙ cond-true u.stopped _ _ q);
      })
      (λ q.
      let j' : k + i + 1 ≡ k + (i + 1) = omega arith in
      let rest : Over go body list v map frame zs w u (tallied_of (drop (i + 1) cells) u) (k + (i + 1)) (k + c) =
      over n (i + 1) (omega arith) w here.agrees u q in
      let whole : tallied_of (drop i cells) t ≡ tallied_of (drop (i + 1) cells) u = cut ∙ cond-false u.stopped _ _ q in
      record {
        next = rest.next;
        agrees = rest.agrees;
        same = one ∙ cond-false u.stopped _ _ q ∙ ap (λ (m : ℕ). over_of go body list v w u (drop m zs)) j' ∙ rest.same
            ∙ sym (ap (λ (m : Tally). cond m.stopped m (over_of go body list v rest.next m (drop (k + c) zs))) whole);
      })

-- the runs before reading k: what is left of them gives the same tally, from a frame that agrees
pub record Left (links list : List ℕ) (v body : ℕ) (map frame : List ℕ) (xs : List ℤ) (s l : ℕ) (t : Tally) (k : ℕ) : Type 0 where
  pub other : List ℕ
  pub agrees : Agrees map frame other
  pub same : over_of (plain_of links xs) body list v frame begun (readings_in xs s l) ≡ over_of (plain_of links xs) body list v other t (drop k (readings_in xs s l))

pub record Turns (links list : List ℕ) (v body : ℕ) (map frame : List ℕ) (xs : List ℤ) (s l count width to : ℕ) (buf : List ℕ) (t : Tally) (k : ℕ) : Type 0 where
  pub asks : Columns links list v body map buf
  pub counts : Counts xs s l count
  pub wide : Wide (length list) width
  pub place : to ≡ column_at width (get_or map body 0)
  pub room : to + width ≤ table_entries
  pub going : t.stopped ≡ false
  pub within : Within k t
  pub most : k ≤ count
  pub left : Left links list v body map frame xs s l t k

pub turns-begin : {links list : List ℕ} {v body : ℕ} {map frame : List ℕ} {xs : List ℤ} {s l count width to : ℕ} {buf : List ℕ} {t : Tally}
    → Columns links list v body map buf → length frame ≡ table_entries → Counts xs s l count → width ≡ (table_entries - 2) / (length list + 1)
    → to ≡ column_at width (get_or map body 0) → t ≡ begun → Turns links list v body map frame xs s l count width to buf t 0
turns-begin {links} {list} {v} {body} {map} {frame} {xs} {s} {l} {count} {width} {to} {buf} {t} q h n w p e =
    let f : Wide (length list) width = rw w (wide_enough (length list) q.fitted.short) in
    rw e (record {
      asks = q;
      counts = n;
      wide = f;
      place = p;
      room = rw p (body-room links list v body map width q.fitted f);
      going = refl;
      within = within_none;
      most = omega arith;
      left = record { other = frame; agrees = record { size = h; same = λ d z. refl }; same = refl };
    })

module _ {links list : List ℕ} {v body : ℕ} {map frame : List ℕ} {xs : List ℤ} {s l count width to : ℕ} {buf : List ℕ} {t : Tally} {k : ℕ}
    (turns : Turns links list v body map frame xs s l count width to buf t k) where
  pub turns-end : count ≤ k → t ≡ over_of (plain_of links xs) body list v frame begun (readings_in xs s l)
  unfolding over_of
  turns-end h =
      let e : length (readings_in xs s l) ≤ k = omega (arith, turns.counts.same) in
      sym (turns.left.same ∙ ap (over_of (plain_of links xs) body list v turns.left.other t) (drop_of_length-le (readings_in xs s l) {i = k} e))

  -- what a chunk of c rows asks
  pub chunk-asks : {before : List ℕ} {c : ℕ} → length before ≡ length buf → c ≤ width → Chunks links list v body map width c before
  chunk-asks e h = record {
    fitted = turns.asks.fitted;
    wide = h;
    room = omega (arith, turns.asks.room, turns.wide.room);
    few = omega (arith, turns.asks.room);
  }

  pub tally-asks : {c : ℕ} → c ≤ count - k → Within (65535 - c) t
  tally-asks {c} h = within_more k (65535 - c) t (omega (arith, turns.counts.few, turns.most)) turns.within

  -- a chunk's tally, over any cells that have the values of its rows
  module _ {c : ℕ} (few : c ≤ count - k) {before after : List ℕ} (read : Read xs (s + k) c buf before)
      (q : Chunked links xs list v body map frame width c before after) {cells : List ℕ} (size : length cells ≡ c)
      (each : (i : ℕ) → i < c → get_or cells i 0 ≡ get_or after (to + i) 0) {u : Tally} (y : Takes cells t u) where
    turn : Over (plain_of links xs) body list v map frame (readings_in xs s l) turns.left.other t u k (k + c)
    turn =
        let z : k + 0 ≡ k = omega arith in
        let rows : (r : ℕ) → r < c → (other : List ℕ) → Agrees map frame other → Row (plain_of links xs) body list v (get_or before (2 + r) 0) map frame other (get_or cells r 0) =
        λ r h. rw (each r h, turns.place) (q.row r h) in
        rw (z, ← y.same) at
        (over (plain_of links xs) body list v map frame xs s l k c buf before cells read (omega (arith, turns.counts.same, turns.most)) size rows c 0
        (omega arith) turns.left.other turns.left.agrees t turns.going)

    pub turns-stop : u.stopped ≡ true → u ≡ over_of (plain_of links xs) body list v frame begun (readings_in xs s l)
    turns-stop d = sym (turns.left.same ∙ turn.same ∙ cond-true u.stopped _ _ d)

    pub turns-again : u.stopped ≡ false → Turns links list v body map frame xs s l count width to after u (k + c)
    turns-again d = record {
      asks = record { fitted = turns.asks.fitted; room = q.size ∙ read.size ∙ turns.asks.room };
      counts = turns.counts;
      wide = turns.wide;
      place = turns.place;
      room = turns.room;
      going = d;
      within = rw size at (y.bound k turns.within);
      most = omega (arith, turns.most);
      left = record { other = turn.next; agrees = turn.agrees; same = turns.left.same ∙ turn.same ∙ cond-false u.stopped _ _ d };
    }

  -- the same over a slice of the buffer, where it has the room
  module _ {c : ℕ} (few : c ≤ count - k) {before after : List ℕ} (read : Read xs (s + k) c buf before)
      (q : Chunked links xs list v body map frame width c before after) {u : Tally} (y : Takes (take (to + c - to) (drop to after)) t u) (room : to + c ≤ length after) where
    slice-size : length (take (to + c - to) (drop to after)) ≡ c
    slice-size = simp length-take (omega (arith, length-drop to after, room))

    slice-each : (i : ℕ) → i < c → get_or (take (to + c - to) (drop to after)) i 0 ≡ get_or after (to + i) 0
    slice-each i h = get_or-take (to + c - to) (drop to after) i 0 (omega arith) ∙ get_or-drop to after i 0

    pub turns-stop-slice : u.stopped ≡ true → u ≡ over_of (plain_of links xs) body list v frame begun (readings_in xs s l)
    turns-stop-slice = turns-stop few read q slice-size slice-each y

    pub turns-again-slice : u.stopped ≡ false → Turns links list v body map frame xs s l count width to after u (k + c)
    turns-again-slice = turns-again few read q slice-size slice-each y

-- ---- which runs go by columns
module _ (links list : List ℕ) (v body : ℕ) (marks : List ℕ) where
  pub columns-none : v ≡ 0 → false ≡ by_columns links list v body marks
  unfolding by_columns
  columns-none e = rw e

  pub columns-many : most_columns < length list → false ≡ by_columns links list v body marks
  unfolding by_columns
  columns-many h = rw (lt-leb (length list) most_columns h, and-false (leb 1 v))

  pub columns-is : 1 ≤ v → length list ≤ most_columns → (map : List ℕ) → map ≡ placed_of v 3 list marks
      → (b : Bool) → b ≡ fits_of links map body 3 list → b ≡ by_columns links list v body marks
  unfolding by_columns
  columns-is h l map p b f = rw (le-leb 1 v h, le-leb (length list) most_columns l, ← p) f

pub columns-asks : {links list : List ℕ} {v body : ℕ} {marks map buf : List ℕ} {b : Bool} → Reruns list body v → Marks marks → 1 ≤ v → length list ≤ most_columns
    → map ≡ placed_of v 3 list marks → b ≡ fits_of links map body 3 list → b ≡ true → length buf ≡ table_entries → Columns links list v body map buf
columns-asks {list = list} {v = v} {marks = marks} r m h l p f d e = record {
  fitted = record {
    low = r.low;
    some = h;
    few = r.few;
    short = l;
    marks = marks;
    none = m;
    placed = p;
    fits = sym f ∙ d;
  };
  room = e;
}

pub ran : {links list : List ℕ} {v body : ℕ} (map : List ℕ) {frame : List ℕ} {xs : List ℤ} {s l : ℕ} {b : Bool} {t : Tally} → b ≡ fits_of links map body 3 list → b ≡ true
    → t ≡ over_of (plain_of links xs) body list v frame begun (readings_in xs s l) → Ran links xs list v body frame s l t
ran {links} {list} {v} {body} map f d e = record { plain = plain links map body 3 list (sym f ∙ d); same = e }

pub ruleset turning = (
  rules,
  read_again,
  read-end,
  taking-begin,
  taking-asks,
  taking-stop,
  taking-again,
  taking-end,
  place-asks,
  turns-begin,
  turns-end,
  chunk-asks,
  tally-asks,
  turns-stop-slice,
  turns-again-slice,
  columns-none,
  columns-many,
  columns-is,
  columns-asks,
  ran,
)
