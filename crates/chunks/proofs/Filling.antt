-- The columns of a chunk, one entry after another. An entry's cell in row r is what the entry comes to in the frame of row r, since what it
-- depends on stands in columns before it, or in the frame. Assumes nothing.
use Rattle.std.specs.Prelude.{Option}
use Rattle.std.proofs.lemmas.Bool.{false≢true, cond_both}
use Rattle.members.specs.declared.Member.{Member}
use mathlib.Core.Path.{◌≡◌, refl, sym, ap, ◌∙◌}
use mathlib.Core.Bool.{Bool, true, false, cond, ◌&&◌, and-eq-true_iff}
use mathlib.Core.List.{List, ◌∷◌}
use Prim.Native.Nat.{ℕ, suc, ◌+◌, ◌-◌, ◌*◌, ◌≤◌, ◌<◌}
use native.Mathlib.Omega.{arith}
use native.Mathlib.Numerals.{add-one}
use native.Mathlib.Nat.{suc-mul, mul-le-mul, mul-le-mul_right}
use borrow.Author.Rules.{rules}
use borrow.Author.Tests.{ltb-true, leb-true, leb-false, lt-ltb, le-ltb, le-leb, lt-leb, eqb-true, eqb-false}
use lib.Dec.{leb, ltb, eqb}
use lib.IntN.{ℤ}
use lib.ListN.{length, get_or, set, drop, length-set, drop_of_length-le}
use lib.Seq.{drop-cons, get_or-set_same, get_or-set_other}
use Rattle.language.specs.Cases.{split, either}
use Rattle.language.specs.Limits.{table_entries}
use Rattle.layout.specs.Nodes.{member_of_kind}
use Rattle.layout.specs.Links.{kind_at, first_at, second_at, is_below}
use Rattle.columns.specs.declared.loops.Operand.{Operand}
use Rattle.columns.specs.declared.loops.Column.{Column}
use Rattle.columns.specs.Calling.{cell_of}
use Rattle.columns.specs.Columns.{second_place, Asks, Columned}
use Rattle.chunks.specs.Rows.{Go, bound, fill_of, set_of, plain_of}
use Rattle.chunks.specs.Fitting.{is_there}
use Rattle.chunks.specs.Chunks.{column_at, operand_of, column_of, standing, Fits, Worked, Agrees, Chunks, Chunked}
use Rattle.chunks.specs.FittingLaws.{Fit, Mapped, mapped}

-- ---- links, marks and places
-- a link that is below, by a test or by what is known of the entry
module _ (link i : ℕ) where
  pub below_one : (b : Bool) → b ≡ is_below link i → b ≡ true → 1 ≤ link
  below_one b q h = leb-true 1 link ((and-eq-true_iff (leb 1 link) (leb link i)).0 (sym q ∙ h)).0

  pub below-most : (b : Bool) → b ≡ is_below link i → b ≡ true → i < table_entries → link - 1 < table_entries
  below-most b q h l = omega (arith, leb-true link i ((and-eq-true_iff (leb 1 link) (leb link i)).0 (sym q ∙ h)).1)

  pub known-one : (k : ℕ) → link ≡ k → is_below k i ≡ true → 1 ≤ link
  known-one k e h = below_one true (rw e (sym h)) refl

  pub known-most : (k : ℕ) → link ≡ k → is_below k i ≡ true → i < table_entries → link - 1 < table_entries
  known-most k e h l = below-most true (rw e (sym h)) refl l

pub ruleset linking = (rules, below_one, below-most, known-one, known-most)

-- what is there is a constant, or a column before
there : {A : Type 0} (d m : ℕ) → is_there d m ≡ true → (d ≡ 0 → A) → (2 ≤ d → d < m → A) → A
there d m e f g =
    either (eqb d 0) (leb 2 d && ltb d m) e (λ z. f (eqb-true d 0 z))
    (λ z. let h = (and-eq-true_iff (leb 2 d) (ltb d m)).0 z in g (leb-true 2 d h.0) (ltb-true d m h.1))

pub product-few : (a b : ℕ) → a ≤ 255 → b ≤ table_entries → (a - 2) * b ≤ 130560
product-few a b h k = mul-le-mul {n₁ = a - 2} {m₁ = b} {n₂ = 255} {m₂ = 512} (omega arith) k

-- a column ends before the next one begins
column-before : (width d m : ℕ) → 2 ≤ d → d < m → column_at width d + width ≤ column_at width m
column-before width d m h l = omega (arith, suc-mul (d - 2) width, mul-le-mul_right {m = suc (d - 2)} {n = m - 2} width (omega arith))

-- ---- an operand
module _ (width slot m : ℕ) where
  pub operand-constant : m < 2 → record { place = slot; step = 0 } ≡ operand_of width slot m
  unfolding operand_of
  operand-constant h = rw (lt-ltb m 2 h)

  pub operand-column : (at : ℕ) → 2 ≤ m → at ≡ column_at width m → record { place = at; step = 1 } ≡ operand_of width slot m
  unfolding operand_of
  operand-column at h e = rw (le-ltb m 2 h, e)

-- in row r it stands before the column that is marked m, and has what the mark says
module _ (width slot m d : ℕ) (there-is : is_there d m ≡ true) where
  place-low : (c r : ℕ) → slot < 2 → c ≤ width → r < c → (operand_of width slot d).place + (operand_of width slot d).step * r < column_at width m
  unfolding operand_of
  place-low c r early wide h =
      there d m there-is (λ z. rw z (omega arith)) (λ k l. rw (le-ltb d 2 k) (omega (arith, column-before width d m k l)))

  place-has : (before buf : List ℕ) (x r : ℕ) → ((p : ℕ) → 2 ≤ p → get_or buf p 0 ≡ get_or before p 0) → get_or buf slot 0 ≡ x
      → get_or buf ((operand_of width slot d).place + (operand_of width slot d).step * r) 0 ≡ cond (ltb d 2) x (get_or before (column_at width d + r) 0)
  unfolding operand_of
  place-has before buf x r kept e =
      there d m there-is
      (λ z. let n : slot + 0 * r ≡ slot = omega arith in rw z (ap (λ (p : ℕ). get_or buf p 0) n ∙ e))
      (λ k l.
      let n : column_at width d + 1 * r ≡ column_at width d + r = omega arith in
      rw (le-ltb d 2 k) (ap (λ (p : ℕ). get_or buf p 0) n ∙ kept (column_at width d + r) (omega arith)))

-- ---- a column
module _ (links map : List ℕ) (width m j a b : ℕ) (t : Bool) (p : a ≡ first_at links j) (q : b ≡ second_at links j) (s : t ≡ is_below b j) (o o' : Operand) (to : ℕ)
    (f : o ≡ operand_of width 0 (get_or map (a - 1) 0)) (k : to ≡ column_at width m) where
  pub column-two : t ≡ true → o' ≡ operand_of width 1 (get_or map (b - 1) 0) → record { first = o; second = o'; to = to } ≡ column_of links map width m j
  unfolding column_of
  column-two h g = rw (← p, ← q, ← s, h, k, f, g)

  pub column-one : t ≡ false → o' ≡ operand_of width 1 (get_or map (a - 1) 0) → record { first = o; second = o'; to = to } ≡ column_of links map width m j
  unfolding column_of
  column-one h g = rw (← p, ← q, ← s, h, k, f, g)

-- the buffer with the constants that entry j depends on at its front
pub record Front (links frame : List ℕ) (j : ℕ) (before buf : List ℕ) : Type 0 where
  pub size : length buf ≡ length before
  pub kept : (p : ℕ) → 2 ≤ p → get_or buf p 0 ≡ get_or before p 0
  pub first : get_or buf 0 0 ≡ get_or frame (first_at links j - 1) 0
  pub second : is_below (second_at links j) j ≡ true → get_or buf 1 0 ≡ get_or frame (second_at links j - 1) 0

module _ (links frame : List ℕ) (j a b : ℕ) (p : a ≡ first_at links j) (q : b ≡ second_at links j) (before : List ℕ) (few : 2 ≤ length before) where
  pub front-two : Front links frame j before (set (set before 0 (get_or frame (a - 1) 0)) 1 (get_or frame (b - 1) 0))
  front-two =
      let x : ℕ = get_or frame (a - 1) 0 in
      let y : ℕ = get_or frame (b - 1) 0 in
      record {
        size = length-set (set before 0 x) 1 y ∙ length-set before 0 x;
        kept = λ n h. get_or-set_other (set before 0 x) 1 n y 0 (λ e. omega arith) ∙ get_or-set_other before 0 n x 0 (λ e. omega arith);
        first = get_or-set_other (set before 0 x) 1 0 y 0 (λ e. omega arith) ∙ get_or-set_same before 0 x 0 (omega arith) ∙ rw p;
        second = λ h. get_or-set_same (set before 0 x) 1 y 0 (omega (arith, length-set before 0 x)) ∙ rw q;
      }

  pub front-one : (t : Bool) → t ≡ is_below b j → t ≡ false → Front links frame j before (set before 0 (get_or frame (a - 1) 0))
  front-one t s h =
      let x : ℕ = get_or frame (a - 1) 0 in
      record {
        size = length-set before 0 x;
        kept = λ n l. get_or-set_other before 0 n x 0 (λ e. omega arith);
        first = get_or-set_same before 0 x 0 (omega arith) ∙ rw p;
        second = λ o. absurd (false≢true (sym h ∙ s ∙ rw q o));
      }

cell_same : (f : Option Member) (xs : List ℤ) (two : Bool) (a a' b b' : ℕ) → a ≡ a' → (two ≡ true → b ≡ b') → cell_of f xs two a b ≡ cell_of f xs two a' b'
unfolding cell_of
cell_same f xs true a a' b b' e o = rw (e, o refl)
cell_same f xs false a a' b b' e o = rw e

module _ (links map frame : List ℕ) (width c m j : ℕ) (before buf : List ℕ) (fits : Fits links map width c m j before) (front : Front links frame j before buf) where
  pub front-asks : (k : Column) → k ≡ column_of links map width m j → Asks k c buf
  unfolding column_of
  front-asks k e =
      rw e (record {
        first = λ r. place-low width 0 m _ fits.receiver c r (omega arith) fits.wide;
        second = λ r. place-low width 1 m _
            (cond_both (is_below (second_at links j) j) _ _ (λ (d : ℕ). is_there d m ≡ true) fits.argument (λ z. fits.receiver)) c r (omega arith) fits.wide;
        room = omega (arith, fits.room, fits.wide, front.size);
        few = omega (arith, fits.few, front.size);
      })

  second-has : (r : ℕ) → is_below (second_at links j) j ≡ true → get_or buf (second_place (column_of links map width m j) r) 0 ≡ standing map frame width before (second_at links j - 1) r
  unfolding column_of
  second-has r t = rw t (place-has width 1 m (get_or map (second_at links j - 1) 0) (fits.argument t) before buf _ r front.kept (front.second t))

  worked : (xs : List ℤ) (after : List ℕ) → Columned (member_of_kind (kind_at links j)) (is_below (second_at links j) j) xs (column_of links map width m j) c buf after
      → Worked links xs frame map width c m j before after
  unfolding column_of
  worked xs after s = record {
    size = s.size ∙ front.size;
    kept = λ p l h. s.kept p h ∙ front.kept p l;
    made = λ r h.
        s.made r h
        ∙ cell_same (member_of_kind (kind_at links j)) xs (is_below (second_at links j) j) _ _ _ _
        (place-has width 0 m (get_or map (first_at links j - 1) 0) fits.receiver before buf _ r front.kept front.first) (second-has r);
  }

  pub front-worked : (xs : List ℤ) (after : List ℕ) (kind b : ℕ) (t : Bool) (k : Column) → kind ≡ kind_at links j → b ≡ second_at links j → t ≡ is_below b j → k ≡ column_of links map width m j
      → Columned (member_of_kind kind) t xs k c buf after → Worked links xs frame map width c m j before after
  front-worked xs after kind b t k d q s e o = worked xs after (rw (d, s, q, e) at o)

-- ---- the columns, one after another
-- what an entry that is marked m has in row r, where the columns stand that are marked lower than n
pub record Shown (width m n r : ℕ) (buf : List ℕ) (x y : ℕ) : Type 0 where
  pub constant : m ≡ 0 → y ≡ x
  pub column : 2 ≤ m → m < n → y ≡ get_or buf (column_at width m + r) 0

-- the frame of row r: what is left of the list, from place k on, gives from it what the whole list gives
pub record Mid (go : Go) (body : ℕ) (list : List ℕ) (v x k : ℕ) (map frame : List ℕ) (width n r : ℕ) (buf other : List ℕ) : Type 0 where
  pub now : List ℕ
  pub size : length now ≡ table_entries
  pub same : set_of go (body + 1) list v x other ≡ fill_of go (body + 1) (drop k list) now
  pub shown : (d : ℕ) → Shown width (get_or map d 0) n r buf (get_or frame d 0) (get_or now d 0)

pub record Fill (links : List ℕ) (xs : List ℤ) (list : List ℕ) (v body : ℕ) (map frame : List ℕ) (width c : ℕ) (before buf : List ℕ) (m k : ℕ) : Type 0 where
  pub mark : m ≡ k + 3
  pub size : length buf ≡ length before
  pub row : (r : ℕ) → r < c → (other : List ℕ) → Agrees map frame other → Mid (plain_of links xs) body list v (get_or before (2 + r) 0) k map frame width m r buf other

module _ (map frame now buf : List ℕ) (width n d r : ℕ) where
  shown-standing : is_there (get_or map d 0) n ≡ true → Shown width (get_or map d 0) n r buf (get_or frame d 0) (get_or now d 0) → get_or now d 0 ≡ standing map frame width buf d r
  shown-standing e s = there (get_or map d 0) n e (λ z. rw z (s.constant z)) (λ k l. rw (le-ltb (get_or map d 0) 2 k) (s.column k l))

module _ (links : List ℕ) (xs : List ℤ) (list : List ℕ) (v body : ℕ) (map frame : List ℕ) (width c : ℕ) (before : List ℕ) (asks : Chunks links list v body map width c before) where
  maps : Mapped links list v body map
  maps = mapped links list v body map asks.fitted

  bound-is : (other : List ℕ) (x : ℕ) → bound other v x ≡ set other (v - 1) x
  unfolding bound
  bound-is other x = rw (le-leb 1 v asks.fitted.some)

  shown-begin : (other : List ℕ) → Agrees map frame other → (r d : ℕ) → Shown width (get_or map d 0) 3 r before (get_or frame d 0) (get_or (set other (v - 1) (get_or before (2 + r) 0)) d 0)
  shown-begin other a r d = record {
    constant = λ z.
        get_or-set_other other (v - 1) d (get_or before (2 + r) 0) 0 (λ e. let o : get_or map (v - 1) 0 ≡ 0 = rw e at z in omega (arith, o, maps.own)) ∙ a.same d z;
    column = λ p q.
        let own : get_or map d 0 ≡ 2 = omega (arith, p, q) in
        let s : d ≡ v - 1 = maps.variable d own in
        let n : 2 + r ≡ column_at width 2 + r = omega arith in
        rw (own, s) (get_or-set_same other (v - 1) (get_or before (2 + r) 0) 0 (omega (arith, a.size, asks.fitted.some, asks.fitted.few)) ∙ ap (λ (i : ℕ). get_or before i 0) n);
  }

  pub fill-begin : Fill links xs list v body map frame width c before before 3 0
  fill-begin = record {
    mark = refl;
    size = refl;
    row = λ r l other a. record {
      now = set other (v - 1) (get_or before (2 + r) 0);
      size = length-set other (v - 1) (get_or before (2 + r) 0) ∙ a.size;
      same = ap (fill_of (plain_of links xs) (body + 1) list) (bound-is other (get_or before (2 + r) 0));
      shown = shown-begin other a r;
    };
  }

  module _ (buf : List ℕ) (m k : ℕ) (fill : Fill links xs list v body map frame width c before buf m k) where
    pub fill-few : k < length list → m ≤ 128
    fill-few h = omega (arith, fill.mark, asks.fitted.short)

    module _ (h : k < length list) where
      fit : Fit links map body m (get_or list k 0)
      fit =
          let n : k + 3 ≡ m = sym fill.mark in
          rw n at (maps.entry k h)

      pub fill-fits : Fits links map width c m (get_or list k 0) buf
      fill-fits = record {
        low = omega (arith, fit.low, asks.fitted.low);
        first = fit.first;
        receiver = fit.receiver;
        argument = fit.argument;
        later = omega (arith, fill.mark);
        wide = asks.wide;
        room =
            omega (
              arith,
              fill.mark,
              fill.size,
              asks.room,
              suc-mul (m - 2) width,
              mul-le-mul_right {m = suc (m - 2)} {n = length list + 1} width (omega (arith, fill.mark)),
            );
        few = omega (arith, fill.size, asks.few);
      }

      module _ (after : List ℕ) (work : Worked links xs frame map width c m (get_or list k 0) buf after) where
        plain-is : (r : ℕ) → r < c → (now : List ℕ) → ((d : ℕ) → Shown width (get_or map d 0) m r buf (get_or frame d 0) (get_or now d 0))
            → plain_of links xs now (get_or list k 0) ≡ get_or after (column_at width m + r) 0
        unfolding plain_of
        plain-is r l now shown =
            let j : ℕ = get_or list k 0 in
            cell_same (member_of_kind (kind_at links j)) xs (is_below (second_at links j) j) _ _ _ _
            (shown-standing map frame now buf width m (first_at links j - 1) r fit.receiver (shown (first_at links j - 1)))
            (λ t. shown-standing map frame now buf width m (second_at links j - 1) r (fit.argument t) (shown (second_at links j - 1)))
            ∙ sym (work.made r l)

        -- only entry k has the mark m
        mark-only : (d : ℕ) → get_or map d 0 ≡ m → d ≡ get_or list k 0
        mark-only d e =
            let i : get_or map d 0 - 3 ≡ k = omega (arith, e, fill.mark) in
            sym (maps.only d (omega (arith, e, fill.mark))) ∙ ap (λ (n : ℕ). get_or list n 0) i

        shown-again : (r : ℕ) → r < c → (now : List ℕ) → length now ≡ table_entries → ((d : ℕ) → Shown width (get_or map d 0) m r buf (get_or frame d 0) (get_or now d 0)) → (d : ℕ)
            → Shown width (get_or map d 0) (m + 1) r after (get_or frame d 0) (get_or (set now (get_or list k 0) (get_or after (column_at width m + r) 0)) d 0)
        shown-again r l now size shown d =
            let j : ℕ = get_or list k 0 in
            let cell : ℕ = get_or after (column_at width m + r) 0 in
            split (eqb (get_or map d 0) m)
            (λ e.
            let o : get_or map d 0 ≡ m = eqb-true (get_or map d 0) m e in
            let s : d ≡ j = mark-only d o in
            record {
              constant = λ z. absurd (omega (arith, o, z, fill.mark));
              column = λ p q. rw (o, s) (get_or-set_same now j cell 0 (omega (arith, size, fit.low, asks.fitted.low)));
            })
            (λ e.
            let o : get_or map d 0 ≡ m → ⊥ = eqb-false (get_or map d 0) m e in
            let same : get_or (set now j cell) d 0 ≡ get_or now d 0 = get_or-set_other now j d cell 0 (λ s. o (rw s fit.mark)) in
            record {
              constant = λ z. same ∙ (shown d).constant z;
              column = λ p q.
                  let q' : get_or map d 0 < m = omega (arith, q, o) in
                  same ∙ (shown d).column p q' ∙ sym (work.kept (column_at width (get_or map d 0) + r) (omega arith) (omega (arith, column-before width (get_or map d 0) m p q', asks.wide)));
            })

        more : Fill links xs list v body map frame width c before after (m + 1) (k + 1)
        unfolding fill_of
        more = record {
          mark = omega (arith, fill.mark);
          size = work.size ∙ fill.size;
          row = λ r l other a.
              let mid : Mid (plain_of links xs) body list v (get_or before (2 + r) 0) k map frame width m r buf other = fill.row r l other a in
              let j : ℕ = get_or list k 0 in
              let cell : ℕ = get_or after (column_at width m + r) 0 in
              let q : drop k list ≡ j ∷ drop (k + 1) list = rw add-one (drop-cons list k 0 h) in
              record {
                now = set mid.now j cell;
                size = length-set mid.now j cell ∙ mid.size;
                same = mid.same ∙ ap (λ (js : List ℕ). fill_of (plain_of links xs) (body + 1) js mid.now) q
                    ∙ rw (lt-leb (body + 1) j (omega (arith, fit.low)), plain-is r l mid.now mid.shown);
                shown = shown-again r l mid.now mid.size mid.shown;
              };
        }

        pub fill-again : Fill links xs list v body map frame width c before after (k + 1 + 3) (k + 1)
        fill-again =
            let n : m + 1 ≡ k + 1 + 3 = omega (arith, fill.mark) in
            rw n at more

    pub fill_end : length list ≤ k → Chunked links xs list v body map frame width c before buf
    unfolding fill_of
    fill_end h = record {
      size = fill.size;
      row = λ r l other a.
          let mid : Mid (plain_of links xs) body list v (get_or before (2 + r) 0) k map frame width m r buf other = fill.row r l other a in
          let same : set_of (plain_of links xs) (body + 1) list v (get_or before (2 + r) 0) other ≡ mid.now =
          mid.same ∙ ap (λ (js : List ℕ). fill_of (plain_of links xs) (body + 1) js mid.now) (drop_of_length-le list {i = k} h) in
          let low : get_or map body 0 < m = split (leb 3 (get_or map body 0))
          (λ e. omega (arith, maps.few body (leb-true 3 (get_or map body 0) e), fill.mark))
          (λ e. omega (arith, leb-false 3 (get_or map body 0) e, fill.mark)) in
          record {
            value = ap (λ (f : List ℕ). get_or f body 0) same ∙ (mid.shown body).column maps.body-there low;
            agrees = record { size = ap length same ∙ mid.size; same = λ d z. ap (λ (f : List ℕ). get_or f d 0) same ∙ (mid.shown d).constant z };
          };
    }

pub ruleset filling = (linking, product-few, operand-constant, operand-column, fill-begin, fill-few, fill-fits, fill-again, fill_end)
