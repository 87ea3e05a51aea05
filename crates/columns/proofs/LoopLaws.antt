-- The rows of a column, one by one: each loop leaves what lies before its rows as it was, so that each row is made from what stood there at
-- the start. Assumes nothing.
use Rattle.std.specs.Prelude.{Option, Some}
use mathlib.Core.Path.{◌≡◌, refl, sym, ap, ◌∙◌}
use mathlib.Core.Bool.{Bool, true, false, ◌&&◌, and-eq-true_iff}
use mathlib.Core.List.{List}
use Prim.Native.Nat.{ℕ, ◌+◌, ◌≤◌, ◌<◌}
use native.Mathlib.Omega.{arith}
use borrow.Author.Rules.{rules}
use borrow.Author.Tests.{ltb-true, ltb-false, eqb-true, eqb-false}
use lib.Dec.{leb, ltb, eqb}
use lib.IntN.{ℤ, pos}
use lib.Signed.{lt_z}
use lib.ListN.{length, get_or, set, length-set}
use lib.Seq.{get_or-set_same, get_or-set_other}
use mir.Syntax.{w32, w64}
use mir.Val.{SFits, Fits, to_z, of_z, bool_byte}
use mir.Facts.{to_z-of_z}
use Rattle.language.specs.Cases.{split}
use Rattle.language.specs.Limits.{table_entries}
use Rattle.members.specs.declared.Member.{Member}
use Rattle.members.specs.declared.Member.TheVariants.{Gt, Eq}
use Rattle.rules.specs.declared.Value.{Value}
use Rattle.rules.specs.declared.Value.TheVariants.{Number}
use Rattle.rules.specs.Values.{flag}
use Rattle.rules.specs.Rules.{rule, on_numbers}
use Rattle.values.specs.Packing.{pack_of, window_cell}
use Rattle.values.specs.PackingLaws.{number_in}
use Rattle.values.proofs.NumberRules.{eq_yes, eq_no}
use Rattle.columns.specs.Calling.{cell_of}
use Rattle.columns.specs.declared.loops.Operand.{Operand}
use Rattle.columns.specs.declared.loops.Column.{Column}
use Rattle.columns.specs.Columns.{numbers_cell, first_place, second_place, row_cell, row_put, Asks, Rowed, Columned}
use Rattle.columns.proofs.Calls.{cell-numbers}

-- ---- a cell of two numbers
module _ (a b : ℕ) (x y : ℤ) (fx : SFits w32 x) (fy : SFits w32 y) (p : x ≡ number_in a) (q : y ≡ number_in b) where
  pub made-is : (m : Member) (v : Value) (r : ℕ) → v ≡ on_numbers m (to_z w32 (of_z w32 x)) (to_z w32 (of_z w32 y)) → r ≡ pack_of v → r ≡ numbers_cell m a b
  made-is m v r o c = c ∙ ap pack_of (o ∙ (λ i. on_numbers m ((to_z-of_z fx ∙ p) i) ((to_z-of_z fy ∙ q) i)))

one_more : (b : Bool) → 2147483649 + bool_byte b ≡ pack_of (flag b)
one_more true = refl
one_more false = refl

pub flag-fits : (b : Bool) → Fits w64 (2147483649 + bool_byte b)
flag-fits true = omega arith
flag-fits false = omega arith

module _ (a b : ℕ) (x y : ℤ) (fx : SFits w32 x) (fy : SFits w32 y) (p : x ≡ number_in a) (q : y ≡ number_in b) where
  pub made-gt : 2147483649 + bool_byte (lt_z (to_z w32 (of_z w32 y)) (to_z w32 (of_z w32 x))) ≡ numbers_cell Gt a b
  unfolding on_numbers rule
  made-gt = made-is a b x y fx fy p q Gt (flag (lt_z (to_z w32 (of_z w32 y)) (to_z w32 (of_z w32 x)))) _ refl (one_more (lt_z (to_z w32 (of_z w32 y)) (to_z w32 (of_z w32 x))))

  pub made-eq : 2147483649 + bool_byte (eqb (of_z w32 x) (of_z w32 y)) ≡ numbers_cell Eq a b
  made-eq =
      split (eqb (of_z w32 x) (of_z w32 y))
      (λ e. rw e (made-is a b x y fx fy p q Eq (Number (pos 1)) _ (rw (to_z-of_z fx, to_z-of_z fy) (eq_yes x y fx fy (eqb-true _ _ e))) refl))
      (λ e. rw e (made-is a b x y fx fy p q Eq (Number (pos 0)) _ (rw (to_z-of_z fx, to_z-of_z fy) (eq_no x y fx fy (eqb-false _ _ e))) refl))

pub both-cells : (a b : ℕ) → ((leb 1 a && ltb a window_cell) && (leb 1 b && ltb b window_cell)) ≡ true → (a < window_cell) × (b < window_cell)
both-cells a b e =
    let t = (and-eq-true_iff (leb 1 a && ltb a window_cell) (leb 1 b && ltb b window_cell)).0 e in
    (ltb-true a window_cell ((and-eq-true_iff (leb 1 a) (ltb a window_cell)).0 t.0).1, ltb-true b window_cell ((and-eq-true_iff (leb 1 b) (ltb b window_cell)).0 t.1).1)

pub ruleset cells = (rules, made-is, made-gt, made-eq, flag-fits)

-- ---- one more row
-- what is before a column is as it was, and so is what a row is made from
module _ {k : Column} {c : ℕ} {before : List ℕ} (asks : Asks k c before) where
  pub asks-again : {buf : List ℕ} → length buf ≡ length before → Asks k c buf
  asks-again e = record { first = asks.first; second = asks.second; room = omega (arith, asks.room); few = omega (arith, asks.few) }

  same_row : (buf : List ℕ) (f : Option Member) (two : Bool) (xs : List ℤ) (r : ℕ) → r < c → ((p : ℕ) → p < k.to → get_or buf p 0 ≡ get_or before p 0)
      → row_cell f two xs k buf r ≡ row_cell f two xs k before r
  same_row buf f two xs r h same = λ i. cell_of f xs two (same (first_place k r) (asks.first r h) i) (same (second_place k r) (asks.second r h) i)

-- a row is set, and those before it stay
row-set : (P : ℕ → ℕ → Type 0) (buf : List ℕ) (to from r v : ℕ) → to + r < length buf → ((q : ℕ) → from ≤ q → q < r → P q (get_or buf (to + q) 0)) → P r v
    → (q : ℕ) → from ≤ q → q < r + 1 → P q (get_or (set buf (to + r) v) (to + q) 0)
row-set P buf to from r v room so h q l n =
    split (eqb q r)
    (λ e. let s : q ≡ r = eqb-true q r e in rw s (rw (get_or-set_same buf (to + r) v 0 room) h))
    (λ e. let s : q ≡ r → ⊥ = eqb-false q r e in rw (get_or-set_other buf (to + r) (to + q) v 0 (λ t. s (omega arith))) (so q l (omega (arith, s))))

-- ---- the rows of a member on two numbers
-- as the loops have them, whose column is in three locals
abbrev pub Rows : Member → ℕ → ℕ → List ℕ → Operand → Operand → ℕ → List ℕ → ℕ → Type 0
Rows m from c before first second to after r = Rowed (Some m) true (record { first = first; second = second; to = to }) c before from after r

module _ (f : Option Member) (two : Bool) (k : Column) (c : ℕ) (before : List ℕ) (from : ℕ) where
  pub rowed-begin : from ≤ c → Rowed f two k c before from before from
  rowed-begin h = record { past = omega arith; most = h; size = refl; kept = λ p l. refl; made = λ q l n xs. absurd (omega arith) }

module _ {m : Member} {k : Column} {c : ℕ} {before : List ℕ} {from : ℕ} {buf : List ℕ} {r : ℕ} (asks : Asks k c before) (so : Rowed (Some m) true k c before from buf r) (h : r < c) where
  pub rowed-again : (a b v : ℕ) → a ≡ get_or buf (first_place k r) 0 → b ≡ get_or buf (second_place k r) 0 → (a < window_cell) × (b < window_cell) → v ≡ numbers_cell m a b
      → Rowed (Some m) true k c before from (set buf (k.to + r) v) (r + 1)
  rowed-again a b v p q l o = record {
    past = omega (arith, so.past);
    most = omega arith;
    size = length-set buf (k.to + r) v ∙ so.size;
    kept = λ n low. get_or-set_other buf (k.to + r) n v 0 (λ e. omega (arith, so.past)) ∙ so.kept n low;
    made = row-set (λ (n x : ℕ). (xs : List ℤ) → x ≡ row_cell (Some m) true xs k before n) buf k.to from r v (omega (arith, so.size, asks.room)) so.made
        (λ xs.
        o ∙ sym (cell-numbers m xs a b l.0 l.1) ∙ (λ i. cell_of (Some m) xs true (p i) (q i))
        ∙ same_row asks buf (Some m) true xs r h (λ n low. so.kept n (omega arith)));
  }

-- what reading a row asks
module _ {k : Column} {c : ℕ} {before : List ℕ} (asks : Asks k c before) {n : ℕ} (size : n ≡ length before) {r : ℕ} (h : r < c) where
  pub first-asks : (first_place k r < n) × (n ≤ table_entries)
  first-asks = (omega (arith, asks.first r h, asks.room, size), omega (arith, asks.few, size))

  pub second-asks : (second_place k r < n) × (n ≤ table_entries)
  second-asks = (omega (arith, asks.second r h, asks.room, size), omega (arith, asks.few, size))

-- of the member that a kind has
pub rowed_of : {f r : Option Member} {m n : Member} {k : Column} {c : ℕ} {before : List ℕ} {from : ℕ} {after : List ℕ} {s : ℕ} → r ≡ f → r ≡ Some n → n ≡ m
    → Rowed (Some m) true k c before from after s → Rowed f true k c before from after s
rowed_of p q e so = rw (sym p ∙ q ∙ ap Some e) so

pub rowed-two : {f : Option Member} {two : Bool} {k : Column} {c : ℕ} {before : List ℕ} {from : ℕ} {after : List ℕ} {s : ℕ} → two ≡ true → Rowed f true k c before from after s
    → Rowed f two k c before from after s
rowed-two e so = rw e so

-- a row is put, whatever it has
pub row_put_lem : (f : Option Member) (two : Bool) (xs : List ℤ) (k : Column) (r : ℕ) (buf : List ℕ) {a b v : ℕ} → a ≡ get_or buf (first_place k r) 0 → b ≡ get_or buf (second_place k r) 0
    → v ≡ cell_of f xs two a b → set buf (k.to + r) v ≡ row_put f two xs k r buf
row_put_lem f two xs k r buf p q o = ap (set buf (k.to + r)) (o ∙ (λ i. cell_of f xs two (p i) (q i)))

-- ---- a column: so many of its rows are a column of so many
pub columned-begin : (f : Option Member) (two : Bool) (xs : List ℤ) (k : Column) (before : List ℕ) → Columned f two xs k 0 before before
columned-begin f two xs k before = record { size = refl; kept = λ p l. refl; made = λ q n. absurd (omega arith) }

module _ {f : Option Member} {two : Bool} {xs : List ℤ} {k : Column} {c : ℕ} {before buf after : List ℕ} {r : ℕ} (asks : Asks k c before) (so : Columned f two xs k r before buf) where
  pub columned-next : {s : ℕ} → Rowed f two k c buf r after s → Columned f two xs k s before after
  columned-next {s} rows = record {
    size = rows.size ∙ so.size;
    kept = λ p l. rows.kept p (omega arith) ∙ so.kept p l;
    made = λ q n.
        split (ltb q r)
        (λ e. let l : q < r = ltb-true q r e in rows.kept (k.to + q) (omega arith) ∙ so.made q l)
        (λ e. rows.made q (ltb-false q r e) n xs ∙ same_row asks buf f two xs q (omega (arith, rows.most)) so.kept);
  }

  pub columned-put : r < c → after ≡ row_put f two xs k r buf → Columned f two xs k (r + 1) before after
  columned-put h e =
      let v : ℕ = row_cell f two xs k buf r in
      rw e
      (record {
        size = length-set buf (k.to + r) v ∙ so.size;
        kept = λ p l. get_or-set_other buf (k.to + r) p v 0 (λ t. omega arith) ∙ so.kept p l;
        made = λ q. row-set (λ (n x : ℕ). x ≡ row_cell f two xs k before n) buf k.to 0 r v (omega (arith, so.size, asks.room)) (λ n l. so.made n)
            (same_row asks buf f two xs r h so.kept) q (omega arith);
      })

pub columned-all : {f : Option Member} {two : Bool} {xs : List ℤ} {k : Column} {c r : ℕ} {before after : List ℕ} → r ≤ c → c ≤ r → Columned f two xs k r before after → Columned f two xs k c before after
columned-all {c} {r} h l so = let e : c ≡ r = omega arith in rw e so

pub ruleset row_steps = (rules, both-cells, asks-again, rowed-begin, rowed-again, first-asks, second-asks, rowed-two, row_put_lem, columned-begin, columned-next, columned-put, columned-all)
