-- The variables that the pass finds for an entry are those that its form awaits, in the order of first occurrence: so a table of right
-- nodes, with the forms that they stand for, is one that working out can rely on. Assumes nothing.
use Rattle.std.specs.Prelude.{◌≡◌, true, false, List, map, ℕ, suc, ◌≤◌, ◌<◌, leb, eqb, ℤ, pos, length, get_or, replicate}
use Rattle.std.proofs.Common.{sym, ◌∙◌, arith, eqb-true, leb-false}
use Rattle.std.specs.Int.Signed.{mag}
use Rattle.language.specs.Cases.{either}
use Rattle.language.specs.Limits.{table_entries, table_readings}
use Rattle.meaning.specs.Forms.{Form, name_in}
use Rattle.meaning.specs.Evaluation.{awaited}
use Rattle.layout.specs.Links.{key_at}
use Rattle.layout.specs.Memory.{node_at}
use Rattle.layout.specs.Nodes.{build}
use Rattle.table.specs.Right.{node_right}
use Rattle.table.specs.Waits.{slot_a, slot_b, has_slot, waits_from}
use Rattle.table.specs.NodeKinds.{less_one}
use Rattle.table.specs.AwaitsLaws.{names_of}
use Rattle.table.specs.AwaitedForms.{awaited-forms}
use Rattle.table.specs.WaitsLaws.{variable_at, Variable, Holds, none, one, two, positive, single, holds_of, found}
use Rattle.refine.specs.Tables.{Slot, Good}
use Rattle.refine.specs.Shows.{slot_names}

-- the name of a variable's entry
name-of : (links cells : List ℕ) (i a : ℕ) → Variable links i a → name_in (variable_at links cells a) ≡ key_at cells a
name-of links cells i a v = omega (arith, v.level)

-- ---- what is found, by its slots
module _ {links cells : List ℕ} {i w : ℕ} {xs : List ℕ} where
  names-of : Holds links cells i w xs → slot_names cells w ≡ map name_in xs
  names-of (none p q e) = rw (p, e)
  names-of (one a va p q e) = rw (p, q, less_one a, positive, e, name-of links cells i a va)
  names-of (two a b va vb d p q e) = rw (p, q, less_one a, less_one b, positive a, positive b, e, name-of links cells i a va, name-of links cells i b vb)

  filled_of : Holds links cells i w xs → slot_a w ≡ 0 → slot_b w ≡ 0
  filled_of (none p q e) h = q
  filled_of (one a va p q e) h = q
  filled_of (two a b va vb d p q e) h = absurd (omega arith)

  slot_of : Holds links cells i w xs → (v : ℕ) → 1 ≤ v → has_slot w v ≡ true → Slot links i v
  slot_of o v h t = either (eqb (slot_a w) v) (eqb (slot_b w) v) t (λ p. first o (eqb-true (slot_a w) v p)) (λ p. second o (eqb-true (slot_b w) v p))
    where
      slot : (a : ℕ) → Variable links i a → v ≡ suc a → Slot links i v
      slot a va e = record { at = a; is = e; below = va.below; kind = va.kind }

      first : Holds links cells i w xs → slot_a w ≡ v → Slot links i v
      first (none p q e) z = absurd (omega arith)
      first (one a va p q e) z = slot a va (sym z ∙ p)
      first (two a b va vb d p q e) z = slot a va (sym z ∙ p)

      second : Holds links cells i w xs → slot_b w ≡ v → Slot links i v
      second (none p q e) z = absurd (omega arith)
      second (one a va p q e) z = absurd (omega arith)
      second (two a b va vb d p q e) z = slot b vb (sym z ∙ q)

module _ (links cells : List ℕ) (xs : List ℤ) (n : ℕ) (φ : ℕ → Form)
    (most : n ≤ table_entries) (few : length xs ≤ table_readings) (small : (k : ℕ) → k < length xs → mag (get_or xs k (pos 0)) < 2147483648)
    (right : (i : ℕ) → i < n → node_right i (node_at links cells i) ≡ true)
    (forms : (i : ℕ) → i < n → φ i ≡ build (node_at links cells i) φ)
    (alone : (i j : ℕ) → i < n → j < n → node_at links cells i ≡ node_at links cells j → i ≡ j)
    (names : (i : ℕ) → i < n → length (awaited (φ i)) ≤ 2) where
  abbrev pub waits : List ℕ
  waits = waits_from links cells n 0 (replicate table_entries 0)

  awaits-as : (i : ℕ) → i < n → names_of (node_at links cells) i ≡ awaited (φ i)
  awaits-as = awaited-forms (node_at links cells) φ n right forms

  of-form : (i : ℕ) → i < n → Holds links cells i (get_or waits i 0) (awaited (φ i))
  of-form i h = rw (awaits-as i h) at (found links cells n most right alone (λ k l. rw (awaits-as k l) (names k l)) i h)

  -- the variables found for an entry have the names that its form awaits, in that order
  pub waits-names : (i : ℕ) → i < n → slot_names cells (get_or waits i 0) ≡ map name_in (awaited (φ i))
  waits-names i h = names-of (of-form i h)

  filled : (i : ℕ) → i < n → slot_a (get_or waits i 0) ≡ 0 → slot_b (get_or waits i 0) ≡ 0
  filled i h = filled_of (of-form i h)

  pub waits-full : (i : ℕ) → i < n → leb 1 (slot_a (get_or waits i 0)) ≡ false → leb 1 (slot_b (get_or waits i 0)) ≡ false
  waits-full i h e = let l = leb-false 1 (slot_a (get_or waits i 0)) e in rw (filled i h (omega arith))

  pub good : Good links cells waits xs n φ
  good =
      record {
        most = most;
        few = few;
        small = small;
        right = right;
        forms = forms;
        awaited = λ i j h m k. rw (positive j) (holds_of links cells n most right alone i h (of-form i h) j m k);
        slots = λ i v h. slot_of (of-form i h) v;
        one = single links cells n most right alone;
        filled = filled;
      }
