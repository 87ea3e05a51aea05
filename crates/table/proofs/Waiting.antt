-- The steps of the rising pass over the awaited variables, each over plain numbers and lists. Assumes nothing.
use mathlib.Core.Path.{◌≡◌, sym, ◌∙◌}
use mathlib.Core.Bool.{Bool, true, false, ◌&&◌, ◌||◌, and-eq-true_iff}
use mathlib.Core.List.{List}
use Prim.Native.Nat.{ℕ, suc, ◌+◌, ◌*◌, ◌-◌, ◌/◌, ◌%◌, ◌≤◌, ◌<◌}
use native.Mathlib.Omega.{arith}
use native.Mathlib.Numerals.{add-one}
use borrow.Author.Rules.{rules}
use borrow.Author.Tests.{lt-ltb, le-ltb, le-leb, lt-leb, eq-eqb, ne_eqb, leb-true}
use lib.Dec.{leb, eqb}
use lib.ListN.{get_or, set}
use Rattle.layout.specs.Links.{kind_at, first_at, second_at, level_at, key_at, is_below}
use Rattle.layout.specs.Nodes.{variable_kind, function_kind}
use Rattle.table.specs.Waits.{has_slot, awaits, joined_slots, is_of, without_slot, waits_of, waits_at, waits_from, covers, few_at, own_of}

pub awaits-is : (w v : ℕ) (r : Bool) → r ≡ has_slot w v → leb 1 v && r ≡ awaits w v
awaits-is w v r e = rw e

pub join_first : (w u : ℕ) → w / 65536 ≡ 0 → u ≡ joined_slots w u
unfolding joined_slots
join_first w u h = rw h

module _ (w u : ℕ) (h : w / 65536 ≡ 0 → ⊥) where
  pub join-full : 1 ≤ w % 65536 → w ≡ joined_slots w u
  unfolding joined_slots
  join-full k = rw (ne_eqb _ _ h, le-leb _ _ k)

  pub join-same : w % 65536 < 1 → w / 65536 ≡ u / 65536 → w / 65536 * 65536 + u % 65536 ≡ joined_slots w u
  unfolding joined_slots
  join-same k e = rw (ne_eqb _ _ h, lt-leb _ _ k, eq-eqb _ _ e)

  pub join-both : w % 65536 < 1 → (w / 65536 ≡ u / 65536 → ⊥) → w / 65536 * 65536 + u / 65536 ≡ joined_slots w u
  unfolding joined_slots
  join-both k e = rw (ne_eqb _ _ h, lt-leb _ _ k, ne_eqb _ _ e)

pub of_is : (links cells : List ℕ) (key level p r s : ℕ) → 1 ≤ p → r ≡ key_at cells (p - 1) → s ≡ level_at links (p - 1)
    → (eqb r key && eqb s level) ≡ is_of links cells key level p
of_is links cells key level p r s h e d = rw (le-leb _ _ h, e, d)

pub of_none : (links cells : List ℕ) (key level p : ℕ) → p < 1 → false ≡ is_of links cells key level p
of_none links cells key level p h = rw (lt-leb _ _ h)

module _ (links cells : List ℕ) (key level w : ℕ) (r : Bool) (e : r ≡ is_of links cells key level (w / 65536)) where
  pub without-first : r ≡ true → w % 65536 * 65536 ≡ without_slot links cells key level w
  unfolding without_slot
  without-first t = rw (sym e ∙ t)

  module _ (t : r ≡ false) (s : Bool) (d : s ≡ is_of links cells key level (w % 65536)) where
    pub without-second : s ≡ true → w / 65536 * 65536 ≡ without_slot links cells key level w
    unfolding without_slot
    without-second u = rw (sym e ∙ t, sym d ∙ u)

    pub without-none : s ≡ false → w ≡ without_slot links cells key level w
    unfolding without_slot
    without-none u = rw (sym e ∙ t, sym d ∙ u)

-- a link that was tested
pub below_one : (link i : ℕ) (r : Bool) → r ≡ is_below link i → r ≡ true → 1 ≤ link
below_one link i r e t = leb-true 1 link ((and-eq-true_iff (leb 1 link) (leb link i)).0 (sym e ∙ t)).0

pub below-most : (link i : ℕ) (r : Bool) → r ≡ is_below link i → r ≡ true → link ≤ i
below-most link i r e t = leb-true link i ((and-eq-true_iff (leb 1 link) (leb link i)).0 (sym e ∙ t)).1

pub waits-below : (waits : List ℕ) (link i : ℕ) (r : Bool) → r ≡ is_below link i → r ≡ true → get_or waits (link - 1) 0 ≡ waits_of waits link i
waits-below waits link i r e t = rw (sym e ∙ t)

pub waits-none : (waits : List ℕ) (link i : ℕ) (r : Bool) → r ≡ is_below link i → r ≡ false → 0 ≡ waits_of waits link i
waits-none waits link i r e t = rw (sym e ∙ t)

module _ (links cells waits : List ℕ) (i kind : ℕ) (e : kind ≡ kind_at links i) where
  pub at-variable : kind ≡ variable_kind → (i + 1) * 65536 ≡ waits_at links cells waits i
  unfolding waits_at
  at-variable h = rw (sym e ∙ h)

  module _ (n : kind ≡ variable_kind → ⊥) where
    pub at_leaf : kind < function_kind → 0 ≡ waits_at links cells waits i
    unfolding waits_at
    at_leaf h = rw (← e, ne_eqb _ _ n, lt-ltb _ _ h)

    module _ (m : function_kind ≤ kind) (f g first : ℕ) (p : f ≡ first_at links i) (q : first ≡ waits_of waits f i) where
      pub at-function : kind ≡ function_kind → (key level r : ℕ) → key ≡ key_at cells i → level ≡ level_at links i → r ≡ without_slot links cells key level first → r ≡ waits_at links cells waits i
      unfolding waits_at
      at-function h key level r k l d = rw (← e, ← p, ← k, ← l, ← q, ne_eqb _ _ n, le-ltb _ _ m, eq-eqb _ _ h) d

      pub at-member : (kind ≡ function_kind → ⊥) → g ≡ second_at links i → (second r : ℕ) → second ≡ waits_of waits g i → r ≡ joined_slots first second → r ≡ waits_at links cells waits i
      unfolding waits_at
      at-member h s second r u d = rw (← e, ← p, ← s, ← q, ← u, ne_eqb _ _ n, le-ltb _ _ m, ne_eqb _ _ h) d

pub waits-turn : (links cells waits : List ℕ) (n i r : ℕ) {all : List ℕ} → i < n → r ≡ waits_at links cells waits i → waits_from links cells (n - i) i waits ≡ all
    → waits_from links cells (n - (i + 1)) (i + 1) (set waits i r) ≡ all
unfolding waits_from
waits-turn links cells waits n i r h e v = let q : n - i ≡ suc (n - (i + 1)) = omega arith in rw (add-one, e) (sym (rw (q, add-one)) ∙ v)

pub waits_end : (links cells waits : List ℕ) (n i : ℕ) {all : List ℕ} → n ≤ i → waits_from links cells (n - i) i waits ≡ all → waits ≡ all
unfolding waits_from
waits_end links cells waits n i h v = let q : n - i ≡ 0 = omega arith in rw q at v

pub covers-is : (w u : ℕ) (r s : Bool) → r ≡ has_slot w (u / 65536) → s ≡ has_slot w (u % 65536)
    → ((eqb (u / 65536) 0 || r) && (eqb (u % 65536) 0 || s)) ≡ covers w u
covers-is w u r s d e = rw (d, e)

pub few-here : (links waits : List ℕ) (i g second : ℕ) (r : Bool) → r ≡ covers (get_or waits i 0) second → second ≡ waits_of waits g i
    → g ≡ second_at links i → r ≡ few_at links waits i
unfolding few_at
few-here links waits i g second r e q p = rw (← p, ← q) e

module _ (b f : ℕ) (r : Bool) (e : r ≡ has_slot f (b / 65536)) where
  pub own_first : r ≡ false → b / 65536 ≡ own_of b f
  unfolding own_of
  own_first t = rw (sym e ∙ t)

  module _ (t : r ≡ true) (s : Bool) (d : s ≡ has_slot f (b % 65536)) where
    pub own-none : s ≡ true → 0 ≡ own_of b f
    unfolding own_of
    own-none u = rw (sym e ∙ t, sym d ∙ u)

    pub own-second : s ≡ false → b % 65536 ≡ own_of b f
    unfolding own_of
    own-second u = rw (sym e ∙ t, sym d ∙ u)

pub ruleset waiting = (
  rules,
  awaits-is,
  join_first,
  join-full,
  join-same,
  join-both,
  of_is,
  of_none,
  without-first,
  without-second,
  without-none,
  waits-below,
  waits-none,
  at-variable,
  at_leaf,
  at-function,
  at-member,
  waits-turn,
  waits_end,
  covers-is,
  few-here,
  own_first,
  own-none,
  own-second,
)
