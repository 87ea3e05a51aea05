-- The steps of the falling sweep, each over plain numbers and lists. Assumes nothing.
use Rattle.std.proofs.lemmas.Bool.{cond_both}
use mathlib.Core.Path.{◌≡◌, sym, ap, ◌∙◌}
use mathlib.Core.Bool.{Bool, true, false, cond, not, ◌&&◌}
use mathlib.Core.List.{List, ◌∷◌}
use Prim.Native.Nat.{ℕ, suc, ◌+◌, ◌-◌, ◌≤◌, ◌<◌}
use native.Mathlib.Omega.{arith}
use native.Mathlib.Numerals.{add-one}
use borrow.Author.Rules.{rules}
use borrow.Author.Tests.{eq-eqb, ne_eqb, eqb-true, eqb-false, ltb-true, ltb-false}
use lib.Dec.{eqb, ltb}
use lib.ListN.{length, get_or, set, replicate, drop, length-set, drop_of_length-le, length-replicate, get_or-replicate, get_or-eq_default}
use lib.Seq.{drop-cons, drop-set-lt, get_or-set_same, get_or-set_other}
use Rattle.language.specs.Cases.{split}
use Rattle.language.specs.Limits.{table_entries}
use Rattle.layout.specs.Links.{first_at, second_at, is_below}
use Rattle.table.specs.Waits.{awaits}
use Rattle.table.proofs.Waiting.{below_one, below-most}
use Rattle.chunks.specs.Chunks.{Marks}
use Rattle.evaluator.specs.Reach.{moves, flagged, spread, gather_from, gathered}

module _ (waits : List ℕ) (v d : ℕ) (r : Bool) (e : r ≡ awaits (get_or waits d 0) v) where
  pub moves-yes : r ≡ true → not (eqb (d + 1) v) ≡ moves waits v d
  moves-yes t = rw (sym e ∙ t)

  pub moves-no : r ≡ false → false ≡ moves waits v d
  moves-no t = rw (sym e ∙ t)

module _ (waits : List ℕ) (v j link : ℕ) (flags : List ℕ) (r : Bool) (e : r ≡ is_below link j) where
  pub flag-far : r ≡ false → flags ≡ flagged waits v j link flags
  unfolding flagged
  flag-far t = rw (sym e ∙ t)

  module _ (t : r ≡ true) (s : Bool) (d : s ≡ moves waits v (link - 1)) where
    pub flag-yes : s ≡ true → set flags (link - 1) 1 ≡ flagged waits v j link flags
    unfolding flagged
    flag-yes u = rw (sym e ∙ t, sym d ∙ u)

    pub flag-no : s ≡ false → flags ≡ flagged waits v j link flags
    unfolding flagged
    flag-no u = rw (sym e ∙ t, sym d ∙ u)

pub spread-is : (links waits : List ℕ) (v j a b : ℕ) (flags one two : List ℕ) → a ≡ first_at links j → b ≡ second_at links j
    → one ≡ flagged waits v j a flags → two ≡ flagged waits v j b one → two ≡ spread links waits v j flags
unfolding spread
spread-is links waits v j a b flags one two p q e d = rw (← p, ← q, ← e) d

-- what the sweep still has to do from entry j - 1 down, with a list that begins at a place of the array
module _ (links waits : List ℕ) (v j at : ℕ) (flags list : List ℕ) {all : List ℕ} (h : 0 < j)
    (inv : gather_from links waits v j flags (drop at list) ≡ all) where
  turned : {k : ℕ} → j ≡ suc k → gather_from links waits v j flags (drop at list)
      ≡ cond (eqb (get_or flags k 0) 1) (gather_from links waits v k (spread links waits v k flags) (k ∷ drop at list)) (gather_from links waits v k flags (drop at list))
  unfolding gather_from
  turned e = rw e

  pub gather-no : (get_or flags (j - 1) 0 ≡ 1 → ⊥) → gather_from links waits v (j - 1) flags (drop at list) ≡ all
  gather-no n = let q : j ≡ suc (j - 1) = omega arith in sym (turned q ∙ rw (ne_eqb _ _ n)) ∙ inv

  pub gather-yes : (after : List ℕ) → get_or flags (j - 1) 0 ≡ 1 → 1 ≤ at → at ≤ length list → after ≡ spread links waits v (j - 1) flags
      → gather_from links waits v (j - 1) after (drop (at - 1) (set list (at - 1) (j - 1))) ≡ all
  gather-yes after n one most e =
      let q : j ≡ suc (j - 1) = omega arith in
      let s : at ≡ suc (at - 1) = omega arith in
      let l : at - 1 < length list = omega arith in
      let put : drop (at - 1) (set list (at - 1) (j - 1)) ≡ (j - 1) ∷ drop at list =
      drop-cons (set list (at - 1) (j - 1)) (at - 1) 0 (simp length-set l)
      ∙ rw (get_or-set_same list (at - 1) (j - 1) 0 l, ← s) (ap (λ (t : List ℕ). (j - 1) ∷ t) (drop-set-lt at list (at - 1) (j - 1) (omega arith))) in
      rw (e, put) (sym (turned q ∙ rw (eq-eqb _ _ n)) ∙ inv)

pub gather-end : (links waits : List ℕ) (v j at : ℕ) (flags list : List ℕ) {all : List ℕ} → j ≤ 0 → gather_from links waits v j flags (drop at list) ≡ all → drop at list ≡ all
unfolding gather_from
gather-end links waits v j at flags list h inv = let q : j ≡ 0 = omega arith in rw q at inv

pub gather-begin : (links waits : List ℕ) (v body : ℕ) (list flags : List ℕ) (r : Bool) → length list ≡ table_entries → flags ≡ replicate table_entries 0 → r ≡ moves waits v body → r ≡ true
    → gather_from links waits v (body + 1) (set flags body 1) (drop table_entries list) ≡ gathered links waits v body
unfolding gathered
gather-begin links waits v body list flags r l o e t =
    rw (sym e ∙ t, add-one, o)
    (ap (gather_from links waits v (suc body) (set (replicate table_entries 0) body 1)) (drop_of_length-le list {i = table_entries} (omega arith)))

pub gather_none : (links waits : List ℕ) (v body : ℕ) (list : List ℕ) (r : Bool) → length list ≡ table_entries → r ≡ moves waits v body → r ≡ false
    → drop table_entries list ≡ gathered links waits v body
unfolding gathered
gather_none links waits v body list r l e t = rw (sym e ∙ t) (drop_of_length-le list {i = table_entries} (omega arith))

-- the sweep before entry j - 1: its place in the list, and what it still has to give
pub record Sweeps (links waits : List ℕ) (v body : ℕ) (list : List ℕ) (at : ℕ) (flags : List ℕ) (j : ℕ) : Type 0 where
  pub low : j ≤ body + 1
  pub room : j ≤ at
  pub within : at ≤ table_entries
  pub size : length list ≡ table_entries
  pub upto : (k : ℕ) → at ≤ k → k < table_entries → get_or list k 0 ≤ body
  pub marks : Marks flags
  pub same : gather_from links waits v j flags (drop at list) ≡ gathered links waits v body

-- one entry more in front of the list
pub upto-more : (list : List ℕ) (at j body : ℕ) → 1 ≤ at → at ≤ table_entries → length list ≡ table_entries → j ≤ body
    → ((k : ℕ) → at ≤ k → k < table_entries → get_or list k 0 ≤ body) → (k : ℕ) → at - 1 ≤ k → k < table_entries → get_or (set list (at - 1) j) k 0 ≤ body
upto-more list at j body one most size low h k past within =
    split (eqb k (at - 1))
    (λ e.
    let q : k ≡ at - 1 = eqb-true k (at - 1) e in
    rw (q, get_or-set_same list (at - 1) j 0 (omega arith)) low)
    (λ e.
    let n : k ≡ at - 1 → ⊥ = eqb-false k (at - 1) e in
    rw (get_or-set_other list (at - 1) k j 0 n) (h k (omega arith) within))

-- flags are 0 or 1, whatever is flagged
marks-none : Marks (replicate table_entries 0)
marks-none = let z : ℕ = 0 in record { size = length-replicate table_entries z; none = λ d. nothing table_entries d }
  where
    nothing : (n d : ℕ) → get_or (replicate n 0) d 0 ≤ 1
    nothing n d =
        let z : ℕ = 0 in
        split (ltb d n)
        (λ e. let o : get_or (replicate n z) d z ≡ z = get_or-replicate n d z z (ltb-true d n e) in omega (arith, o))
        (λ e.
        let o : get_or (replicate n z) d z ≡ z = get_or-eq_default (replicate n z) z {n = d} (omega (arith, length-replicate n z, ltb-false d n e)) in
        omega (arith, o))

pub marks-set : (flags : List ℕ) (i : ℕ) → Marks flags → Marks (set flags i 1)
marks-set flags i m = record {
  size = length-set flags i 1 ∙ m.size;
  none = λ d.
      split (eqb d i)
      (λ e.
      let s : d ≡ i = eqb-true d i e in
      split (ltb i (length flags))
      (λ l.
      let o : get_or (set flags i 1) d 0 ≡ 1 = ap (λ (n : ℕ). get_or (set flags i 1) n 0) s ∙ get_or-set_same flags i 1 0 (ltb-true i (length flags) l) in
      omega (arith, o))
      (λ l.
      let o : get_or (set flags i 1) d 0 ≡ 0 = get_or-eq_default (set flags i 1) 0 {n = d} (omega (arith, length-set flags i 1, s, ltb-false i (length flags) l)) in
      omega (arith, o)))
      (λ e.
      let o : get_or (set flags i 1) d 0 ≡ get_or flags d 0 = get_or-set_other flags i d 1 0 (eqb-false d i e) in
      omega (arith, o, m.none d));
}

pub marks_begin : (flags : List ℕ) → flags ≡ replicate table_entries 0 → Marks flags
marks_begin flags e = rw e marks-none

pub marks-spread : (links waits : List ℕ) (v j : ℕ) (flags : List ℕ) → Marks flags → Marks (spread links waits v j flags)
unfolding spread flagged
marks-spread links waits v j flags m = one (second_at links j) _ (one (first_at links j) flags m)
  where
    one : (link : ℕ) (flags : List ℕ) → Marks flags → Marks (cond (is_below link j && moves waits v (link - 1)) (set flags (link - 1) 1) flags)
    one link flags m = cond_both (is_below link j && moves waits v (link - 1)) (set flags (link - 1) 1) flags Marks (λ e. marks-set flags (link - 1) m) (λ e. m)

pub length-kept : (l : List ℕ) (k v n : ℕ) → length l ≡ n → length (set l k v) ≡ n
length-kept l k v n e = length-set l k v ∙ e

pub ruleset reaching = (rules, below_one, below-most, moves-yes, moves-no, flag-far, flag-yes, flag-no, spread-is)
