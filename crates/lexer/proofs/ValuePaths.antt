-- What each path through a function that values a token's bytes gives, from its tests and calls, over plain variables. Assumes nothing.
use mathlib.Core.Path.{◌≡◌, refl, ap, sym, ◌∙◌}
use mathlib.Core.List.{List, [], ◌∷◌}
use Prim.Native.Nat.{ℕ, zero, suc, ◌-◌, ◌≤◌, ◌<◌, min}
use native.Mathlib.Omega.{arith}
use lib.ListN.{length, take, drop, get_or, length-drop}
use lib.Seq.{take_all}
use lib.IntN.{ℤ, pos, negsuc, neg_ℤ, ◌-ℤ◌, +ℤ_idl}
use lib.Signed.{mag}
use mir.Syntax.{w32, w64}
use mir.Val.{SFits, to_z, of_z}
use mir.Facts.{to_z-of_z, to_z_pos, sfits_widen}
use borrow.Author.Tests.{eq-eqb, ne_eqb, lt-ltb, le-ltb}
use Rattle.language.specs.Names.{packed}
use Rattle.grammar.specs.Tokens.{decimal, decimal_onto}
use Rattle.std.specs.Prelude.{Option, Some, None, Result, Ok, Err}
use Rattle.std.specs.Result.{OkIff, result_ok}
use Rattle.std.proofs.lemmas.List.{take_min}
use Rattle.lexer.specs.Lexing.{value_of, judged, name_at}
use Rattle.lexer.specs.Loops.{bound}
use Rattle.lexer.specs.LoopsLaws.{at_bound}

-- ---- non_negative and negative
in-range : (z : ℤ) → SFits w32 z → judged z ≡ Some z
unfolding judged
in-range (pos n) f = rw (le-ltb 2147483647 n (omega (arith, f.sfits)))
in-range (negsuc n) f = rw (le-ltb 2147483647 n (omega (arith, f.sfits)))

below : (m : ℕ) → m ≤ 2147483648 → mag (neg_ℤ (pos m)) < 2147483648
below zero h = omega arith
below (suc m) h = h

module _ (m : ℕ) where
  pub plus-beyond : 2147483647 < m → judged (pos m) ≡ None
  unfolding judged
  plus-beyond h = rw (lt-ltb 2147483647 m h)

  pub plus-ok : {E : Type 0} (r : Result ℤ E) → OkIff r (SFits w32 (pos m)) (pos m) → (o : Option ℤ) → o ≡ result_ok r → o ≡ judged (pos m)
  plus-ok (Ok x) h o e = e ∙ ap (λ (z : ℤ). Some z) h.1 ∙ sym (in-range (pos m) h.0)
  plus-ok (Err x) h o e = e ∙ sym (plus-beyond (omega (arith, out h)))
    where
      out : (SFits w32 (pos m) → ⊥) → (m ≤ 2147483647 → ⊥)
      out n l = n (record { sfits = omega arith })

  module _ (h : m ≤ 2147483648) where
    opposite : pos 0 -ℤ to_z w64 m ≡ neg_ℤ (pos m)
    opposite = ap (λ (z : ℤ). pos 0 -ℤ z) (to_z_pos w64 {n = m} (omega arith)) ∙ +ℤ_idl (neg_ℤ (pos m))

    opposite-fits : SFits w32 (neg_ℤ (pos m))
    opposite-fits = record { sfits = below m h }

    pub minus-fits : SFits w64 (pos 0 -ℤ to_z w64 m)
    minus-fits = rw opposite (sfits_widen {w = w32} tt opposite-fits)

    minus_is : to_z w64 (of_z w64 (pos 0 -ℤ to_z w64 m)) ≡ neg_ℤ (pos m)
    minus_is = to_z-of_z minus-fits ∙ opposite

    pub minus-narrow : SFits w32 (to_z w64 (of_z w64 (pos 0 -ℤ to_z w64 m)))
    minus-narrow = rw minus_is opposite-fits

    pub minus-in : Some (to_z w32 (of_z w32 (to_z w64 (of_z w64 (pos 0 -ℤ to_z w64 m))))) ≡ judged (neg_ℤ (pos m))
    minus-in = ap (λ (n : ℤ). Some n) (to_z-of_z minus-narrow ∙ minus_is) ∙ sym (in-range (neg_ℤ (pos m)) opposite-fits)

pub minus-beyond : (m : ℕ) → 2147483648 < m → judged (neg_ℤ (pos m)) ≡ None
unfolding judged
minus-beyond zero h = absurd (omega arith)
minus-beyond (suc m) h = rw (lt-ltb 2147483647 m (omega arith))

pub ruleset negatives = (minus-in, minus-beyond)

-- ---- number
no_value : (w : List ℕ) → length w ≡ 0 → Some (pos 0) ≡ judged (value_of w)
unfolding value_of decimal_onto judged
no_value [] e = refl
no_value (b ∷ w) e = absurd (omega arith)

module _ (v w : List ℕ) (same : w ≡ v) where
  pub number-none : length w ≡ 0 → Some (pos 0) ≡ judged (value_of v)
  number-none e = no_value w e ∙ ap (λ (x : List ℕ). judged (value_of x)) same

  pub number-minus : (r : Option ℤ) (m : ℕ) → get_or w 0 0 ≡ 45 → m ≡ min (decimal (take (length w - 1) (drop 1 w))) bound
      → r ≡ judged (neg_ℤ (pos m)) → r ≡ judged (value_of v)
  unfolding value_of
  number-minus r m q e k =
      let l : length (drop 1 w) ≤ length w - 1 = omega (arith, length-drop 1 w) in
      k ∙ ap (λ (n : ℕ). judged (neg_ℤ (pos n))) e
      ∙ at_bound (λ (n : ℕ). judged (neg_ℤ (pos n))) None minus-beyond (decimal (take (length w - 1) (drop 1 w)))
      ∙ rw (← same, eq-eqb (get_or w 0 0) 45 q, take_all (length w - 1) (drop 1 w) l)

  pub number-plus : (r : Option ℤ) (m : ℕ) → (get_or w 0 0 ≡ 45 → ⊥) → m ≡ min (decimal w) bound → r ≡ judged (pos m)
      → r ≡ judged (value_of v)
  unfolding value_of
  number-plus r m q e k =
      k ∙ ap (λ (n : ℕ). judged (pos n)) e
      ∙ at_bound (λ (n : ℕ). judged (pos n)) None (λ n h. plus-beyond n (omega arith)) (decimal w)
      ∙ rw (← same, ne_eqb (get_or w 0 0) 45 q)

  -- ---- name
  pub name-front : (r : ℕ) → r ≡ packed (take (min 8 (length w)) w) → r ≡ name_at v
  unfolding name_at
  name-front r e = e ∙ ap packed (take_min 8 w) ∙ ap (λ (x : List ℕ). packed (take 8 x)) same
