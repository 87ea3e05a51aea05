-- What the definitions of Windows come to: which readings a window has, what a count from either end is by its tests, and how a sum, a least or a
-- greatest is worked out reading by reading. Each holds by cases, by induction on the readings, or by laws of `take` and `drop`. Assumes nothing.
use Rattle.std.specs.List.{reduce}
use Rattle.std.proofs.lemmas.Bool.{false≢true}
use Rattle.std.specs.Prelude.{◌≡◌, refl, fold, true, false, List, [], ◌∷◌, ℕ, ◌+◌, ◌-◌, ◌*◌, ◌≤◌, ◌<◌, ℤ, pos, negsuc, nat_abs, ◌+ℤ◌, length, take, drop, get_or}
use Rattle.std.proofs.Common.{sym, ap, ◌∙◌, add-one, arith, ltb-true, ltb-false, length-take, length-drop, drop_of_length-le, take_all, drop-cons}
use Rattle.std.proofs.Math.IntN.{+ℤ_idl, +ℤ_idr, +ℤ_assoc}
use Rattle.std.proofs.Math.Seq.{take-nil}
use Rattle.std.specs.Int.Signed.{mag, lt_z}
use Rattle.rules.specs.declared.Value.TheVariants.{Number}
use Rattle.rules.specs.Windows.{readings_in, from_start, nearest, total, fold_from, extreme}
use Rattle.values.specs.Found.{found}
use Rattle.values.specs.Ranges.{total-range}
use Rattle.values.specs.Sliding.{Totals}

-- ---- the readings of a window

pub readings-within : (xs : List ℤ) (s l : ℕ) → s + l ≤ length xs → length (readings_in xs s l) ≡ l
readings-within xs s l h = simp (length-take, length-drop) (omega arith)

pub readings-short : (xs : List ℤ) (s l : ℕ) → length (readings_in xs s l) ≤ l
readings-short xs s l = simp length-take (omega arith)

-- past the recording there are none; past its end, those that are there
pub readings-none : (xs : List ℤ) (s l : ℕ) → length xs ≤ s → readings_in xs s l ≡ []
readings-none xs s l h = ap (take l) (drop_of_length-le xs h) ∙ take-nil l

pub readings-rest : (xs : List ℤ) (s l : ℕ) → length xs - s ≤ l → readings_in xs s l ≡ drop s xs
readings-rest xs s l h = take_all l (drop s xs) (simp length-drop h)

-- ---- a count from either end, by its tests

pub end-counted : (n : ℤ) (l : ℕ) → lt_z n (pos 0) ≡ true → pos l +ℤ n ≡ from_start n l
end-counted (pos n) l h = absurd (omega (arith, ltb-true n 0 h))
end-counted (negsuc n) l h = refl

pub start-counted : (n : ℤ) (l : ℕ) → lt_z n (pos 0) ≡ false → n ≡ from_start n l
start-counted (pos n) l h = refl
start-counted (negsuc n) l h = absurd (false≢true (sym h))

pub nearest-none : (z : ℤ) (l : ℕ) → lt_z z (pos 0) ≡ true → 0 ≡ nearest z l
nearest-none (pos k) l h = absurd (omega (arith, ltb-true k 0 h))
nearest-none (negsuc k) l h = refl

pub nearest-itself : (z : ℤ) (l : ℕ) → lt_z z (pos 0) ≡ false → lt_z z (pos l) ≡ true → nat_abs z ≡ nearest z l
nearest-itself (pos k) l h t = omega (arith, ltb-true k l t)
nearest-itself (negsuc k) l h t = absurd (false≢true (sym h))

pub nearest-all : (z : ℤ) (l : ℕ) → lt_z z (pos 0) ≡ false → lt_z z (pos l) ≡ false → l ≡ nearest z l
nearest-all (pos k) l h t = omega (arith, ltb-false k l t)
nearest-all (negsuc k) l h t = absurd (false≢true (sym h))

-- ---- the readings from i on

pub drop-next : (xs : List ℤ) (i : ℕ) → i < length xs → get_or xs i (pos 0) ∷ drop (i + 1) xs ≡ drop i xs
drop-next xs i h = rw (add-one, ← drop-cons xs i (pos 0) h)

-- ---- a sum, after i readings

pub record Summed (xs : List ℤ) (t : ℤ) (i : ℕ) : Type 0 where
  pub short : length xs < 65536
  pub within : i ≤ length xs
  pub small : nat_abs t ≤ i * 2147483648
  pub rest : t +ℤ total (drop i xs) ≡ total xs

pub summed-none : (xs : List ℤ) → length xs < 65536 → Summed xs (pos 0) 0
summed-none xs h = record { short = h; within = omega arith; small = omega arith; rest = +ℤ_idl (total xs) }

pub summed_more : (xs : List ℤ) (t : ℤ) (i : ℕ) → Summed xs t i → i < length xs → mag (get_or xs i (pos 0)) < 2147483648 → Summed xs (t +ℤ get_or xs i (pos 0)) (i + 1)
unfolding total
summed_more xs t i s h k = record {
  short = s.short;
  within = omega arith;
  small = omega (arith, total-range 2147483648 i t (get_or xs i (pos 0)) s.small k);
  rest =
      +ℤ_assoc t (get_or xs i (pos 0)) (total (drop (i + 1) xs))
      ∙ ap (λ (ys : List ℤ). t +ℤ total ys) (drop-next xs i h)
      ∙ s.rest;
}

pub summed_all : (xs : List ℤ) (t : ℤ) (i : ℕ) → Summed xs t i → length xs ≤ i → t ≡ total xs
unfolding total
summed_all xs t i s h = sym (ap (λ (ys : List ℤ). t +ℤ total ys) (drop_of_length-le xs h) ∙ +ℤ_idr t) ∙ s.rest

pub totals_all : (xs : List ℤ) (t : ℤ) (i : ℕ) → Summed xs t i → length xs ≤ i → Totals xs t
totals_all xs t i h k = record { exact = summed_all xs t i h k; small = omega (arith, h.small, h.within) }

-- ---- a least or greatest, after i readings

pub record Folded (f : ℤ → ℤ → ℤ) (xs : List ℤ) (b : ℤ) (i : ℕ) : Type 0 where
  pub within : i ≤ length xs
  pub rest : Number (fold_from f b (drop i xs)) ≡ extreme f xs

pub folded-one : (f : ℤ → ℤ → ℤ) (xs : List ℤ) → (length xs ≡ 0 → ⊥) → Folded f xs (get_or xs 0 (pos 0)) 1
unfolding extreme
folded-one f [] h = absurd (h refl)
folded-one f (x ∷ xs) h = record { within = omega arith; rest = refl }

pub folded_more : (f : ℤ → ℤ → ℤ) (xs : List ℤ) (b : ℤ) (i : ℕ) → Folded f xs b i → i < length xs → Folded f xs (f b (get_or xs i (pos 0))) (i + 1)
unfolding fold_from
folded_more f xs b i s h = record {
  within = omega arith;
  rest = ap (λ (ys : List ℤ). Number (fold_from f b ys)) (drop-next xs i h) ∙ s.rest;
}

pub folded-all : (f : ℤ → ℤ → ℤ) (xs : List ℤ) (b : ℤ) (i : ℕ) → Folded f xs b i → length xs ≤ i → Number b ≡ extreme f xs
unfolding fold_from
folded-all f xs b i s h = ap (λ (ys : List ℤ). Number (fold_from f b ys)) (sym (drop_of_length-le xs h)) ∙ s.rest

pub no-readings : (xs : List ℤ) → length xs ≡ 0 → xs ≡ []
no-readings [] h = refl
no-readings (x ∷ xs) h = absurd (omega arith)

-- ---- a least or greatest, from std's word

fold-same : (f : ℤ → ℤ → ℤ) (a : ℤ) (xs : List ℤ) → fold f a xs ≡ fold_from f a xs
unfolding fold_from
fold-same f a [] = refl
fold-same f a (x ∷ xs) = fold-same f (f a x) xs

pub found_extreme : (f : ℤ → ℤ → ℤ) (xs : List ℤ) → found (reduce f xs) ≡ extreme f xs
unfolding extreme
found_extreme f [] = refl
found_extreme f (x ∷ xs) = ap Number (fold-same f x xs)
