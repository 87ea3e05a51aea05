-- The best stretch: the sum of the next stretch from the last one's, and that stretch by stretch the first of the greatest among all is found.
-- Assumes nothing.
use Rattle.std.specs.Prelude.{◌≡◌, refl, Some, None, Bool, true, ◌&&◌, leb, ℤ, pos, negsuc, ◌+ℤ◌, ◌-ℤ◌, take, drop}
use Rattle.std.proofs.lemmas.Bool.{false≢true, cond_both}
use Rattle.std.proofs.Math.Path.{sym, ap}
use Rattle.std.proofs.Common.{◌∙◌, add-one, leb-true, length-take, length-drop, take-suc, drop-drop, get_or-drop}
use Rattle.std.proofs.Math.Bool.{false, cond, and-eq-true_iff}
use mathlib.Core.List.{List, [], ◌∷◌, ◌++◌, map}
use Prim.Native.Nat.{ℕ, zero, suc, ◌+◌, ◌-◌, ◌*◌, ◌≤◌, ◌<◌}
use native.Mathlib.Omega.{arith}
use mathlib.Core.Logic.{inl, inr}
use Rattle.std.proofs.Math.IntN.{nat_abs, +ℤ_assoc, +ℤ_comm, +ℤ-neg_ℤ_cancel}
use Rattle.std.proofs.Math.ListN.{length, get_or}
use Rattle.std.specs.Int.Signed.{mag, lt_z}
use Rattle.language.specs.Cases.{split}
use Rattle.members.specs.declared.Member.{Member}
use Rattle.members.specs.declared.Member.TheVariants.{BestSum, BestAt}
use Rattle.rules.specs.declared.Value.{Value}
use Rattle.rules.specs.declared.Value.TheVariants.{Number, Missing}
use Rattle.rules.specs.Values.{ranged, sameℤ, outside_window}
use Rattle.rules.specs.Windows.{readings_in, total, greater, fold_from}
use Rattle.rules.specs.Rules.{rule, on_window}
use Rattle.rules.specs.Stretches.{stretches_from, sums, of_greatest, first_at, of_width, best_sum, best_at}
use Rattle.values.specs.declared.stretches.Best.{Best}
use Rattle.values.specs.Ranges.{slide-range}
use Rattle.values.specs.Order.{same-yes, same-no, lt-self, lt-neither, lt-through}
use Rattle.values.specs.WindowLaws.{readings-short}
use Rattle.values.specs.Sliding.{Totals, width_in, better, best_from, sums_after, best, chosen, Chooses}

-- ---- one reading in, one out

total-append : (xs : List ℤ) (y : ℤ) → total (xs ++ (y ∷ [])) ≡ total xs +ℤ y
unfolding total
total-append [] y = +ℤ_comm y (pos 0)
total-append (x ∷ xs) y = ap (◌+ℤ◌ x) (total-append xs y) ∙ sym (+ℤ_assoc x (total xs) y)

-- of w readings at the front and one more, the first let out
front : (xs : List ℤ) (w : ℕ) → w < length xs → total (take w (drop 1 xs)) ≡ total (take w xs) +ℤ get_or xs w (pos 0) -ℤ get_or xs 0 (pos 0)
unfolding total
front [] w h = absurd (omega arith)
front (x ∷ xs) w h =
    sym (+ℤ-neg_ℤ_cancel (total (take w xs)) x)
    ∙ ap (λ (z : ℤ). z -ℤ x) (+ℤ_comm (total (take w xs)) x ∙ ap total (take-suc (x ∷ xs) w (pos 0) h) ∙ total-append (take w (x ∷ xs)) (get_or (x ∷ xs) w (pos 0)))

-- the sum of the next stretch
pub slide : (xs : List ℤ) (w i : ℕ) → i < length xs - w
    → total (take w (drop (suc i) xs)) ≡ total (take w (drop i xs)) +ℤ get_or xs (i + w) (pos 0) -ℤ get_or xs i (pos 0)
slide xs w i h =
    let e : i + 1 ≡ suc i = omega arith in
    let z : i + 0 ≡ i = omega arith in
    let l = length-drop i xs in
    ap (λ (k : ℕ). total (take w (drop k xs))) (sym e)
    ∙ ap (λ (ys : List ℤ). total (take w ys)) (sym (drop-drop 1 i xs))
    ∙ front (drop i xs) w (omega arith)
    ∙ (λ j. total (take w (drop i xs)) +ℤ get_or-drop i xs w (pos 0) j -ℤ (get_or-drop i xs 0 (pos 0) ∙ ap (λ (k : ℕ). get_or xs k (pos 0)) z) j)

-- ---- the first of the greatest, number by number

-- the greatest is not less than the first
fold-most : (a : ℤ) (zs : List ℤ) → lt_z (fold_from greater a zs) a ≡ false
unfolding fold_from
fold-most a [] = lt-self a
fold-most a (z ∷ zs) =
    split (lt_z a z) (λ h. rw h (lt-through a z (fold_from greater z zs) h (fold-most z zs))) (λ h. rw h (fold-most a zs))

module _ (b : Best) (z : ℤ) (i : ℕ) where
  later : lt_z b.sum z ≡ true → better b z i ≡ record { sum = z; at = i }
  later h = ap (λ (t : Bool). cond t (record { sum = z; at = i }) b) h

  earlier : lt_z b.sum z ≡ false → better b z i ≡ b
  earlier h = ap (λ (t : Bool). cond t (record { sum = z; at = i }) b) h

  better-sum : (better b z i).sum ≡ greater b.sum z
  better-sum = split (lt_z b.sum z) (λ h. ap (λ (c : Best). c.sum) (later h) ∙ sym (by h)) (λ h. ap (λ (c : Best). c.sum) (earlier h) ∙ sym (by h))
    where
      by : {t : Bool} → lt_z b.sum z ≡ t → greater b.sum z ≡ cond t z b.sum
      by h = ap (λ (t : Bool). cond t z b.sum) h

pub best-sum-is : (b : Best) (i : ℕ) (zs : List ℤ) → (best_from b i zs).sum ≡ fold_from greater b.sum zs
unfolding best_from fold_from
best-sum-is b i [] = refl
best-sum-is b i (z ∷ zs) = best-sum-is (better b z i) (suc i) zs ∙ ap (λ (y : ℤ). fold_from greater y zs) (better-sum b z i)

one_on : (t : Bool) (i f : ℕ) → cond t i (suc i + f) ≡ i + cond t 0 (suc f)
one_on true i f = omega arith
one_on false i f = omega arith

-- where the best so far is the greatest it stays, and otherwise it is the first of those that come
abbrev AtFrom : ℤ → List ℤ → ℕ → Best → Type 0
AtFrom m zs i b = m ≡ fold_from greater b.sum zs → (best_from b i zs).at ≡ cond (sameℤ b.sum m) b.at (i + first_at m zs)

module _ (b : Best) (z : ℤ) (i : ℕ) (zs : List ℤ) (m : ℤ) (rest : (c : Best) → AtFrom m zs (suc i) c) (e : m ≡ fold_from greater b.sum (z ∷ zs)) where
  most : {t : Bool} → lt_z b.sum z ≡ t → m ≡ fold_from greater (cond t z b.sum) zs
  unfolding fold_from
  most h = e ∙ ap (λ (t : Bool). fold_from greater (cond t z b.sum) zs) h

  after : lt_z b.sum z ≡ true → (best_from b i (z ∷ zs)).at ≡ cond (sameℤ b.sum m) b.at (i + first_at m (z ∷ zs))
  unfolding best_from first_at
  after h =
      let other : sameℤ b.sum m ≡ false = same-no b.sum m (λ q. absurd (false≢true (cc (fold-most z zs, most h, q, h)))) in
      ap (λ (c : Best). (best_from c (suc i) zs).at) (later b z i h)
      ∙ rest (record { sum = z; at = i }) (most h)
      ∙ one_on (sameℤ z m) i (first_at m zs)
      ∙ sym (ap (λ (t : Bool). cond t b.at (i + first_at m (z ∷ zs))) other)

  before : lt_z b.sum z ≡ false → (best_from b i (z ∷ zs)).at ≡ cond (sameℤ b.sum m) b.at (i + first_at m (z ∷ zs))
  unfolding best_from first_at
  before h =
      ap (λ (c : Best). (best_from c (suc i) zs).at) (earlier b z i h)
      ∙ rest b (most h)
      ∙ split (sameℤ b.sum m) (λ s. rw s refl) (λ s.
      let low : lt_z m b.sum ≡ false = cc (fold-most b.sum zs, most h) in
      let other : sameℤ z m ≡ false = same-no z m (λ q. absurd (false≢true (cc (s, same-yes b.sum m (lt-neither b.sum m (cc (h, q)) low))))) in
      rw s (one_on false i (first_at m zs) ∙ sym (ap (λ (t : Bool). i + cond t 0 (suc (first_at m zs))) other)))

best-at-from : (m : ℤ) (zs : List ℤ) (i : ℕ) (b : Best) → AtFrom m zs i b
unfolding best_from fold_from first_at
best-at-from m [] i b e = sym (ap (λ (t : Bool). cond t b.at (i + 0)) (same-yes b.sum m (sym e)))
best-at-from m (z ∷ zs) i b e =
    split (lt_z b.sum z) (after b z i zs m (best-at-from m zs (suc i)) e) (before b z i zs m (best-at-from m zs (suc i)) e)

-- ---- the best of all stretches

pub first_short : (z : ℤ) (zs : List ℤ) → first_at z zs ≤ length zs
unfolding first_at
first_short z [] = omega arith
first_short z (y ∷ ys) = cond_both (sameℤ y z) 0 _ (λ k. k ≤ suc (length ys)) (λ h. omega arith) (λ h. omega (arith, first_short z ys))

pub sums-length : (xs : List ℤ) (w : ℕ) → length (sums xs w) ≡ suc (length xs) - w
unfolding sums stretches_from
sums-length xs w = so-many 0 (suc (length xs) - w)
  where
    so-many : (i k : ℕ) → length (map total (stretches_from xs w i k)) ≡ k
    so-many i zero = refl
    so-many i (suc k) = ap suc (so-many (suc i) k)

first_next : (t : Bool) (f : ℕ) → cond t 0 (1 + f) ≡ cond t 0 (suc f)
first_next true f = refl
first_next false f = omega arith

module _ (xs : List ℤ) (w : ℕ) (h : w ≤ length xs) where
  sums-are : sums xs w ≡ total (take w xs) ∷ sums_after xs w 0
  unfolding sums sums_after stretches_from
  sums-are =
      let e : suc (length xs) - w ≡ suc (length xs - w - 0) = omega arith in
      ap (λ (k : ℕ). map total (stretches_from xs w 0 k)) e

  pub best-greatest : (f : ℤ → Value) → f (best xs w).sum ≡ of_greatest f (sums xs w)
  unfolding best
  best-greatest f =
      ap f (best-sum-is (record { sum = total (take w xs); at = 0 }) 1 (sums_after xs w 0)) ∙ sym (ap (of_greatest f) sums-are)

  best-first : (best xs w).at ≡ first_at (best xs w).sum (sums xs w)
  unfolding best first_at
  best-first =
      best-at-from (best xs w).sum (sums_after xs w 0) 1 (record { sum = total (take w xs); at = 0 })
      (best-sum-is (record { sum = total (take w xs); at = 0 }) 1 (sums_after xs w 0))
      ∙ first_next (sameℤ (total (take w xs)) (best xs w).sum) (first_at (best xs w).sum (sums_after xs w 0))
      ∙ sym (ap (first_at (best xs w).sum) sums-are)

  pub best_within : (best xs w).at ≤ length xs + 1
  best_within = omega (arith, best-first, first_short (best xs w).sum (sums xs w), sums-length xs w)

  pub best-index : Number (pos (best xs w).at) ≡ of_greatest (λ z. Number (pos (first_at z (sums xs w)))) (sums xs w)
  best-index = ap (λ (k : ℕ). Number (pos k)) best-first ∙ best-greatest (λ z. Number (pos (first_at z (sums xs w))))

-- ---- the width

module _ (l : ℕ) (f : ℕ → Value) where
  pub width-none : (n : ℤ) → None ≡ width_in n l → Missing outside_window ≡ of_width n l f
  width-none (pos w) e = split (leb 1 w && leb w l) (λ h. let d : None ≡ Some w = rw h at e in cc) (λ h. rw h refl)
  width-none (negsuc n) e = refl

  pub width_some : (n : ℤ) (w : ℕ) → Some w ≡ width_in n l → (w ≤ l) × (f w ≡ of_width n l f)
  width_some (pos v) w e = split (leb 1 v && leb v l) inside (λ h. let d : Some w ≡ None = rw h at e in cc)
    where
      inside : (leb 1 v && leb v l) ≡ true → (w ≤ l) × (f w ≡ of_width (pos v) l f)
      inside h =
          let d : Some w ≡ Some v = rw h at e in
          let q : w ≡ v = cc in
          let k : leb v l ≡ true = ((and-eq-true_iff (leb 1 v) (leb v l)).0 h).1 in
          (omega (arith, leb-true v l k), rw h (ap f q))
  width_some (negsuc n) w e = cc

-- ---- what the members take of it

module _ (xs ys : List ℤ) (s l : ℕ) (n : ℤ) (w : ℕ) (e : ys ≡ readings_in xs s l) (q : Some w ≡ width_in n (length ys)) where
  sum_chosen : ranged (best ys w).sum ≡ on_window BestSum xs s l n
  unfolding on_window rule best_sum
  sum_chosen =
      let k = width_some (length ys) (λ j. of_greatest ranged (sums ys j)) n w q in
      best-greatest ys w k.0 ranged ∙ k.1 ∙ ap (λ (zs : List ℤ). best_sum zs n) e

  index_chosen : Number (pos (best ys w).at) ≡ on_window BestAt xs s l n
  unfolding on_window rule best_at
  index_chosen =
      let k = width_some (length ys) (λ j. of_greatest (λ z. Number (pos (first_at z (sums ys j)))) (sums ys j)) n w q in
      best-index ys w k.0 ∙ k.1 ∙ ap (λ (zs : List ℤ). best_at zs n) e

  pub best_chosen : (m : Member) → Chooses m → (b : Best) → b ≡ best ys w → chosen m b ≡ on_window m xs s l n
  best_chosen m (inl k) b p = rw (k, p) sum_chosen
  best_chosen m (inr k) b p = rw (k, p) index_chosen

  pub best_small : l < 65536 → (b : Best) → b ≡ best ys w → b.at ≤ 65536
  best_small h b p =
      let k = width_some (length ys) (λ j. Missing outside_window) n w q in
      omega (arith, ap (λ (c : Best). c.at) p, best_within ys w k.0, ap length e, readings-short xs s l)

-- ---- along the readings: the sum of the stretch that begins at i, and the best so far against the stretches that are left

pub record Slid (xs : List ℤ) (w : ℕ) (t : ℤ) (b : Best) (i : ℕ) : Type 0 where
  pub within : i ≤ length xs - w
  pub exact : t ≡ total (take w (drop i xs))
  pub small : nat_abs t ≤ (w + i + i) * 2147483648
  pub rest : best_from b (i + 1) (sums_after xs w i) ≡ best xs w

pub slid_none : (xs : List ℤ) (w : ℕ) (t : ℤ) → w ≤ length xs → Totals (take w xs) t → Slid xs w t (record { sum = t; at = 0 }) 0
unfolding best
slid_none xs w t h k = record {
  within = omega arith;
  exact = k.exact;
  small = omega (arith, k.small, length-take w xs);
  rest = ap (λ (z : ℤ). best_from (record { sum = z; at = 0 }) 1 (sums_after xs w 0)) k.exact;
}

after_next : (xs : List ℤ) (w i : ℕ) → i < length xs - w → sums_after xs w i ≡ total (take w (drop (i + 1) xs)) ∷ sums_after xs w (i + 1)
unfolding sums_after stretches_from
after_next xs w i h =
    let e : length xs - w - i ≡ suc (length xs - w - (i + 1)) = omega arith in
    ap (λ (k : ℕ). map total (stretches_from xs w (suc i) k)) e
    ∙ ap (λ (j : ℕ). total (take w (drop j xs)) ∷ map total (stretches_from xs w (suc j) (length xs - w - (i + 1)))) (sym (add-one i))

module _ (xs : List ℤ) (w : ℕ) (t : ℤ) (b : Best) (i : ℕ) (s : Slid xs w t b i) where
  pub slid_more : i < length xs - w → mag (get_or xs (i + w) (pos 0)) < 2147483648 → mag (get_or xs i (pos 0)) < 2147483648
      → (t' : ℤ) → t' ≡ t +ℤ get_or xs (i + w) (pos 0) -ℤ get_or xs i (pos 0) → Slid xs w t' (better b t' (i + 1)) (i + 1)
  unfolding best_from
  slid_more h hin hout t' e =
      let next : t' ≡ total (take w (drop (i + 1) xs)) =
      e ∙ ap (λ (z : ℤ). z +ℤ get_or xs (i + w) (pos 0) -ℤ get_or xs i (pos 0)) s.exact ∙ sym (slide xs w i h) ∙ ap (λ (k : ℕ). total (take w (drop k xs))) (sym (add-one i)) in
      record {
        within = omega arith;
        exact = next;
        small = omega (arith, ap nat_abs e, slide-range 2147483648 (w + i + i) t (get_or xs (i + w) (pos 0)) (get_or xs i (pos 0)) s.small hin hout);
        rest =
            ap (λ (z : ℤ). best_from (better b z (i + 1)) (i + 1 + 1) (sums_after xs w (i + 1))) next
            ∙ ap (λ (k : ℕ). best_from (better b (total (take w (drop (i + 1) xs))) (i + 1)) k (sums_after xs w (i + 1))) (add-one (i + 1))
            ∙ ap (best_from b (i + 1)) (sym (after_next xs w i h)) ∙ s.rest;
      }

  pub slid_all : length xs - w ≤ i → b ≡ best xs w
  unfolding best_from sums_after stretches_from
  slid_all h =
      let e : length xs - w - i ≡ 0 = omega arith in
      sym (ap (λ (k : ℕ). best_from b (i + 1) (map total (stretches_from xs w (suc i) k))) e) ∙ s.rest
