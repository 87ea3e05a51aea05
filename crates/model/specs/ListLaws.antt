-- Laws of the list definitions and of reading a list by number. Assumes nothing.
use Rattle.std.specs.Prelude.{◌≡◌, ◌⊎◌, Bool, true, not, length, get_or}
use Rattle.std.proofs.lemmas.Bool.{false≢true}
use Rattle.std.proofs.Math.Path.{refl, subst}
use Rattle.std.proofs.Common.{sym, ap, ◌∙◌, inl, inr, length-append}
use Rattle.std.proofs.Math.Bool.{false}
use mathlib.Core.List.{List, [], ◌∷◌, ◌++◌, map, Memᴰ}
use Rattle.std.proofs.Math.Option.{some}
use Prim.Native.Nat.{ℕ, zero, suc, ◌+◌, ◌-◌, ◌≤◌, ◌<◌, min}
use native.Mathlib.Omega.{arith}
use Rattle.std.proofs.Math.Decide.{dec_lt}
use Rattle.std.proofs.Math.ListN.{get_elem?}
use Rattle.language.specs.Cases.{split}
use Rattle.model.specs.Lists.{All, count_if, firsts, on_firsts, member, index, insert, insert_all, Distinct}

-- Elements by number.
module _ {A : Type 0} where
  pub nth-below : (xs : List A) (n : ℕ) (x : A) → get_elem? xs n ≡ some x → n < length xs
  nth-below [] n x e = absurd (false≢true (cc))
  nth-below (y ∷ ys) zero x e = omega arith
  nth-below (y ∷ ys) (suc n) x e = let ih = nth-below ys n x e in omega arith

  pub nth-has : (xs : List A) (n : ℕ) → n < length xs → (x : A) × (get_elem? xs n ≡ some x)
  nth-has [] n h = absurd (omega arith)
  nth-has (x ∷ xs) zero h = (x, refl)
  nth-has (x ∷ xs) (suc n) h = nth-has xs n (omega arith)

  pub nth-front : (xs ys : List A) (n : ℕ) → n < length xs → get_elem? (xs ++ ys) n ≡ get_elem? xs n
  nth-front [] ys n h = absurd (omega arith)
  nth-front (x ∷ xs) ys zero h = refl
  nth-front (x ∷ xs) ys (suc n) h = nth-front xs ys n (omega arith)

  pub nth-old : (xs ys : List A) (n : ℕ) (x : A) → get_elem? xs n ≡ some x → get_elem? (xs ++ ys) n ≡ some x
  nth-old xs ys n x e = nth-front xs ys n (nth-below xs n x e) ∙ e

  pub nth_seam : (xs : List A) (x : A) (ys : List A) → get_elem? (xs ++ (x ∷ ys)) (length xs) ≡ some x
  nth_seam [] x ys = refl
  nth_seam (z ∷ zs) x ys = nth_seam zs x ys

  pub old_or_last : (xs : List A) (x : A) (i : ℕ) (y : A) → get_elem? (xs ++ (x ∷ [])) i ≡ some y
      → ((i < length xs) × (get_elem? xs i ≡ some y)) ⊎ ((i ≡ length xs) × (x ≡ y))
  old_or_last xs x i y e =
      elim (dec_lt i (length xs)) [
        | yes less ↦ inl (less, sym (nth-front xs (x ∷ []) i less) ∙ e)
        | no not ↦
            let l = nth-below (xs ++ (x ∷ [])) i y e in
            let z = length-append xs (x ∷ []) in
            let q : i ≡ length xs = omega arith in
            let w : some x ≡ some y = sym (nth_seam xs x []) ∙ subst (λ (k : ℕ). get_elem? (xs ++ (x ∷ [])) k ≡ some y) q e in
            inr (q, cc)
      ]

  pub getD-nth : (xs : List A) (n : ℕ) (x d : A) → get_elem? xs n ≡ some x → get_or xs n d ≡ x
  getD-nth [] n x d e = absurd (false≢true (cc))
  getD-nth (y ∷ ys) zero x d e = cc
  getD-nth (y ∷ ys) (suc n) x d e = getD-nth ys n x d e

  pub length-snoc : (xs : List A) (x : A) → length (xs ++ (x ∷ [])) ≡ suc (length xs)
  length-snoc xs x = length-append xs (x ∷ []) ∙ omega arith

module _ {A B : Type 0} (g : A → B) where
  pub nth-map : (xs : List A) (n : ℕ) (x : A) → get_elem? xs n ≡ some x → get_elem? (map g xs) n ≡ some (g x)
  nth-map [] n x e = absurd (false≢true (cc))
  nth-map (y ∷ ys) zero x e = let z : y ≡ x = cc in ap (λ (w : A). some (g w)) z
  nth-map (y ∷ ys) (suc n) x e = nth-map ys n x e

-- A property of each element.
module _ {A : Type 0} (P : A → Type 0) where
  pub all_append : (xs ys : List A) → All P xs → All P ys → All P (xs ++ ys)
  all_append [] ys p q = q
  all_append (x ∷ xs) ys p q = (p.0, all_append xs ys p.1 q)

  pub all-always : ((x : A) → P x) → (xs : List A) → All P xs
  all-always h [] = tt
  all-always h (x ∷ xs) = (h x, all-always h xs)

  pub all_map : {B : Type 0} (g : B → A) (ys : List B) → All (λ (y : B). P (g y)) ys → All P (map g ys)
  all_map g [] h = tt
  all_map g (y ∷ ys) h = (h.0, all_map g ys h.1)

  pub all-nth : (xs : List A) (n : ℕ) (x : A) → All P xs → get_elem? xs n ≡ some x → P x
  all-nth [] n x p e = absurd (false≢true (cc))
  all-nth (y ∷ ys) zero x p e = let q : y ≡ x = cc in subst P q p.0
  all-nth (y ∷ ys) (suc n) x p e = all-nth ys n x p.1 e

  -- x stands before the list here, as the recursion over its place asks
  in-all : (x : A) (xs : List A) → Memᴰ x xs → All P xs → P x
  in-all x xs (Memᴰ.head e) p = subst P (sym e) p.0
  in-all x xs (Memᴰ.tail i) p = in-all x _ i p.1

  pub all_in : (xs : List A) (x : A) → Memᴰ x xs → All P xs → P x
  all_in xs x = in-all x xs

-- Counting.
module _ {A : Type 0} (p : A → Bool) where
  pub count-append : (xs ys : List A) → count_if p (xs ++ ys) ≡ count_if p xs + count_if p ys
  unfolding count_if
  count-append [] ys = omega arith
  count-append (x ∷ xs) ys = let ih = count-append xs ys in split (p x) (λ h. rw h (omega arith)) (λ h. rw h ih)

  pub count_none : (xs : List A) → All (λ (x : A). p x ≡ false) xs → count_if p xs ≡ 0
  unfolding count_if
  count_none [] h = refl
  count_none (x ∷ xs) h = rw h.0 (count_none xs h.1)

  pub count-none-nth : (xs : List A) → ((i : ℕ) (x : A) → get_elem? xs i ≡ some x → p x ≡ false) → count_if p xs ≡ 0
  unfolding count_if
  count-none-nth [] h = refl
  count-none-nth (x ∷ xs) h = rw (h 0 x refl) (count-none-nth xs (λ i. h (suc i)))

  pub count-every : ((x : A) → p x ≡ true) → (xs : List A) → count_if p xs ≡ length xs
  unfolding count_if
  count-every h [] = refl
  count-every h (x ∷ xs) = rw (h x) (ap suc (count-every h xs))

  pub count_map : {B : Type 0} (g : B → A) (ys : List B) → count_if (λ (y : B). p (g y)) ys ≡ count_if p (map g ys)
  unfolding count_if
  count_map g [] = refl
  count_map g (y ∷ ys) = rw (count_map g ys)

  pub firsts-length : (n : ℕ) (xs : List A) → length (firsts p n xs) ≡ min n (count_if p xs)
  unfolding firsts count_if
  firsts-length n [] = omega arith
  firsts-length zero (x ∷ xs) = omega arith
  firsts-length (suc n) (x ∷ xs) = split (p x) (λ h. let ih = firsts-length n xs in rw h (omega arith)) (λ h. rw h (firsts-length (suc n) xs))

-- Changing the first n elements that pass the test p.
module _ {A : Type 0} (p : A → Bool) (g : A → A) where
  pub on-map : {B : Type 0} (h : A → B) → ((x : A) → h (g x) ≡ h x) → (n : ℕ) (xs : List A) → map h (on_firsts p g n xs) ≡ map h xs
  unfolding on_firsts
  on-map h e n [] = refl
  on-map h e zero (x ∷ xs) = refl
  on-map {B} h e (suc n) (x ∷ xs) =
      split (p x) (λ q. rw (q, e x) (ap (λ (l : List B). h x ∷ l) (on-map h e n xs))) (λ q. rw q (ap (λ (l : List B). h x ∷ l) (on-map h e (suc n) xs)))

  pub on-length : (n : ℕ) (xs : List A) → length (on_firsts p g n xs) ≡ length xs
  unfolding on_firsts
  on-length n [] = refl
  on-length zero (x ∷ xs) = refl
  on-length (suc n) (x ∷ xs) = split (p x) (λ q. rw q (ap suc (on-length n xs))) (λ q. rw q (ap suc (on-length (suc n) xs)))

  pub on-all : (P : A → Type 0) → ((x : A) → p x ≡ true → P (g x)) → (n : ℕ) (xs : List A) → All P xs → All P (on_firsts p g n xs)
  unfolding on_firsts
  on-all P new n [] h = tt
  on-all P new zero (x ∷ xs) h = h
  on-all P new (suc n) (x ∷ xs) h = split (p x) (λ q. rw q (new x q, on-all P new n xs h.1)) (λ q. rw q (h.0, on-all P new (suc n) xs h.1))

  pub on-zero : (xs : List A) → on_firsts p g zero xs ≡ xs
  unfolding on_firsts
  on-zero [] = refl
  on-zero (x ∷ xs) = refl

  pub on_none : (n : ℕ) (xs : List A) → ((i : ℕ) (x : A) → get_elem? xs i ≡ some x → p x ≡ false) → on_firsts p g n xs ≡ xs
  unfolding on_firsts
  on_none n [] h = refl
  on_none zero (x ∷ xs) h = refl
  on_none (suc n) (x ∷ xs) h = rw (h 0 x refl) (ap (λ (l : List A). x ∷ l) (on_none (suc n) xs (λ i. h (suc i))))

  -- the changed elements pass no longer
  pub on-count : ((x : A) → p (g x) ≡ false) → (n : ℕ) (xs : List A) → count_if p (on_firsts p g n xs) ≡ count_if p xs - n
  unfolding on_firsts count_if
  on-count e n [] = omega arith
  on-count e zero (x ∷ xs) = omega arith
  on-count e (suc n) (x ∷ xs) =
      split (p x) (λ q. let ih = on-count e n xs in rw q (rw (e x) (omega arith))) (λ q. let ih = on-count e (suc n) xs in simp q ih)

  -- another test q that the changed elements fail
  pub on-count-less : (q : A → Bool) → ((x : A) → q (g x) ≡ false) → (n : ℕ) (xs : List A) → count_if q (on_firsts p g n xs) ≤ count_if q xs
  unfolding on_firsts count_if
  on-count-less q e n [] = omega arith
  on-count-less q e zero (x ∷ xs) = omega arith
  on-count-less q e (suc n) (x ∷ xs) =
      split (p x)
      (λ h. let ih = on-count-less q e n xs in rw h (rw (e x) (split (q x) (λ u. rw u (omega arith)) (λ u. rw u ih))))
      (λ h. let ih = on-count-less q e (suc n) xs in rw h (split (q x) (λ u. rw u (omega arith)) (λ u. rw u ih)))

  -- another test q that they fail before
  pub on-count-more : (q r : A → Bool) → ((x : A) → p x ≡ true → q x ≡ false) → ((x : A) → q (g x) ≡ r x) → (n : ℕ) (xs : List A)
      → count_if q (on_firsts p g n xs) ≡ count_if q xs + count_if r (firsts p n xs)
  unfolding on_firsts firsts count_if
  on-count-more q r e s n [] = omega arith
  on-count-more q r e s zero (x ∷ xs) = omega arith
  on-count-more q r e s (suc n) (x ∷ xs) =
      split (p x)
      (λ h. let ih = on-count-more q r e s n xs in rw h (rw (e x h, s x) (split (r x) (λ u. rw u (omega arith)) (λ u. rw u ih))))
      (λ h. let ih = on-count-more q r e s (suc n) xs in rw h (split (q x) (λ u. rw u (omega arith)) (λ u. rw u ih)))

pub unheld-front : {A : Type 0} (same : A → A → Bool) (x : A) (xs ys : List A) → member same x (xs ++ ys) ≡ false → member same x xs ≡ false
unfolding member
unheld-front same x [] ys h = refl
unheld-front same x (z ∷ zs) ys h = split (same z x) (λ p. absurd (false≢true (sym (rw p at h)))) (λ p. rw p (unheld-front same x zs ys (rw p at h)))

-- The test is equality.
pub record Equality {A : Type 0} (same : A → A → Bool) : Type 0 where
  pub equal : (x y : A) → same x y ≡ true → x ≡ y
  pub self : (x : A) → same x x ≡ true

module _ {A : Type 0} {same : A → A → Bool} (Q : Equality same) where
  pub member-self : (x : A) (xs : List A) → member same x (x ∷ xs) ≡ true
  unfolding member
  member-self x xs = rw (Q.self x)

  pub member-tail : (y x : A) (xs : List A) → member same x xs ≡ true → member same x (y ∷ xs) ≡ true
  unfolding member
  member-tail y x xs h = split (same y x) (λ p. rw p) (λ p. rw p h)

  pub member-nth : (xs : List A) (n : ℕ) (x : A) → get_elem? xs n ≡ some x → member same x xs ≡ true
  member-nth [] n x e = absurd (false≢true (cc))
  member-nth (y ∷ ys) zero x e = let q : y ≡ x = cc in subst (λ (z : A). member same x (z ∷ ys) ≡ true) (sym q) (member-self x ys)
  member-nth (y ∷ ys) (suc n) x e = member-tail y x ys (member-nth ys n x e)

  pub nth-index : (x : A) (xs : List A) → member same x xs ≡ true → get_elem? xs (index same x xs) ≡ some x
  unfolding member index
  nth-index x [] h = absurd (false≢true h)
  nth-index x (y ∷ ys) h = split (same y x) (λ p. rw p (ap some (Q.equal y x p))) (λ p. rw p (nth-index x ys (rw p at h)))

  pub index-one : (x y : A) (xs : List A) → member same x xs ≡ true → member same y xs ≡ true → index same x xs ≡ index same y xs → x ≡ y
  index-one x y xs hx hy e =
      let p = nth-index x xs hx in
      let q = nth-index y xs hy in
      let r : some x ≡ some y = cc in cc

  -- without doubles, a number is the index of its element
  pub index-nth : (xs : List A) → Distinct same xs → (n : ℕ) (x : A) → get_elem? xs n ≡ some x → index same x xs ≡ n
  unfolding index
  index-nth [] d n x e = absurd (false≢true (cc))
  index-nth (y ∷ ys) d zero x e = let q : y ≡ x = cc in rw (subst (λ (z : A). same y z ≡ true) q (Q.self y))
  index-nth (y ∷ ys) d (suc n) x e =
      split (same y x)
      (λ p. absurd (false≢true (sym d.0 ∙ subst (λ (z : A). member same z ys ≡ true) (sym (Q.equal y x p)) (member-nth ys n x e))))
      (λ p. rw p (ap suc (index-nth ys d.1 n x e)))

  -- a list that is extended
  member-old : (x : A) (xs ys : List A) → member same x xs ≡ true → member same x (xs ++ ys) ≡ true
  unfolding member
  member-old x [] ys h = absurd (false≢true h)
  member-old x (y ∷ xs) ys h = split (same y x) (λ p. rw p) (λ p. rw p (member-old x xs ys (rw p at h)))

  member-last : (x : A) (xs : List A) → member same x (xs ++ (x ∷ [])) ≡ true
  member-last x [] = member-self x []
  member-last x (y ∷ ys) = member-tail y x (ys ++ (x ∷ [])) (member-last x ys)

  index-old : (x : A) (xs ys : List A) → member same x xs ≡ true → index same x (xs ++ ys) ≡ index same x xs
  unfolding member index
  index-old x [] ys h = absurd (false≢true h)
  index-old x (y ∷ xs) ys h = split (same y x) (λ p. rw p) (λ p. rw p (ap suc (index-old x xs ys (rw p at h))))

  pub index-last : (x : A) (xs : List A) → member same x xs ≡ false → index same x (xs ++ (x ∷ [])) ≡ length xs
  unfolding member index
  index-last x [] h = rw (Q.self x)
  index-last x (y ∷ ys) h = split (same y x) (λ p. absurd (false≢true (sym (rw p at h)))) (λ p. rw p (ap suc (index-last x ys (rw p at h))))

  distinct_snoc : (x : A) (xs : List A) → member same x xs ≡ false → Distinct same xs → Distinct same (xs ++ (x ∷ []))
  unfolding member
  distinct_snoc x [] h d = (refl, tt)
  distinct_snoc x (y ∷ ys) h d =
      split (same y x) (λ p. absurd (false≢true (sym (rw p at h)))) (λ p. (misses ys d.0 p, distinct_snoc x ys (rw p at h) d.1))
    where
      misses : (zs : List A) → member same y zs ≡ false → same y x ≡ false → member same y (zs ++ (x ∷ [])) ≡ false
      misses [] m p = split (same x y) (λ q. absurd (false≢true (sym p ∙ subst (λ (z : A). same y z ≡ true) (sym (Q.equal x y q)) (Q.self y)))) (λ q. rw q)
      misses (z ∷ zs) m p = split (same z y) (λ q. absurd (false≢true (sym (rw q at m)))) (λ q. rw q (misses zs (rw q at m) p))

  -- by cases on an insertion: the list is as before, or extended
  pub insert-by : (P : List A → Type 0) (x : A) (xs : List A) → (member same x xs ≡ true → P xs) → (member same x xs ≡ false → P (xs ++ (x ∷ [])))
      → P (insert same x xs)
  unfolding insert
  insert-by P x xs old new = split (member same x xs) (λ p. rw p (old p)) (λ p. rw p (new p))

  pub insert-old : (x : A) (xs : List A) → member same x xs ≡ true → insert same x xs ≡ xs
  unfolding insert
  insert-old x xs h = rw h

  pub insert-has : (x : A) (xs : List A) → member same x (insert same x xs) ≡ true
  insert-has x xs = insert-by (λ (l : List A). member same x l ≡ true) x xs (λ p. p) (λ p. member-last x xs)

  pub member-insert : (x y : A) (xs : List A) → member same x xs ≡ true → member same x (insert same y xs) ≡ true
  member-insert x y xs h = insert-by (λ (l : List A). member same x l ≡ true) y xs (λ p. h) (λ p. member-old x xs (y ∷ []) h)

  pub nth-insert : (y : A) (xs : List A) (n : ℕ) (x : A) → get_elem? xs n ≡ some x → get_elem? (insert same y xs) n ≡ some x
  nth-insert y xs n x h = insert-by (λ (l : List A). get_elem? l n ≡ some x) y xs (λ p. h) (λ p. nth-old xs (y ∷ []) n x h)

  pub distinct-insert : (x : A) (xs : List A) → Distinct same xs → Distinct same (insert same x xs)
  distinct-insert x xs d = insert-by (Distinct same) x xs (λ p. d) (λ p. distinct_snoc x xs p d)

  index-insert : (x y : A) (xs : List A) → member same x xs ≡ true → index same x (insert same y xs) ≡ index same x xs
  index-insert x y xs h = insert-by (λ (l : List A). index same x l ≡ index same x xs) y xs (λ p. refl) (λ p. index-old x xs (y ∷ []) h)

  -- all of a list, one after the other: what each insertion keeps
  insert_all-by : (P : List A → Type 0) → ((x : A) (xs : List A) → P xs → P (insert same x xs)) → (ys xs : List A) → P xs
      → P (insert_all same ys xs)
  unfolding insert_all
  insert_all-by P step [] xs h = h
  insert_all-by P step (y ∷ ys) xs h = insert_all-by P step ys (insert same y xs) (step y xs h)

  pub member-insert_all : (x : A) (ys xs : List A) → member same x xs ≡ true → member same x (insert_all same ys xs) ≡ true
  member-insert_all x = insert_all-by (λ (l : List A). member same x l ≡ true) (λ y xs h. member-insert x y xs h)

  pub nth-insert_all : (n : ℕ) (x : A) (ys xs : List A) → get_elem? xs n ≡ some x → get_elem? (insert_all same ys xs) n ≡ some x
  nth-insert_all n x = insert_all-by (λ (l : List A). get_elem? l n ≡ some x) (λ y xs h. nth-insert y xs n x h)

  pub distinct-insert_all : (ys xs : List A) → Distinct same xs → Distinct same (insert_all same ys xs)
  distinct-insert_all = insert_all-by (Distinct same) distinct-insert

  pub insert_all-has : (x : A) (ys xs : List A) → member same x ys ≡ true → member same x (insert_all same ys xs) ≡ true
  unfolding insert_all member
  insert_all-has x [] xs h = absurd (false≢true h)
  insert_all-has x (y ∷ ys) xs h =
      split (same y x)
      (λ p. member-insert_all x ys (insert same y xs) (subst (λ (z : A). member same x (insert same z xs) ≡ true) (sym (Q.equal y x p)) (insert-has x xs)))
      (λ p. insert_all-has x ys (insert same y xs) (rw p at h))

  pub index-insert_all : (x : A) (ys xs : List A) → member same x xs ≡ true → index same x (insert_all same ys xs) ≡ index same x xs
  unfolding insert_all
  index-insert_all x [] xs h = refl
  index-insert_all x (y ∷ ys) xs h = index-insert_all x ys (insert same y xs) (member-insert x y xs h) ∙ index-insert x y xs h

  pub all-insert_all : (P : A → Type 0) (ys xs : List A) → All P ys → All P xs → All P (insert_all same ys xs)
  unfolding insert_all
  all-insert_all P [] xs p q = q
  all-insert_all P (y ∷ ys) xs p q =
      all-insert_all P ys (insert same y xs) p.1
      (insert-by (All P) y xs (λ h. q) (λ h. all_append P xs (y ∷ []) q (p.0, tt)))
