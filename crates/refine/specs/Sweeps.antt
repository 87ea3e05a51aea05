-- The list that a run works out again: rising, of entries that move, and with every moving entry that the body sees. Assumes nothing.
use Rattle.std.proofs.Math.Path.{◌≡◌, refl, sym, subst}
use Rattle.std.proofs.Common.{◌∙◌, get_or-set_same}
use Rattle.std.specs.Prelude.{◌⊎◌, true, ◌&&◌, eqb, set, replicate}
use Rattle.std.proofs.Math.Logic.{inl, inr, ⊎_elim}
use Rattle.std.proofs.Math.Bool.{and-eq-true_iff}
use mathlib.Core.List.{List, [], ◌∷◌}
use Prim.Native.Nat.{ℕ, zero, suc, ◌-◌, ◌≤◌, ◌<◌}
use native.Mathlib.Omega.{arith}
use Rattle.std.proofs.Math.Decide.{dec_lt}
use borrow.Author.Tests.{eq-eqb, eqb-true, eqb-false, le-leb}
use Rattle.std.proofs.Math.ListN.{length, get_or, length-set, length-replicate}
use Rattle.std.proofs.Math.Seq.{get_or-set_other}
use Rattle.language.specs.Cases.{split}
use Rattle.language.specs.Limits.{table_entries}
use Rattle.layout.specs.Links.{first_at, second_at, is_below}
use Rattle.evaluator.specs.Reach.{moves, flagged, spread, gather_from, gathered}
use Rattle.refine.specs.Free.{dec_eq}
use Rattle.refine.specs.Tables.{Link}

abbrev pub In : ℕ → List ℕ → Type 0
In m [] = ⊥
In m (j ∷ js) = (m ≡ j) ⊎ In m js

abbrev pub Rising : ℕ → List ℕ → Type 0
Rising k [] = Unit {0}
Rising k (j ∷ js) = (k ≤ j) × Rising (suc j) js

rising-less : (k l : ℕ) (js : List ℕ) → k ≤ l → Rising l js → Rising k js
rising-less k l [] h r = tt
rising-less k l (j ∷ js) h r = (omega arith, r.1)

pub rising-above : (k m : ℕ) (js : List ℕ) → Rising k js → In m js → k ≤ m
rising-above k m [] r i = absurd i
rising-above k m (j ∷ js) r i = ⊎_elim (λ e. omega (arith, r.0)) (λ t. omega (arith, r.0, rising-above (suc j) m js r.1 t)) i

module _ (links waits : List ℕ) (v : ℕ) where
  flagged-size : (j link : ℕ) (flags : List ℕ) → length flags ≡ table_entries → length (flagged waits v j link flags) ≡ table_entries
  unfolding flagged
  flagged-size j link flags l = split (is_below link j && moves waits v (link - 1)) (λ p. rw p (length-set flags (link - 1) 1 ∙ l)) (λ p. rw p l)

  flagged-keeps : (j link : ℕ) (flags : List ℕ) (m : ℕ) → length flags ≡ table_entries → get_or flags m 0 ≡ 1
      → get_or (flagged waits v j link flags) m 0 ≡ 1
  unfolding flagged
  flagged-keeps j link flags m l e =
      split (is_below link j && moves waits v (link - 1))
      (λ p. rw p (elim (dec_eq m (link - 1)) [
        | yes q ↦ let inside : m < length flags = small in subst (λ (k : ℕ). get_or (set flags k 1) m 0 ≡ 1) q (get_or-set_same flags m 1 0 inside)
        | no q ↦ get_or-set_other flags (link - 1) m 1 0 q ∙ e
      ]))
      (λ p. rw p e)
    where
      small : m < length flags
      small = elim (dec_lt m (length flags)) [
        | yes h ↦ h
        | no h ↦ absurd (omega (arith, sym (past flags m (omega arith)) ∙ e))
      ]
        where
          past : (l : List ℕ) (k : ℕ) → length l ≤ k → get_or l k 0 ≡ 0
          past [] k h = refl
          past (x ∷ xs) zero h = absurd (omega arith)
          past (x ∷ xs) (suc k) h = past xs k (omega arith)

  flagged-sets : (j d : ℕ) (flags : List ℕ) → length flags ≡ table_entries → j ≤ table_entries → d < j → moves waits v d ≡ true
      → get_or (flagged waits v j (suc d) flags) d 0 ≡ 1
  unfolding flagged
  flagged-sets j d flags l h k m =
      let q : suc d - 1 ≡ d = omega arith in
      rw (le-leb 1 (suc d) (omega arith), le-leb (suc d) j k, q, m) (get_or-set_same flags d 1 0 (omega arith))

  flagged-moves : (j link : ℕ) (flags : List ℕ) → ((m : ℕ) → get_or flags m 0 ≡ 1 → moves waits v m ≡ true) → (m : ℕ) → get_or (flagged waits v j link flags) m 0 ≡ 1 → moves waits v m ≡ true
  unfolding flagged
  flagged-moves j link flags all m e =
      split (is_below link j && moves waits v (link - 1))
      (λ p. elim (dec_eq m (link - 1)) [
        | yes q ↦ subst (λ (k : ℕ). moves waits v k ≡ true) (sym q) ((and-eq-true_iff (is_below link j) _).0 p).1
        | no q ↦ all m (sym (get_or-set_other flags (link - 1) m 1 0 q) ∙ (rw p at e))
      ])
      (λ p. all m (rw p at e))

  spread-size : (j : ℕ) (flags : List ℕ) → length flags ≡ table_entries → length (spread links waits v j flags) ≡ table_entries
  unfolding spread
  spread-size j flags l = flagged-size j (second_at links j) _ (flagged-size j (first_at links j) flags l)

  spread-keeps : (j : ℕ) (flags : List ℕ) (m : ℕ) → length flags ≡ table_entries → get_or flags m 0 ≡ 1 → get_or (spread links waits v j flags) m 0 ≡ 1
  unfolding spread
  spread-keeps j flags m l e = flagged-keeps j (second_at links j) _ m (flagged-size j (first_at links j) flags l) (flagged-keeps j (first_at links j) flags m l e)

  spread-sets : (j d : ℕ) (flags : List ℕ) → length flags ≡ table_entries → j ≤ table_entries → Link links j d → moves waits v d ≡ true
      → get_or (spread links waits v j flags) d 0 ≡ 1
  unfolding spread
  spread-sets j d flags l h k m =
      ⊎_elim
      (λ e. flagged-keeps j (second_at links j) _ d (flagged-size j (first_at links j) flags l) (rw e (flagged-sets j d flags l h k.0 m)))
      (λ e. rw e (flagged-sets j d _ (flagged-size j (first_at links j) flags l) h k.0 m))
      k.1

  spread-moves : (j : ℕ) (flags : List ℕ) → ((m : ℕ) → get_or flags m 0 ≡ 1 → moves waits v m ≡ true) → (m : ℕ) → get_or (spread links waits v j flags) m 0 ≡ 1 → moves waits v m ≡ true
  unfolding spread
  spread-moves j flags all = flagged-moves j (second_at links j) _ (flagged-moves j (first_at links j) flags all)

  abbrev out : ℕ → List ℕ → List ℕ → List ℕ
  out j flags acc = gather_from links waits v j flags acc

  -- what the list has is kept
  keeps : (j : ℕ) (flags acc : List ℕ) (m : ℕ) → In m acc → In m (out j flags acc)
  unfolding gather_from
  keeps zero flags acc m i = i
  keeps (suc j) flags acc m i = split (eqb (get_or flags j 0) 1) (λ p. rw p (keeps j _ (j ∷ acc) m (inr i))) (λ p. rw p (keeps j flags acc m i))

  flag-in : (j : ℕ) (flags acc : List ℕ) (m : ℕ) → length flags ≡ table_entries → m < j → get_or flags m 0 ≡ 1 → In m (out j flags acc)
  unfolding gather_from
  flag-in zero flags acc m l h e = absurd (omega arith)
  flag-in (suc j) flags acc m l h e = elim (dec_lt m j) [
    | yes k ↦ split (eqb (get_or flags j 0) 1) (λ p. rw p (flag-in j _ (j ∷ acc) m (spread-size j flags l) k (spread-keeps j flags m l e))) (λ p. rw p (flag-in j flags acc m l k e))
    | no k ↦ let q : m ≡ j = omega arith in let t : get_or flags j 0 ≡ 1 = subst (λ (x : ℕ). get_or flags x 0 ≡ 1) q e in rw (eq-eqb _ _ t) (keeps j _ (j ∷ acc) m (inl q))
  ]

  -- with an entry it has the moving dependencies of the entry
  abbrev Closed : ℕ → List ℕ → List ℕ → Type 0
  Closed j flags acc = (p d : ℕ) → In p acc → Link links p d → moves waits v d ≡ true → In d acc ⊎ ((d < j) × (get_or flags d 0 ≡ 1))

  closes : (j : ℕ) (flags acc : List ℕ) → length flags ≡ table_entries → j ≤ table_entries → Closed j flags acc → (p d : ℕ) → In p (out j flags acc)
      → Link links p d → moves waits v d ≡ true → In d (out j flags acc)
  unfolding gather_from
  closes zero flags acc l h c p d = λ i k m. ⊎_elim (λ t. t) (λ t. absurd (omega (arith, t.0))) (c p d i k m)
  closes (suc j) flags acc l h c p d =
      split (eqb (get_or flags j 0) 1)
      (λ t. rw t (closes j (spread links waits v j flags) (j ∷ acc) (spread-size j flags l) (omega arith) (λ p d i k m.
      ⊎_elim
      (λ e. let k' = subst (λ (x : ℕ). Link links x d) e k in inr (k'.0, spread-sets j d flags l (omega arith) k' m))
      (λ i'. ⊎_elim (λ u. inl (inr u)) (λ u. elim (dec_lt d j) [
        | yes s ↦ inr (s, spread-keeps j flags d l u.1)
        | no s ↦ inl (inl (omega (arith, u.0)))
      ]) (c p d i' k m)) i) p d))
      (λ t. rw t (closes j flags acc l (omega arith) (λ p d i k m.
      ⊎_elim (λ u. inl u) (λ u. elim (dec_lt d j) [
        | yes s ↦ inr (s, u.1)
        | no s ↦ let q : d ≡ j = omega (arith, u.0) in absurd (eqb-false _ _ t (subst (λ (x : ℕ). get_or flags x 0 ≡ 1) q u.1))
      ]) (c p d i k m)) p d))

  all-move : (j : ℕ) (flags acc : List ℕ) → ((m : ℕ) → get_or flags m 0 ≡ 1 → moves waits v m ≡ true) → ((m : ℕ) → In m acc → moves waits v m ≡ true)
      → (m : ℕ) → In m (out j flags acc) → moves waits v m ≡ true
  unfolding gather_from
  all-move zero flags acc f a m = a m
  all-move (suc j) flags acc f a m =
      split (eqb (get_or flags j 0) 1)
      (λ p. rw p (all-move j _ (j ∷ acc) (spread-moves j flags f) (λ k i. ⊎_elim (λ e. subst (λ (x : ℕ). moves waits v x ≡ true) (sym e) (f j (eqb-true _ _ p))) (λ t. a k t) i) m))
      (λ p. rw p (all-move j flags acc f a m))

  rises : (j : ℕ) (flags acc : List ℕ) → Rising j acc → Rising 0 (out j flags acc)
  unfolding gather_from
  rises zero flags acc r = r
  rises (suc j) flags acc r = split (eqb (get_or flags j 0) 1) (λ p. rw p (rises j _ (j ∷ acc) (omega arith, r))) (λ p. rw p (rises j flags acc (rising-less j (suc j) acc (omega arith) r)))

  lies : (j top : ℕ) (flags acc : List ℕ) → j ≤ top → ((m : ℕ) → In m acc → m < top) → (m : ℕ) → In m (out j flags acc) → m < top
  unfolding gather_from
  lies zero top flags acc h a m = a m
  lies (suc j) top flags acc h a m =
      split (eqb (get_or flags j 0) 1)
      (λ p. rw p (lies j top _ (j ∷ acc) (omega arith) (λ k i. ⊎_elim (λ e. omega arith) (λ t. a k t) i) m))
      (λ p. rw p (lies j top flags acc (omega arith) a m))

  -- of the whole list
  module _ (body : ℕ) (few : body < table_entries) where
    start : List ℕ
    start = set (replicate table_entries 0) body 1

    start-size : length start ≡ table_entries
    unfolding start
    start-size = length-set (replicate table_entries 0) body 1 ∙ length-replicate {A = ℕ} table_entries 0

    start-only : (m : ℕ) → get_or start m 0 ≡ 1 → m ≡ body
    unfolding start
    start-only m e = elim (dec_eq m body) [
      | yes q ↦ q
      | no q ↦ absurd (omega (arith, sym (get_or-set_other (replicate table_entries 0) body m 1 0 q ∙ zeros table_entries m) ∙ e))
    ]
      where
        zeros : (k m : ℕ) → ◌≡◌ {A = ℕ} (get_or (replicate k 0) m 0) 0
        zeros zero m = refl
        zeros (suc k) zero = refl
        zeros (suc k) (suc m) = zeros k m

    pub list-moves : (m : ℕ) → In m (gathered links waits v body) → moves waits v m ≡ true
    unfolding gathered start
    list-moves m = split (moves waits v body)
        (λ p. rw p (all-move (suc body) start [] (λ k e. subst (λ (x : ℕ). moves waits v x ≡ true) (sym (start-only k e)) p) (λ k i. absurd i) m))
        (λ p. rw p (λ i. absurd i))

    pub list-rises : Rising 0 (gathered links waits v body)
    unfolding gathered
    list-rises = split (moves waits v body) (λ p. rw p (rises (suc body) _ [] tt)) (λ p. rw p tt)

    pub list-low : (m : ℕ) → In m (gathered links waits v body) → m < suc body
    unfolding gathered
    list-low m = split (moves waits v body) (λ p. rw p (lies (suc body) (suc body) _ [] (omega arith) (λ k i. absurd i) m)) (λ p. rw p (λ i. absurd i))

    pub list-top : moves waits v body ≡ true → In body (gathered links waits v body)
    unfolding gathered start
    list-top p =
        rw p (flag-in (suc body) start [] body start-size (omega arith)
        (get_or-set_same (replicate table_entries 0) body 1 0 (rw (length-replicate {A = ℕ} table_entries 0) few)))

    pub list-down : (p d : ℕ) → In p (gathered links waits v body) → Link links p d → moves waits v d ≡ true → In d (gathered links waits v body)
    unfolding gathered start
    list-down p d = split (moves waits v body) (λ q. rw q (closes (suc body) start [] start-size (omega arith) (λ p d i k m. absurd i) p d)) (λ q. rw q (λ i. absurd i))
