-- The flags of a preview over any table: a dependency of a flagged entry is flagged. The pass goes down, so that an entry's flag is final when
-- its dependencies are flagged. Assumes nothing.
use Rattle.std.specs.Prelude.{◌≡◌, true, List, ◌⊎◌, leb, eqb, length, get_or, set, replicate}
use Rattle.std.proofs.Math.Path.{refl}
use Rattle.std.proofs.Common.{sym, ◌∙◌, inl, inr, leb-true, get_or-set_same, get_or-set_other}
use Rattle.std.proofs.Math.Bool.{and-eq-true_iff}
use Prim.Native.Nat.{ℕ, zero, suc, ◌-◌, ◌≤◌, ◌<◌}
use Rattle.std.proofs.Math.Decide.{dec_lt}
use native.Mathlib.Omega.{arith}
use Rattle.std.proofs.lemmas.Bool.{eqb-false}
use Rattle.std.proofs.Math.ListN.{length-set, length-replicate}
use Rattle.language.specs.Cases.{split}
use Rattle.language.specs.Limits.{table_entries}
use Rattle.layout.specs.Links.{first_at, second_at, is_below}
use Rattle.schedule.specs.Works.{raised, need_from, need_of}
use Rattle.refine.specs.Free.{dec_eq}

-- entry j is flagged
abbrev pub Flagged : List ℕ → ℕ → Type 0
Flagged flags j = get_or flags j 0 ≡ 1

-- one link
raised-size : (j link : ℕ) (flags : List ℕ) → length (raised j link flags) ≡ length flags
unfolding raised
raised-size j link flags = split (is_below link j) (λ e. rw e (length-set flags (link - 1) 1)) (λ e. rw e)

raised-above : (j link k : ℕ) (flags : List ℕ) → j ≤ k → get_or (raised j link flags) k 0 ≡ get_or flags k 0
unfolding raised
raised-above j link k flags h =
    split (is_below link j)
    (λ e. let b = (and-eq-true_iff (leb 1 link) _).0 e in rw e (get_or-set_other flags (link - 1) k 1 0 (λ q. omega (arith, leb-true 1 link b.0, leb-true link j b.1))))
    (λ e. rw e)

raised_keeps : (j link k : ℕ) (flags : List ℕ) → j ≤ length flags → Flagged flags k → Flagged (raised j link flags) k
unfolding raised
raised_keeps j link k flags h f =
    split (is_below link j)
    (λ e.
    let b = (and-eq-true_iff (leb 1 link) _).0 e in
    rw e
    (elim (dec_eq k (link - 1)) [
      | yes q ↦ rw q (get_or-set_same flags (link - 1) 1 0 (omega (arith, leb-true 1 link b.0, leb-true link j b.1)))
      | no q ↦ get_or-set_other flags (link - 1) k 1 0 q ∙ f
    ]))
    (λ e. rw e f)

raised-link : (j link : ℕ) (flags : List ℕ) → j ≤ length flags → is_below link j ≡ true → Flagged (raised j link flags) (link - 1)
unfolding raised
raised-link j link flags h e =
    let b = (and-eq-true_iff (leb 1 link) _).0 e in
    rw e (get_or-set_same flags (link - 1) 1 0 (omega (arith, leb-true 1 link b.0, leb-true link j b.1)))

-- the pass
module _ (links : List ℕ) where
  abbrev spread : ℕ → List ℕ → List ℕ
  spread j flags = raised j (second_at links j) (raised j (first_at links j) flags)

  spread-size : (j : ℕ) (flags : List ℕ) → length (spread j flags) ≡ length flags
  spread-size j flags = raised-size j (second_at links j) (raised j (first_at links j) flags) ∙ raised-size j (first_at links j) flags

  need-above : (j k : ℕ) (flags : List ℕ) → j ≤ k → get_or (need_from links j flags) k 0 ≡ get_or flags k 0
  unfolding need_from
  need-above zero k flags h = refl
  need-above (suc j) k flags h =
      split (eqb (get_or flags j 0) 1)
      (λ e. rw e
      (need-above j k (spread j flags) (omega arith)
      ∙ raised-above j (second_at links j) k (raised j (first_at links j) flags) (omega arith) ∙ raised-above j (first_at links j) k flags (omega arith)))
      (λ e. rw e (need-above j k flags (omega arith)))

  need-keeps : (j k : ℕ) (flags : List ℕ) → j ≤ length flags → Flagged flags k → Flagged (need_from links j flags) k
  unfolding need_from
  need-keeps zero k flags h f = f
  need-keeps (suc j) k flags h f =
      let s = spread-size j flags in
      let t = raised-size j (first_at links j) flags in
      split (eqb (get_or flags j 0) 1)
      (λ e. rw e
      (need-keeps j k (spread j flags) (omega arith)
      (raised_keeps j (second_at links j) k (raised j (first_at links j) flags) (omega arith) (raised_keeps j (first_at links j) k flags (omega arith) f))))
      (λ e. rw e (need-keeps j k flags (omega arith) f))

  abbrev Linked : ℕ → ℕ → Type 0
  Linked i link = (first_at links i ≡ link) ⊎ (second_at links i ≡ link)

  spread-link : (i link : ℕ) (flags : List ℕ) → i ≤ length flags → Linked i link → is_below link i ≡ true → Flagged (spread i flags) (link - 1)
  spread-link i link flags h (inl q) b =
      let t = raised-size i (first_at links i) flags in
      raised_keeps i (second_at links i) (link - 1) (raised i (first_at links i) flags) (omega arith) (rw q (raised-link i link flags h b))
  spread-link i link flags h (inr q) b = let t = raised-size i (first_at links i) flags in rw q (raised-link i link (raised i (first_at links i) flags) (omega arith) b)

  need-link : (j i link : ℕ) (flags : List ℕ) → j ≤ length flags → i < j → Linked i link → is_below link i ≡ true → Flagged (need_from links j flags) i → Flagged (need_from links j flags) (link - 1)
  unfolding need_from
  need-link zero i link flags h l q b = absurd (omega arith)
  need-link (suc j) i link flags h l q b =
      let s = spread-size j flags in
      split (eqb (get_or flags j 0) 1)
      (λ e. rw e (λ f.
      elim (dec_lt i j) [
        | yes less ↦ need-link j i link (spread j flags) (omega arith) less q b f
        | no most ↦ let z : i ≡ j = omega arith in need-keeps j (link - 1) (spread j flags) (omega arith) (spread-link j link flags (omega arith) (rw z at q) (rw z at b))
      ]))
      (λ e. rw e (λ f.
      elim (dec_lt i j) [
        | yes less ↦ need-link j i link flags (omega arith) less q b f
        | no most ↦
            let z : i ≡ j = omega arith in
            absurd (eqb-false (get_or flags j 0) 1 e (sym (need-above j j flags (omega arith)) ∙ rw z at f))
      ]))

  pub needed-link : (n i link : ℕ) → n < table_entries → i ≤ n → (first_at links i ≡ link) ⊎ (second_at links i ≡ link) → is_below link i ≡ true
      → Flagged (need_of links n) i → Flagged (need_of links n) (link - 1)
  unfolding need_of
  needed-link n i link h l q b f =
      let z = length-set {A = ℕ} (replicate table_entries 0) n 1 ∙ length-replicate {A = ℕ} table_entries 0 in
      need-link (suc n) i link (set (replicate table_entries 0) n 1) (omega arith) (omega arith) q b f
