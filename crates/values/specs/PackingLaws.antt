-- Packing loses nothing, and is_packed holds of exactly the cells that are packed values which may be kept. Each kind has a range of cells of
-- its own, so a cell's kind is told by comparisons, and its fields by division. Assumes nothing.
use Rattle.std.specs.Prelude.{◌≡◌, refl, Bool, true, false, ◌&&◌, ◌||◌, cond, ◌⊎◌, ◌↔◌, ℕ, suc, ◌+◌, ◌-◌, ◌*◌, ◌/◌, ◌%◌, ◌≤◌, ◌<◌, leb, ltb, eqb, ℤ, pos, nat_abs, ◌+ℤ◌, ◌-ℤ◌}
use Rattle.std.proofs.Common.{sym, ap, ◌∙◌, subst, inl, inr, ⊎_elim, arith}
use Rattle.std.proofs.Math.Bool.{and-false, or-false, and-eq-true_iff}
use borrow.Author.Tests.{lt-ltb, le-ltb, le-leb, lt-leb, ne_eqb, leb-true, ltb-true, ltb-false, eqb-true}
use Rattle.std.proofs.Math.IntN.{+ℤ-neg_ℤ_cancel, -ℤ-+ℤ_cancel}
use Rattle.std.specs.Int.Signed.{pos-nat_abs}
use Rattle.language.specs.Cases.{either}
use Rattle.rules.specs.declared.Value.{Value}
use Rattle.rules.specs.declared.Value.TheVariants.{Number, Window, Function, Delayed, Missing}
use Rattle.values.specs.Packing.{window_cell, function_cell, delayed_cell, missing_cell, pack_of, unpack_of, inside, is_packed}
use Rattle.values.specs.Ranges.{up-non_neg, up-size, down-range}
use Rattle.values.specs.Keepable.{Storable, Keepable}

-- ---- the ranges of cells

abbrev pub number_in : ℕ → ℤ
number_in c = pos ((c - 1) % 4294967296) -ℤ pos 2147483648

pub unpack-number : (c : ℕ) → c < window_cell → unpack_of c ≡ Number (number_in c)
unfolding unpack_of
unpack-number c h = simp (lt-ltb c window_cell h)

pub unpack-window : (c : ℕ) → window_cell ≤ c → c < function_cell → unpack_of c ≡ Window (c % window_cell / 65536 % 65536) (c % 65536)
unfolding unpack_of
unpack-window c h k = simp (le-ltb c window_cell h, lt-ltb c function_cell k)

module _ (c : ℕ) where
  after-window : function_cell ≤ c → unpack_of c ≡ cond (ltb c delayed_cell) Function (cond (ltb c missing_cell) Delayed (Missing (c % 256)))
  unfolding unpack_of
  after-window h = simp (le-ltb c window_cell (omega arith), le-ltb c function_cell h)

  pub unpack-function : function_cell ≤ c → c < delayed_cell → unpack_of c ≡ Function
  unpack-function h k = after-window h ∙ simp (lt-ltb c delayed_cell k)

  pub unpack-delayed : delayed_cell ≤ c → c < missing_cell → unpack_of c ≡ Delayed
  unpack-delayed h k = after-window (omega arith) ∙ simp (le-ltb c delayed_cell h, lt-ltb c missing_cell k)

  pub unpack-missing : missing_cell ≤ c → unpack_of c ≡ Missing (c % 256)
  unpack-missing h = after-window (omega arith) ∙ simp (le-ltb c delayed_cell (omega arith), le-ltb c missing_cell h)

-- ---- what was packed is unpacked

pub round : (v : Value) → Storable v → unpack_of (pack_of v) ≡ v
round (Number z) h =
    let n = nat_abs (z +ℤ pos 2147483648) in
    let e : (suc n - 1) % 4294967296 ≡ n = omega (arith, up-size 2147483648 z h) in
    unpack-number (suc n) (omega (arith, up-size 2147483648 z h))
    ∙ ap (λ (k : ℕ). Number (pos k -ℤ pos 2147483648)) e
    ∙ ap (λ (y : ℤ). Number (y -ℤ pos 2147483648)) (pos-nat_abs (z +ℤ pos 2147483648) (up-non_neg 2147483648 z h))
    ∙ ap Number (+ℤ-neg_ℤ_cancel z (pos 2147483648))
round (Window s l) h =
    let c = window_cell + (s * 65536 + l) in
    let a : c % window_cell / 65536 % 65536 ≡ s = omega arith in
    let b : c % 65536 ≡ l = omega arith in
    unpack-window c (omega arith) (omega arith) ∙ (λ i. Window (a i) (b i))
round Function h = unpack-function function_cell (omega arith) (omega arith)
round Delayed h = unpack-delayed delayed_cell (omega arith) (omega arith)
round (Missing r) h =
    let e : (missing_cell + r) % 256 ≡ r = omega arith in
    unpack-missing (missing_cell + r) (omega arith) ∙ ap Missing e

-- 0 is no packed value
pub packed_above : (v : Value) → 1 ≤ pack_of v
packed_above (Number z) = omega arith
packed_above (Window s l) = omega arith
packed_above Function = omega arith
packed_above Delayed = omega arith
packed_above (Missing r) = omega arith

-- ---- the test, by the ranges of cells

module _ (c n : ℕ) where
  pub test-number : c < window_cell → (leb 1 c && leb c 4294967296) ≡ is_packed c n
  unfolding is_packed
  test-number h =
      simp (lt-leb window_cell c h, ne_eqb c function_cell (λ e. omega arith), ne_eqb c delayed_cell (λ e. omega arith), lt-leb (suc missing_cell) c (omega arith), or-false)

  pub test-window : window_cell ≤ c → c < function_cell → (ltb c (window_cell + 4294967296) && inside (c - window_cell) n) ≡ is_packed c n
  unfolding is_packed
  test-window h k =
      simp (
        lt-leb c 4294967296 (omega arith),
        le-leb window_cell c h,
        ne_eqb c function_cell (λ e. omega arith),
        ne_eqb c delayed_cell (λ e. omega arith),
        lt-leb (suc missing_cell) c (omega arith),
        and-false,
        or-false,
      )

  pub test-between : function_cell ≤ c → c < missing_cell → (eqb c function_cell || eqb c delayed_cell) ≡ is_packed c n
  unfolding is_packed
  test-between h k =
      simp (lt-leb c 4294967296 (omega arith), le-ltb c (window_cell + 4294967296) (omega arith), lt-leb (suc missing_cell) c (omega arith), and-false, or-false)

  pub test-missing : missing_cell ≤ c → (leb (suc missing_cell) c && leb c (missing_cell + 5)) ≡ is_packed c n
  unfolding is_packed
  test-missing h =
      simp (lt-leb c 4294967296 (omega arith), le-ltb c (window_cell + 4294967296) (omega arith), ne_eqb c function_cell (λ e. omega arith), ne_eqb c delayed_cell (λ e. omega arith), and-false)

-- ---- a packed value that may be kept passes

pub kept-passes : (n : ℕ) (v : Value) → Keepable n v → is_packed (pack_of v) n ≡ true
kept-passes n (Number z) k =
    let c = pack_of (Number z) in
    sym (test-number c n (omega (arith, up-size 2147483648 z k.held)))
    ∙ simp (le-leb 1 c (omega arith), le-leb c 4294967296 (omega (arith, up-size 2147483648 z k.held)))
kept-passes n (Window s l) k =
    let c = pack_of (Window s l) in
    let h = k.held in
    let i : (c - window_cell) / 65536 + (c - window_cell) % 65536 ≤ n = omega (arith, k.inside) in
    sym (test-window c n (omega arith) (omega arith)) ∙ simp (lt-ltb c (window_cell + 4294967296) (omega arith), le-leb _ n i)
kept-passes n Function k = sym (test-between function_cell n (omega arith) (omega arith))
kept-passes n Delayed k = sym (test-between delayed_cell n (omega arith) (omega arith))
kept-passes n (Missing r) k =
    let c = pack_of (Missing r) in
    let q = k.reasoned in
    sym (test-missing c n (omega arith)) ∙ simp (le-leb (suc missing_cell) c (omega arith), le-leb c (missing_cell + 5) (omega arith))

-- ---- a cell that passes is such a value, packed

split : (a b : ℕ) → (a < b) ⊎ (b ≤ a)
split a b = go (ltb a b) refl
  where
    go : (t : Bool) → ltb a b ≡ t → (a < b) ⊎ (b ≤ a)
    go true e = inl (ltb-true a b e)
    go false e = inr (ltb-false a b e)

start_of : (c : ℕ) → window_cell ≤ c → c < window_cell + 4294967296 → c % window_cell / 65536 % 65536 ≡ (c - window_cell) / 65536
start_of c h k = omega arith

length-of : (c : ℕ) → window_cell ≤ c → c % 65536 ≡ (c - window_cell) % 65536
length-of c h = omega arith

pub record Packs (n c : ℕ) : Type 0 where
  pub kept : Keepable n (unpack_of c)
  pub again : pack_of (unpack_of c) ≡ c

module _ (n c : ℕ) where
  packs : (v : Value) → unpack_of c ≡ v → Keepable n v → pack_of v ≡ c → Packs n c
  packs v e k q = record { kept = subst (Keepable n) (sym e) k; again = ap pack_of e ∙ q }

  packs-number : (leb 1 c && leb c 4294967296) ≡ true → Packs n c
  packs-number e =
      let low : 1 ≤ c = leb-true 1 c ((and-eq-true_iff (leb 1 c) (leb c 4294967296)).0 e).0 in
      let high : c ≤ 4294967296 = leb-true c 4294967296 ((and-eq-true_iff (leb 1 c) (leb c 4294967296)).0 e).1 in
      let back : suc ((c - 1) % 4294967296) ≡ c = omega arith in
      packs (Number (number_in c)) (unpack-number c (omega arith))
      (record { held = down-range 2147483648 ((c - 1) % 4294967296) (omega arith); inside = tt; reasoned = tt })
      (ap (λ (y : ℤ). suc (nat_abs y)) (-ℤ-+ℤ_cancel (pos ((c - 1) % 4294967296)) (pos 2147483648)) ∙ back)

  packs-window : window_cell ≤ c → (ltb c (window_cell + 4294967296) && inside (c - window_cell) n) ≡ true → Packs n c
  packs-window low e =
      let t = (and-eq-true_iff (ltb c (window_cell + 4294967296)) (inside (c - window_cell) n)).0 e in
      let high : c < window_cell + 4294967296 = ltb-true c (window_cell + 4294967296) t.0 in
      let i : (c - window_cell) / 65536 + (c - window_cell) % 65536 ≤ n = leb-true _ n t.1 in
      packs (Window (c % window_cell / 65536 % 65536) (c % 65536)) (unpack-window c low (omega arith))
      (record { held = (omega arith, omega arith); inside = rw (start_of c low high, length-of c low) i; reasoned = tt }) (omega arith)

  packs-between : (eqb c function_cell || eqb c delayed_cell) ≡ true → Packs n c
  packs-between e =
      either (eqb c function_cell) (eqb c delayed_cell) e
      (λ t. let q = eqb-true c function_cell t in packs Function (ap unpack_of q ∙ round Function tt) (record { held = tt; inside = tt; reasoned = tt }) (sym q))
      (λ t. let q = eqb-true c delayed_cell t in packs Delayed (ap unpack_of q ∙ round Delayed tt) (record { held = tt; inside = tt; reasoned = tt }) (sym q))

  packs-missing : (leb (suc missing_cell) c && leb c (missing_cell + 5)) ≡ true → Packs n c
  packs-missing e =
      let low : suc missing_cell ≤ c = leb-true (suc missing_cell) c ((and-eq-true_iff (leb (suc missing_cell) c) (leb c (missing_cell + 5))).0 e).0 in
      let high : c ≤ missing_cell + 5 = leb-true c (missing_cell + 5) ((and-eq-true_iff (leb (suc missing_cell) c) (leb c (missing_cell + 5))).0 e).1 in
      packs (Missing (c % 256)) (unpack-missing c (omega arith))
      (record { held = omega arith; inside = tt; reasoned = (omega arith, omega arith) }) (omega arith)

  pub passes-packs : is_packed c n ≡ true → Packs n c
  passes-packs e =
      ⊎_elim (λ a. packs-number (test-number c n a ∙ e))
      (λ a. ⊎_elim (λ b. packs-window a (test-window c n a b ∙ e))
      (λ b. ⊎_elim (λ d. packs-between (test-between c n b d ∙ e)) (λ d. packs-missing (test-missing c n d ∙ e)) (split c missing_cell)) (split c function_cell)) (split c window_cell)

  -- exactly the packed values that may be kept
  pub packed-exactly : (is_packed c n ≡ true) ↔ ((v : Value) × Keepable n v × (c ≡ pack_of v))
  packed-exactly = (
    λ e. (unpack_of c, (passes-packs e).kept, sym (passes-packs e).again),
    λ p. ap (λ (k : ℕ). is_packed k n) p.2 ∙ kept-passes n p.0 p.1,
  )
