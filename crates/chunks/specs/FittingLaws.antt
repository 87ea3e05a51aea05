-- What a map says of a list that fits it: each entry has a column of its own, which only entries before it and constants go into. Assumes
-- nothing.
use Rattle.std.specs.Prelude.{◌≡◌, refl, true, leb, ltb, eqb, length, get_or, set}
use Rattle.std.proofs.Common.{sym, ap, ◌∙◌, ltb-true, ltb-false, leb-true, eqb-true, length-set, get_or-set_same, get_or-set_other}
use Rattle.std.proofs.Math.Bool.{and-eq-true_iff}
use mathlib.Core.List.{List, [], ◌∷◌}
use Prim.Native.Nat.{ℕ, zero, suc, ◌+◌, ◌-◌, ◌≤◌, ◌<◌}
use Rattle.std.proofs.Math.Nat.{zero-add}
use native.Mathlib.Omega.{arith}
use Rattle.std.proofs.lemmas.Bool.{eqb-false}
use Rattle.std.proofs.Math.Seq.{set_out}
use Rattle.language.specs.Cases.{split}
use Rattle.language.specs.Limits.{table_entries}
use Rattle.layout.specs.Links.{kind_at, first_at, second_at, is_below}
use Rattle.chunks.specs.Rows.{settles, is_plain, are_plain}
use Rattle.chunks.specs.Fitting.{placed_of, is_there, fit_of, fits_of}
use Rattle.chunks.specs.Chunks.{Fitted}

-- entry j is the column that is marked m
pub record Fit (links map : List ℕ) (body m j : ℕ) : Type 0 where
  pub low : j ≤ body
  pub member : settles (kind_at links j) ≡ true
  pub first : is_below (first_at links j) j ≡ true
  pub mark : get_or map j 0 ≡ m
  pub receiver : is_there (get_or map (first_at links j - 1) 0) m ≡ true
  pub argument : is_below (second_at links j) j ≡ true → is_there (get_or map (second_at links j - 1) 0) m ≡ true

pub fit-holds : (links map : List ℕ) (body m j : ℕ) → fit_of links map body m j ≡ true → Fit links map body m j
unfolding fit_of
fit-holds links map body m j e =
    let plain = (and-eq-true_iff (is_plain links body j) _).0 e in
    let low = (and-eq-true_iff (leb j body) _).0 plain.0 in
    let member = (and-eq-true_iff (settles (kind_at links j)) _).0 low.1 in
    let mark = (and-eq-true_iff (eqb (get_or map j 0) m) _).0 plain.1 in
    let there = (and-eq-true_iff (is_there (get_or map (first_at links j - 1) 0) m) _).0 mark.1 in
    record {
      low = leb-true j body low.0;
      member = member.0;
      first = member.1;
      mark = eqb-true (get_or map j 0) m mark.0;
      receiver = there.0;
      argument = λ b. rw b at there.1;
    }

-- what fits, entry by entry and for the body
module _ (links map : List ℕ) (body : ℕ) where
  fits-at : (m : ℕ) (list : List ℕ) → fits_of links map body m list ≡ true → (k : ℕ) → k < length list → fit_of links map body (k + m) (get_or list k 0) ≡ true
  unfolding fits_of
  fits-at m [] e k h = absurd (omega arith)
  fits-at m (j ∷ js) e zero h = rw zero-add ((and-eq-true_iff (fit_of links map body m j) _).0 e).0
  fits-at m (j ∷ js) e (suc k) h =
      let q : suc k + m ≡ k + suc m = omega arith in
      rw q (fits-at (suc m) js ((and-eq-true_iff (fit_of links map body m j) _).0 e).1 k (omega arith))

  fits-body : (m : ℕ) (list : List ℕ) → fits_of links map body m list ≡ true → leb 2 (get_or map body 0) ≡ true
  unfolding fits_of
  fits-body m [] e = e
  fits-body m (j ∷ js) e = fits-body (suc m) js ((and-eq-true_iff (fit_of links map body m j) _).0 e).1

-- a cell after one write: what was written, or what it was
set-cell : {A : Type 0} (marks : List ℕ) (j m d : ℕ) → (d ≡ j → get_or (set marks j m) d 0 ≡ m → A) → (get_or (set marks j m) d 0 ≡ get_or marks d 0 → A) → A
set-cell marks j m d written kept =
    split (eqb d j)
    (λ e.
    let q : d ≡ j = eqb-true d j e in
    split (ltb j (length marks)) (λ l. written q (rw q (get_or-set_same marks j m 0 (ltb-true j (length marks) l))))
    (λ l. kept (ap (λ (xs : List ℕ). get_or xs d 0) (set_out marks j m (ltb-false j (length marks) l)))))
    (λ e. kept (get_or-set_other marks j d m 0 (eqb-false d j e)))

-- what a cell of the map can be: the variable's, as it was marked before, or that of an entry of the list
data Cell (v m : ℕ) (list marks : List ℕ) (d c : ℕ) : Type 0 where
  its_own : d ≡ v - 1 → c ≡ 2 → Cell v m list marks d c
  as_before : c ≡ get_or marks d 0 → Cell v m list marks d c
  listed : (i : ℕ) → i < length list → get_or list i 0 ≡ d → c ≡ i + m → Cell v m list marks d c

cell-more : (v m j : ℕ) (js marks : List ℕ) (d c : ℕ) → Cell v (suc m) js (set marks j m) d c → Cell v m (j ∷ js) marks d c
cell-more v m j js marks d c (its_own q e) = its_own q e
cell-more v m j js marks d c (as_before e) = set-cell marks j m d (λ q w. listed 0 (omega arith) (sym q) (omega arith)) (λ w. as_before (e ∙ w))
cell-more v m j js marks d c (listed i h q e) = listed (suc i) (omega arith) q (omega arith)

cell : (v m : ℕ) (list marks : List ℕ) (d : ℕ) → Cell v m list marks d (get_or (placed_of v m list marks) d 0)
unfolding placed_of
cell v m [] marks d = set-cell marks (v - 1) 2 d its_own as_before
cell v m (j ∷ js) marks d = cell-more v m j js marks d _ (cell v (suc m) js (set marks j m) d)

placed-size : (v m : ℕ) (list marks : List ℕ) → length (placed_of v m list marks) ≡ length marks
unfolding placed_of
placed-size v m [] marks = length-set marks (v - 1) 2
placed-size v m (j ∷ js) marks = placed-size v (suc m) js (set marks j m) ∙ length-set marks j m

placed-own : (v m : ℕ) (list marks : List ℕ) → v - 1 < length marks → get_or (placed_of v m list marks) (v - 1) 0 ≡ 2
unfolding placed_of
placed-own v m [] marks h = get_or-set_same marks (v - 1) 2 0 h
placed-own v m (j ∷ js) marks h = placed-own v (suc m) js (set marks j m) (omega (arith, length-set marks j m))

-- column 0 is the variable's, and each other column that of an entry of the list
pub record Mapped (links list : List ℕ) (v body : ℕ) (map : List ℕ) : Type 0 where
  pub size : length map ≡ table_entries
  pub own : get_or map (v - 1) 0 ≡ 2
  pub variable : (d : ℕ) → get_or map d 0 ≡ 2 → d ≡ v - 1
  pub entry : (k : ℕ) → k < length list → Fit links map body (k + 3) (get_or list k 0)
  pub few : (d : ℕ) → 3 ≤ get_or map d 0 → get_or map d 0 - 3 < length list
  pub only : (d : ℕ) → 3 ≤ get_or map d 0 → get_or list (get_or map d 0 - 3) 0 ≡ d
  pub body-there : 2 ≤ get_or map body 0

-- the same of a cell alone, where no mark before was a column
module _ (v : ℕ) (list marks : List ℕ) (d c : ℕ) (low : get_or marks d 0 ≤ 1) where
  cell-variable : Cell v 3 list marks d c → c ≡ 2 → d ≡ v - 1
  cell-variable (its_own q e) h = q
  cell-variable (as_before e) h = absurd (omega arith)
  cell-variable (listed i l q e) h = absurd (omega arith)

  cell-few : Cell v 3 list marks d c → 3 ≤ c → c - 3 < length list
  cell-few (its_own q e) h = absurd (omega arith)
  cell-few (as_before e) h = absurd (omega arith)
  cell-few (listed i l q e) h = omega arith

  cell-only : Cell v 3 list marks d c → 3 ≤ c → get_or list (c - 3) 0 ≡ d
  cell-only (its_own q e) h = absurd (omega arith)
  cell-only (as_before e) h = absurd (omega arith)
  cell-only (listed i l q e) h =
      let k : c - 3 ≡ i = omega arith in
      rw k q

pub mapped : (links list : List ℕ) (v body : ℕ) (map : List ℕ) → Fitted links list v body map → Mapped links list v body map
mapped links list v body map f =
    let marks : List ℕ = f.marks in
    let at : (d : ℕ) → Cell v 3 list marks d (get_or map d 0) = λ d. rw f.placed (cell v 3 list marks d) in
    record {
      size = rw f.placed (placed-size v 3 list marks ∙ f.none.size);
      own = rw f.placed (placed-own v 3 list marks (omega (arith, f.none.size, f.some, f.few)));
      variable = λ d. cell-variable v list marks d (get_or map d 0) (f.none.none d) (at d);
      entry = λ k h. fit-holds links map body (k + 3) (get_or list k 0) (fits-at links map body 3 list f.fits k h);
      few = λ d. cell-few v list marks d (get_or map d 0) (f.none.none d) (at d);
      only = λ d. cell-only v list marks d (get_or map d 0) (f.none.none d) (at d);
      body-there = leb-true 2 (get_or map body 0) (fits-body links map body 3 list f.fits);
    }

pub plain : (links map : List ℕ) (body m : ℕ) (list : List ℕ) → fits_of links map body m list ≡ true → are_plain links body list ≡ true
unfolding fits_of fit_of are_plain
plain links map body m [] e = refl
plain links map body m (j ∷ js) e =
    let both = (and-eq-true_iff (fit_of links map body m j) _).0 e in
    (and-eq-true_iff (is_plain links body j) _).1 (((and-eq-true_iff (is_plain links body j) _).0 both.0).0, plain links map body (suc m) js both.1)
