-- The writes of an accepted edit are those of the definition. Assumes nothing.
use Rattle.std.specs.Prelude.{◌≡◌, true, leb, ℤ, length, set, take, drop}
use Rattle.std.proofs.Math.Path.{refl, ap}
use Rattle.std.proofs.Common.{sym, ◌∙◌, leb-true}
use Rattle.std.proofs.Math.Bool.{and-eq-true_iff}
use mathlib.Core.List.{List, [], ◌∷◌, map, map-append, append_assoc}
use Prim.Native.Nat.{ℕ, suc, ◌+◌, ◌-◌, ◌≤◌, ◌<◌}
use Rattle.std.proofs.Math.Nat.{sub-zero}
use Rattle.std.proofs.Math.Numerals.{add-one}
use native.Mathlib.Omega.{arith}
use Rattle.std.proofs.Math.ListN.{get_or, length-append}
use Rattle.std.proofs.lemmas.List.{length-map, set_at}
use Rattle.std.proofs.Math.Seq.{get_or-set_same, take-suc, drop-cons, length-take-le}
use Rattle.language.specs.Limits.{table_readings}
use Rattle.layout.specs.Links.{table_links, table_cells, links_with, cells_with}
use Rattle.layout.specs.Memory.{Memory, Node, fits, memory}
use Rattle.table.specs.Bind.{append, append_all}
use Rattle.layout.specs.Numbered.{numbered}
use Rattle.table.specs.RightLaws.{left-suc}
use Rattle.layout.specs.Held.{fresh_at}
use Rattle.table.specs.ChainLaws.{numbered-zero}
use Rattle.binder.specs.Written.{Whole, placed}

pub append-is : (heads links cells heads' links' cells' : List ℕ) (k : ℕ) (n : Node) → k ≡ get_or heads 0 0
    → links' ≡ links_with links k n.kind n.first n.second n.level → cells' ≡ cells_with cells k n.key
    → heads' ≡ set heads 0 (k + 1) → (readings : List ℤ) → memory readings heads' links' cells' ≡ append (memory readings heads links cells) n
unfolding append
append-is heads links cells heads' links' cells' k n q p c h readings = rw (h, p, c, q, add-one (get_or heads 0 0))

append-none : (m : Memory) → append_all m [] ≡ m
unfolding append_all
append-none m = refl

pub whole_is : (m : Memory) → fits m ≡ true → Whole m.heads m.links m.cells
unfolding fits
whole_is m e =
    let r = ((and-eq-true_iff (leb table_readings (length m.readings)) _).0 e).1 in
    let l = ((and-eq-true_iff (leb 2 (length m.heads)) _).0 r).1 in
    record {
      in-heads = leb-true 2 (length m.heads) ((and-eq-true_iff _ _).0 r).0;
      in-links = leb-true table_links (length m.links) ((and-eq-true_iff _ _).0 l).0;
      in_cells = leb-true table_cells (length m.cells) ((and-eq-true_iff (leb table_links (length m.links)) _).0 l).1;
    }

-- the loop over the entries that wait
abbrev pub Appends : List ℕ → ℕ → ℕ → List ℕ → List ℕ → List ℕ → List ℕ → List ℕ → List ℕ → Type 0
Appends fresh i n heads₀ links₀ cells₀ heads links cells =
    (readings : List ℤ) → append_all (memory readings heads links cells) (numbered (fresh_at fresh) i (n - i)) ≡ append_all (memory readings heads₀ links₀ cells₀) (numbered (fresh_at fresh) 0 n)

pub append-start : (fresh : List ℕ) (n : ℕ) (heads links cells : List ℕ) → Appends fresh 0 n heads links cells heads links cells
append-start fresh n heads links cells readings = rw sub-zero

module _ (fresh : List ℕ) (i n : ℕ) (heads₀ links₀ cells₀ heads links cells : List ℕ) (all : Appends fresh i n heads₀ links₀ cells₀ heads links cells) where
  pub append-go : (heads' links' cells' : List ℕ) (m : Node) → ((readings : List ℤ) → memory readings heads' links' cells' ≡ append (memory readings heads links cells) m)
      → m ≡ fresh_at fresh i → i < n → Appends fresh (i + 1) n heads₀ links₀ cells₀ heads' links' cells'
  unfolding append_all numbered
  append-go heads' links' cells' m e q h readings = rw (e readings, q) (sym (rw (left-suc n i h, add-one i)) ∙ all readings)

  pub append-end : n ≤ i → (readings : List ℤ) → memory readings heads links cells ≡ append_all (memory readings heads₀ links₀ cells₀) (numbered (fresh_at fresh) 0 n)
  append-end h readings = sym (none (n - i) (omega arith)) ∙ all readings
    where
      none : (k : ℕ) → k ≡ 0 → append_all (memory readings heads links cells) (numbered (fresh_at fresh) i k) ≡ memory readings heads links cells
      none k e = rw (e, numbered-zero (fresh_at fresh) i) (append-none (memory readings heads links cells))

  pub count-go : (heads' links' cells' : List ℕ) (m : Node) (count : ℕ) → ((readings : List ℤ) → memory readings heads' links' cells' ≡ append (memory readings heads links cells) m)
      → get_or heads 0 0 ≡ count + i → 0 < length heads → get_or heads' 0 0 ≡ count + (i + 1)
  unfolding append
  count-go heads' links' cells' m count e q l = ap (λ (x : Memory). get_or x.heads 0 0) (e []) ∙ get_or-set_same heads 0 (suc (get_or heads 0 0)) 0 l ∙ omega arith

-- the loop over the places
module _ (numbers parts places₀ : List ℕ) where
  pub placed-start : places₀ ≡ placed numbers (take 0 parts) places₀
  unfolding placed
  placed-start = refl

  pub placed_end : (p n : ℕ) (places : List ℕ) → places ≡ placed numbers (take p parts) places₀ → p ≤ n → n ≤ p → places ≡ placed numbers (take n parts) places₀
  placed_end p n places e h k = let q : p ≡ n = omega arith in rw q at e

  pub placed-go : (p : ℕ) (places : List ℕ) (v j : ℕ) → v ≡ get_or numbers j 0 → j ≡ get_or parts p 0 → places ≡ placed numbers (take p parts) places₀ → p < length parts → p < length places₀
      → set places p v ≡ placed numbers (take (p + 1) parts) places₀
  unfolding placed
  placed-go p places v j qv qj e hp hl =
      let q : v ≡ get_or numbers (get_or parts p 0) 0 = qv ∙ ap (λ (k : ℕ). get_or numbers k 0) qj in
      let f : ℕ → ℕ = λ j. get_or numbers j 0 in
      let n = length-take-le p parts (omega arith) in
      rw (e, add-one p, take-suc parts p 0 hp, map-append f (take p parts) (get_or parts p 0 ∷ []), length-append (take p parts) (get_or parts p 0 ∷ []), n, drop-cons places₀ p 0 hl)
      (set_at (map f (take p parts)) (get_or places₀ p 0) (drop (suc p) places₀) v p (length-map (take p parts) f ∙ n)
      ∙ rw (append_assoc, add-one p, q))
