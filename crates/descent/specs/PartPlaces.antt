-- A tree has a place for each of its parts. Assumes nothing.
use Rattle.std.specs.Prelude.{◌≡◌, refl, List, [], ◌∷◌, ◌++◌, ℕ, zero, suc, ◌+◌, length}
use Rattle.std.proofs.lemmas.Bool.{cond_both}
use Rattle.std.proofs.Common.{arith, length-append}
use Rattle.language.specs.Names.{same_name, is_data}
use Rattle.grammar.specs.Grammar.{Expression, Calls, Arguments, More, let_in, lambda, name, literal, bracket, done, call, none, first, last, next}
use Rattle.grammar.specs.KeptLimits.{parts_e, parts_c, parts_a, parts_m}
use Rattle.meaning.specs.Binding.{member}
use Rattle.layout.specs.Memory.{Node, node}
use Rattle.layout.specs.Nodes.{number_kind, readings_kind, member_kind}
use Rattle.records.specs.Records.{Named, lambdas_of, number_key, Recorded, new_record, record_name, record_scoped, linked, record_e, record_c, record_a, record_m}

linked-place : (j : ℕ) (x : List ℕ) (k : ℕ) (t : List Node) → length (linked j x k t).places ≡ 1
linked-place zero x k t = refl
linked-place (suc j) x k t = refl

scoped-place : (x : List ℕ) (Σ : List Named) (t : List Node) → length (record_scoped x Σ t).places ≡ 1
unfolding record_scoped
scoped-place x [] t = refl
scoped-place x (e ∷ Σ) t =
    cond_both (same_name x e.0) (linked e.1 x (lambdas_of Σ) t) (record_scoped x Σ t) (λ (R : Recorded). length R.places ≡ 1)
    (λ _. linked-place e.1 x (lambdas_of Σ) t) (λ _. scoped-place x Σ t)

name-place : (x : List ℕ) (Σ : List Named) (t : List Node) → length (record_name x Σ t).places ≡ 1
unfolding record_name
name-place x Σ t =
    cond_both (is_data x) (new_record (node readings_kind 0 0 0) t (length t ∷ [])) (record_scoped x Σ t) (λ (R : Recorded). length R.places ≡ 1)
    (λ _. refl) (λ _. scoped-place x Σ t)

mutual
  unfolding record_e parts_e

  pub places-E : (e : Expression) (Σ : List Named) (t : List Node) → length (record_e e Σ t).places ≡ parts_e e
  places-E (let_in x a b) Σ t =
      let A = record_e a Σ t in
      simp length-append (omega (arith, places-E a Σ t, places-E b ((x, suc A.root) ∷ Σ) A.records))
  places-E (lambda x b) Σ t = omega (arith, places-E b ((x, 0) ∷ Σ) t)
  places-E (name x r) Σ t = let N = record_name x Σ t in simp length-append (omega (arith, name-place x Σ t, places-C r N.root Σ N.records))
  places-E (literal z r) Σ t = omega (arith, places-C r (length t) Σ (t ++ (node number_kind (number_key z) 0 0 ∷ [])))
  places-E (bracket e r) Σ t = let E = record_e e Σ t in simp length-append (omega (arith, places-E e Σ t, places-C r E.root Σ E.records))

  places-C : (q : Calls) (f : ℕ) (Σ : List Named) (t : List Node) → length (record_c q f Σ t).places ≡ parts_c q
  places-C done f Σ t = refl
  places-C (call m a) f Σ t = places-A a m f Σ t

  places-A : (a : Arguments) (m : List ℕ) (f : ℕ) (Σ : List Named) (t : List Node) → length (record_a a m f Σ t).places ≡ suc (parts_a a)
  places-A (none r) m f Σ t = omega (arith, places-C r (length t) Σ (t ++ (node (member_kind (member m)) 0 (suc f) 0 ∷ [])))
  places-A (first e x) m f Σ t = let E = record_e e Σ t in omega (arith, places-E e Σ t, places-M x m f E.root E.places Σ E.records)

  places-M : (x : More) (m : List ℕ) (f a : ℕ) (ps : List ℕ) (Σ : List Named) (t : List Node) → length (record_m x m f a ps Σ t).places ≡ suc (length ps + parts_m x)
  places-M (last r) m f a ps Σ t =
      simp length-append (omega (arith, places-C r (length t) Σ (t ++ (node (member_kind (member m)) 0 (suc f) (suc a) ∷ []))))
  places-M (next e x) m f a ps Σ t =
      let E = record_e e Σ t in
      let n : length (ps ++ E.places) ≡ length ps + length E.places = length-append ps E.places in
      omega (arith, places-E e Σ t, places-M x m f a (ps ++ E.places) Σ E.records)
