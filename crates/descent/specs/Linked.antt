-- The records of a tree lead to earlier ones, and their kinds are below 32. Assumes nothing.
use Rattle.std.specs.Prelude.{◌≡◌, List, [], ◌∷◌, ◌++◌, ℕ, zero, suc, ◌+◌, ◌≤◌, ◌<◌, length}
use Rattle.std.proofs.lemmas.Bool.{cond_both}
use Rattle.std.proofs.Common.{arith, lit<, length-append}
use Rattle.language.specs.Names.{same_name, is_data}
use Rattle.members.specs.MembersLaws.{number-below}
use Rattle.grammar.specs.Grammar.{Expression, Calls, Arguments, More, let_in, lambda, name, literal, bracket, done, call, none, first, last, next}
use Rattle.meaning.specs.Binding.{member}
use Rattle.layout.specs.Memory.{Node, node}
use Rattle.layout.specs.Nodes.{number_kind, readings_kind, member_kind}
use Rattle.records.specs.Records.{Named, lambdas_of, number_key, Recorded, new_record, record_name, record_scoped, linked, record_e, record_c, record_a, record_m, records_of}

-- record i: its kind, and its links, each 0 for none or one more than an earlier record's number
pub record EarlierAt (i : ℕ) (n : Node) : Type 0 where
  pub kind : n.kind < 32
  pub first : n.first ≤ i
  pub second : n.second ≤ i

abbrev pub Earlier : ℕ → List Node → Type 0
Earlier i [] = Unit {0}
Earlier i (n ∷ ns) = EarlierAt i n × Earlier (suc i) ns

earlier_more : (ns : List Node) (i : ℕ) (n : Node) → Earlier i ns → EarlierAt (i + length ns) n → Earlier i (ns ++ (n ∷ []))
earlier_more [] i n h k = let e : i + 0 ≡ i = omega arith in (rw e at k, tt)
earlier_more (m ∷ ns) i n h k = let e : i + suc (length ns) ≡ suc i + length ns = omega arith in (h.0, earlier_more ns (suc i) n h.1 (rw e at k))

-- what names stand for lies among the first c records
abbrev Below : List Named → ℕ → Type 0
Below [] c = Unit {0}
Below (e ∷ Σ) c = (e.1 ≤ c) × Below Σ c

below_more : (Σ : List Named) (c c' : ℕ) → c ≤ c' → Below Σ c → Below Σ c'
below_more [] c c' l h = tt
below_more (e ∷ Σ) c c' l h = (omega arith, below_more Σ c c' l h.1)

-- records behind t
pub record Good (t : List Node) (Z : Recorded) : Type 0 where
  pub earlier : Earlier 0 Z.records
  pub root : Z.root < length Z.records
  pub grows : length t ≤ length Z.records

good_new : (t : List Node) (n : Node) (ps : List ℕ) → Earlier 0 t → n.kind < 32 → n.first ≤ length t → n.second ≤ length t → Good t (new_record n t ps)
good_new t n ps h k f s =
    record {
      earlier = earlier_more t 0 n h (record { kind = k; first = omega arith; second = omega arith });
      root = simp length-append (omega arith);
      grows = simp length-append (omega arith);
    }

good-linked : (j : ℕ) (x : List ℕ) (k : ℕ) (t : List Node) → Earlier 0 t → j ≤ length t → Good t (linked j x k t)
good-linked zero x k t h l = good_new t _ _ h (lit< tt) (omega arith) (omega arith)
good-linked (suc j) x k t h l = record { earlier = h; root = l; grows = omega arith }

good-scoped : (x : List ℕ) (Σ : List Named) (t : List Node) → Below Σ (length t) → Earlier 0 t → Good t (record_scoped x Σ t)
unfolding record_scoped
good-scoped x [] t b h = good_new t _ _ h (lit< tt) (omega arith) (omega arith)
good-scoped x (e ∷ Σ) t b h =
    cond_both (same_name x e.0) (linked e.1 x (lambdas_of Σ) t) (record_scoped x Σ t) (Good t) (λ _. good-linked e.1 x (lambdas_of Σ) t h b.0)
    (λ _. good-scoped x Σ t b.1 h)

good-name : (x : List ℕ) (Σ : List Named) (t : List Node) → Below Σ (length t) → Earlier 0 t → Good t (record_name x Σ t)
unfolding record_name
good-name x Σ t b h =
    cond_both (is_data x) (new_record (node readings_kind 0 0 0) t (length t ∷ [])) (record_scoped x Σ t) (Good t)
    (λ _. good_new t _ _ h (lit< tt) (omega arith) (omega arith)) (λ _. good-scoped x Σ t b h)

member-kind : (m : List ℕ) → member_kind (member m) < 32
member-kind m = omega (arith, number-below (member m))

-- Z' behind Z
good-then : (t : List Node) (Z Z' : Recorded) (ps : List ℕ) → Good t Z → Good Z.records Z' → Good t (record { records = Z'.records; root = Z'.root; places = ps })
good-then t Z Z' ps g h = record { earlier = h.earlier; root = h.root; grows = omega (arith, g.grows, h.grows) }

mutual
  unfolding record_e

  good-E : (e : Expression) (Σ : List Named) (t : List Node) → Below Σ (length t) → Earlier 0 t → Good t (record_e e Σ t)
  good-E (let_in x a b) Σ t l h =
      let A = record_e a Σ t in
      let g = good-E a Σ t l h in
      good-then t A _ _ g (good-E b ((x, suc A.root) ∷ Σ) A.records (g.root, below_more Σ (length t) (length A.records) g.grows l) g.earlier)
  good-E (lambda x b) Σ t l h =
      let B = record_e b ((x, 0) ∷ Σ) t in
      let g = good-E b ((x, 0) ∷ Σ) t (omega arith, l) h in
      good-then t B _ _ g (good_new B.records _ [] g.earlier (lit< tt) g.root (omega arith))
  good-E (name x r) Σ t l h =
      let N = record_name x Σ t in
      let g = good-name x Σ t l h in
      good-then t N _ _ g (good-C r N.root Σ N.records g.root (below_more Σ (length t) (length N.records) g.grows l) g.earlier)
  good-E (literal z r) Σ t l h =
      let N = new_record (node number_kind (number_key z) 0 0) t [] in
      let g : Good t N = good_new t _ [] h (lit< tt) (omega arith) (omega arith) in
      good-then t N _ _ g (good-C r (length t) Σ N.records g.root (below_more Σ (length t) (length N.records) g.grows l) g.earlier)
  good-E (bracket e r) Σ t l h =
      let E = record_e e Σ t in
      let g = good-E e Σ t l h in
      good-then t E _ _ g (good-C r E.root Σ E.records g.root (below_more Σ (length t) (length E.records) g.grows l) g.earlier)

  good-C : (q : Calls) (f : ℕ) (Σ : List Named) (t : List Node) → f < length t → Below Σ (length t) → Earlier 0 t → Good t (record_c q f Σ t)
  good-C done f Σ t i l h = record { earlier = h; root = i; grows = omega arith }
  good-C (call m a) f Σ t i l h = good-A a m f Σ t i l h

  good-A : (a : Arguments) (m : List ℕ) (f : ℕ) (Σ : List Named) (t : List Node) → f < length t → Below Σ (length t) → Earlier 0 t → Good t (record_a a m f Σ t)
  good-A (none r) m f Σ t i l h =
      let N = new_record (node (member_kind (member m)) 0 (suc f) 0) t [] in
      let g : Good t N = good_new t _ [] h (member-kind m) i (omega arith) in
      good-then t N _ _ g (good-C r (length t) Σ N.records g.root (below_more Σ (length t) (length N.records) g.grows l) g.earlier)
  good-A (first e x) m f Σ t i l h =
      let E = record_e e Σ t in
      let g = good-E e Σ t l h in
      good-then t E _ _ g (good-M x m f E.root E.places Σ E.records (omega (arith, g.grows)) g.root (below_more Σ (length t) (length E.records) g.grows l) g.earlier)

  good-M : (x : More) (m : List ℕ) (f a : ℕ) (ps : List ℕ) (Σ : List Named) (t : List Node) → f < length t → a < length t → Below Σ (length t) → Earlier 0 t
      → Good t (record_m x m f a ps Σ t)
  good-M (last r) m f a ps Σ t i j l h =
      let N = new_record (node (member_kind (member m)) 0 (suc f) (suc a)) t [] in
      let g : Good t N = good_new t _ [] h (member-kind m) i j in
      good-then t N _ _ g (good-C r (length t) Σ N.records g.root (below_more Σ (length t) (length N.records) g.grows l) g.earlier)
  good-M (next e x) m f a ps Σ t i j l h =
      let E = record_e e Σ t in
      let g = good-E e Σ t l h in
      good-then t E _ _ g (good-M x m f a (ps ++ E.places) Σ E.records (omega (arith, g.grows)) (omega (arith, g.grows))
      (below_more Σ (length t) (length E.records) g.grows l) g.earlier)

pub records-linked : (e : Expression) → Good [] (records_of e)
records-linked e = good-E e [] [] tt tt
