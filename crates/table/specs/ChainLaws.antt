-- Laws of nodes by number and of their hash chains. Assumes nothing.
use Rattle.std.specs.Prelude.{◌≡◌, Option, None, Some, Bool, ◌&&◌, ◌||◌, List, [], ◌∷◌, ◌++◌, eqb, length, get_or, set, replicate}
use Rattle.std.proofs.lemmas.Bool.{false≢true}
use Rattle.std.specs.Option.{is_some}
use Rattle.std.proofs.Math.Path.{refl, sym, ap, subst}
use Rattle.std.proofs.Common.{◌∙◌, get_or-set_same}
use Rattle.std.proofs.Math.Bool.{true, false, cond, not, and-eq-true_iff, or-true, or-false}
use Prim.Native.Nat.{ℕ, zero, suc, ◌+◌, ◌-◌, ◌≤◌, ◌<◌}
use Rattle.std.proofs.Math.Decide.{dec_lt}
use Rattle.std.proofs.Math.Nat.{add-zero}
use Rattle.std.proofs.Math.Numerals.{add-one}
use native.Mathlib.Omega.{arith}
use borrow.Author.Tests.{eqb-true, eqb-false, eq-eqb, ne_eqb, lt-ltb, not-true}
use Rattle.std.proofs.Math.ListN.{length-set, length-append}
use Rattle.std.proofs.lemmas.List.{length-replicate, get_or-replicate}
use Rattle.std.proofs.Math.Seq.{get_or-set_other}
use Rattle.language.specs.Cases.{split}
use Rattle.language.specs.Limits.{text_parts, table_entries}
use Rattle.layout.specs.Memory.{Node, node_at}
use Rattle.layout.specs.Nodes.{same_node}
use Rattle.table.specs.WellFormed.{has_node, distinct}
use Rattle.model.specs.Lists.{index}
use Rattle.layout.specs.Numbered.{all_from, numbered}
use Rattle.table.specs.RightLaws.{all-stop, all_end}
use Rattle.layout.specs.Held.{shaped, held_at}
use Rattle.layout.specs.declared.nodes.Shape.{Shape}
use Rattle.table.specs.Chain.{hash_of, latest, last_same, number_before, new_at, Chained, linked, Entered, hashes}

-- the test is equality
pub same-equal : (a b : Node) → same_node a b ≡ true → a ≡ b
unfolding same_node
same-equal a b h =
    let r = ((and-eq-true_iff (eqb a.kind b.kind) _).0 h).1 in
    let s = ((and-eq-true_iff (eqb a.key b.key) _).0 r).1 in
    let k = eqb-true a.kind b.kind ((and-eq-true_iff _ _).0 h).0 in
    let y = eqb-true a.key b.key ((and-eq-true_iff _ _).0 r).0 in
    let f = eqb-true a.first b.first ((and-eq-true_iff _ _).0 s).0 in
    let t = ((and-eq-true_iff (eqb a.first b.first) _).0 s).1 in
    let g = eqb-true a.second b.second ((and-eq-true_iff _ _).0 t).0 in
    let l = eqb-true a.level b.level ((and-eq-true_iff (eqb a.second b.second) _).0 t).1 in
    λ i. record { kind = k i; key = y i; first = f i; second = g i; level = l i }

pub same_self : (a : Node) → same_node a a ≡ true
unfolding same_node
same_self a =
    rw (
      eq-eqb a.kind a.kind refl,
      eq-eqb a.key a.key refl,
      eq-eqb a.first a.first refl,
      eq-eqb a.second a.second refl,
      eq-eqb a.level a.level refl,
    )

pub same-sym : (a b : Node) → same_node a b ≡ same_node b a
same-sym a b =
    split (same_node a b)
    (λ p. rw p (sym (rw (same-equal a b p) (same_self b))))
    (λ p. rw p (split (same_node b a) (λ q. absurd (false≢true (sym p ∙ (rw (same-equal b a q) (same_self a))))) (λ q. sym q)))

-- and that of nodes as the code has them
pub same-is : (a b : Shape) (r : Bool) → r ≡ (eqb a.kind b.kind && (eqb a.key b.key && (eqb a.first b.first && (eqb a.second b.second && eqb a.level b.level))))
    → r ≡ same_node (shaped a) (shaped b)
unfolding same_node
same-is a b r e = e

-- nodes by number
module _ {A : Type 0} where
  pub numbered-snoc : (ν : ℕ → A) (i n : ℕ) → numbered ν i (suc n) ≡ numbered ν i n ++ (ν (i + n) ∷ [])
  unfolding numbered
  numbered-snoc ν i zero = rw add-zero
  numbered-snoc ν i (suc n) =
      let q : suc i + n ≡ i + suc n = omega arith in
      rw (numbered-snoc ν (suc i) n, q)

  pub numbered-zero : (ν : ℕ → A) (i : ℕ) → numbered ν i 0 ≡ []
  unfolding numbered
  numbered-zero ν i = refl

  pub numbered-last : (ν : ℕ → A) (n : ℕ) → numbered ν 0 (suc n) ≡ numbered ν 0 n ++ (ν n ∷ [])
  numbered-last ν n = let q : 0 + n ≡ n = omega arith in numbered-snoc ν 0 n ∙ rw q

  pub numbered-agree : (ν μ : ℕ → A) (i n : ℕ) → ((j : ℕ) → j < i + n → ν j ≡ μ j) → numbered ν i n ≡ numbered μ i n
  unfolding numbered
  numbered-agree ν μ i zero h = refl
  numbered-agree ν μ i (suc n) h = rw (h i (omega arith), numbered-agree ν μ (suc i) n (λ j l. h j (omega arith)))

  pub length-numbered : (ν : ℕ → A) (i n : ℕ) → length (numbered ν i n) ≡ n
  unfolding numbered
  length-numbered ν i zero = refl
  length-numbered ν i (suc n) = ap suc (length-numbered ν (suc i) n)

pub all-zero : (p : ℕ → Bool) (i : ℕ) → all_from p 0 i ≡ true
unfolding all_from
all-zero p i = refl

pub all_snoc : (p : ℕ → Bool) (i n : ℕ) → all_from p (suc n) i ≡ (all_from p n i && p (i + n))
unfolding all_from
all_snoc p i zero = rw add-zero (by (p i))
  where
    by : (b : Bool) → (b && true) ≡ (true && b)
    by true = refl
    by false = refl
all_snoc p i (suc n) =
    let q : suc i + n ≡ i + suc n = omega arith in
    rw (all_snoc p (suc i) n, q) (by (p i) _ _)
  where
    by : (a b c : Bool) → (a && (b && c)) ≡ ((a && b) && c)
    by true b c = refl
    by false b c = refl

pub all-last : (p : ℕ → Bool) (n : ℕ) → all_from p (suc n) 0 ≡ (all_from p n 0 && p n)
all-last p n = let q : 0 + n ≡ n = omega arith in all_snoc p 0 n ∙ rw q

-- equal nodes twice
pub has-snoc : (x m : Node) (ms : List Node) → has_node x (ms ++ (m ∷ [])) ≡ (has_node x ms || same_node m x)
unfolding has_node
has-snoc x m [] = by (same_node m x)
  where
    by : (b : Bool) → (b || false) ≡ b
    by true = refl
    by false = refl
has-snoc x m (a ∷ ms) = rw (has-snoc x m ms) (by (same_node a x) _ _)
  where
    by : (a b c : Bool) → (a || (b || c)) ≡ ((a || b) || c)
    by true b c = refl
    by false b c = refl

pub distinct_snoc : (m : Node) (ms : List Node) → distinct (ms ++ (m ∷ [])) ≡ (distinct ms && not (has_node m ms))
unfolding distinct has_node
distinct_snoc m [] = refl
distinct_snoc m (a ∷ ms) = rw (has-snoc a m ms, distinct_snoc m ms, same-sym m a) (by (has_node a ms) (same_node a m) (distinct ms) (has_node m ms))
  where
    by : (a b c d : Bool) → (not (a || b) && (c && not d)) ≡ ((not a && c) && not (b || d))
    by true b c d = refl
    by false true true d = refl
    by false true false d = refl
    by false false true d = refl
    by false false false d = refl

pub find_none : (x : Node) (ms : List Node) → has_node x ms ≡ false → index same_node x ms ≡ length ms
unfolding has_node index
find_none x [] h = refl
find_none x (m ∷ ms) h = split (same_node m x) (λ p. absurd (false≢true (sym (rw p at h)))) (λ p. rw p (ap suc (find_none x ms (rw p at h))))

find-snoc : (x m : Node) (ms : List Node) → has_node x ms ≡ true → index same_node x (ms ++ (m ∷ [])) ≡ index same_node x ms
unfolding has_node index
find-snoc x m [] h = absurd (false≢true h)
find-snoc x m (a ∷ ms) h = split (same_node a x) (λ p. rw p) (λ p. rw p (ap suc (find-snoc x m ms (rw p at h))))

find-new : (x m : Node) (ms : List Node) → has_node x ms ≡ false → same_node m x ≡ true → index same_node x (ms ++ (m ∷ [])) ≡ length ms
unfolding has_node index
find-new x m [] h q = rw q
find-new x m (a ∷ ms) h q = split (same_node a x) (λ p. absurd (false≢true (sym (rw p at h)))) (λ p. rw p (ap suc (find-new x m ms (rw p at h) q)))

positive : (n : ℕ) → eqb (suc n) 0 ≡ false
positive n = ne_eqb (suc n) 0 (λ e. omega arith)

module _ (ν : ℕ → Node) where
  pub has_last : (x : Node) (n : ℕ) → has_node x (numbered ν 0 n) ≡ not (eqb (last_same ν x n) 0)
  unfolding has_node last_same
  has_last x zero = rw (numbered-zero ν 0)
  has_last x (suc n) =
      rw (numbered-last ν n, has-snoc x (ν n) (numbered ν 0 n))
      (split (same_node (ν n) x)
      (λ p. rw p (rw (positive n) (or-true (has_node x (numbered ν 0 n)))))
      (λ p. rw p (or-false _ ∙ has_last x n)))

  pub distinct-all : (n : ℕ) → distinct (numbered ν 0 n) ≡ all_from (new_at ν) n 0
  unfolding distinct
  distinct-all zero = rw (numbered-zero ν 0, all-zero (new_at ν) 0)
  distinct-all (suc n) = rw (numbered-last ν n, distinct_snoc (ν n) (numbered ν 0 n), distinct-all n, has_last (ν n) n, all-last (new_at ν) n) (by (all_from (new_at ν) n 0) (new_at ν n))
    where
      by : (a b : Bool) → (a && not (not b)) ≡ (a && b)
      by true true = refl
      by true false = refl
      by false b = refl

  -- in nodes that are distinct, the last that is x is the first
  pub find-last : (x : Node) (n : ℕ) → distinct (numbered ν 0 n) ≡ true → index same_node x (numbered ν 0 n) ≡ cond (eqb (last_same ν x n) 0) n (last_same ν x n - 1)
  unfolding last_same index
  find-last x zero d = rw (numbered-zero ν 0)
  find-last x (suc n) d =
      let e : (distinct (numbered ν 0 n) && not (has_node (ν n) (numbered ν 0 n))) ≡ true = sym (distinct_snoc (ν n) (numbered ν 0 n)) ∙ sym (ap distinct (numbered-last ν n)) ∙ d in
      let ih = find-last x n ((and-eq-true_iff _ _).0 e).0 in
      let u = length-numbered ν 0 n in
      rw (numbered-last ν n)
      (split (same_node (ν n) x)
      (λ p.
      let new : has_node (ν n) (numbered ν 0 n) ≡ false = not-true _ ((and-eq-true_iff (distinct (numbered ν 0 n)) _).0 e).1 in
      let w : has_node x (numbered ν 0 n) ≡ false = subst (λ (y : Node). has_node y (numbered ν 0 n) ≡ false) (same-equal (ν n) x p) new in
      rw p (rw (positive n) (find-new x (ν n) (numbered ν 0 n) w p ∙ omega arith)))
      (λ p.
      rw p
      (split (has_node x (numbered ν 0 n))
      (λ w. find-snoc x (ν n) (numbered ν 0 n) w ∙ ih ∙ some (last_same ν x n) (sym (has_last x n) ∙ w))
      (λ w.
      find_none x (numbered ν 0 n ++ (ν n ∷ [])) (has-snoc x (ν n) (numbered ν 0 n) ∙ rw (w, p))
      ∙ length-append (numbered ν 0 n) (ν n ∷ [])
      ∙ none (last_same ν x n) (sym (has_last x n) ∙ w) (omega arith)))))
    where
      some : (l : ℕ) → not (eqb l 0) ≡ true → cond (eqb l 0) n (l - 1) ≡ cond (eqb l 0) (suc n) (l - 1)
      some l h = rw (not-true (eqb l 0) h)

      none : (l : ℕ) → not (eqb l 0) ≡ false → {k : ℕ} → k ≡ suc n → k ≡ cond (eqb l 0) (suc n) (l - 1)
      none l h e = split (eqb l 0) (λ p. rw p e) (λ p. absurd (false≢true (sym (rw p at h))))

  pub last-le : (x : Node) (n : ℕ) → last_same ν x n ≤ n
  unfolding last_same
  last-le x zero = omega arith
  last-le x (suc n) = let ih = last-le x n in split (same_node (ν n) x) (λ p. rw p (omega arith)) (λ p. rw p (omega arith))

  last-at : (x : Node) (c : ℕ) → 0 < c → last_same ν x c ≡ cond (same_node (ν (c - 1)) x) c (last_same ν x (c - 1))
  unfolding last_same
  last-at x zero s = absurd (omega arith)
  last-at x (suc j) s = let z : suc j - 1 ≡ j = omega arith in rw z

  -- a search that goes down, at number c - 1
  module _ (x : Node) (total c : ℕ) (all : last_same ν x total ≡ last_same ν x c) where
    module _ (some : 0 < c) (m : Node) (s : Bool) (qs : s ≡ same_node m x) (qm : m ≡ ν (c - 1)) where
      last_hit : s ≡ true → c ≡ last_same ν x total
      last_hit t = sym (all ∙ last-at x c some ∙ rw (← qm) (rw (sym qs ∙ t)))

      pub last-hit : s ≡ true → Some (c - 1) ≡ number_before (last_same ν x total)
      last-hit t = rw (← last_hit t, ne_eqb c 0 (λ e. omega arith))

      pub new-hit : s ≡ true → x ≡ ν total → false ≡ new_at ν total
      new-hit t q = rw (← q, ← last_hit t) (sym (ne_eqb c 0 (λ e. omega arith)))

      pub last-go : s ≡ false → last_same ν x total ≡ last_same ν x (c - 1)
      last-go t = all ∙ last-at x c some ∙ rw (← qm) (rw (sym qs ∙ t))

    pub last_end : c ≤ 0 → None ≡ number_before (last_same ν x total)
    unfolding last_same
    last_end h = let z : c ≡ 0 = omega arith in rw (all, z)

    pub new-end : c ≤ 0 → x ≡ ν total → true ≡ new_at ν total
    unfolding last_same
    new-end h q = let z : c ≡ 0 = omega arith in rw (← q, all, z)

  -- chains
  pub latest-le : (h n : ℕ) → latest ν h n ≤ n
  unfolding latest
  latest-le h zero = omega arith
  latest-le h (suc n) = let ih = latest-le h n in split (eqb (hash_of (ν n)) h) (λ p. rw p (omega arith)) (λ p. rw p (omega arith))

  latest-again : (h n : ℕ) → latest ν h (latest ν h n) ≡ latest ν h n
  unfolding latest
  latest-again h zero = refl
  latest-again h (suc n) = split (eqb (hash_of (ν n)) h) (λ p. rw p (rw p)) (λ p. rw p (latest-again h n))

  -- a node of another hash is not x
  jump : (x : Node) (n : ℕ) → last_same ν x (latest ν (hash_of x) n) ≡ last_same ν x n
  unfolding latest last_same
  jump x zero = refl
  jump x (suc n) =
      split (eqb (hash_of (ν n)) (hash_of x))
      (λ p. rw p)
      (λ p. rw p
      (split (same_node (ν n) x) (λ q. absurd (eqb-false _ _ p (ap hash_of (same-equal (ν n) x q)))) (λ q. rw q (jump x n))))

  latest-at : (h j : ℕ) → suc j ≡ latest ν h (suc j) → hash_of (ν j) ≡ h
  unfolding latest
  latest-at h j e =
      split (eqb (hash_of (ν j)) h) (λ p. eqb-true _ _ p) (λ p. let l = latest-le h j in let z : suc j ≡ latest ν h j = (rw p at e) in absurd (omega arith))

  module _ (chain : List ℕ) (total : ℕ) (ch : Chained ν chain total) where
    module _ (x : Node) (h : ℕ) (q : h ≡ hash_of x) (l : h < hashes) where
      pub seek-start : last_same ν x total ≡ last_same ν x (get_or chain h 0)
      seek-start = rw (ch.heads h l, q) (sym (jump x total))

      pub seek-first : get_or chain h 0 ≡ latest ν (hash_of x) (get_or chain h 0)
      seek-first = rw (ch.heads h l, q) (sym (latest-again (hash_of x) total))

      pub seek-low : get_or chain h 0 ≤ total
      seek-low = let z = latest-le h total in let e = ch.heads h l in omega arith

    module _ (x : Node) (c : ℕ) (some : 0 < c) (own : c ≡ latest ν (hash_of x) c) (low : c ≤ total) where
      hash_at : hash_of (ν (c - 1)) ≡ hash_of x
      hash_at = let z : c ≡ suc (c - 1) = omega arith in latest-at (hash_of x) (c - 1) (rw (← z) own)

      next-is : get_or chain (511 + c) 0 ≡ latest ν (hash_of x) (c - 1)
      next-is = let z : 511 + c ≡ hashes + (c - 1) = omega arith in rw z (ch.nexts (c - 1) (omega arith) ∙ rw hash_at)

      pub seek-next : get_or chain (511 + c) 0 ≡ latest ν (hash_of x) (get_or chain (511 + c) 0)
      seek-next = rw next-is (sym (latest-again (hash_of x) (c - 1)))

      pub seek-less : get_or chain (511 + c) 0 < c
      seek-less = let z = latest-le (hash_of x) (c - 1) in let e = next-is in omega arith

      pub seek-lower : get_or chain (511 + c) 0 ≤ total
      seek-lower = let z = seek-less in omega arith

      pub seek-go : last_same ν x total ≡ last_same ν x c → (m : Node) (s : Bool) → s ≡ same_node m x → m ≡ ν (c - 1) → s ≡ false
          → last_same ν x total ≡ last_same ν x (get_or chain (511 + c) 0)
      seek-go all m s qs qm t = last-go x total c all some m s qs qm t ∙ rw next-is (sym (jump x (c - 1)))

  pub chained_more : (chain chain' : List ℕ) (n h : ℕ) → Chained ν chain n → chain' ≡ linked chain h n → h ≡ hash_of (ν n) → h < hashes
      → n < table_entries + text_parts → Chained ν chain' (n + 1)
  unfolding linked latest
  chained_more chain chain' n h ch e q lh ln =
      let z = ch.size in
      let inner = length-set chain (hashes + n) (get_or chain h 0) in
      rw (e, add-one n)
      record {
        size = simp length-set z;
        heads = λ k lk.
            split (eqb (hash_of (ν n)) k)
            (λ p.
            let w : k ≡ h = sym (q ∙ eqb-true _ _ p) in
            rw p (rw w (get_or-set_same (set chain (hashes + n) (get_or chain h 0)) h (suc n) 0 (omega arith))))
            (λ p.
            rw p
            (get_or-set_other (set chain (hashes + n) (get_or chain h 0)) h k (suc n) 0 (λ w. eqb-false _ _ p (sym q ∙ sym w))
            ∙ get_or-set_other chain (hashes + n) k (get_or chain h 0) 0 (λ w. omega arith)
            ∙ ch.heads k lk));
        nexts = λ i li.
            get_or-set_other (set chain (hashes + n) (get_or chain h 0)) h (hashes + i) (suc n) 0 (λ w. omega arith)
            ∙ elim (dec_lt i n) [
              | yes less ↦ get_or-set_other chain (hashes + n) (hashes + i) (get_or chain h 0) 0 (λ w. omega arith) ∙ ch.nexts i less
              | no most ↦
                  let w : i ≡ n = omega arith in
                  rw w (get_or-set_same chain (hashes + n) (get_or chain h 0) 0 (omega arith) ∙ ch.heads h lh ∙ rw q)
            ];
      }

-- chains and searches hang on the nodes below n alone
module _ (ν μ : ℕ → Node) where
  latest-agree : (k n : ℕ) → ((j : ℕ) → j < n → ν j ≡ μ j) → latest ν k n ≡ latest μ k n
  unfolding latest
  latest-agree k zero h = refl
  latest-agree k (suc n) h = rw (h n (omega arith), latest-agree k n (λ j l. h j (omega arith)))

  pub chained-agree : (chain : List ℕ) (n : ℕ) → Chained ν chain n → ((j : ℕ) → j < n → ν j ≡ μ j) → Chained μ chain n
  chained-agree chain n ch h =
      record {
        size = ch.size;
        heads = λ k l. ch.heads k l ∙ latest-agree k n h;
        nexts = λ i l. ch.nexts i l ∙ latest-agree (hash_of (ν i)) i (λ j m. h j (omega arith)) ∙ ap (λ (x : Node). latest μ (hash_of x) i) (h i l);
      }

pub hash-low : (h : ℕ) (m : Node) → h ≡ hash_of m → h < hashes
unfolding hash_of
hash-low h m q = omega arith

module _ (ν : ℕ → Node) (i : ℕ) (chain' : List ℕ) (o : Option ℕ) (f : Bool) (m : Node) (qo : o ≡ number_before (last_same ν m i)) (qf : f ≡ is_some o) (qm : m ≡ ν i) where
  none : new_at ν i ≡ not f
  none = rw (qf, qo, qm) (by (last_same ν (ν i) i))
    where
      by : (k : ℕ) → eqb k 0 ≡ not (is_some (number_before k))
      by k = split (eqb k 0) (λ p. rw p) (λ p. rw p)

  pub entered-new : (chain : List ℕ) (h : ℕ) → Chained ν chain i → chain' ≡ linked chain h i → h ≡ hash_of m → i < table_entries + text_parts → f ≡ false
      → Entered ν i chain' true
  entered-new chain h ch e q l z =
      record {
        new = sym (none ∙ rw z);
        chained = λ t. chained_more ν chain chain' i h ch e (q ∙ ap hash_of qm) (hash-low h m q) l;
      }

  pub entered-old : f ≡ true → Entered ν i chain' false
  entered-old z = record { new = sym (none ∙ rw z); chained = λ t. absurd (false≢true t) }

-- a node entered without a test, and all of them
pub chained-entered : (ν : ℕ → Node) (i : ℕ) (chain chain' : List ℕ) (m : Node) (h : ℕ) → chain' ≡ linked chain h i → h ≡ hash_of m → m ≡ ν i
    → Chained ν chain i → i < table_entries + text_parts → Chained ν chain' (i + 1)
chained-entered ν i chain chain' m h e q qm ch l = chained_more ν chain chain' i h ch e (q ∙ ap hash_of qm) (hash-low h m q) l

pub chained-done : (ν : ℕ → Node) (i n : ℕ) (chain : List ℕ) → Chained ν chain i → i ≤ n → n ≤ i → Chained ν chain n
chained-done ν i n chain ch h k = let q : i ≡ n = omega arith in rw q at ch

-- what a node tested shows of the loop over all
module _ (ν : ℕ → Node) (i : ℕ) (chain' : List ℕ) (r : Bool) (e : Entered ν i chain' r) where
  pub entered-chain : r ≡ true → Chained ν chain' (i + 1)
  entered-chain t = e.chained t

  pub entered-is : r ≡ new_at ν i
  entered-is = e.new

pub chained-start : (ν : ℕ → Node) → Chained ν (replicate 1152 0) 0
unfolding latest
chained-start ν = record { size = length-replicate {A = ℕ} 1152 0; heads = λ h l. get_or-replicate 1152 h 0 0 (omega arith); nexts = λ i l. absurd (omega arith) }

pub held-front : (links cells : List ℕ) (count : ℕ) (fresh : List ℕ) (j : ℕ) → j < count → held_at links cells count fresh j ≡ node_at links cells j
unfolding held_at
held-front links cells count fresh j h = rw (lt-ltb j count h)

-- the loop over all
pub distinct-new : (links cells : List ℕ) (n : ℕ) (r : Bool) → r ≡ all_from (new_at (node_at links cells)) n 0 → r ≡ distinct (numbered (node_at links cells) 0 n)
distinct-new links cells n r e = e ∙ sym (distinct-all (node_at links cells) n)

module _ (links cells : List ℕ) (n i : ℕ) (all : all_from (new_at (node_at links cells)) n 0 ≡ all_from (new_at (node_at links cells)) (n - i) i) where
  pub distinct-stop : (chain : List ℕ) (r : Bool) → Entered (node_at links cells) i chain r → r ≡ false → i < n → false ≡ distinct (numbered (node_at links cells) 0 n)
  distinct-stop chain r e t h = distinct-new links cells n false (all-stop (new_at (node_at links cells)) n i all r e.new t h)

  pub distinct-end : n ≤ i → true ≡ distinct (numbered (node_at links cells) 0 n)
  distinct-end h = distinct-new links cells n true (all_end (new_at (node_at links cells)) n i all h)

pub ruleset chains = (
  same-is,
  hash-low,
  entered-new,
  entered-old,
  entered-chain,
  entered-is,
  chained-start,
  distinct-new,
  distinct-stop,
  distinct-end,
  seek-start,
  seek-first,
  seek-low,
  last-hit,
  seek-go,
  seek-next,
  seek-less,
  seek-lower,
  last_end,
  chained_more,
)
