-- The pass over the awaited variables keeps to the definition. For right nodes, none of them twice, a name and a level have one variable, so
-- what the pass finds for an entry stands for the variables that it awaits, and a join leaves one out just where these are over two. Assumes nothing.
use Rattle.std.specs.Prelude.{◌≡◌, Bool, cond, ◌&&◌, ◌||◌, ltb, length, get_or, set, replicate}
use Rattle.std.proofs.lemmas.Bool.{false≢true}
use Rattle.std.proofs.Math.Path.{refl, sym}
use Rattle.std.proofs.Common.{ap, ◌∙◌}
use Rattle.std.proofs.Math.Bool.{true, false, and-eq-true_iff}
use mathlib.Core.List.{List, [], ◌∷◌}
use Prim.Native.Nat.{ℕ, zero, suc, ◌+◌, ◌*◌, ◌-◌, ◌≤◌, ◌<◌}
use Rattle.std.proofs.Math.Decide.{dec_lt}
use native.Mathlib.Omega.{arith}
use borrow.Author.Tests.{eqb-true, eqb-false, eq-eqb, ne_eqb, ltb-true, ltb-false, leb-true, le-leb, lt-leb}
use Rattle.std.proofs.Math.Dec.{leb, eqb, eqb-zero-suc, eqb-suc-zero}
use Rattle.std.proofs.Math.ListN.{length-set}
use Rattle.std.proofs.lemmas.List.{length-replicate}
use Rattle.std.proofs.Math.Seq.{get_or-set_same, get_or-set_other}
use Rattle.language.specs.Cases.{split}
use Rattle.language.specs.Limits.{table_entries}
use Rattle.meaning.specs.Forms.{with_level}
use Rattle.meaning.specs.Evaluation.{has_name}
use Rattle.meaning.specs.Evaluation as meaning
use Rattle.layout.specs.Memory.{Node, node_at}
use Rattle.layout.specs.Nodes.{variable_kind, function_kind, arity, same_node}
use Rattle.table.specs.WellFormed.{distinct, awaits_few}
use Rattle.table.specs.Awaits.{awaited_by}
use Rattle.table.specs.Right.{node_right, right_at}
use Rattle.layout.specs.Numbered.{all_from, numbered}
use Rattle.table.specs.RightLaws.{first-low, second-low, first-given, second-given, level-low, all-at, right-at}
use Rattle.layout.specs.Links.{kind_at, first_at, second_at, level_at, key_at, is_below}
use Rattle.table.specs.Waits.{slot_a, slot_b, has_slot, joined_slots, is_of, without_slot, waits_of, waits_at, waits_from, covers, few_at}
use Rattle.table.specs.Chain.{new_at, last_same}
use Rattle.table.specs.ChainLaws.{same_self, distinct-all, all-last, all-zero}
use Rattle.table.specs.ArityLaws.{arity-few, function-arity, leaf-arity, no-links, no_second}
use Rattle.table.specs.AwaitsLaws.{contains, joined-all, joined-held, joined-more, after, names_of, after-at, few-all}

-- ---- the pass: each cell is set once, from those below it
module _ (links cells : List ℕ) where
  waits-of : (ws us : List ℕ) (link i : ℕ) → ((j : ℕ) → j < i → get_or ws j 0 ≡ get_or us j 0) → waits_of ws link i ≡ waits_of us link i
  waits-of ws us link i same =
      split (is_below link i)
      (λ p. rw p (same (link - 1) (omega (arith, leb-true 1 link ((and-eq-true_iff _ _).0 p).0, leb-true link i ((and-eq-true_iff (leb 1 link) _).0 p).1))))
      (λ p. rw p)

  waits-at : (ws us : List ℕ) (i : ℕ) → ((j : ℕ) → j < i → get_or ws j 0 ≡ get_or us j 0) → waits_at links cells ws i ≡ waits_at links cells us i
  unfolding waits_at
  waits-at ws us i same = rw (waits-of ws us (first_at links i) i same, waits-of ws us (second_at links i) i same)

  pass_below : (k i j : ℕ) (ws : List ℕ) → j < i → get_or (waits_from links cells k i ws) j 0 ≡ get_or ws j 0
  unfolding waits_from
  pass_below zero i j ws h = refl
  pass_below (suc k) i j ws h = pass_below k (suc i) j _ (omega arith) ∙ get_or-set_other ws i j _ 0 (λ e. omega arith)

  pass-at : (k i j : ℕ) (ws : List ℕ) → i ≤ j → j < i + k → j < length ws
      → get_or (waits_from links cells k i ws) j 0 ≡ waits_at links cells (waits_from links cells k i ws) j
  unfolding waits_from
  pass-at zero i j ws l h s = absurd (omega arith)
  pass-at (suc k) i j ws l h s =
      let v = waits_at links cells ws i in
      elim (dec_lt i j) [
        | yes less ↦ pass-at k (suc i) j (set ws i v) less (omega arith) (omega (arith, length-set ws i v))
        | no most ↦
            let q : j ≡ i = omega arith in
            rw q
            (pass_below k (suc i) i (set ws i v) (omega arith)
            ∙ get_or-set_same ws i v 0 (omega arith)
            ∙ waits-at ws (waits_from links cells k (suc i) (set ws i v)) i (λ m b. sym (pass_below (suc k) i m ws b)))
      ]

  pass-is : (n : ℕ) (start : List ℕ) → n ≤ length start → (i : ℕ) → i < n
      → get_or (waits_from links cells n 0 start) i 0 ≡ waits_at links cells (waits_from links cells n 0 start) i
  pass-is n start room i h = pass-at n 0 i start (omega arith) (omega arith) (omega arith)

-- ---- what is found for an entry
-- the variable of entry a
abbrev pub variable_at : List ℕ → List ℕ → ℕ → ℕ
variable_at links cells a = with_level (key_at cells a) (level_at links a)

pub record Variable (links : List ℕ) (i a : ℕ) : Type 0 where
  pub below : a ≤ i
  pub kind : kind_at links a ≡ variable_kind
  pub level : level_at links a < 2

-- w holds these variables: none, one, or two
pub data Holds (links cells : List ℕ) (i w : ℕ) (xs : List ℕ) : Type 0 where
  none : slot_a w ≡ 0 → slot_b w ≡ 0 → xs ≡ [] → Holds links cells i w xs
  one : (a : ℕ) → Variable links i a → slot_a w ≡ suc a → slot_b w ≡ 0 → xs ≡ variable_at links cells a ∷ [] → Holds links cells i w xs
  two : (a b : ℕ) → Variable links i a → Variable links i b → (variable_at links cells a ≡ variable_at links cells b → ⊥) → slot_a w ≡ suc a → slot_b w ≡ suc b
      → xs ≡ variable_at links cells a ∷ variable_at links cells b ∷ [] → Holds links cells i w xs

-- the test passes and w holds these variables, or it does not and they are over two
data Outcome (test : Bool) (links cells : List ℕ) (i w : ℕ) (xs : List ℕ) : Type 0 where
  few : test ≡ true → Holds links cells i w xs → Outcome test links cells i w xs
  over : test ≡ false → 2 < length xs → Outcome test links cells i w xs

outcome-test : {test : Bool} {links cells : List ℕ} {i w : ℕ} {xs : List ℕ} → Outcome test links cells i w xs → test ≡ leb (length xs) 2
outcome-test (few t (none _ _ e)) = rw (t, e)
outcome-test (few t (one _ _ _ _ e)) = rw (t, e)
outcome-test (few t (two _ _ _ _ _ _ _ e)) = rw (t, e)
outcome-test {xs = xs} (over t h) = t ∙ sym (lt-leb (length xs) 2 h)

-- what is found for an entry below is found for one above
above : {links cells : List ℕ} {i j w : ℕ} {xs : List ℕ} → j ≤ i → Holds links cells j w xs → Holds links cells i w xs
above {links} {cells} {i} {j} h o = by o
  where
    up : {a : ℕ} → Variable links j a → Variable links i a
    up v = record { below = omega (arith, v.below); kind = v.kind; level = v.level }

    by : {w : ℕ} {xs : List ℕ} → Holds links cells j w xs → Holds links cells i w xs
    by (none p q e) = none p q e
    by (one a va p q e) = one a (up va) p q e
    by (two a b va vb d p q e) = two a b (up va) (up vb) d p q e

-- ---- the code's cases
pub positive : (a : ℕ) → leb 1 (suc a) ≡ true
positive a = le-leb 1 (suc a) (omega arith)

module _ (w u : ℕ) where
  second-alone : slot_a w ≡ 0 → joined_slots w u ≡ u
  unfolding joined_slots
  second-alone p = rw p

  module _ (a : ℕ) (p : slot_a w ≡ suc a) where
    already-two : (b : ℕ) → slot_b w ≡ suc b → joined_slots w u ≡ w
    unfolding joined_slots
    already-two b q = rw (p, q, eqb-suc-zero, positive)

    same_first : slot_b w ≡ 0 → slot_a u ≡ suc a → joined_slots w u ≡ suc a * 65536 + slot_b u
    unfolding joined_slots
    same_first q e = rw (p, q, e, eqb-suc-zero, eq-eqb (suc a) (suc a) refl)

    then-first : slot_b w ≡ 0 → (slot_a u ≡ suc a → ⊥) → joined_slots w u ≡ suc a * 65536 + slot_a u
    unfolding joined_slots
    then-first q e = rw (p, q, eqb-suc-zero, ne_eqb (suc a) (slot_a u) (λ z. e (sym z)))

-- names and levels are equal just where the variables are
pub same-variable : (x y k l : ℕ) → k < 2 → l < 2 → (eqb y x && eqb l k) ≡ eqb (with_level x k) (with_level y l)
same-variable x y k l h m =
    split (eqb y x)
    (λ p.
    let e = eqb-true y x p in
    rw p
    (split (eqb l k) (λ q. let f = eqb-true l k q in rw q (sym (eq-eqb (with_level x k) (with_level y l) (omega arith))))
    (λ q. rw q (sym (ne_eqb (with_level x k) (with_level y l) (λ z. eqb-false l k q (omega arith)))))))
    (λ p. rw p (sym (ne_eqb (with_level x k) (with_level y l) (λ z. eqb-false y x p (omega arith)))))

module _ (links cells : List ℕ) (key level : ℕ) (low : level < 2) where
  of-variable : (v a : ℕ) → level_at links a < 2 → v ≡ suc a → is_of links cells key level v ≡ eqb (with_level key level) (variable_at links cells a)
  of-variable v a l e = let z : suc a - 1 ≡ a = omega arith in rw (e, z, positive) (same-variable key (key_at cells a) level (level_at links a) low l)

  of_none : (v : ℕ) → v ≡ 0 → is_of links cells key level v ≡ false
  of_none v e = rw e

  module _ {i : ℕ} (inside : i < table_entries) where
    less : {w : ℕ} {xs : List ℕ} → Holds links cells i w xs → Holds links cells i (without_slot links cells key level w) (meaning.without (with_level key level) xs)
    unfolding without_slot meaning.without
    less {w} (none p q e) = rw (of_none (slot_a w) p, of_none (slot_b w) q) (none p q (rw e))
    less {w} (one a va p q e) =
        rw (of-variable (slot_a w) a va.level p, of_none (slot_b w) q, e)
        (split (eqb (with_level key level) (variable_at links cells a)) (λ h. rw h (none (omega arith) (omega arith) refl)) (λ h. rw h (one a va p q refl)))
    less {w} (two a b va vb d p q e) =
        rw (of-variable (slot_a w) a va.level p, of-variable (slot_b w) b vb.level q, e)
        (split (eqb (with_level key level) (variable_at links cells a))
        (λ h. rw (h, ne_eqb (with_level key level) (variable_at links cells b) (λ z. d (sym (eqb-true (with_level key level) (variable_at links cells a) h) ∙ z))) (one b vb (omega arith) (omega arith) refl))
        (λ h. rw h (split (eqb (with_level key level) (variable_at links cells b)) (λ l. rw l (one a va (omega arith) (omega arith) refl)) (λ l. rw l (two a b va vb d p q refl)))))

-- ---- a right node
-- what a dependency awaits, nothing where there is no link
abbrev linked : List (List ℕ) → ℕ → List ℕ
linked before link = cond (leb 1 link) (get_or before (link - 1) []) []

awaited-joined : (i : ℕ) (n : Node) → node_right i n ≡ true → (b : List (List ℕ))
    → eqb n.kind variable_kind ≡ false → eqb n.kind function_kind ≡ false
    → awaited_by b n ≡ meaning.joined (linked b n.first) (linked b n.second)
unfolding awaited_by meaning.joined
awaited-joined i n r b p q =
    split (eqb (arity n.kind) 1)
    (λ u.
    let e : arity n.kind ≡ 1 = eqb-true _ _ u in
    rw (p, q, u, no_second i n r e, le-leb 1 n.first (first-given i n r (λ z. omega arith))))
    (λ u.
    split (eqb (arity n.kind) 2)
    (λ v.
    let e : arity n.kind ≡ 2 = eqb-true _ _ v in
    rw (p, q, u, v, le-leb 1 n.first (first-given i n r (λ z. omega arith)), le-leb 1 n.second (second-given i n r e)))
    (λ v.
    let l = no-links i n r (omega (arith, arity-few n.kind, eqb-false (arity n.kind) 1 u, eqb-false (arity n.kind) 2 v)) in
    rw (p, q, u, v, l.0, l.1)))

-- nodes none of which stands twice
pub apart : (ν : ℕ → Node) (n : ℕ) → distinct (numbered ν 0 n) ≡ true → (i j : ℕ) → i < n → j < n → ν i ≡ ν j → i ≡ j
unfolding last_same
apart ν n d i j h k e =
    split (ltb i j) (λ p. absurd (lower i j (ltb-true i j p) k e))
    (λ p. split (ltb j i) (λ q. absurd (lower j i (ltb-true j i q) h (sym e))) (λ q. omega (arith, ltb-false i j p, ltb-false j i q)))
  where
    last : (x : Node) (i j : ℕ) → i < j → ν i ≡ x → 1 ≤ last_same ν x j
    last x i zero l e = absurd (omega arith)
    last x i (suc j) l e =
        elim (dec_lt i j) [
          | yes less ↦ split (same_node (ν j) x) (λ p. rw p (omega arith)) (λ p. rw p (last x i j less e))
          | no most ↦ let q : j ≡ i = omega arith in rw (q, e, same_self x) (omega arith)
        ]

    lower : (i j : ℕ) → i < j → j < n → ν i ≡ ν j → ⊥
    lower i j l m e =
        let z : 0 + j ≡ j = omega arith in
        omega (arith, last (ν j) i j l e, eqb-true (last_same ν (ν j) j) 0 (rw z at (all-at (new_at ν) n j 0 (sym (distinct-all ν n) ∙ d) m)))

-- tests that agree as long as the first passes
all_same : (p q : ℕ → Bool) (n : ℕ) → ((j : ℕ) → j < n → ((k : ℕ) → k < j → p k ≡ true) → p j ≡ q j) → all_from p n 0 ≡ all_from q n 0
all_same p q zero h = rw (all-zero p 0, all-zero q 0)
all_same p q (suc n) h =
    let ih = all_same p q n (λ j l. h j (omega arith)) in
    all-last p n
    ∙ split (all_from p n 0)
    (λ t. rw (t, h n (omega arith) (λ k l. let z : 0 + k ≡ k = omega arith in rw z at (all-at p n k 0 t l))) (sym (all-last q n ∙ rw (sym ih ∙ t))))
    (λ t. rw t (sym (all-last q n ∙ rw (sym ih ∙ t))))

-- ---- a table of at most 512 right entries, none of them twice
module _ (links cells : List ℕ) (n : ℕ) (most : n ≤ table_entries)
    (right : (i : ℕ) → i < n → node_right i (node_at links cells i) ≡ true)
    (alone : (i j : ℕ) → i < n → j < n → node_at links cells i ≡ node_at links cells j → i ≡ j) where
  -- a name and a level have one variable
  pub single : (i j : ℕ) → i < n → j < n → kind_at links i ≡ variable_kind → kind_at links j ≡ variable_kind → variable_at links cells i ≡ variable_at links cells j → i ≡ j
  unfolding node_at
  single i j h m k l e =
      let a = no-links i (node_at links cells i) (right i h) (leaf-arity (kind_at links i) (omega arith)) in
      let b = no-links j (node_at links cells j) (right j m) (leaf-arity (kind_at links j) (omega arith)) in
      let u = level-low i (node_at links cells i) (right i h) in
      let v = level-low j (node_at links cells j) (right j m) in
      let x : key_at cells i ≡ key_at cells j = omega arith in
      let y : level_at links i ≡ level_at links j = omega arith in
      alone i j h m (cc)

  module _ (i : ℕ) (inside : i < n) where
    abbrev At : ℕ → List ℕ → Type 0
    At w xs = Holds links cells i w xs

    -- two variables are equal just where their entries are
    key-test : {a : ℕ} → Variable links i a → (j : ℕ) → j < n → kind_at links j ≡ variable_kind
        → eqb (suc a) (suc j) ≡ eqb (variable_at links cells j) (variable_at links cells a)
    key-test {a} va j h k =
        split (eqb (suc a) (suc j))
        (λ p. let z : a ≡ j = (let z = eqb-true (suc a) (suc j) p in omega arith) in rw p (sym (eq-eqb (variable_at links cells j) (variable_at links cells a) (rw z))))
        (λ p.
        rw p (sym (ne_eqb (variable_at links cells j) (variable_at links cells a)
        (λ q. eqb-false (suc a) (suc j) p (ap suc (sym (single j a h (omega (arith, va.below)) k va.kind q)))))))

    differ : {a b : ℕ} → Variable links i a → Variable links i b → (b ≡ a → ⊥) → variable_at links cells b ≡ variable_at links cells a → ⊥
    differ {a} {b} va vb s z = s (single b a (omega (arith, vb.below)) (omega (arith, va.below)) vb.kind va.kind z)

    pub holds_of : {w : ℕ} {xs : List ℕ} → At w xs → (j : ℕ) → j < n → kind_at links j ≡ variable_kind → has_slot w (suc j) ≡ has_name (variable_at links cells j) xs
    unfolding has_name
    holds_of (none p q e) j h k = rw (p, q, e, eqb-zero-suc j)
    holds_of (one a va p q e) j h k = rw (p, q, e, eqb-zero-suc j, key-test va j h k)
    holds_of (two a b va vb d p q e) j h k =
        rw (p, q, e, key-test va j h k, key-test vb j h k) (by (eqb (variable_at links cells j) (variable_at links cells a)) (eqb (variable_at links cells j) (variable_at links cells b)))
      where
        by : (a b : Bool) → (a || b) ≡ (a || (b || false))
        by true b = refl
        by false true = refl
        by false false = refl

    holds-variable : {w a : ℕ} {xs : List ℕ} → At w xs → Variable links i a → has_slot w (suc a) ≡ has_name (variable_at links cells a) xs
    holds-variable {a = a} o va = holds_of o a (omega (arith, va.below)) va.kind

    covers_of : {w u : ℕ} {xs ys : List ℕ} → At w xs → At u ys → covers w u ≡ contains xs ys
    covers_of o (none p q e) = rw (p, q, e)
    covers_of o (one a va p q e) = rw (p, q, e, eqb-suc-zero, holds-variable o va)
    covers_of o (two a b va vb d p q e) =
        rw (p, q, e, eqb-suc-zero a, eqb-suc-zero b, holds-variable o va, holds-variable o vb) (by (has_name (variable_at links cells a) _) (has_name (variable_at links cells b) _))
      where
        by : (a b : Bool) → (a && b) ≡ (a && (b && true))
        by true true = refl
        by true false = refl
        by false b = refl

    -- a join that has all the names; one that found two before the last of the names
    whole : {w u : ℕ} {xs ys : List ℕ} → At u ys → At w xs → contains xs ys ≡ true → Outcome (covers w u) links cells i w xs
    whole v o h = few (covers_of o v ∙ h) o

    full : {w u : ℕ} {xs ys zs : List ℕ} → At u ys → At w xs → length xs ≡ 2 → zs ≡ meaning.joined xs ys → Outcome (covers w u) links cells i w zs
    full {xs = xs} {ys} v o l e =
        rw e
        (split (contains xs ys)
        (λ p. few (covers_of o v ∙ p) (rw (joined-held xs ys p) o))
        (λ p. over (covers_of o v ∙ p) (omega (arith, joined-more xs ys p))))

    join : {w u : ℕ} {xs ys : List ℕ} → At w xs → At u ys → Outcome (covers (joined_slots w u) u) links cells i (joined_slots w u) (meaning.joined xs ys)
    unfolding meaning.joined has_name
    join {w} {u} {xs} {ys} (none p q e) v = whole v (rw (second-alone w u p, e) (by v)) (joined-all xs ys)
      where
        by : At u ys → At u (meaning.joined [] ys)
        by (none p q e) = none p q (rw e)
        by (one a va p q e) = one a va p q (rw e)
        by (two a b va vb d p q e) = two a b va vb d p q (rw (e, ne_eqb (variable_at links cells b) (variable_at links cells a) (λ z. d (sym z))))
    join {w} {u} {xs} {ys} (one a va p q e) (none p' q' e') =
        whole (none p' q' e') (rw (then-first w u a p q (λ z. omega arith)) (one a va (omega arith) (omega arith) (rw (e, e')))) (joined-all xs ys)
    join {w} {u} {xs} {ys} (one a va p q e) (one b vb p' q' e') =
        whole (one b vb p' q' e')
        (split (eqb b a)
        (λ t.
        let s : b ≡ a = eqb-true b a t in
        rw (same_first w u a p q (omega arith)) (one a va (omega arith) (omega arith) (rw (e, e', s, eq-eqb (variable_at links cells a) (variable_at links cells a) refl))))
        (λ t.
        let s : b ≡ a → ⊥ = eqb-false b a t in
        rw (then-first w u a p q (λ z. s (omega arith)))
        (two a b va vb (λ z. differ va vb s (sym z)) (omega (arith, vb.below)) (omega (arith, vb.below))
        (rw (e, e', ne_eqb (variable_at links cells b) (variable_at links cells a) (differ va vb s))))))
        (joined-all xs ys)
    join {w} {u} {xs} {ys} (one a va p q e) (two b c vb vc d p' q' e') =
        split (eqb b a)
        (λ t.
        let s : b ≡ a = eqb-true b a t in
        let o : variable_at links cells a ≡ variable_at links cells c → ⊥ = rw s at d in
        whole (two b c vb vc d p' q' e')
        (rw (same_first w u a p q (omega arith))
        (two a c va vc o (omega arith) (omega arith)
        (rw (e, e', s, eq-eqb (variable_at links cells a) (variable_at links cells a) refl, ne_eqb (variable_at links cells c) (variable_at links cells a) (λ z. o (sym z))))))
        (joined-all xs ys))
        (λ t.
        let s : b ≡ a → ⊥ = eqb-false b a t in
        let o : eqb (variable_at links cells b) (variable_at links cells a) ≡ false = ne_eqb (variable_at links cells b) (variable_at links cells a) (differ va vb s) in
        full {xs = variable_at links cells a ∷ variable_at links cells b ∷ []} (two b c vb vc d p' q' e')
        (rw (then-first w u a p q (λ z. s (omega arith)))
        (two a b va vb (λ z. differ va vb s (sym z)) (omega (arith, vb.below)) (omega (arith, vb.below)) refl))
        refl
        (rw (e, e', o, eq-eqb (variable_at links cells b) (variable_at links cells b) refl)))
    join {w} {u} (two a b va vb d p q e) v = full v (rw (already-two w u a p b q) (two a b va vb d p q e)) (rw e) refl

  abbrev names : ℕ → List ℕ
  names = names_of (node_at links cells)

  -- cells each of which is what the pass sets, from those below it
  module _ (ws : List ℕ) (is : (i : ℕ) → i < n → get_or ws i 0 ≡ waits_at links cells ws i) where
    abbrev Step : ℕ → Type 0
    Step i = Outcome (few_at links ws i) links cells i (get_or ws i 0) (names i)

    module _ (i : ℕ) (h : i < n) (below : (b : ℕ) → b < i → Holds links cells b (get_or ws b 0) (names b)) where
      by-link : (link : ℕ) → link ≤ i → Holds links cells i (waits_of ws link i) (linked (after (node_at links cells) i) link)
      by-link link l =
          split (leb 1 link)
          (λ p.
          let k : link - 1 < i = omega (arith, leb-true 1 link p) in
          rw (p, le-leb link i l, after-at (node_at links cells) (link - 1) i k) (above (omega arith) (below (link - 1) k)))
          (λ p. rw p (none refl refl refl))

      -- a node that joins nothing: its second link is 0
      unjoined : second_at links i ≡ 0 → Holds links cells i (waits_at links cells ws i) (names i) → Step i
      unfolding few_at
      unjoined e o = rw (is i h) (few (rw e) o)

      member : eqb (kind_at links i) variable_kind ≡ false → ltb (kind_at links i) function_kind ≡ false
          → eqb (kind_at links i) function_kind ≡ false → Step i
      unfolding few_at waits_at node_at
      member p q u =
          let n = node_at links cells i in
          let r = right i h in
          rw (is i h, p, q, u, awaited-joined i n r (after (node_at links cells) i) p u)
          (join i h (by-link n.first (first-low i n r)) (by-link n.second (second-low i n r)))

      function : kind_at links i ≡ function_kind → Holds links cells i (waits_at links cells ws i) (names i)
      unfolding waits_at node_at awaited_by
      function e =
          let n = node_at links cells i in
          let r = right i h in
          let a = function-arity (kind_at links i) e in
          let g : leb 1 (first_at links i) ≡ true = le-leb 1 (first_at links i) (first-given i n r (λ z. omega arith)) in
          rw (e, g) (rw g at (less links cells (key_at cells i) (level_at links i) (level-low i n r) (omega arith) (by-link (first_at links i) (first-low i n r))))

      step : Step i
      unfolding few_at waits_at node_at awaited_by
      step =
          let r = right i h in
          split (eqb (kind_at links i) variable_kind)
          (λ p.
          let e : kind_at links i ≡ variable_kind = eqb-true _ _ p in
          unjoined (no-links i (node_at links cells i) r (leaf-arity (kind_at links i) (omega arith))).1
          (rw p (one i (record { below = omega arith; kind = e; level = level-low i (node_at links cells i) r }) (omega arith) (omega arith) refl)))
          (λ p.
          split (ltb (kind_at links i) function_kind)
          (λ q.
          let l = leaf-arity (kind_at links i) (ltb-true _ _ q) in
          let f = ne_eqb (kind_at links i) function_kind (λ z. omega (arith, ltb-true (kind_at links i) function_kind q)) in
          unjoined (no-links i (node_at links cells i) r l).1 (rw (p, q, f, l) (none refl refl refl)))
          (λ q.
          split (eqb (kind_at links i) function_kind)
          (λ u.
          let e : kind_at links i ≡ function_kind = eqb-true _ _ u in
          let a = function-arity (kind_at links i) e in
          unjoined (no_second i (node_at links cells i) r a) (function e))
          (λ u. member p q u)))

    -- what is found for the first entries stands for their names, as long as none is over two by the test and by its names
    found_first : (m : ℕ) → m ≤ n → ((k : ℕ) → k < m → few_at links ws k ≡ false → 2 < length (names k) → ⊥)
        → (i : ℕ) → i < m → Holds links cells i (get_or ws i 0) (names i)
    found_first zero l fine i h = absurd (omega arith)
    found_first (suc m) l fine i h = by (step i (omega arith) (λ b k. found_first m (omega arith) (λ j q. fine j (omega arith)) b (omega arith)))
      where
        by : Step i → Holds links cells i (get_or ws i 0) (names i)
        by (few t o) = o
        by (over t k) = absurd (fine i h t k)

    test-is : (i : ℕ) → i < n → ((k : ℕ) → k < i → few_at links ws k ≡ true) → few_at links ws i ≡ leb (length (names i)) 2
    test-is i h tests = outcome-test (step i h (found_first i (omega arith) (λ k q t l. absurd (false≢true (sym t ∙ tests k q)))))

    tests-are : all_from (few_at links ws) n 0 ≡ awaits_few (numbered (node_at links cells) 0 n)
    tests-are = all_same (few_at links ws) (λ i. leb (length (names i)) 2) n test-is ∙ sym (few-all (node_at links cells) n)

  -- THE LAW: where no entry awaits over two names, what the pass finds for each stands for its names
  pub found : ((k : ℕ) → k < n → length (names_of (node_at links cells) k) ≤ 2) → (i : ℕ) → i < n
      → Holds links cells i (get_or (waits_from links cells n 0 (replicate table_entries 0)) i 0) (names_of (node_at links cells) i)
  found short =
      let start : List ℕ = replicate table_entries 0 in
      let room = length-replicate {A = ℕ} table_entries 0 in
      found_first (waits_from links cells n 0 start) (pass-is links cells n start (omega arith)) n (omega arith) (λ k q t l. omega (arith, short k q))

  pass-tests : (start : List ℕ) → n ≤ length start → all_from (few_at links (waits_from links cells n 0 start)) n 0 ≡ awaits_few (numbered (node_at links cells) 0 n)
  pass-tests start room = tests-are (waits_from links cells n 0 start) (pass-is links cells n start room)

-- and the tests say whether one does
module _ (links cells : List ℕ) (n : ℕ) (ws start : List ℕ) (r : Bool) where
  pub few-is : r ≡ all_from (few_at links ws) n 0 → ws ≡ waits_from links cells n 0 start → all_from (right_at links cells) n 0 ≡ true
      → distinct (numbered (node_at links cells) 0 n) ≡ true → n ≤ table_entries → n ≤ length start → r ≡ awaits_few (numbered (node_at links cells) 0 n)
  few-is e q right d most room =
      e ∙ rw q (pass-tests links cells n most (λ i h. right-at links cells n i right h) (apart (node_at links cells) n d) start room)
