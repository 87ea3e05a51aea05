-- Laws of the tests of one entry, and of loops over numbers, each with a premise for every call and test on the code's way. Assumes nothing.
use Rattle.std.specs.Prelude.{Option, Some}
use Rattle.std.specs.Prelude.{◌≡◌, refl, Bool, true, false, not, ◌&&◌, ◌||◌, List, eqb, leb, ltb}
use Rattle.std.proofs.Math.Path.{sym}
use Rattle.std.proofs.Common.{ap, ◌∙◌, mod-eq_of_lt}
use Rattle.std.proofs.Math.Bool.{cond, and-eq-true_iff}
use Prim.Native.Nat.{ℕ, zero, suc, ◌+◌, ◌-◌, ◌/◌, ◌%◌, ◌≤◌, ◌<◌}
use Rattle.std.proofs.Math.Nat.{sub-zero}
use Rattle.std.proofs.Math.Numerals.{add-one}
use native.Mathlib.Omega.{arith}
use borrow.Author.Tests.{eq-eqb, ne_eqb, eqb-true, lt-ltb, le-ltb, ltb-true, leb-true}
use Rattle.language.specs.Cases.{split}
use Rattle.language.specs.Names.{is_letter, in_word, pack_onto, bytes, let_word, word_in, data_word}
use Rattle.members.specs.Members.{arguments}
use Rattle.members.specs.declared.Member.{Member}
use Rattle.layout.specs.Links.{kind_at, first_at, second_at, level_at, key_at}
use Rattle.layout.specs.Memory.{Node, node_at, node_with, node}
use Rattle.layout.specs.Held.{shaped}
use Rattle.layout.specs.declared.nodes.Shape.{Shape}
use Rattle.layout.specs.Nodes.{number_kind, variable_kind, unbound_kind, function_kind, kind_count, member_of_kind, member_arity, arity, word_number, is_name}
use Rattle.table.specs.WellFormed.{kind_known, key_right, has_level, level_right, arity_right, lower}
use Rattle.table.specs.Right.{node_right, right_at}
use Rattle.layout.specs.Numbered.{all_from}

-- what is left of n at i is one more than what is left at i + 1
pub left-suc : (n i : ℕ) → i < n → n - i ≡ suc (n - (i + 1))
left-suc n i h = omega arith

-- a loop that tests the numbers one by one
module _ (p : ℕ → Bool) (n : ℕ) where
  pub all_start : all_from p n 0 ≡ all_from p (n - 0) 0
  all_start = rw sub-zero

  module _ (i : ℕ) (all : all_from p n 0 ≡ all_from p (n - i) i) where
    pub all_go : (r : Bool) → r ≡ p i → r ≡ true → i < n → all_from p n 0 ≡ all_from p (n - (i + 1)) (i + 1)
    unfolding all_from
    all_go r q t h = all ∙ rw (left-suc n i h, add-one i) (rw (sym q ∙ t))

    pub all-stop : (r : Bool) → r ≡ p i → r ≡ false → i < n → false ≡ all_from p n 0
    unfolding all_from
    all-stop r q t h = sym (all ∙ rw (left-suc n i h) (rw (sym q ∙ t)))

    pub all_end : n ≤ i → true ≡ all_from p n 0
    unfolding all_from
    all_end h = let z : n - i ≡ 0 = omega arith in sym (all ∙ rw z)

-- packed words
module _ (k left rest : ℕ) (whole : word_number 8 k ≡ word_number left rest) where
  word-step : 0 < left → word_number left rest ≡ cond (ltb rest 256) (is_letter rest) (in_word (rest % 256) && word_number (left - 1) (rest / 256))
  unfolding word_number
  word-step h = by left h
    where
      by : (l : ℕ) → 0 < l → word_number l rest ≡ cond (ltb rest 256) (is_letter rest) (in_word (rest % 256) && word_number (l - 1) (rest / 256))
      by zero h = absurd (omega arith)
      by (suc l) h = let z : suc l - 1 ≡ l = omega arith in rw z

  pub word-stop : (b : ℕ) (r : Bool) → r ≡ is_letter b → b ≡ rest % 256 → rest < 256 → 0 < left → r ≡ word_number 8 k
  word-stop b r q e s h = let z : b ≡ rest = e ∙ mod-eq_of_lt s in sym (whole ∙ word-step h ∙ rw (lt-ltb rest 256 s) (rw (← z, ← q)))

  pub word-go : (b : ℕ) (r : Bool) → r ≡ in_word b → b ≡ rest % 256 → r ≡ true → 256 ≤ rest → 0 < left → word_number 8 k ≡ word_number (left - 1) (rest / 256)
  word-go b r q e t s h = whole ∙ word-step h ∙ rw (le-ltb rest 256 s) (rw (← e) (rw (sym q ∙ t)))

  pub word-fail : (b : ℕ) (r : Bool) → r ≡ in_word b → b ≡ rest % 256 → r ≡ false → 256 ≤ rest → 0 < left → false ≡ word_number 8 k
  word-fail b r q e t s h = sym (whole ∙ word-step h ∙ rw (le-ltb rest 256 s) (rw (← e) (rw (sym q ∙ t))))

  pub word_end : left ≤ 0 → false ≡ word_number 8 k
  unfolding word_number
  word_end h = let z : left ≡ 0 = omega arith in sym (whole ∙ rw z)

-- packed words, of whose bytes n were passed
module _ (k n rest : ℕ) (whole : word_number 8 k ≡ word_number (8 - n) rest) where
  module _ (h : n < 8) where
    pub passed-stop : (b : ℕ) (r : Bool) → r ≡ is_letter b → b ≡ rest % 256 → rest < 256 → r ≡ word_number 8 k
    passed-stop b r q e s = word-stop k (8 - n) rest whole b r q e s (omega arith)

    module _ (b : ℕ) (r : Bool) (q : r ≡ in_word b) (e : b ≡ rest % 256) (s : 256 ≤ rest) where
      pub passed-go : r ≡ true → word_number 8 k ≡ word_number (8 - (n + 1)) (rest / 256)
      passed-go t =
          let z : 8 - n - 1 ≡ 8 - (n + 1) = omega arith in
          word-go k (8 - n) rest whole b r q e t s (omega arith) ∙ ap (λ (l : ℕ). word_number l (rest / 256)) z

      pub passed-fail : r ≡ false → false ≡ word_number 8 k
      passed-fail t = word-fail k (8 - n) rest whole b r q e t s (omega arith)

  pub passed_all : 8 ≤ n → false ≡ word_number 8 k
  passed_all h = word_end k (8 - n) rest whole (omega arith)

pub name-is : (k : ℕ) (r : Bool) → r ≡ word_number 8 k → (((r && not (eqb k 7103860)) && not (eqb k 26990)) && not (eqb k 1684108385)) ≡ is_name k
unfolding is_name pack_onto bytes let_word word_in data_word
name-is k r q = rw q (by (word_number 8 k) (eqb k 7103860) (eqb k 26990) (eqb k 1684108385))
  where
    by : (r a b c : Bool) → (((r && not a) && not b) && not c) ≡ (r && not (a || (b || c)))
    by true true b c = refl
    by true false true c = refl
    by true false false c = refl
    by false a b c = refl

-- dependencies by kind
pub arity-of : (f : Option Member) (m : Member) (a : ℕ) → a ≡ arguments m → f ≡ Some m → 1 + a ≡ member_arity f
arity-of f m a q e = rw e (omega arith)

module _ (k : ℕ) where
  pub arity-function : k ≡ function_kind → 1 ≡ arity k
  unfolding arity
  arity-function e = rw (eq-eqb k function_kind e)

  pub arity-member : (f : Option Member) (a : ℕ) → a ≡ member_arity f → f ≡ member_of_kind k → (k ≡ function_kind → ⊥) → a ≡ arity k
  unfolding arity
  arity-member f a q e u = rw (ne_eqb k function_kind u) (rw (q, e))

-- the key by kind
module _ (kind key : ℕ) where
  pub key-number : kind ≡ number_kind → ltb key 4294967296 ≡ key_right (node kind key 0 0)
  unfolding key_right
  key-number e = rw (eq-eqb kind number_kind e)

  pub key-name : (r : Bool) → r ≡ is_name key → (eqb kind variable_kind || (eqb kind unbound_kind || eqb kind function_kind)) ≡ true → (kind ≡ number_kind → ⊥) → r ≡ key_right (node kind key 0 0)
  unfolding key_right
  key-name r q t e = rw (ne_eqb kind number_kind e, t) q

  pub key-none : (eqb kind variable_kind || (eqb kind unbound_kind || eqb kind function_kind)) ≡ false → (kind ≡ number_kind → ⊥) → eqb key 0 ≡ key_right (node kind key 0 0)
  unfolding key_right
  key-none t e = rw (ne_eqb kind number_kind e, t)

-- the level by kind
module _ (kind level : ℕ) where
  pub level-some : has_level kind ≡ true → ltb level 2 ≡ level_right (node_with kind 0 0 0 level)
  unfolding level_right
  level-some t = rw t

  pub level-none : has_level kind ≡ false → eqb level 0 ≡ level_right (node_with kind 0 0 0 level)
  unfolding level_right
  level-none t = rw t

-- the dependencies by their number
module _ (kind first second n : ℕ) (q : n ≡ arity kind) where
  pub arity-zero : n ≡ 0 → (eqb first 0 && eqb second 0) ≡ arity_right (node kind 0 first second)
  unfolding arity_right
  arity-zero e = rw (← q, eq-eqb n 0 e)

  pub arity-one : (n ≡ 0 → ⊥) → n ≡ 1 → (leb 1 first && eqb second 0) ≡ arity_right (node kind 0 first second)
  unfolding arity_right
  arity-one u e = rw (← q, ne_eqb n 0 u, eq-eqb n 1 e)

  pub arity-two : (n ≡ 0 → ⊥) → (n ≡ 1 → ⊥) → (leb 1 first && leb 1 second) ≡ arity_right (node kind 0 first second)
  unfolding arity_right
  arity-two u v = rw (← q, ne_eqb n 0 u, ne_eqb n 1 v)

module _ (links cells : List ℕ) (i kind : ℕ) (qk : kind ≡ kind_at links i) where
  pub right-known : (key first second level : ℕ) (a b c : Bool) → a ≡ key_right (node kind key 0 0) → b ≡ level_right (node_with kind 0 0 0 level)
      → c ≡ arity_right (node kind 0 first second) → key ≡ key_at cells i → first ≡ first_at links i → second ≡ second_at links i → level ≡ level_at links i
      → kind < kind_count → (a && (b && (c && (leb first i && leb second i)))) ≡ right_at links cells i
  unfolding right_at node_right node_at key_right level_right arity_right
  right-known key first second level a b c qa qb qc q f s l h = rw (← qk, ← q, ← f, ← s, ← l, lt-ltb kind kind_count h) (rw (qa, qb, qc))

  pub right-unknown : kind_count ≤ kind → false ≡ right_at links cells i
  unfolding right_at node_right node_at
  right-unknown h = rw (← qk, le-ltb kind kind_count h)

-- the clauses one after the other
pub right-is : (links cells : List ℕ) (i : ℕ) (x : Shape) (a b c : Bool) → a ≡ key_right (node x.kind x.key 0 0) → b ≡ level_right (node_with x.kind 0 0 0 x.level)
    → c ≡ arity_right (node x.kind 0 x.first x.second) → shaped x ≡ node_at links cells i
    → (((((ltb x.kind kind_count && a) && b) && c) && leb x.first i) && leb x.second i) ≡ right_at links cells i
unfolding right_at node_right key_right level_right arity_right
right-is links cells i x a b c qa qb qc q =
    let n : Node = shaped x in
    rw (qa, qb, qc, ← q) (by (kind_known n) (key_right n) (level_right n) (arity_right n) (leb n.first i) (leb n.second i))
  where
    by : (k a b c f s : Bool) → (((((k && a) && b) && c) && f) && s) ≡ (k && (a && (b && (c && (f && s)))))
    by true true true true f s = refl
    by true true true false f s = refl
    by true true false c f s = refl
    by true false b c f s = refl
    by false a b c f s = refl

-- the clauses of a right node
module _ (i : ℕ) (n : Node) (r : node_right i n ≡ true) where
  pub right-kind : kind_known n ≡ true
  unfolding node_right
  right-kind = ((and-eq-true_iff _ _).0 r).0

  pub right_key : key_right n ≡ true
  unfolding node_right
  right_key = ((and-eq-true_iff _ _).0 ((and-eq-true_iff (kind_known n) _).0 r).1).0

  behind-key : (level_right n && (arity_right n && lower i n)) ≡ true
  unfolding node_right
  behind-key = ((and-eq-true_iff (key_right n) _).0 ((and-eq-true_iff (kind_known n) _).0 r).1).1

  pub right-level : level_right n ≡ true
  right-level = ((and-eq-true_iff _ _).0 behind-key).0

  pub right-arity : arity_right n ≡ true
  right-arity = ((and-eq-true_iff _ _).0 ((and-eq-true_iff (level_right n) _).0 behind-key).1).0

  right-lower : lower i n ≡ true
  right-lower = ((and-eq-true_iff (arity_right n) _).0 ((and-eq-true_iff (level_right n) _).0 behind-key).1).1

  -- the level is 0 or 1, and where the kind has none 0
  pub level-low : n.level < 2
  unfolding level_right
  level-low =
      split (has_level n.kind) (λ p. ltb-true n.level 2 (rw p at right-level))
      (λ p. let z = eqb-true n.level 0 (rw p at right-level) in omega arith)

  pub no-level : has_level n.kind ≡ false → n.level ≡ 0
  unfolding level_right
  no-level p = eqb-true n.level 0 (rw p at right-level)

  pub first-low : n.first ≤ i
  first-low = leb-true n.first i ((and-eq-true_iff _ _).0 right-lower).0

  pub second-low : n.second ≤ i
  second-low = leb-true n.second i ((and-eq-true_iff (leb n.first i) _).0 right-lower).1

  -- dependencies that there are
  pub first-given : (arity n.kind ≡ 0 → ⊥) → 1 ≤ n.first
  unfolding arity_right
  first-given u =
      split (eqb (arity n.kind) 1)
      (λ p. leb-true 1 n.first ((and-eq-true_iff _ _).0 (rw (ne_eqb (arity n.kind) 0 u, p) at right-arity)).0)
      (λ p. leb-true 1 n.first ((and-eq-true_iff _ _).0 (rw (ne_eqb (arity n.kind) 0 u, p) at right-arity)).0)

  pub second-given : arity n.kind ≡ 2 → 1 ≤ n.second
  unfolding arity_right
  second-given e =
      leb-true 1 n.second ((and-eq-true_iff (leb 1 n.first) _).0
      (rw (ne_eqb (arity n.kind) 0 (λ q. omega arith), ne_eqb (arity n.kind) 1 (λ q. omega arith)) at right-arity)).1

  pub variable-named : n.kind ≡ variable_kind → is_name n.key ≡ true
  unfolding key_right
  variable-named e = rw (ne_eqb n.kind number_kind (λ q. omega arith), eq-eqb n.kind variable_kind e) at right_key

-- what holds of each number
pub all-at : (p : ℕ → Bool) (n i j : ℕ) → all_from p n j ≡ true → i < n → p (j + i) ≡ true
unfolding all_from
all-at p zero i j h l = absurd (omega arith)
all-at p (suc n) zero j h l = let z : j + 0 ≡ j = omega arith in rw z ((and-eq-true_iff _ _).0 h).0
all-at p (suc n) (suc i) j h l = let z : j + suc i ≡ suc j + i = omega arith in rw z (all-at p n i (suc j) ((and-eq-true_iff (p j) _).0 h).1 (omega arith))

pub right-at : (links cells : List ℕ) (n i : ℕ) → all_from (right_at links cells) n 0 ≡ true → i < n → node_right i (node_at links cells i) ≡ true
unfolding right_at
right-at links cells n i h l = let z : 0 + i ≡ i = omega arith in rw z at (all-at (right_at links cells) n i 0 h l)

pub all_of : (p : ℕ → Bool) (n i : ℕ) → ((j : ℕ) → i ≤ j → j < i + n → p j ≡ true) → all_from p n i ≡ true
unfolding all_from
all_of p zero i h = refl
all_of p (suc n) i h = rw (h i (omega arith) (omega arith)) (all_of p n (suc i) (λ j k l. h j (omega arith) (omega arith)))

pub ruleset entries = (
  arity-of,
  passed-stop,
  passed-go,
  passed-fail,
  passed_all,
  name-is,
  arity-function,
  arity-member,
  right-is,
)

pub ruleset loops = (all_start, all_go, all-stop, all_end)
