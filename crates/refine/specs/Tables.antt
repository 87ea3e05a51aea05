-- A table whose entries stand for forms, and what an entry sees of those below it: an entry whose every free name is free all the way up.
-- Assumes nothing.
use Rattle.std.specs.Prelude.{◌≡◌, refl, ◌⊎◌, Bool, true, false, cond, List, eqb, ℤ, pos, length, get_or}
use Rattle.std.proofs.Common.{◌∙◌, arith, ltb-true}
use Prim.Native.Nat.{ℕ, zero, suc, ◌≤◌, ◌<◌}
use Rattle.std.specs.Int.Signed.{mag}
use Rattle.language.specs.Cases.{split}
use Rattle.language.specs.Limits.{table_entries, table_readings}
use Rattle.rules.specs.declared.Value.{Value}
use Rattle.rules.specs.declared.Value.TheVariants.{Number, Window, Function, Delayed, Missing}
use Rattle.values.specs.Keepable.{Keepable}
use Rattle.values.specs.Ranges.{down-range}
use Rattle.values.specs.KeepableApply.{kept-apply0, kept-apply1}
use Rattle.meaning.specs.Forms.{Form, with_level}
use Rattle.meaning.specs.Evaluation.{Result, plain, runs, value_of, run_of, Environment, nowhere, bind, lookup, settled, function_of, evaluate}
use Rattle.layout.specs.Memory.{Node, node_at}
use Rattle.layout.specs.Nodes.{variable_kind, variable_in, build}
use Rattle.layout.specs.Links.{kind_at, first_at, second_at, key_at}
use Rattle.table.specs.WellFormed.{key_right}
use Rattle.table.specs.Right.{node_right}
use Rattle.table.specs.RightLaws.{right_key, first-low, second-low}
use Rattle.table.specs.NodeKinds.{Fine, a_number, a_variable, an_unbound, the_readings, a_function, an_ask, a_call, node_form, build-fine, right-fine}
use Rattle.table.specs.Waits.{slot_a, slot_b, has_slot, awaits}
use Rattle.table.specs.WaitsLaws.{variable_at}
use Rattle.refine.specs.Free.{free}

-- a slot of what an entry awaits is a variable's entry, not above it
pub record Slot (links : List ℕ) (i v : ℕ) : Type 0 where
  pub at : ℕ
  pub is : v ≡ suc at
  pub below : at ≤ i
  pub kind : kind_at links at ≡ variable_kind

pub record Good (links cells waits : List ℕ) (xs : List ℤ) (n : ℕ) (φ : ℕ → Form) : Type 0 where
  pub most : n ≤ table_entries
  pub few : length xs ≤ table_readings
  pub small : (k : ℕ) → k < length xs → mag (get_or xs k (pos 0)) < 2147483648
  -- each entry has a right node, and the form that the node builds
  pub right : (i : ℕ) → i < n → node_right i (node_at links cells i) ≡ true
  pub forms : (i : ℕ) → i < n → φ i ≡ build (node_at links cells i) φ
  -- what is awaited is what is free
  pub awaited : (i j : ℕ) → i < n → j < n → kind_at links j ≡ variable_kind → awaits (get_or waits i 0) (suc j) ≡ free (variable_at links cells j) (φ i)
  pub slots : (i v : ℕ) → i < n → 1 ≤ v → has_slot (get_or waits i 0) v ≡ true → Slot links i v
  -- a variable has one entry
  pub one : (i j : ℕ) → i < n → j < n → kind_at links i ≡ variable_kind → kind_at links j ≡ variable_kind → variable_at links cells i ≡ variable_at links cells j → i ≡ j
  pub filled : (i : ℕ) → i < n → slot_a (get_or waits i 0) ≡ 0 → slot_b (get_or waits i 0) ≡ 0

-- ---- an entry by its node
-- what entry i has: the cells of its node, a right key, lower dependencies, and the form of its kind
pub record Parts (links cells : List ℕ) (φ : ℕ → Form) (i : ℕ) {q : Node} (k : Fine q) : Type 0 where
  pub kind : kind_at links i ≡ q.kind
  pub key : key_at cells i ≡ q.key
  pub variable : variable_at links cells i ≡ variable_in q
  pub first : first_at links i ≡ q.first
  pub second : second_at links i ≡ q.second
  pub keyed : key_right q ≡ true
  pub low : q.first ≤ i
  pub next : q.second ≤ i
  pub form : φ i ≡ node_form k φ

module _ {links cells waits : List ℕ} {xs : List ℤ} {n : ℕ} {φ : ℕ → Form} (good : Good links cells waits xs n φ) {i : ℕ} (h : i < n) where
  pub fine : Fine (node_at links cells i)
  fine = right-fine i _ (good.right i h)

  pub parts : Parts links cells φ i fine
  unfolding node_at
  parts =
      let r = good.right i h in
      record {
        kind = refl;
        key = refl;
        variable = refl;
        first = refl;
        second = refl;
        keyed = right_key i _ r;
        low = first-low i _ r;
        next = second-low i _ r;
        form = good.forms i h ∙ build-fine fine φ;
      }

-- ---- what an entry comes to can be kept
-- the values that variables have: numbers within signed 32 bits, or none yet
abbrev pub PlainValue : Value → Type 0
PlainValue (Number z) = mag z < 2147483648
PlainValue (Window s l) = ⊥
PlainValue Function = ⊥
PlainValue Delayed = Unit {0}
PlainValue (Missing r) = ⊥

abbrev pub Plain : Environment → Type 0
Plain nowhere = Unit {0}
Plain (bind x v ρ) = PlainValue v × Plain ρ

pub plain-lookup : (ρ : Environment) → Plain ρ → (y : ℕ) → PlainValue (lookup ρ y)
unfolding lookup
plain-lookup nowhere p y = tt
plain-lookup (bind x v ρ) p y = split (eqb x y) (λ q. rw q p.0) (λ q. rw q (plain-lookup ρ p.1 y))

plain-kept : (n : ℕ) (v : Value) → PlainValue v → Keepable n v
plain-kept n (Number z) h = record { held = h; inside = tt; reasoned = tt }
plain-kept n Delayed h = record { held = tt; inside = tt; reasoned = tt }
plain-kept n (Window s l) h = absurd h
plain-kept n Function h = absurd h
plain-kept n (Missing r) h = absurd h

reason_kept : (n r : ℕ) → 1 ≤ r → r ≤ 5 → Keepable n (Missing r)
reason_kept n r h k = record { held = omega arith; inside = tt; reasoned = (h, k) }

function-kept : (n : ℕ) (v : Value) (s : Bool) (g : ℤ → Result) → Keepable n v → Keepable n (value_of (function_of v s g))
unfolding value_of
function-kept n v s g k = by v s k
  where
    settles : (s : Bool) → Keepable n (value_of (cond s (runs g) (plain Delayed)))
    settles true = record { held = tt; inside = tt; reasoned = tt }
    settles false = record { held = tt; inside = tt; reasoned = tt }

    by : (v : Value) (s : Bool) → Keepable n v → Keepable n (value_of (function_of v s g))
    by (Missing r) s k = k
    by (Number z) s k = settles s
    by (Window a l) s k = settles s
    by Function s k = settles s
    by Delayed s k = settles s

run-function : (n : ℕ) (v : Value) (s : Bool) (g : ℤ → Result) (z : ℤ) → Keepable n (value_of (g z)) → Keepable n (run_of (function_of v s g) z)
unfolding run_of
run-function n v s g z k = by v s
  where
    settles : (s : Bool) → Keepable n (run_of (cond s (runs g) (plain Delayed)) z)
    settles true = k
    settles false = reason_kept n 2 (omega arith) (omega arith)

    by : (v : Value) (s : Bool) → Keepable n (run_of (function_of v s g) z)
    by (Missing r) s = reason_kept n 2 (omega arith) (omega arith)
    by (Number y) s = settles s
    by (Window a l) s = settles s
    by Function s = settles s
    by Delayed s = settles s

module _ (links cells waits : List ℕ) (xs : List ℤ) (n : ℕ) (φ : ℕ → Form) (good : Good links cells waits xs n φ) where
  -- what every entry comes to can be kept, and so can what a run of it gives
  mutual-kept : (k i : ℕ) → i < k → i < n → (ρ : Environment) → Plain ρ
      → Keepable (length xs) (value_of (evaluate xs ρ (φ i))) × ((z : ℤ) → mag z < 2147483648 → Keepable (length xs) (run_of (evaluate xs ρ (φ i)) z))
  unfolding evaluate value_of run_of key_right
  mutual-kept zero i h h' ρ p = absurd (omega arith)
  mutual-kept (suc k) i h h' ρ p = by (fine good h') (parts good h') (λ j l σ q. mutual-kept k j (omega arith) (omega arith) σ q)
    where
      wrong : Keepable (length xs) (Missing 2)
      wrong = reason_kept (length xs) 2 (omega arith) (omega arith)

      by : {q : Node} (k : Fine q) → Parts links cells φ i k
          → ((j : ℕ) → j < i → (σ : Environment) → Plain σ
          → Keepable (length xs) (value_of (evaluate xs σ (φ j))) × ((z : ℤ) → mag z < 2147483648 → Keepable (length xs) (run_of (evaluate xs σ (φ j)) z)))
          → Keepable (length xs) (value_of (evaluate xs ρ (φ i))) × ((z : ℤ) → mag z < 2147483648 → Keepable (length xs) (run_of (evaluate xs ρ (φ i)) z))
      by (a_number key) e again =
          rw e.form (record { held = down-range 2147483648 key (omega (arith, ltb-true key 4294967296 e.keyed)); inside = tt; reasoned = tt }, λ z m. wrong)
      by (a_variable name k _) e again =
          let x = with_level name k in
          rw e.form (plain-kept (length xs) (lookup ρ x) (plain-lookup ρ p x), λ z m. wrong)
      by (an_unbound x) e again = rw e.form (reason_kept (length xs) 1 (omega arith) (omega arith), λ z m. wrong)
      by the_readings e again = rw e.form (record { held = (omega arith, omega (arith, good.few)); inside = omega arith; reasoned = tt }, λ z m. wrong)
      by (a_function name b k _) e again =
          let x = with_level name k in
          rw e.form (
            function-kept (length xs) (value_of (evaluate xs (bind x Delayed ρ) (φ b)))
                (settled (bind x (Number (pos 0)) ρ) (φ b)) (λ z. evaluate xs (bind x (Number z) ρ) (φ b))
                (again b e.low (bind x Delayed ρ) (tt, p)).0,
            λ z m. run-function (length xs) (value_of (evaluate xs (bind x Delayed ρ) (φ b)))
                (settled (bind x (Number (pos 0)) ρ) (φ b)) (λ y. evaluate xs (bind x (Number y) ρ) (φ b)) z
                (again b e.low (bind x (Number z) ρ) (m, p)).0,
          )
      by (an_ask m d _) e again =
          rw e.form (kept-apply0 (length xs) (omega (arith, good.few)) m xs good.small (value_of (evaluate xs ρ (φ d))) (again d e.low ρ p).0, λ z m. wrong)
      by (a_call m d a _) e again =
          rw e.form (
            kept-apply1 (length xs) (omega (arith, good.few)) m xs good.small (run_of (evaluate xs ρ (φ a)))
                (λ z q. (again a e.next ρ p).1 z q.held) (value_of (evaluate xs ρ (φ d))) (value_of (evaluate xs ρ (φ a))) (again d e.low ρ p).0 (again a e.next ρ p).0,
            λ z m. wrong,
          )

  pub kept_entry : (i : ℕ) → i < n → (ρ : Environment) → Plain ρ → Keepable (length xs) (value_of (evaluate xs ρ (φ i)))
  kept_entry i h ρ p = (mutual-kept (suc i) i (omega arith) h ρ p).0

-- ---- dependencies, and what is seen
abbrev pub Link : List ℕ → ℕ → ℕ → Type 0
Link links i d = (d < i) × ((first_at links i ≡ suc d) ⊎ (second_at links i ≡ suc d))

pub data Sees (links : List ℕ) (φ : ℕ → Form) : ℕ → ℕ → Type 0 where
  here : (i : ℕ) → Sees links φ i i
  down : (i d m : ℕ) → Link links i d → Sees links φ d m → ((y : ℕ) → free y (φ m) ≡ true → free y (φ i) ≡ true) → Sees links φ i m

module _ (links : List ℕ) (φ : ℕ → Form) where
  pub sees-free : (i m : ℕ) → Sees links φ i m → (y : ℕ) → free y (φ m) ≡ true → free y (φ i) ≡ true
  sees-free i m (here _) y h = h
  sees-free i m (down _ d _ l s f) y h = f y h

  pub sees_below : (i m : ℕ) → Sees links φ i m → m ≤ i
  sees_below i m (here _) = omega arith
  sees_below i m (down _ d _ l s f) = omega (arith, sees_below d m s, l.0)

  pub sees-trans : (i m d : ℕ) → Sees links φ i m → Sees links φ m d → Sees links φ i d
  sees-trans i m d (here _) t = t
  sees-trans i m d (down _ e _ l s f) t = down i e d l (sees-trans e m d s t) (λ y h. f y (sees-free m d t y h))
