-- The cells of what a form shows pass the tests of refusal 4, and show it again. Assumes nothing.
use Rattle.std.specs.Prelude.{◌≡◌, Bool, true, false, ◌||◌, List, [], ◌∷◌, map, ℕ, ◌<◌, ◌≤◌, eqb, ℤ, pos, length, get_or}
use Rattle.std.proofs.lemmas.Bool.{false≢true, cond_both}
use Rattle.std.proofs.Math.Path.{refl}
use Rattle.std.proofs.Common.{sym, ap, ◌∙◌, subst, arith, eq-eqb, ne_eqb}
use Rattle.std.proofs.Math.Option.{some}
use Rattle.std.specs.Int.Signed.{mag}
use Rattle.language.specs.Cases.{split}
use Rattle.language.specs.Limits.{table_readings}
use Rattle.members.specs.declared.Member.{Member}
use Rattle.rules.specs.declared.Value.{Value}
use Rattle.rules.specs.declared.Value.TheVariants.{Number, Window, Function, Delayed, Missing}
use Rattle.rules.specs.Rules.{rule}
use Rattle.rules.specs.Apply.{is_missing, is_delayed, by_rule0, by_rule1, apply0, apply1}
use Rattle.values.specs.Keepable.{Storable, Keepable}
use Rattle.values.specs.Packing.{pack_of, unpack_of, is_packed, function_cell, delayed_cell}
use Rattle.values.specs.PackingLaws.{round, packed_above, kept-passes}
use Rattle.meaning.specs.Forms.{Form, number, variable, unbound, readings, ask, call, function, name_in, name_of}
use Rattle.meaning.proofs.FormsLaws.{within-self}
use Rattle.meaning.specs.Evaluation.{value_of, nowhere, lookup, evaluate, has_name, awaited, Shown, a_number, a_window, a_function, a_delay, a_reason, shown_as, shows}
use Rattle.layout.specs.Memory.{Kept as Cells}
use Rattle.layout.specs.Nodes.{is_name, word_number}
use Rattle.table.specs.WellFormed.{names_right}
use Rattle.meaning.proofs.HasLaws.{Has}
use Rattle.demand.specs.Holds.{kept_for, mark_of}
use Rattle.demand.proofs.Delays.{is_plain, plain-rule0, plain-rule1}
use Rattle.demand.proofs.Fitting.{Deep, shown-fits, name-of, delayed-awaits}

pub record Keeps (n : ℕ) (v : Shown) : Type 0 where
  pub names : names_right (kept_for v) ≡ true
  pub packed : is_packed (kept_for v).value n ≡ true
  pub above : 1 ≤ (kept_for v).value
  pub mark : mark_of (kept_for v) ≡ some v

-- a cell of one value is not another's
cell-not : (v u : Value) (c : ℕ) → Storable v → unpack_of c ≡ u → (v ≡ u → ⊥) → eqb (pack_of v) c ≡ false
cell-not v u c h q out = ne_eqb (pack_of v) c (λ e. out (sym (round v h) ∙ ap unpack_of e ∙ q))

at-function : unpack_of function_cell ≡ Function
unfolding unpack_of
at-function = refl

at-delayed : unpack_of delayed_cell ≡ Delayed
unfolding unpack_of
at-delayed = refl

-- a value that shows no names
keeps-plain : (n : ℕ) (v : Value) (w : Shown) → Keepable n v → (v ≡ Function → ⊥) → (v ≡ Delayed → ⊥) → kept_for w ≡ record { value = pack_of v; name = 0; other = 0 }
    → shown_as 0 [] v ≡ w → Keeps n w
unfolding names_right
keeps-plain n v w k nf nd e s =
    let a = packed_above v in
    let f : eqb (pack_of v) function_cell ≡ false = cell-not v Function function_cell k.held at-function nf in
    let d : eqb (pack_of v) delayed_cell ≡ false = cell-not v Delayed delayed_cell k.held at-delayed nd in
    let z : eqb (pack_of v) 0 ≡ false = ne_eqb (pack_of v) 0 (λ q. omega arith) in
    let c : Cells = record { value = pack_of v; name = 0; other = 0 } in
    let names : names_right c ≡ true = rw (f, d) in
    let mark : mark_of c ≡ some w = rw (z, round v k.held) (ap some s) in
    record {
      names = subst (λ (x : Cells). names_right x ≡ true) (sym e) names;
      packed = subst (λ (x : Cells). is_packed x.value n ≡ true) (sym e) (kept-passes n v k);
      above = subst (λ (x : Cells). 1 ≤ x.value) (sym e) a;
      mark = subst (λ (x : Cells). mark_of x ≡ some w) (sym e) mark;
    }

never : {A : Type 0} → ◌≡◌ {A = ℕ} 0 1 → A
never z = absurd (omega arith)

-- functions come from functions alone
abbrev is_fun : Value → Bool
is_fun Function = true
is_fun (Number z) = false
is_fun (Window s l) = false
is_fun Delayed = false
is_fun (Missing r) = false

plain-fun : (v : Value) → is_plain v ≡ true → is_fun v ≡ false
plain-fun (Number z) h = refl
plain-fun (Window s l) h = refl
plain-fun Function h = absurd (false≢true h)
plain-fun Delayed h = absurd (false≢true h)
plain-fun (Missing r) h = refl

missing-fun : (v : Value) → is_missing v ≡ true → is_fun v ≡ false
missing-fun (Number z) h = absurd (false≢true h)
missing-fun (Window s l) h = absurd (false≢true h)
missing-fun Function h = absurd (false≢true h)
missing-fun Delayed h = absurd (false≢true h)
missing-fun (Missing r) h = refl

abbrev NoFun : Value → Type 0
NoFun v = is_fun v ≡ false

fun0 : (m : Member) (xs : List ℤ) (v : Value) → NoFun (apply0 m xs v)
unfolding apply0
fun0 m xs v =
    cond_both (is_missing v) v _ NoFun (missing-fun v)
    (λ _. cond_both (is_delayed v) Delayed _ NoFun (λ e. refl)
    (λ _. plain-fun (by_rule0 (rule m) xs v) (plain-rule0 m xs v)))

fun1 : (m : Member) (xs : List ℤ) (v w : Value) (run : ℤ → Value) → NoFun (apply1 m xs v w run)
unfolding apply1
fun1 m xs v w run =
    cond_both (is_missing v) v _ NoFun (missing-fun v)
    (λ _. cond_both (is_missing w) w _ NoFun (missing-fun w)
    (λ _. cond_both (is_delayed v || is_delayed w) Delayed _ NoFun (λ e. refl)
    (λ _. plain-fun (by_rule1 (rule m) xs v w run) (plain-rule1 m xs v w run))))

function-name : (xs : List ℤ) (f : Form) → Deep f → is_fun (value_of (evaluate xs nowhere f)) ≡ true → is_name (name_in (name_of f)) ≡ true
unfolding evaluate value_of lookup name_of
function-name xs (number z) d h = absurd (false≢true h)
function-name xs (variable x) d h = absurd (false≢true h)
function-name xs (unbound x) d h = absurd (false≢true h)
function-name xs readings d h = absurd (false≢true h)
function-name xs (ask m f) d h = absurd (false≢true (sym (fun0 m xs _) ∙ h))
function-name xs (call m f a) d h = absurd (false≢true (sym (fun1 m xs _ _ _) ∙ h))
function-name xs (function x b) d h = (d (function x b) (within-self (function x b))).shape

-- a name is not 0
pub name-some : (y : ℕ) → is_name y ≡ true → eqb y 0 ≡ false
unfolding is_name word_number
name-some y h = ne_eqb y 0 (λ e. absurd (false≢true (rw e at h)))

-- one name or two
keeps-delay : (n : ℕ) (xs : List ℕ) → length xs ≤ 2 → (y : ℕ) → Has y xs → ((z : ℕ) → Has z xs → is_name (name_in z) ≡ true) → Keepable n Delayed
    → Keeps n (a_delay (map name_in xs))
unfolding names_right has_name
keeps-delay n [] l y h g k = absurd (false≢true h)
keeps-delay n (a ∷ []) l y h g k =
    let p = g a (rw (eq-eqb a a refl)) in
    let y = name-some (name_in a) p in
    record { names = rw (p, y); packed = kept-passes n Delayed k; above = packed_above Delayed; mark = rw (round Delayed tt, y) }
keeps-delay n (a ∷ b ∷ []) l y h g k =
    let p = g a (rw (eq-eqb a a refl)) in
    let q = g b (split (eqb b a) (λ e. rw e) (λ e. rw (e, eq-eqb b b refl))) in
    let y = name-some (name_in a) p in
    let z = name-some (name_in b) q in
    record { names = rw (p, q, y, z); packed = kept-passes n Delayed k; above = packed_above Delayed; mark = rw (round Delayed tt, y, z) }
keeps-delay n (a ∷ b ∷ c ∷ xs) l y h g k = absurd (omega arith)

keeps-function : (n x : ℕ) → is_name x ≡ true → Keepable n Function → Keeps n (a_function x)
unfolding names_right
keeps-function n x p k = record { names = rw p; packed = kept-passes n Function k; above = packed_above Function; mark = rw (round Function tt) }

-- what a proper form shows
module _ (xs : List ℤ) (short : length xs ≤ table_readings) (small : (i : ℕ) → i < length xs → mag (get_or xs i (pos 0)) < 2147483648) (f : Form)
    (d : Deep f) where
  by : (v : Value) → value_of (evaluate xs nowhere f) ≡ v → Keepable (length xs) v → Keeps (length xs) (shown_as (name_in (name_of f)) (map name_in (awaited f)) v)
  by (Number z) e k = keeps-plain (length xs) (Number z) (a_number z) k (λ q. never (cc)) (λ q. never (cc)) refl refl
  by (Window s l) e k = keeps-plain (length xs) (Window s l) (a_window s l) k (λ q. never (cc)) (λ q. never (cc)) refl refl
  by (Missing r) e k = keeps-plain (length xs) (Missing r) (a_reason r) k (λ q. never (cc)) (λ q. never (cc)) refl refl
  by Delayed e k = let a = delayed-awaits xs f nowhere (ap is_delayed e) in keeps-delay (length xs) (awaited f) (d f (within-self f)).few a.name a.free (name-of f d) k
  by Function e k = keeps-function (length xs) (name_in (name_of f)) (function-name xs f d (ap is_fun e)) k

  pub keeps : Keeps (length xs) (shows xs f)
  unfolding shows
  keeps = by (value_of (evaluate xs nowhere f)) refl (shown-fits xs short small f d)
