-- A record of a text shows what its form does. Assumes nothing.
use Rattle.std.specs.Prelude.{◌≡◌, List, map, ℕ, zero, suc, ◌+◌, eqb, ℤ, length, get_or, replicate}
use Rattle.std.proofs.lemmas.Bool.{false≢true}
use Rattle.std.proofs.Math.Path.{refl, sym}
use Rattle.std.proofs.Common.{ap, ◌∙◌, arith}
use Rattle.std.proofs.lemmas.List.{length-replicate}
use Rattle.language.specs.Cases.{split}
use Rattle.language.specs.Limits.{text_parts}
use Rattle.rules.specs.declared.Value.{Value}
use Rattle.rules.specs.declared.Value.TheVariants.{Number, Window, Function, Delayed, Missing}
use Rattle.values.specs.declared.shown.Shown.{Shown}
use Rattle.values.specs.Keepable.{Inside}
use Rattle.values.specs.Packing.{unpack_of}
use Rattle.values.specs.Shown.{shown_numbers}
use Rattle.meaning.specs.Forms.{Form, with_level, name_in, level_in, name_of}
use Rattle.meaning.specs.Evaluation.{shown_as}
use Rattle.layout.specs.Memory.{Node}
use Rattle.layout.specs.Held.{shaped, record_at}
use Rattle.layout.specs.declared.nodes.Shape.{Shape}
use Rattle.schedule.specs.declared.View.{View}
use Rattle.interface.specs.Views.{view_of}
use Rattle.interpreter.specs.declared.bindings.Bindings.{Bindings}
use Rattle.interpreter.specs.declared.memo.Known.{Known}
use Rattle.levels.specs.Interpreting.{Scope, nothing, stands_for, interpret, levels, variable_at, shown_by}
use Rattle.interpreter.specs.Standing.{Stands, a_number, a_variable, an_unbound, the_readings, a_function, an_ask, a_call}
use Rattle.interpreter.specs.Cells.{scope_of}
use Rattle.interpreter.specs.Orders.{Ordered}
use Rattle.interpreter.specs.Memo.{none, is_known, Remembers}
use Rattle.interpreter.specs.Walking.{Bound, Ready, Comes}
use Rattle.interpreter.specs.Naming.{Nameable, Named}
use Rattle.direct.specs.Showing.{view_with, Showable, ShownAs}

-- ---- the walk begins: nothing runs, and nothing is remembered

all-none : (n k : ℕ) → get_or (replicate n none) k none ≡ none
all-none zero k = refl
all-none (suc n) zero = refl
all-none (suc n) (suc k) = all-none n k

nothing_known : (xs : List ℤ) (ν : ℕ → Node) (orders : List ℕ) → Remembers xs ν orders (replicate text_parts none)
unfolding is_known
nothing_known xs ν orders i F h s t k = absurd (false≢true (rw (all-none text_parts i) at k))

delayed-inside : (n : ℕ) (v : Value) → v ≡ Delayed → Inside n v
delayed-inside n v e = rw e tt

nothing_bound : (xs : List ℤ) (t : Bindings) → scope_of t ≡ nothing → Bound xs t
nothing_bound xs t e =
    record {
      outer = delayed-inside (length xs) _ (ap (λ (s : Scope). s.outer) e);
      inner = delayed-inside (length xs) _ (ap (λ (s : Scope). s.inner) e);
    }

module _ (xs : List ℤ) (R : List ℕ) (i : ℕ) (show : Showable xs R i) (orders : List ℕ) (ordered : Ordered (record_at R) (i + 1) orders) where
  pub begins : (t : Bindings) → scope_of t ≡ nothing → (memo : List Known) → memo ≡ replicate text_parts none → Ready xs R orders t i memo
  begins t e memo z =
      record {
        few = show.few;
        low = show.low;
        form = show.form;
        stands = show.stands;
        count = i + 1;
        below = omega arith;
        ordered = ordered;
        bound = nothing_bound xs t e;
        keeps = rw z (record { size = length-replicate {A = Known} text_parts none; remembers = nothing_known xs (record_at R) orders });
      }

  pub nameable : Nameable R orders i
  nameable = record { form = show.form; stands = show.stands; small = show.low; count = i + 1; below = omega arith; ordered = ordered }

-- ---- values as they are shown, by the number of their kind

module _ (name : ℕ) (names : List ℕ) where
  view-function : (u : Value) → (shown_numbers u).kind ≡ 3 → view_with (shown_numbers u) name 0 ≡ view_of (shown_as name names u)
  unfolding view_of
  view-function (Number z) e = absurd (omega arith)
  view-function (Window s l) e = absurd (omega arith)
  view-function Function e = refl
  view-function Delayed e = absurd (omega arith)
  view-function (Missing r) e = absurd (omega arith)

  view-delay : (u : Value) → (shown_numbers u).kind ≡ 4 → view_with (shown_numbers u) (get_or names 0 0) (get_or names 1 0) ≡ view_of (shown_as name names u)
  unfolding view_of
  view-delay (Number z) e = absurd (omega arith)
  view-delay (Window s l) e = absurd (omega arith)
  view-delay Function e = absurd (omega arith)
  view-delay Delayed e = refl
  view-delay (Missing r) e = absurd (omega arith)

  view-other : (u : Value) → (u ≡ Function → ⊥) → (u ≡ Delayed → ⊥) → view_with (shown_numbers u) 0 0 ≡ view_of (shown_as name names u)
  unfolding view_of
  view-other (Number z) e d = refl
  view-other (Window s l) e d = refl
  view-other Function e d = absurd (e refl)
  view-other Delayed e d = absurd (d refl)
  view-other (Missing r) e d = refl

nothing-stands : (k : ℕ) → stands_for nothing k ≡ Delayed
nothing-stands k = split (eqb k 0) (λ e. rw e) (λ e. rw e)

-- the key of a record that comes to a function is its name
key-name : (xs : List ℤ) (R : List ℕ) (i : ℕ) (x : Shape) → shaped x ≡ record_at R i → (F : Form) → Stands (record_at R) i F
    → (shown_numbers (interpret xs nothing F)).kind ≡ 3 → x.key ≡ name_in (name_of F)
unfolding interpret name_of
key-name xs R i x q _ (a_number _ key e l) k = absurd (omega arith)
key-name xs R i x q _ (a_variable _ y l e g) k = let z = ap (λ (v : Value). (shown_numbers v).kind) (nothing-stands (level_in (with_level y l))) in absurd (omega arith)
key-name xs R i x q _ (an_unbound _ y e) k = absurd (omega arith)
key-name xs R i x q _ (the_readings _ e) k = absurd (omega arith)
key-name xs R i x q _ (a_function _ y b l B e g d s) k = let n : name_in (with_level y l) ≡ y = omega arith in ap (λ (m : Node). m.key) (q ∙ e) ∙ sym n
key-name xs R i x q _ (an_ask _ m f F e a d s) k = ap (λ (m : Node). m.key) (q ∙ e)
key-name xs R i x q _ (a_call _ m f a F A e g d s c t) k = ap (λ (m : Node). m.key) (q ∙ e)

-- ---- what is shown, from the value

module _ (xs : List ℤ) (R orders : List ℕ) (t : Bindings) (i : ℕ) (memo : List Known) (cell : ℕ) (comes : Comes xs R orders t i memo cell) (e : scope_of t ≡ nothing)
    (u : Value) (p : u ≡ unpack_of cell) (v : Shown) (q : v ≡ shown_numbers u) where
  is : (F : Form) → Stands (record_at R) i F → u ≡ interpret xs nothing F
  is F s = p ∙ comes.right F s ∙ ap (λ (x : Scope). interpret xs x F) e

  numbers-are : (F : Form) → Stands (record_at R) i F → v ≡ shown_numbers (interpret xs nothing F)
  numbers-are F s = q ∙ ap shown_numbers (is F s)

  kind-are : (F : Form) → Stands (record_at R) i F → v.kind ≡ (shown_numbers (interpret xs nothing F)).kind
  kind-are F s = ap (λ (x : Shown). x.kind) (numbers-are F s)

  pub shows-function : u ≡ Function → (x : Shape) → shaped x ≡ record_at R i → (r : View) → r ≡ view_with v x.key 0 → ShownAs xs R i r
  unfolding shown_by
  shows-function h x z r b F s =
      let d = sym (kind-are F s) ∙ ap (λ (x : Shown). x.kind) (q ∙ ap shown_numbers h) in
      b ∙ (λ j. view_with (numbers-are F s j) (key-name xs R i x z F s d j) 0)
      ∙ view-function (name_in (name_of F)) (map (λ k. name_in (variable_at k F)) (levels F)) (interpret xs nothing F) d

  pub shows-delay : u ≡ Delayed → (name other : ℕ) → Named R i name other → (r : View) → r ≡ view_with v name other → ShownAs xs R i r
  unfolding shown_by
  shows-delay h name other n r b F s =
      let k = ap (λ (x : Shown). x.kind) (q ∙ ap shown_numbers h) in
      b ∙ (λ j. view_with (numbers-are F s j) (n.first F s j) (n.second F s j))
      ∙ view-delay (name_in (name_of F)) (map (λ k. name_in (variable_at k F)) (levels F)) (interpret xs nothing F) (sym (kind-are F s) ∙ k)

  pub shows-other : (u ≡ Function → ⊥) → (u ≡ Delayed → ⊥) → (r : View) → r ≡ view_with v 0 0 → ShownAs xs R i r
  unfolding shown_by
  shows-other g h r b F s =
      b ∙ (λ j. view_with (numbers-are F s j) 0 0)
      ∙ view-other (name_in (name_of F)) (map (λ k. name_in (variable_at k F)) (levels F)) (interpret xs nothing F) (λ z. g (is F s ∙ z)) (λ z. h (is F s ∙ z))
