-- Following the link to a level's variable comes to that variable. Assumes nothing.
use Rattle.std.specs.Prelude.{◌≡◌, ◌⊎◌, Bool, cond, List, [], ◌∷◌, map, eqb, get_or}
use Rattle.std.proofs.lemmas.Bool.{false≢true}
use Rattle.std.proofs.Math.Path.{refl, ap}
use Rattle.std.proofs.Common.{sym, ◌∙◌, subst, inl, inr}
use Rattle.std.proofs.Math.Bool.{true, false}
use Prim.Native.Nat.{ℕ, suc, ◌-◌, ◌≤◌, ◌<◌}
use native.Mathlib.Omega.{arith}
use borrow.Author.Tests.{eq-eqb, ne_eqb, le-leb}
use Rattle.language.specs.Cases.{split}
use Rattle.language.specs.Limits.{text_parts}
use Rattle.meaning.specs.Forms.{Form, with_level, level_in, name_in}
use Rattle.meaning.specs.Evaluation.{has_name}
use Rattle.meaning.proofs.HasLaws.{joined-cases, has-without}
use Rattle.layout.specs.Memory.{Node}
use Rattle.layout.specs.Nodes.{variable_kind, function_kind}
use Rattle.layout.specs.Held.{shaped, record_at}
use Rattle.layout.specs.declared.nodes.Shape.{Shape}
use Rattle.levels.specs.Interpreting.{levels, variable_at}
use Rattle.interpreter.specs.declared.orders.Order.{Order}
use Rattle.interpreter.specs.declared.orders.Order.TheVariants.{Empty, Outer, Inner, OuterInner, InnerOuter}
use Rattle.interpreter.specs.Standing.{Stands, a_number, a_variable, an_unbound, the_readings, a_function, an_ask, a_call}
use Rattle.interpreter.specs.Orders.{order_of, listed, has_level, linked_of}
use Rattle.interpreter.specs.OrdersLaws.{has_listed}
use Rattle.interpreter.specs.Naming.{next_of, Awaits, NamedBy, first_level, Nameable, Named}

-- a form that awaits the level, its variable of that level the other form's
pub record Leads (R : List ℕ) (at k : ℕ) (F : Form) : Type 0 where
  pub form : Form
  pub stands : Stands (record_at R) at form
  pub has : has_name k (levels form) ≡ true
  pub same : variable_at k F ≡ variable_at k form

-- record `at`, on the way from record i
pub record Way (R orders : List ℕ) (i k at : ℕ) : Type 0 where
  pub here : Awaits R orders at k
  pub leads : (F : Form) → Stands (record_at R) i F → has_name k (levels F) ≡ true → Leads R at k F

pub way-begin : (R orders : List ℕ) (i k : ℕ) → Awaits R orders i k → Way R orders i k i
way-begin R orders i k a = record { here = a; leads = λ F s h. record { form = F; stands = s; has = h; same = refl } }

module _ (R orders : List ℕ) (i k at : ℕ) (way : Way R orders i k at) (x : Shape) (q : shaped x ≡ record_at R at) where
  abbrev ν : ℕ → Node
  ν = record_at R

  -- the next record from a form that stands here
  record Next (F : Form) : Type 0 where
    one : 1 ≤ next_of orders k x
    low : next_of orders k x - 1 < at
    on : Leads R (next_of orders k x - 1) k F

  kind-of : (m : Node) → ν at ≡ m → x.kind ≡ m.kind
  kind-of m e = ap (λ (y : Node). y.kind) (q ∙ e)

  first_of : (m : Node) → ν at ≡ m → x.first ≡ m.first
  first_of m e = ap (λ (y : Node). y.first) (q ∙ e)

  second-of : (m : Node) → ν at ≡ m → x.second ≡ m.second
  second-of m e = ap (λ (y : Node). y.second) (q ∙ e)

  next-to : (F G : Form) (l d : ℕ) → next_of orders k x ≡ l → l ≡ suc d → d < at → Stands ν d G → has_name k (levels G) ≡ true → variable_at k F ≡ variable_at k G → Next F
  next-to F G l d e z h s g v =
      let y : next_of orders k x - 1 ≡ d = omega arith in
      record { one = omega arith; low = omega arith; on = record { form = G; stands = rw y s; has = g; same = v } }

  linked-has : (d : ℕ) (F : Form) → d < at → Stands ν d F → has_level (linked_of orders (suc d)) k ≡ has_name k (levels F)
  unfolding linked_of
  linked-has d F h s =
      let o = way.here.ordered in
      let b : d < way.here.count = omega (arith, way.here.below) in
      let z : suc d - 1 ≡ d = omega arith in
      rw (le-leb 1 (suc d) (omega arith), le-leb (suc d) text_parts (omega (arith, way.here.small)), z)
      (has_listed (order_of (get_or orders d 0)) k way.here.low ∙ ap (has_name k) (o.right d F b s))

  next-function : x.kind ≡ function_kind → next_of orders k x ≡ x.first
  unfolding next_of
  next-function e = rw (eq-eqb _ _ e)

  next-alone : x.second ≡ 0 → next_of orders k x ≡ x.first
  unfolding next_of
  next-alone e = split (eqb x.kind function_kind) (λ p. rw p) (λ p. rw (p, eq-eqb _ _ e))

  next_both : (x.kind ≡ function_kind → ⊥) → (x.second ≡ 0 → ⊥) → (b : Bool) → has_level (linked_of orders x.first) k ≡ b → next_of orders k x ≡ cond b x.first x.second
  unfolding next_of
  next_both e f b g = rw (ne_eqb _ _ e, ne_eqb _ _ f, g)

  step : (x.kind ≡ variable_kind → ⊥) → (F : Form) → Stands ν at F → has_name k (levels F) ≡ true → Next F
  unfolding levels variable_at has_name
  step u _ (a_number _ key e l) h = absurd (false≢true h)
  step u _ (a_variable _ y l e g) h = absurd (u (kind-of _ e))
  step u _ (an_unbound _ y e) h = absurd (false≢true h)
  step u _ (the_readings _ e) h = absurd (false≢true h)
  step u _ (a_function _ y b l B e g d s) h =
      next-to _ B x.first b (next-function (kind-of _ e)) (first_of _ e) d s (has-without k (level_in (with_level y l)) (levels B) h).0 refl
  step u _ (an_ask _ m f F e a d s) h = next-to _ F x.first f (next-alone (second-of _ e)) (first_of _ e) d s h refl
  step u _ (a_call _ m f a F A e g d s c t) h =
      let kk = kind-of _ e in
      let ss = second-of _ e in
      let lh : has_level (linked_of orders x.first) k ≡ has_name k (levels F) = ap (λ (y : ℕ). has_level (linked_of orders y) k) (first_of _ e) ∙ linked-has f F d s in
      split (has_name k (levels F))
      (λ p. next-to _ F x.first f (next_both (λ z. omega arith) (λ z. omega arith) true (lh ∙ p)) (first_of _ e) d s p (rw p))
      (λ p.
      next-to _ A x.second a (next_both (λ z. omega arith) (λ z. omega arith) false (lh ∙ p)) ss c t
      (joined-cases k (levels F) (levels A) h (λ v. absurd (false≢true (sym p ∙ v))) (λ v. v)) (rw p))

  module _ (u : x.kind ≡ variable_kind → ⊥) where
    own : Next way.here.form
    own = step u way.here.form way.here.stands way.here.has

    pub way-one : 1 ≤ next_of orders k x
    way-one = own.one

    pub way-low : next_of orders k x - 1 < at
    way-low = own.low

    pub way_on : (l : ℕ) → l ≡ next_of orders k x → Way R orders i k (l - 1)
    way_on l z = rw z
        (record {
          here = record {
            form = own.on.form;
            stands = own.on.stands;
            has = own.on.has;
            low = way.here.low;
            small = omega (arith, own.low, way.here.small);
            count = way.here.count;
            below = omega (arith, own.low, way.here.below);
            ordered = way.here.ordered;
          };
          leads = λ F s h.
              let a = way.leads F s h in
              let b = step u a.form a.stands a.has in
              record { form = b.on.form; stands = b.on.stands; has = b.on.has; same = a.same ∙ b.on.same };
        })

  pub way_end : x.kind ≡ variable_kind → NamedBy R i k x.key
  unfolding levels variable_at has_name
  way_end e F s h = let a = way.leads F s h in by a.form a.stands a.has ∙ ap name_in (sym a.same)
    where
      no : {A : Type 0} (m : Node) → ν at ≡ m → (m.kind ≡ variable_kind → ⊥) → A
      no m g u = absurd (u (sym (kind-of m g) ∙ e))

      by : (G : Form) → Stands ν at G → has_name k (levels G) ≡ true → x.key ≡ name_in (variable_at k G)
      by _ (a_number _ key g l) h = absurd (false≢true h)
      by _ (a_variable _ y l g b) h = let z : x.key ≡ y = ap (λ (m : Node). m.key) (q ∙ g) in let n : name_in (with_level y l) ≡ y = omega arith in z ∙ sym n
      by _ (an_unbound _ y g) h = absurd (false≢true h)
      by _ (the_readings _ g) h = absurd (false≢true h)
      by _ (a_function _ y b l B g c d t) h = no _ g (λ z. omega arith)
      by _ (an_ask _ m f G g a d t) h = no _ g (λ z. omega arith)
      by _ (a_call _ m f a G A g b d t c v) h = no _ g (λ z. omega arith)

-- ---- the names of an order

abbrev name_for : Form → ℕ → ℕ
name_for F k = name_in (variable_at k F)

abbrev at_names : Form → List ℕ → ℕ → ℕ
at_names F ks j = get_or (map (λ k. name_in (variable_at k F)) ks) j 0

pub first-low : (w : Order) → first_level w < 2
unfolding first_level
first-low Empty = omega arith
first-low Outer = omega arith
first-low Inner = omega arith
first-low OuterInner = omega arith
first-low InnerOuter = omega arith

first-has : (w : Order) → (w ≡ Empty → ⊥) → has_name (first_level w) (listed w) ≡ true
unfolding first_level listed has_name
first-has Empty u = absurd (u refl)
first-has Outer u = refl
first-has Inner u = refl
first-has OuterInner u = refl
first-has InnerOuter u = refl

second-has : (w : Order) → (w ≡ OuterInner) ⊎ (w ≡ InnerOuter) → has_name (1 - first_level w) (listed w) ≡ true
unfolding first_level listed has_name
second-has w (inl e) = rw e refl
second-has w (inr e) = rw e refl

module _ (R orders : List ℕ) (i : ℕ) (nameable : Nameable R orders i) where
  abbrev w : Order
  w = order_of (get_or orders i 0)

  are : (F : Form) → Stands (record_at R) i F → listed w ≡ levels F
  are F s = nameable.ordered.right i F nameable.below s

  -- of an order whose levels are told
  module _ (ks : List ℕ) (e : listed w ≡ ks) where
    pub awaits-level : (k : ℕ) → k < 2 → has_name k ks ≡ true → Awaits R orders i k
    awaits-level k l h =
        record {
          form = nameable.form;
          stands = nameable.stands;
          has = subst (λ (js : List ℕ). has_name k js ≡ true) (sym e ∙ are nameable.form nameable.stands) h;
          low = l;
          small = nameable.small;
          count = nameable.count;
          below = nameable.below;
          ordered = nameable.ordered;
        }

    -- the name at place j of the names of the form
    named-at : (j r : ℕ) → ((F : Form) → Stands (record_at R) i F → r ≡ at_names F ks j) → (F : Form) → Stands (record_at R) i F → r ≡ at_names F (levels F) j
    named-at j r h F s = h F s ∙ ap (λ (js : List ℕ). at_names F js j) (sym e ∙ are F s)

    of-level : (k r : ℕ) → has_name k ks ≡ true → NamedBy R i k r → (F : Form) → Stands (record_at R) i F → r ≡ name_for F k
    of-level k r h n F s = n F s (subst (λ (js : List ℕ). has_name k js ≡ true) (sym e ∙ are F s) h)

  pub names-none : w ≡ Empty → Named R i 0 0
  unfolding listed
  names-none e = record { first = named-at [] (ap listed e) 0 0 (λ F s. refl); second = named-at [] (ap listed e) 1 0 (λ F s. refl) }

  pub names-one : (k : ℕ) → listed w ≡ k ∷ [] → has_name k (k ∷ []) ≡ true → (name : ℕ) → NamedBy R i k name → Named R i name 0
  names-one k e h name n =
      record {
        first = named-at (k ∷ []) e 0 name (of-level (k ∷ []) e k name h n);
        second = named-at (k ∷ []) e 1 0 (λ F s. refl);
      }

  pub names-two : (k l : ℕ) → listed w ≡ k ∷ l ∷ [] → has_name k (k ∷ l ∷ []) ≡ true → has_name l (k ∷ l ∷ []) ≡ true → (name other : ℕ) → NamedBy R i k name → NamedBy R i l other → Named R i name other
  names-two k l e h g name other n m =
      record {
        first = named-at (k ∷ l ∷ []) e 0 name (of-level (k ∷ l ∷ []) e k name h n);
        second = named-at (k ∷ l ∷ []) e 1 other (of-level (k ∷ l ∷ []) e l other g m);
      }

  module _ (u : w ≡ Empty → ⊥) (k : ℕ) (z : k ≡ first_level w) where
    pub awaits-first : Awaits R orders i k
    awaits-first = rw z (awaits-level (listed w) refl (first_level w) (first-low w) (first-has w u))

    pub awaits-second : (w ≡ OuterInner) ⊎ (w ≡ InnerOuter) → Awaits R orders i (1 - k)
    awaits-second l = rw z (awaits-level (listed w) refl (1 - first_level w) (omega arith) (second-has w l))
