-- The steps of the walk, each over plain lists. Assumes nothing.
use Rattle.std.specs.Prelude.{◌≡◌, Bool, true, false, cond, ◌&&◌, ◌||◌, List, ℕ, ◌+◌, ◌-◌, ◌%◌, ◌≤◌, ◌<◌, pos, ◌-ℤ◌, length, get_or}
use Rattle.std.proofs.lemmas.Bool.{false≢true}
use Rattle.std.proofs.Math.Path.{refl, sym, ap}
use Rattle.std.proofs.Common.{◌∙◌, subst, arith, eqb-true}
use Rattle.std.proofs.Math.Bool.{not, and-eq-true_iff}
use Rattle.std.proofs.Math.Decide.{dec_lt}
use Rattle.std.proofs.Math.Dec.{eqb}
use Rattle.std.proofs.Math.IntN.{ℤ}
use Rattle.std.proofs.Math.ListN.{length-set}
use Rattle.std.proofs.Math.Seq.{get_or-set_same, get_or-set_other}
use Rattle.language.specs.Cases.{split}
use Rattle.language.specs.Limits.{text_parts}
use Rattle.members.specs.declared.Member.{Member}
use Rattle.rules.specs.declared.Value.{Value}
use Rattle.rules.specs.declared.Value.TheVariants.{Number, Window, Function, Delayed, Missing}
use Rattle.rules.specs.Values.{wrong_kind}
use Rattle.rules.specs.Apply.{is_delayed, apply0, apply1}
use Rattle.values.specs.declared.apply.Applied.{Applied}
use Rattle.values.specs.declared.apply.Applied.TheVariants.{Done, Run}
use Rattle.values.specs.Applied.{applied1, completed}
use Rattle.values.specs.ApplyLaws.{completed-is}
use Rattle.values.specs.Keepable.{Inside, Bounded}
use Rattle.values.specs.Packing.{unpack_of, wrong_cell}
use Rattle.values.specs.PackingLaws.{round}
use Rattle.meaning.specs.Forms.{Form, with_level, level_in, function}
use Rattle.meaning.specs.Evaluation.{has_name}
use Rattle.layout.specs.Memory.{Node}
use Rattle.layout.specs.Nodes.{function_kind, member_kind}
use Rattle.layout.specs.Held.{shaped, record_at}
use Rattle.layout.specs.declared.nodes.Shape.{Shape}
use Rattle.interpreter.specs.declared.orders.Order.{Order}
use Rattle.interpreter.specs.declared.orders.Order.TheVariants.{Empty, Outer, Inner, OuterInner, InnerOuter}
use Rattle.interpreter.specs.declared.bindings.Bindings.{Bindings}
use Rattle.interpreter.specs.declared.memo.Known.{Known}
use Rattle.levels.specs.Interpreting.{Scope, stands_for, with, levels, is_open, judged, interpret, ran}
use Rattle.interpreter.specs.InterpretingLaws.{Alike, interpret-alike, inside}
use Rattle.interpreter.specs.Standing.{Stands, a_number, a_variable, an_unbound, the_readings, a_function, an_ask, a_call}
use Rattle.interpreter.specs.StandingLaws.{IsFunction, IsMember, a-function, a-member}
use Rattle.interpreter.specs.Cells.{bindings, scope_of, bound_at}
use Rattle.interpreter.specs.Orders.{order_of, listed, has_level}
use Rattle.interpreter.specs.OrdersLaws.{level-of, has_listed}
use Rattle.interpreter.specs.Memo.{known, none, same, seen_by, is_known, kept, Remembers}
use Rattle.interpreter.specs.Walking.{leaf_of, waits_for, Bound, Keeps, Ready, Comes, Ran, Over}

-- ---- the scope of bindings

pub scope-bound : (s : Bindings) (k c : ℕ) → scope_of (bound_at s k c) ≡ with (scope_of s) k (unpack_of c)
scope-bound s k c = split (eqb k 0) (λ e. rw e) (λ e. rw e)

pub bound-more : (xs : List ℤ) (s : Bindings) (k c : ℕ) → Bound xs s → Inside (length xs) (unpack_of c) → Bound xs (bound_at s k c)
bound-more xs s k c b h = split (eqb k 0) (λ e. rw e (record { outer = h; inner = b.inner })) (λ e. rw e (record { outer = b.outer; inner = h }))

-- one of the levels stands for nothing
waits-open : (s : Scope) (w : Order) → waits_for s w ≡ is_open s (listed w)
unfolding waits_for is_open listed has_level
waits-open s Empty = refl
waits-open s Outer = pad (is_delayed s.outer)
  where
    pad : (a : Bool) → (a || false) ≡ (a || false)
    pad a = refl
waits-open s Inner = pad (is_delayed s.inner)
  where
    pad : (a : Bool) → a ≡ (a || false)
    pad true = refl
    pad false = refl
waits-open s OuterInner = both (is_delayed s.outer) (is_delayed s.inner)
  where
    both : (a b : Bool) → (a || b) ≡ (a || (b || false))
    both true b = refl
    both false true = refl
    both false false = refl
waits-open s InnerOuter = turn (is_delayed s.outer) (is_delayed s.inner)
  where
    turn : (a b : Bool) → (a || b) ≡ (b || (a || false))
    turn true true = refl
    turn true false = refl
    turn false true = refl
    turn false false = refl

-- ---- what is known, and one record more that is

-- bindings that are seen alike agree at the levels
outer-has : (w : Order) (k : ℕ) → k ≡ 0 → has_name k (listed w) ≡ true → has_level w 0 ≡ true
outer-has w k e q = has_listed w 0 (omega arith) ∙ subst (λ (d : ℕ). has_name d (listed w) ≡ true) e q

inner-has : (w : Order) (k : ℕ) → eqb k 0 ≡ false → has_name k (listed w) ≡ true → has_level w 1 ≡ true
unfolding has_level listed has_name
inner-has Empty k e q = absurd (false≢true q)
inner-has Outer k e q = absurd (false≢true (rw e at q))
inner-has Inner k e q = refl
inner-has OuterInner k e q = refl
inner-has InnerOuter k e q = refl

same_if : (b : Bool) (x y : ℕ) → b ≡ true → cond b x 0 ≡ cond b y 0 → x ≡ y
same_if b x y h e = rw h at e

seen_alike : (s t : Bindings) (w : Order) → seen_by s w ≡ seen_by t w → Alike (scope_of s) (scope_of t) (listed w)
unfolding seen_by
seen_alike s t w e k q =
    split (eqb k 0)
    (λ z. rw z (ap unpack_of (same_if (has_level w 0) _ _ (outer-has w k (eqb-true k 0 z) q) (ap (λ (b : Bindings). b.outer) e))))
    (λ z. rw z (ap unpack_of (same_if (has_level w 1) _ _ (inner-has w k z q) (ap (λ (b : Bindings). b.inner) e))))

same-is : (s t : Bindings) → same s t ≡ true → s ≡ t
same-is s t h =
    let e = (and-eq-true_iff (eqb s.outer t.outer) _).0 h in
    λ j. bindings (eqb-true _ _ e.0 j) (eqb-true _ _ e.1 j)

known-seen : (memo : List Known) (i : ℕ) (seen : Bindings) → is_known memo i seen ≡ true → (get_or memo i none).seen ≡ seen
unfolding is_known
known-seen memo i seen h = same-is _ _ ((and-eq-true_iff (not (eqb (get_or memo i none).cell 0)) _).0 h).1

-- ---- the walk at record i

module _ (xs : List ℤ) (R orders : List ℕ) (s : Bindings) (i : ℕ) (memo : List Known) (ready : Ready xs R orders s i memo) where
  -- what is remembered may have become more
  pub ready-later : (after : List Known) → Keeps xs R orders after → Ready xs R orders s i after
  ready-later after k =
      record {
        few = ready.few;
        low = ready.low;
        form = ready.form;
        stands = ready.stands;
        count = ready.count;
        below = ready.below;
        ordered = ready.ordered;
        bound = ready.bound;
        keeps = k;
      }

  abbrev ν : ℕ → Node
  ν = record_at R

  abbrev w : Order
  w = order_of (get_or orders i 0)

  pub known-comes : (seen : Bindings) → seen ≡ seen_by s w → (b : Bool) → b ≡ is_known memo i seen → b ≡ true → Comes xs R orders s i memo (get_or memo i none).cell
  known-comes seen e b q h =
      record { right = λ F t. ready.keeps.remembers i F ready.low t s (rw (← e) (sym q ∙ h)); keeps = ready.keeps }

  -- what is kept of record i, and of another one
  module _ (after : List Known) (size : length after ≡ text_parts) (seen : Bindings) (c : ℕ) where
    kept-here : get_or (kept after i seen c) i none ≡ known c seen
    unfolding kept
    kept-here = get_or-set_same after i (known c seen) none (omega (arith, ready.low))

    kept-other : (j : ℕ) → (j ≡ i → ⊥) → get_or (kept after i seen c) j none ≡ get_or after j none
    unfolding kept
    kept-other j u = get_or-set_other after i j (known c seen) none (λ e. u (omega arith))

    kept-size : length (kept after i seen c) ≡ text_parts
    unfolding kept
    kept-size = length-set after i (known c seen) ∙ size

    kept-elsewhere : (j : ℕ) (t : Bindings) → (j ≡ i → ⊥) → is_known (kept after i seen c) j t ≡ is_known after j t
    unfolding is_known
    kept-elsewhere j t u = ap (λ (k : Known). not (eqb k.cell 0) && same k.seen t) (kept-other j u)

  pub kept-comes : (after : List Known) (seen : Bindings) (c : ℕ) → Comes xs R orders s i after c → seen ≡ seen_by s w → (last : List Known) → last ≡ kept after i seen c
      → Comes xs R orders s i last c
  kept-comes after seen c done e last q =
      record {
        right = done.right;
        keeps = rw q (record { size = kept-size after done.keeps.size seen c; remembers = all });
      }
    where
      here : (F : Form) → Stands ν i F → (t : Bindings) → is_known (kept after i seen c) i (seen_by t w) ≡ true → unpack_of c ≡ interpret xs (scope_of t) F
      here F z t h =
          let k = known-seen (kept after i seen c) i (seen_by t w) h in
          let u : seen_by s w ≡ seen_by t w = sym e ∙ sym (ap (λ (o : Known). o.seen) (kept-here after done.keeps.size seen c)) ∙ k in
          done.right F z
          ∙ interpret-alike xs (scope_of s) (scope_of t) F
          (subst (Alike (scope_of s) (scope_of t)) (ready.ordered.right i F ready.below z) (seen_alike s t w u))

      all : Remembers xs ν orders (kept after i seen c)
      all j F l z t h = elim (dec_lt j i) [
        | yes p ↦ there j F l z t h (λ x. omega arith)
        | no p ↦ elim (dec_lt i j) [
          | yes r ↦ there j F l z t h (λ x. omega arith)
          | no r ↦
              let y : j ≡ i = omega arith in
              let h' = subst (λ (d : ℕ). is_known (kept after i seen c) d (seen_by t (order_of (get_or orders d 0))) ≡ true) y h in
              ap (λ (d : ℕ). unpack_of (get_or (kept after i seen c) d none).cell) y
              ∙ ap (λ (o : Known). unpack_of o.cell) (kept-here after done.keeps.size seen c) ∙ here F (subst (λ (d : ℕ). Stands ν d F) y z) t h'
        ]
      ]
        where
          there : (j : ℕ) (F : Form) → j < text_parts → Stands ν j F → (t : Bindings) → is_known (kept after i seen c) j (seen_by t (order_of (get_or orders j 0))) ≡ true → (j ≡ i → ⊥)
              → unpack_of (get_or (kept after i seen c) j none).cell ≡ interpret xs (scope_of t) F
          there j F l z t h u =
              ap (λ (o : Known). unpack_of o.cell) (kept-other after done.keeps.size seen c j u)
              ∙ done.keeps.remembers j F l z t (sym (kept-elsewhere after done.keeps.size seen c j (seen_by t (order_of (get_or orders j 0))) u) ∙ h)

  -- ---- by the record's kind

  module _ (x : Shape) (q : shaped x ≡ record_at R i) where
    abbrev n : Node
    n = shaped x

    pub leaf-comes : x.kind < function_kind → (size r : ℕ) → size ≡ length xs → unpack_of r ≡ leaf_of size (shaped x) (scope_of s) → Comes xs R orders s i memo r
    unfolding leaf_of interpret
    leaf-comes h size r e u = record { right = λ F z. u ∙ ap (λ (l : ℕ). leaf_of l (shaped x) (scope_of s)) e ∙ by F z; keeps = ready.keeps }
      where
        same : (m : Node) → ν i ≡ m → leaf_of (length xs) n (scope_of s) ≡ leaf_of (length xs) m (scope_of s)
        same m k = ap (λ (y : Node). leaf_of (length xs) y (scope_of s)) (q ∙ k)

        no : {A : Type 0} (m : Node) → ν i ≡ m → function_kind ≤ m.kind → A
        no m k l = let z : x.kind ≡ m.kind = ap (λ (y : Node). y.kind) (q ∙ k) in absurd (omega arith)

        by : (F : Form) → Stands ν i F → leaf_of (length xs) n (scope_of s) ≡ interpret xs (scope_of s) F
        by _ (a_number _ key k l) =
            let z : key % 4294967296 + 1 - 1 ≡ key = omega arith in
            let y : (key % 4294967296 + 1 - 1) % 4294967296 ≡ key = omega arith in
            same _ k ∙ ap (λ (d : ℕ). Number (pos d -ℤ pos 2147483648)) y
        by _ (a_variable _ y l k g) = same _ k ∙ ap (stands_for (scope_of s)) (sym (level-of y l g))
        by _ (an_unbound _ y k) = same _ k
        by _ (the_readings _ k) = same _ k
        by _ (a_function _ y b l B k g d t) = no _ k (omega arith)
        by _ (an_ask _ m f F k a d t) = no _ k (omega arith)
        by _ (a_call _ m f a F A k g d t c v) = no _ k (omega arith)

    -- Ready at a record before this one
    lower : (t : Bindings) → Bound xs t → (j : ℕ) → j < i → (F : Form) → Stands ν j F → (after : List Known) → Keeps xs R orders after → Ready xs R orders t j after
    lower t b j h F z after k =
        record {
          few = ready.few;
          low = omega (arith, ready.low);
          form = F;
          stands = z;
          count = ready.count;
          below = omega (arith, ready.below);
          ordered = ready.ordered;
          bound = b;
          keeps = k;
        }

    module _ (k : x.kind ≡ function_kind) where
      found : (F : Form) → Stands ν i F → IsFunction ν i n F
      found F z = a-function ν i n q F k z

      own : IsFunction ν i n ready.form
      own = found ready.form ready.stands

      pub function-first : 1 ≤ x.first
      function-first = own.one

      pub function-low : x.first - 1 < i
      function-low = own.low

      module _ (c : ℕ) (t : Bindings) (e : t ≡ bound_at s x.level c) where
        pub function-ready : Inside (length xs) (unpack_of c) → Ready xs R orders t (x.first - 1) memo
        function-ready h = lower t (rw e (bound-more xs s x.level c ready.bound h)) (x.first - 1) own.low own.body own.stands memo ready.keeps

        inner : scope_of t ≡ with (scope_of s) x.level (unpack_of c)
        inner = ap scope_of e ∙ scope-bound s x.level c

        module _ (after : List Known) (base : ℕ) (done : Comes xs R orders t (x.first - 1) after base) where
          -- with its own variable delayed, and on a reading
          pub function-comes : unpack_of c ≡ Delayed → (r : ℕ) → unpack_of r ≡ judged (waits_for (scope_of s) w) (unpack_of base) → Comes xs R orders s i after r
          unfolding interpret
          function-comes d r u = record { right = λ F z. u ∙ by F z (found F z); keeps = done.keeps }
            where
              by : (F : Form) → Stands ν i F → IsFunction ν i n F → judged (waits_for (scope_of s) w) (unpack_of base) ≡ interpret xs (scope_of s) F
              by F z f =
                  let v = with_level x.key x.level in
                  let o : waits_for (scope_of s) w ≡ is_open (scope_of s) (levels (function v f.body)) =
                  waits-open (scope_of s) w
                  ∙ ap (is_open (scope_of s)) (ready.ordered.right i F ready.below z ∙ ap levels f.is) in
                  let b : unpack_of base ≡ interpret xs (with (scope_of s) (level_in v) Delayed) f.body =
                  done.right f.body f.stands
                  ∙ (λ j. interpret xs (inner j) f.body)
                  ∙ (λ j. interpret xs (with (scope_of s) (sym (level-of x.key x.level f.level) j) (d j)) f.body) in
                  (λ j. judged (o j) (b j)) ∙ ap (interpret xs (scope_of s)) (sym f.is)

          pub function-ran : (z : ℤ) → unpack_of c ≡ Number z → Ran xs R orders s i z after base
          unfolding ran
          function-ran z d = record { right = λ F y. by F y (found F y); keeps = done.keeps }
            where
              by : (F : Form) → Stands ν i F → IsFunction ν i n F → unpack_of base ≡ ran xs (scope_of s) F z
              by F y f =
                  done.right f.body f.stands
                  ∙ (λ j. interpret xs (inner j) f.body)
                  ∙ (λ j. interpret xs (with (scope_of s) (sym (level-of x.key x.level f.level) j) (d j)) f.body)
                  ∙ ap (λ (g : Form). ran xs (scope_of s) g z) (sym f.is)

    pub other-ran : (x.kind ≡ function_kind → ⊥) → (z : ℤ) → Ran xs R orders s i z memo wrong_cell
    unfolding ran
    other-ran u z = record { right = λ F y. round (Missing wrong_kind) (omega arith) ∙ by F y; keeps = ready.keeps }
      where
        by : (F : Form) → Stands ν i F → Missing wrong_kind ≡ ran xs (scope_of s) F z
        by _ (a_number _ key k l) = refl
        by _ (a_variable _ y l k g) = refl
        by _ (an_unbound _ y k) = refl
        by _ (the_readings _ k) = refl
        by _ (a_function _ y b l B k g d t) = absurd (u (ap (λ (m : Node). m.kind) (q ∙ k)))
        by _ (an_ask _ m f F k a d t) = refl
        by _ (a_call _ m f a F A k g d t c v) = refl

    module _ (h : function_kind ≤ x.kind) (k : x.kind ≡ function_kind → ⊥) where
      found-member : (F : Form) → Stands ν i F → IsMember ν i n F
      found-member F z = a-member ν i n q F h k z

      own-member : IsMember ν i n ready.form
      own-member = found-member ready.form ready.stands

      pub member-first : 1 ≤ x.first
      member-first = own-member.one

      pub member-low : x.first - 1 < i
      member-low = own-member.low

      pub member-ready : Ready xs R orders s (x.first - 1) memo
      member-ready = lower s ready.bound (x.first - 1) own-member.low own-member.receiver own-member.stands memo ready.keeps

      module _ (after : List Known) (a : ℕ) (first : Comes xs R orders s (x.first - 1) after a) where
        pub ask-comes : x.second ≡ 0 → (r : ℕ) → ((m : Member) → x.kind ≡ member_kind m → unpack_of r ≡ apply0 m xs (unpack_of a)) → Comes xs R orders s i after r
        unfolding interpret
        ask-comes e r u = record { right = λ F z. by F z (found-member F z); keeps = first.keeps }
          where
            by : (F : Form) → Stands ν i F → IsMember ν i n F → unpack_of r ≡ interpret xs (scope_of s) F
            by F z f =
                u f.member f.kind ∙ ap (apply0 f.member xs) (first.right f.receiver f.stands)
                ∙ ap (interpret xs (scope_of s)) (sym (f.alone e))

        pub first-bounded : Bounded (unpack_of a)
        first-bounded =
            let i = inside xs (scope_of s) own-member.receiver (ready.bound.outer, ready.bound.inner) in
            wider (unpack_of a) (rw (first.right own-member.receiver own-member.stands) i)
          where
            wider : (v : Value) → Inside (length xs) v → Bounded v
            wider (Number z) g = tt
            wider (Window b l) g = omega (arith, ready.few)
            wider Function g = tt
            wider Delayed g = tt
            wider (Missing r) g = tt

        module _ (u : x.second ≡ 0 → ⊥) where
          pub second-first : 1 ≤ x.second
          second-first = (own-member.lower u).0

          pub second-low : x.second - 1 < i
          second-low = (own-member.lower u).1

          pub second-ready : (late : List Known) → Keeps xs R orders late → Ready xs R orders s (x.second - 1) late
          second-ready late g = lower s ready.bound (x.second - 1) (own-member.lower u).1 own-member.argument (own-member.given u).0 late g

          module _ (late : List Known) (b : ℕ) (second : Comes xs R orders s (x.second - 1) late b) (o : Applied)
              (out : (m : Member) → x.kind ≡ member_kind m → o ≡ applied1 m xs (unpack_of a) (unpack_of b)) where
            -- the member's value, once its runs are known
            whole : (F : Form) → (f : IsMember ν i n F) → (v : Value)
                → v ≡ completed f.member xs (ran xs (scope_of s) f.argument) (applied1 f.member xs (unpack_of a) (unpack_of b)) → v ≡ interpret xs (scope_of s) F
            unfolding interpret
            whole F f v e =
                e ∙ completed-is f.member xs (ran xs (scope_of s) f.argument) (unpack_of a) (unpack_of b)
                ∙ (λ j. apply1 f.member xs (first.right f.receiver f.stands j) (second.right f.argument (f.given u).0 j) (ran xs (scope_of s) f.argument))
                ∙ ap (interpret xs (scope_of s)) (sym (f.given u).1)

            pub call-comes : (v : Value) → o ≡ Done v → (r : ℕ) → unpack_of r ≡ v → Comes xs R orders s i late r
            unfolding completed
            call-comes v d r e =
                record {
                  right = λ F z. let f = found-member F z in
                      whole F f (unpack_of r) (e ∙ sym (ap (completed f.member xs (ran xs (scope_of s) f.argument)) (sym (out f.member f.kind) ∙ d)));
                  keeps = second.keeps;
                }

            pub run-comes : (from count : ℕ) → o ≡ Run from count → (end : List Known) (r : ℕ) → Over xs R orders s (x.second - 1) x.kind from count end r → Comes xs R orders s i end r
            unfolding completed
            run-comes from count d end r v =
                record {
                  right = λ F z. let f = found-member F z in
                      whole F f (unpack_of r)
                      (v.right f.member f.kind f.argument (f.given u).0
                      ∙ sym (ap (completed f.member xs (ran xs (scope_of s) f.argument)) (sym (out f.member f.kind) ∙ d)));
                  keeps = v.keeps;
                }
