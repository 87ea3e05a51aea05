-- What it means that a reader by descent reads what grammar's machine reads and writes what Records says, and how such readers are put
-- together. Assumes nothing.
use Rattle.std.specs.Prelude.{◌≡◌, refl, Bool, true, false, List, ◌∷◌, ℕ, suc, ◌+◌, ◌*◌, ◌<◌, eqb, length}
use Rattle.std.proofs.Common.{arith, eqb-true}
use Rattle.std.proofs.lemmas.List.Edits.{sets}
use Rattle.std.proofs.lemmas.Bool.{eqb-false}
use Rattle.grammar.specs.Tokens.{when}
use Rattle.grammar.proofs.TokensLaws.{by-test}
use Rattle.grammar.specs.Grammar.{Expression, Calls, Arguments, More}
use Rattle.grammar.specs.Reading.{Reading, refused}
use Rattle.grammar.specs.Machine.{Frame, argument, at, Outer, expression, calls, arguments, over}
use Rattle.meaning.specs.Binding.{member}
use Rattle.layout.specs.Memory.{Node}
use Rattle.layout.specs.Nodes.{member_kind}
use Rattle.records.specs.Records.{Named, Recorded, behind, record_e, record_c, record_a, record_m}
use Rattle.descent.specs.Cursor.{Cursor, head_place, refuse}
use Rattle.descent.specs.Descent.{State, moved, then, Call, in_expression, in_calls, in_arguments, in_more, run}
use Rattle.descent.specs.Continued.{read_on}
use Rattle.descent.specs.Scope.{around}
use Rattle.descent.specs.Heads.{Fits}
use Rattle.descent.specs.Wrote.{Ready, Wrote, wrote-behind}

pub record FitsAt (s : State) (P : State → Type 0) (r : Reading) : Type 0 where
  pub goes : s.cursor.number ≡ 0 → P s
  pub stops : ¬ (s.cursor.number ≡ 0) → r ≡ refused s.cursor.number s.cursor.place

pub at-then : (a : State) (k : State → State) (P Q : State → Type 0) (r : Reading) → FitsAt a P r → (a.cursor.number ≡ 0 → P a → FitsAt (k a) Q r)
    → FitsAt (then a k) Q r
unfolding then
at-then a k P Q r h f =
    by-test (λ x. FitsAt x Q r) (eqb a.cursor.number 0) (λ _. k a) (λ _. a)
    (λ z. let y = eqb-true a.cursor.number 0 z in f y (h.goes y))
    (λ z. record { goes = λ y. absurd (eqb-false a.cursor.number 0 z y); stops = h.stops })

pub at_moved : (s : State) (c : Cursor) (P : Cursor → Type 0) (r : Reading) → Fits c P r → FitsAt (moved s c) (λ a. P a.cursor) r
at_moved s c P r h = record { goes = h.goes; stops = h.stops }

pub at_map : (s : State) (P Q : State → Type 0) (r : Reading) → FitsAt s P r → (P s → Q s) → FitsAt s Q r
at_map s P Q r h f = record { goes = λ z. f (h.goes z); stops = h.stops }

pub at_here : (s : State) (P : State → Type 0) (r : Reading) → s.cursor.number ≡ 0 → P s → FitsAt s P r
at_here s P r z p = record { goes = λ _. p; stops = λ d. absurd (d z) }

pub at-choice : (b : Bool) (x y : Unit {0} → State) (u v : Unit {0} → Reading) (P : State → Type 0) (r : Reading) → r ≡ when b u v
    → (b ≡ true → r ≡ u tt → FitsAt (x tt) P r) → (b ≡ false → r ≡ v tt → FitsAt (y tt) P r) → FitsAt (when b x y) P r
unfolding when
at-choice true x y u v P r e f g = f refl e
at-choice false x y u v P r e f g = g refl e

pub at-refused : (end n : ℕ) (s : State) (P : State → Type 0) (r : Reading) → r ≡ refused (suc n) (head_place end s.cursor.rest)
    → FitsAt (moved s (refuse end (suc n) s.cursor)) P r
unfolding refuse
at-refused end n s P r e = record { goes = λ z. absurd (omega arith); stops = λ _. e }

module _ (end : ℕ) (R : List ℕ) where
  -- a tree is read: its records and places are written, and the machine goes on behind it
  pub record Read {A : Type 0} (B : List ℕ) (p : ℕ) (Z : A → Recorded) (F : List Frame) (h : A → Outer F → Expression) (r : Reading) (s : State) : Type 0 where
    pub tree : A
    pub wrote : Wrote R B p (Z tree) s
    pub onward : r ≡ read_on end (at over F) (λ o. h tree o.1) s.cursor.parts s.cursor.rest

  -- the machine's equations for the four readers, with enough fuel: h makes a tree of what is read and what stands outside
  pub record Same (f : ℕ) : Type 0 where
    pub on_expression : (w : Bool) (marks depth : ℕ) (s : State) (Σ : List Named) (t : List Node) (F : List Frame) (h : Expression × Outer F → Expression) (r : Reading)
        → Ready R Σ t marks depth s → r ≡ read_on end (at (expression w (around marks Σ)) F) h s.cursor.parts s.cursor.rest → 2 * length s.cursor.rest < f
        → FitsAt (run end f (in_expression w marks depth) s) (Read s.places s.cursor.parts (λ e. record_e e Σ t) F (λ e o. h (e, o)) r) r
    pub on_calls : (j marks depth : ℕ) (s : State) (Σ : List Named) (t : List Node) (F : List Frame) (h : Calls × Outer F → Expression) (r : Reading) → s.cursor.root ≡ j
        → Ready R Σ t marks depth s → r ≡ read_on end (at (calls (around marks Σ)) F) h s.cursor.parts s.cursor.rest → 2 * length s.cursor.rest < f
        → FitsAt (run end f (in_calls marks depth) s) (Read s.places s.cursor.parts (λ q. record_c q j Σ t) F (λ q o. h (q, o)) r) r
    pub on_arguments : (k : Call) (m : List ℕ) (marks depth : ℕ) (s : State) (Σ : List Named) (t : List Node) (F : List Frame) (h : Arguments × Outer F → Expression) (r : Reading)
        → k.kind ≡ member_kind (member m) → k.argument ≡ 0 → s.cursor.parts ≡ suc k.place → Ready R Σ t marks depth s
        → r ≡ read_on end (at (arguments k.takes (around marks Σ)) F) h s.cursor.parts s.cursor.rest → 2 * length s.cursor.rest + 1 < f
        → FitsAt (run end f (in_arguments k marks depth) s) (Read s.places k.place (λ a. record_a a m k.receiver Σ t) F (λ a o. h (a, o)) r) r
    pub on_more : (k : Call) (m : List ℕ) (a : ℕ) (ps B : List ℕ) (marks depth : ℕ) (s : State) (Σ : List Named) (t : List Node) (F : List Frame)
        (h : Unit {0} × (More × Outer F) → Expression) (r : Reading)
        → k.kind ≡ member_kind (member m) → k.argument ≡ suc a → s.places ≡ sets B (suc k.place) ps → s.cursor.parts ≡ suc k.place + length ps
        → Ready R Σ t marks depth s → r ≡ read_on end (at over (argument k.takes (around marks Σ) ∷ F)) h s.cursor.parts s.cursor.rest
        → 2 * length s.cursor.rest < f
        → FitsAt (run end f (in_more k marks depth) s) (Read B k.place (λ x. record_m x m k.receiver a ps Σ t) F (λ x o. h (tt, (x, o))) r) r

  -- an atom, or a call, is read: Z is what it has written, and the calls behind it come next
  module _ (f marks depth : ℕ) (Σ : List Named) (F : List Frame) (r : Reading) where
    pub record Atom (B : List ℕ) (p : ℕ) (Z : Recorded) (h : Calls × Outer F → Expression) (a : State) : Type 0 where
      pub ready : Ready R Σ Z.records marks depth a
      pub wrote : Wrote R B p Z a
      pub onward : r ≡ read_on end (at (calls (around marks Σ)) F) h a.cursor.parts a.cursor.rest
      pub less : 2 * length a.cursor.rest < f

    pub calls-behind : Same f → (a : State) (B : List ℕ) (p : ℕ) (Z : Recorded) (h : Calls × Outer F → Expression) → Atom B p Z h a
        → FitsAt (run end f (in_calls marks depth) a) (Read B p (λ q. behind Z.places (record_c q Z.root Σ Z.records)) F (λ q o. h (q, o)) r) r
    calls-behind ih a B p Z h y =
        let w = y.wrote in
        at_map (run end f (in_calls marks depth) a) _ _ r (ih.on_calls Z.root marks depth a Σ Z.records F h r w.root y.ready y.onward y.less) (λ q.
        record { tree = q.tree; wrote = wrote-behind R B a.places p a.cursor.parts Z.places _ _ w.places w.parts q.wrote; onward = q.onward })

    pub atom-calls : Same f → (a : State) (B : List ℕ) (p : ℕ) (Z : Recorded) (h : Calls × Outer F → Expression) → FitsAt a (Atom B p Z h) r
        → FitsAt (then a (λ b. run end f (in_calls marks depth) b)) (Read B p (λ q. behind Z.places (record_c q Z.root Σ Z.records)) F (λ q o. h (q, o)) r) r
    atom-calls ih a B p Z h y = at-then a _ _ _ r y (λ _ y. calls-behind ih a B p Z h y)
