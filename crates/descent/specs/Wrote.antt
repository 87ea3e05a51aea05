-- What stands in the arrays, in terms of Records: a state that is ready to read behind the records t with the names Σ around it, and a
-- state in which a tree's records and places have been written. Assumes nothing.
use Rattle.std.specs.Prelude.{◌≡◌, refl, Bool, cond, List, [], ◌∷◌, ◌++◌, eqb, length}
use Rattle.std.proofs.Common.{sym, ◌∙◌}
use Rattle.std.proofs.Math.Bool.{true, false}
use Prim.Native.Nat.{ℕ, zero, suc, ◌+◌, ◌-◌, ◌≤◌, ◌<◌}
use native.Mathlib.Omega.{arith}
use Rattle.std.proofs.Math.Dec.{eqb-suc-zero}
use Rattle.std.proofs.Math.ListN.{length-set, length-append}
use Rattle.std.proofs.lemmas.List.Edits.{sets}
use Rattle.language.specs.Limits.{open_marks}
use Rattle.language.specs.Names.{packed, is_data, data_word}
use Rattle.grammar.specs.Tokens.{when}
use Rattle.grammar.proofs.TokensLaws.{by-test}
use Rattle.layout.specs.Memory.{Node, node_with, node}
use Rattle.layout.specs.Nodes.{readings_kind}
use Rattle.records.specs.Records.{Named, Recorded, new_record, linked, record_name, record_scoped, behind}
use Rattle.descent.specs.Cursor.{Cursor, binder_link, binder_of, lambdas_in}
use Rattle.descent.specs.Descent.{State, moved, counted, rooted, put, link, mark, enter, put_bound, put_scoped, put_name}
use Rattle.descent.specs.Cells.{sets-append, put-before, words, put_word}
use Rattle.descent.specs.Moves.{Moved}
use Rattle.descent.specs.Preserved.{Preserved}
use Rattle.descent.specs.Scope.{Holds, holds_kept, holds-entered, found_at, scoped-is}

-- R: the records' array before reading
pub record Ready (R : List ℕ) (Σ : List Named) (t : List Node) (marks depth : ℕ) (s : State) : Type 0 where
  pub number : s.cursor.number ≡ 0
  pub count : s.cursor.count ≡ length t
  pub records : s.records ≡ sets R 0 (words t)
  pub holds : Holds Σ depth s.scope
  pub room : length s.scope ≡ 32
  pub few : depth ≤ marks

-- B: the places' array before reading; p: the first part's place
pub record Wrote (R B : List ℕ) (p : ℕ) (Z : Recorded) (s : State) : Type 0 where
  pub count : s.cursor.count ≡ length Z.records
  pub root : s.cursor.root ≡ Z.root
  pub records : s.records ≡ sets R 0 (words Z.records)
  pub places : s.places ≡ sets B p Z.places
  pub parts : s.cursor.parts ≡ p + length Z.places

module _ (R : List ℕ) (Σ : List Named) (t : List Node) (marks depth : ℕ) (s : State) (h : Ready R Σ t marks depth s) where
  pub ready_moved : (p g : ℕ) (c : Cursor) → Moved p g s.cursor c → c.number ≡ 0 → Ready R Σ t marks depth (moved s c)
  ready_moved p g c m z = record { number = z; count = m.count ∙ h.count; records = h.records; holds = h.holds; room = h.room; few = h.few }

  pub ready-marks : (marks' : ℕ) → marks ≤ marks' → Ready R Σ t marks' depth s
  ready-marks marks' l = record { number = h.number; count = h.count; records = h.records; holds = h.holds; room = h.room; few = omega arith }

  pub ready-wrote : (p g o q : ℕ) (B : List ℕ) (Z : Recorded) (s' : State) → Preserved depth p g o s s' → s'.cursor.number ≡ 0 → Wrote R B q Z s'
      → Ready R Σ Z.records marks depth s'
  ready-wrote p g o q B Z s' k z w =
      record { number = z; count = w.count; records = w.records; holds = holds_kept Σ depth s.scope s'.scope k.below h.holds; room = k.scope ∙ h.room; few = h.few }

  -- one binder more, where there is room
  pub ready-entered : (x : List ℕ) (n i j : ℕ) → n ≡ packed x → i ≡ j → depth < marks → marks ≤ open_marks → Ready R ((x, j) ∷ Σ) t marks (suc depth) (enter depth n i s)
  unfolding enter
  ready-entered x n i j e g l m =
      rw (e, g) (record {
        number = h.number;
        count = h.count;
        records = h.records;
        holds = holds-entered Σ depth s.scope x j (omega (arith, h.room)) h.holds;
        room = simp length-set h.room;
        few = l;
      })

  -- a record for the part of place p, behind the parts ps that are written already
  pub wrote-put : (m n : Node) (B : List ℕ) (p : ℕ) (ps : List ℕ) → m ≡ n → s.places ≡ sets B (suc p) ps → s.cursor.parts ≡ suc p + length ps
      → Wrote R B p (new_record n t (length t ∷ ps)) (put p m s)
  unfolding put counted
  wrote-put m n B p ps i e g =
      rw i (let c = h.count in
      let r = h.records in
      record {
        count = simp length-append (omega arith);
        root = c;
        records = rw (c, r) (put_word R t n);
        places = rw (e, c) (put-before ps B p (length t));
        parts = omega arith;
      })

  wrote-link : (j p : ℕ) → s.cursor.parts ≡ suc p → Wrote R s.places p (record { records = t; root = j; places = j ∷ [] }) (link p j s)
  unfolding link rooted
  wrote-link j p g = record { count = h.count; root = refl; records = h.records; places = refl; parts = omega arith }

  wrote-new : (n : Node) (p : ℕ) → s.cursor.parts ≡ suc p → Wrote R s.places p (new_record n t (length t ∷ [])) (put p n s)
  wrote-new n p g = wrote-put n n s.places p [] refl refl (omega arith)

  wrote-bound : (x : List ℕ) (p j k : ℕ) → s.cursor.parts ≡ suc p → Wrote R s.places p (linked j x k t) (put_bound p (packed x) j k s)
  unfolding put_bound when
  wrote-bound x p zero k g = wrote-new _ p g
  wrote-bound x p (suc j) k g = let e : suc j - 1 ≡ j = omega arith in rw (eqb-suc-zero j, e) (wrote-link j p g)

  wrote-scoped : (x : List ℕ) (p b : ℕ) → s.cursor.parts ≡ suc p → Wrote R s.places p (found_at s.scope x t b) (put_scoped p (packed x) b s)
  unfolding put_scoped when
  wrote-scoped x p zero g = wrote-new _ p g
  wrote-scoped x p (suc b) g =
      let e : suc b - 1 ≡ b = omega arith in
      rw (eqb-suc-zero b, e) (wrote-bound x p (binder_link s.scope b) (lambdas_in s.scope b) g)

  pub wrote-name : (x : List ℕ) (p : ℕ) → s.cursor.parts ≡ suc p → Wrote R s.places p (record_name x Σ t) (put_name p (packed x) depth s)
  unfolding put_name record_name is_data data_word when
  wrote-name x p g =
      by (eqb (packed x) (packed data_word)) (rw (scoped-is x t Σ depth s.scope h.holds) (wrote-scoped x p (binder_of s.scope (packed x) depth) g))
    where
      by : (q : Bool) → Wrote R s.places p (record_scoped x Σ t) (put_scoped p (packed x) (binder_of s.scope (packed x) depth) s)
          → Wrote R s.places p (cond q (new_record (node readings_kind 0 0 0) t (length t ∷ [])) (record_scoped x Σ t))
          (when q (λ _. put p (node readings_kind 0 0 0) s) (λ _. put_scoped p (packed x) (binder_of s.scope (packed x) depth) s))
      by true w = wrote-new _ p g
      by false w = w

-- the name is put, and the tokens and the scope stay
pub record Stays (s s' : State) : Type 0 where
  pub rest : s'.cursor.rest ≡ s.cursor.rest
  pub parts : s'.cursor.parts ≡ s.cursor.parts
  pub number : s'.cursor.number ≡ s.cursor.number
  pub scope : s'.scope ≡ s.scope

stays_put : (p : ℕ) (n : Node) (s : State) → Stays s (put p n s)
unfolding put counted
stays_put p n s = record { rest = refl; parts = refl; number = refl; scope = refl }

pub stays-name : (p x depth : ℕ) (s : State) → Stays s (put_name p x depth s)
unfolding put_name put_scoped put_bound link rooted data_word
stays-name p x depth s =
    by-test (Stays s) _ _ _ (λ _. stays_put p _ s) (λ _. by-test (Stays s) _ _ _ (λ _. stays_put p _ s) (λ _.
    by-test (Stays s) _ _ _ (λ _. stays_put p _ s) (λ _. record { rest = refl; parts = refl; number = refl; scope = refl })))

pub node-as : (k k' a a' f f' s s' l l' : ℕ) → k ≡ k' → a ≡ a' → f ≡ f' → s ≡ s' → l ≡ l' → node_with k a f s l ≡ node_with k' a' f' s' l'
node-as k k' a a' f f' s s' l l' e g h i j = rw (e, g, h, i, j) refl

pub wrote_at : (R B : List ℕ) (p q : ℕ) (Z : Recorded) (s : State) → p ≡ q → Wrote R B p Z s → Wrote R B q Z s
wrote_at R B p q Z s e w = rw (← e) w

pub wrote-moved : (R B : List ℕ) (p i g : ℕ) (Z : Recorded) (s : State) (c : Cursor) → Moved i g s.cursor c → c.parts ≡ s.cursor.parts → Wrote R B p Z s
    → Wrote R B p Z (moved s c)
wrote-moved R B p i g Z s c m e w = record { count = m.count ∙ w.count; root = m.root ∙ w.root; records = w.records; places = w.places; parts = e ∙ w.parts }

-- parts behind parts
pub wrote-behind : (R B C : List ℕ) (p q : ℕ) (ps : List ℕ) (Z : Recorded) (s : State) → C ≡ sets B p ps → q ≡ p + length ps → Wrote R C q Z s
    → Wrote R B p (behind ps Z) s
wrote-behind R B C p q ps Z s e g w =
    record {
      count = w.count;
      root = w.root;
      records = w.records;
      places = w.places ∙ rw (e, g) (sym (sets-append ps Z.places B p));
      parts = simp length-append (omega (arith, w.parts));
    }

-- a let: its value, its body, and then its own place
pub wrote-let : (R P : List ℕ) (p q i : ℕ) (A B : Recorded) (v u : State) → q ≡ suc p → i ≡ v.cursor.parts → Wrote R P q A v → Wrote R v.places i B u
    → Wrote R P p (behind (B.root ∷ A.places) B) (mark p u)
unfolding mark
wrote-let R P p q i A B v u e g a b =
    let w = wrote-behind R P v.places q i A.places B u a.places (g ∙ a.parts) b in
    let y : u.places ≡ sets P (suc p) (A.places ++ B.places) = rw e at w.places in
    let z = b.root in
    record {
      count = b.count;
      root = z;
      records = b.records;
      places = rw (y, z) (put-before (A.places ++ B.places) P p B.root);
      parts = let m = w.parts in simp length-append (omega (arith, simp length-append at m));
    }
