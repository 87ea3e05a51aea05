-- The calls behind an atom and their arguments, held against the machine.
-- Assumes nothing.
use Rattle.std.specs.Prelude.{◌≡◌, true, leb, eqb}
use Rattle.std.proofs.Math.Path.{refl, sym, ap, ap₂}
use Rattle.std.proofs.Common.{◌∙◌, lit<}
use Rattle.std.proofs.Math.Bool.{false}
use mathlib.Core.List.{List, [], ◌∷◌, ◌++◌}
use Prim.Native.Nat.{ℕ, suc, ◌+◌, ◌*◌, ◌-◌, ◌<◌}
use native.Mathlib.Omega.{arith}
use Rattle.std.proofs.Math.ListN.{length, length-append}
use Rattle.std.proofs.Math.Seq.{sets}
use Rattle.grammar.specs.Grammar.{Expression, Calls, Arguments, More, done, call, none, first, last, next}
use Rattle.grammar.specs.Faults.{opened, call_fault, note}
use Rattle.grammar.specs.Reading.{Reading}
use Rattle.grammar.specs.Machine.{Frame, argument, at, Outer, expression, calls, arguments, over}
use Rattle.meaning.specs.Binding.{member}
use Rattle.layout.specs.Memory.{Node, node}
use Rattle.layout.specs.Nodes.{member_kind}
use Rattle.records.specs.Records.{Named, new_record, record_e, record_c, record_a, record_m}
use Rattle.descent.specs.Cursor.{dot_kind, shut_kind, comma_kind}
use Rattle.descent.specs.Cursor.{is_at, at_shut, at_comma}
use Rattle.descent.specs.Cursor.{pass, judge, call_head}
use Rattle.descent.specs.Descent.{State, moved, put, counted, Call, new_call, first_given, next_given, in_expression, in_arguments, in_more}
use Rattle.descent.specs.Descent.{read_shut, read_calls, read_arguments, read_more, run}
use Rattle.descent.specs.Cells.{sets-append}
use Rattle.descent.specs.Continued.{read_on}
use Rattle.descent.specs.Fronts.{front-calls, front-arguments, front-more, beyond}
use Rattle.descent.specs.Moves.{behind-some, moved-judge, moved-pass, moved_call}
use Rattle.descent.specs.Preserved.{run-keeps}
use Rattle.descent.specs.Scope.{around, call-number}
use Rattle.descent.specs.Heads.{unless-by, fits-judge, fits-here, fits-call}
use Rattle.descent.specs.Wrote.{Ready, ready_moved, ready-marks, ready-wrote, wrote-put, node-as}
use Rattle.descent.specs.Fitting.{FitsAt, at-then, at_moved, at_map, at_here, at-choice, at-refused, Read, Same, Atom, atom-calls}

module _ (end : ℕ) (R : List ℕ) (f : ℕ) (ih : Same end R f) (marks depth : ℕ) (s : State) (Σ : List Named) (t : List Node) (F : List Frame) (r : Reading) (ready : Ready R Σ t marks depth s) where
  -- the ) of a call whose arguments' parts ps are written
  shut-fits : (k : Call) (m : List ℕ) (j : ℕ) (B ps : List ℕ) (h : Calls × Outer F → Expression) → k.kind ≡ member_kind (member m) → k.argument ≡ j
      → s.places ≡ sets B (suc k.place) ps → s.cursor.parts ≡ suc k.place + length ps → is_at shut_kind s.cursor.rest ≡ true
      → r ≡ beyond end s.cursor.parts s.cursor.rest (note (call_fault (leb 1 k.takes)) false) (at (calls (around marks Σ)) F) h s.cursor.parts
      → 2 * length s.cursor.rest < suc f
      → FitsAt (read_shut end k s) (Atom end R f marks depth Σ F r B k.place (new_record (node (member_kind (member m)) 0 (suc k.receiver) j) t (length t ∷ ps)) h) r
  unfolding read_shut at_shut pass put counted
  shut-fits k m j B ps h ek ej ep eq b e l =
      let c = s.cursor in
      let n = at_shut k.takes in
      let H = judge end n c (λ _. pass c) in
      let M = moved-judge end n 1 0 c (λ _. pass c) (λ _. moved-pass end c (behind-some shut_kind c.rest (lit< tt) b)) in
      let one = moved s H in
      let N = node k.kind 0 (suc k.receiver) k.argument in
      at-then one _ (λ a. r ≡ read_on end (at (calls (around marks Σ)) F) h a.cursor.parts a.cursor.rest) _ r
      (at_moved s H _ r (fits-judge end n c (λ _. pass c) (λ c. r ≡ read_on end (at (calls (around marks Σ)) F) h c.parts c.rest) r _
      (unless-by _ _ _ r _ (call-number c.parts (leb 1 k.takes)) e) (λ _ e. fits-here end (pass c) _ r ready.number e))) (λ z e.
      let G = M.went z in
      let O = wrote-put R Σ t marks depth one (ready_moved R Σ t marks depth s ready 1 0 H M z) N _ B k.place ps (node-as _ _ 0 0 (suc k.receiver) _ _ j 0 0 ek refl refl ej refl) ep (omega arith) in
      at_here (put k.place N one) _ r z
      (record {
        ready = record { number = z; count = O.count; records = O.records; holds = ready.holds; room = ready.room; few = ready.few };
        wrote = O;
        onward = e;
        less = omega arith;
      }))

  pub same-calls : (j : ℕ) (h : Calls × Outer F → Expression) → s.cursor.root ≡ j
      → r ≡ read_on end (at (calls (around marks Σ)) F) h s.cursor.parts s.cursor.rest → 2 * length s.cursor.rest < suc f
      → FitsAt (read_calls end (run end f) marks depth s) (Read end R s.places s.cursor.parts (λ q. record_c q j Σ t) F (λ q o. h (q, o)) r) r
  unfolding read_calls record_c
  same-calls j h ej e l =
      let c = s.cursor in
      let D = around marks Σ in
      let H = call_head end marks c in
      let one = moved s H in
      at-choice _ _ _ _ _ _ r (e ∙ front-calls end D F h c.parts c.rest)
      (λ b e.
      let M = moved_call end marks c (behind-some dot_kind c.rest (lit< tt) b) in
      at-then one _ _ _ r (at_moved s H _ r (fits-call end marks depth Σ s.scope F c r _ ready.number e)) (λ z L.
      let G = M.went z in
      let k = new_call c H in
      at_map (run end f (in_arguments k marks depth) one) _ _ r
      (ih.on_arguments k L.x marks depth one Σ t F _ r L.name refl (omega arith) (ready_moved R Σ t marks depth s ready 3 1 H M z) L.onward (omega arith))
      (λ q. record { tree = call L.x q.tree; wrote = rw (← ej) q.wrote; onward = q.onward })))
      (λ _ e. at_here s _ r ready.number
      (record {
        tree = done;
        wrote = record { count = ready.count; root = ej; records = ready.records; places = refl; parts = omega arith };
        onward = e;
      }))

  pub same-arguments : (k : Call) (m : List ℕ) (h : Arguments × Outer F → Expression) → k.kind ≡ member_kind (member m) → k.argument ≡ 0
      → s.cursor.parts ≡ suc k.place → r ≡ read_on end (at (arguments k.takes (around marks Σ)) F) h s.cursor.parts s.cursor.rest
      → 2 * length s.cursor.rest + 1 < suc f
      → FitsAt (read_arguments end (run end f) k marks depth s) (Read end R s.places k.place (λ a. record_a a m k.receiver Σ t) F (λ a o. h (a, o)) r) r
  unfolding read_arguments record_a opened
  same-arguments k m h ek ej ep e l =
      let c = s.cursor in
      let D = around marks Σ in
      at-choice _ _ _ _ _ _ r (e ∙ front-arguments end k.takes D F h c.parts c.rest)
      (λ b e.
      at_map _ _ _ r (atom-calls end R f marks depth Σ F r ih _ s.places k.place _ _ (shut-fits k m 0 s.places [] (λ q. h (none q.0, q.1)) ek ej refl (omega arith) b e (omega arith)))
      (λ q. record { tree = none q.tree; wrote = q.wrote; onward = q.onward }))
      (λ _ e.
      let E = in_expression (eqb k.takes 0) (suc marks) depth in
      let W = run end f E s in
      at-then W _ _ _ r
      (ih.on_expression (eqb k.takes 0) (suc marks) depth s Σ t (argument (k.takes - 1) D ∷ F)
      (λ q. h (first q.0 q.1.0, q.1.1)) r (ready-marks R Σ t marks depth s ready (suc marks) (omega arith)) e (omega arith)) (λ y v.
      let A = record_e v.tree Σ t in
      let K = run-keeps end f E s in
      let k' = first_given W.cursor.root k in
      at_map (run end f (in_more k' marks depth) W) _ _ r
      (ih.on_more k' m A.root A.places s.places marks depth W Σ A.records F (λ q. h (first v.tree q.1.0, q.1.1)) r ek (ap suc v.wrote.root)
      (v.wrote.places ∙ ap (λ i. sets s.places i A.places) ep) (v.wrote.parts ∙ ap (λ i. i + length A.places) ep)
      (ready-wrote R Σ t marks depth s ready 1 0 0 _ _ A W K y v.wrote) v.onward (let G = K.rest in omega arith))
      (λ q. record { tree = first v.tree q.tree; wrote = q.wrote; onward = q.onward })))

  pub same_more : (k : Call) (m : List ℕ) (a : ℕ) (ps B : List ℕ) (h : Unit {0} × (More × Outer F) → Expression) → k.kind ≡ member_kind (member m) → k.argument ≡ suc a
      → s.places ≡ sets B (suc k.place) ps → s.cursor.parts ≡ suc k.place + length ps
      → r ≡ read_on end (at over (argument k.takes (around marks Σ) ∷ F)) h s.cursor.parts s.cursor.rest → 2 * length s.cursor.rest < suc f
      → FitsAt (read_more end (run end f) k marks depth s) (Read end R B k.place (λ x. record_m x m k.receiver a ps Σ t) F (λ x o. h (tt, (x, o))) r) r
  unfolding read_more record_m opened pass at_comma
  same_more k m a ps B h ek ej ep eq e l =
      let c = s.cursor in
      let D = around marks Σ in
      at-choice _ _ _ _ _ _ r (e ∙ front-more end k.takes D F h c.parts c.rest)
      (λ b e.
      at_map _ _ _ r (atom-calls end R f marks depth Σ F r ih _ B k.place _ _ (shut-fits k m (suc a) B ps (λ q. h (tt, (last q.0, q.1))) ek ej ep eq b e l))
      (λ q. record { tree = last q.tree; wrote = q.wrote; onward = q.onward })) (λ _ e.
      at-choice _ _ _ _ _ _ r e
      (λ b e.
      let n = at_comma k.takes in
      let H = judge end n c (λ _. pass c) in
      let M = moved-judge end n 1 0 c (λ _. pass c) (λ _. moved-pass end c (behind-some comma_kind c.rest (lit< tt) b)) in
      let one = moved s H in
      let hb : Expression × (More × Outer F) → Expression = λ q. h (tt, (next q.0 q.1.0, q.1.1)) in
      at-then one _ (λ a. r ≡ read_on end (at (expression false (opened D)) (argument (k.takes - 1) D ∷ F)) hb a.cursor.parts a.cursor.rest) _ r
      (at_moved s H _ r (fits-judge end n c (λ _. pass c)
      (λ c. r ≡ read_on end (at (expression false (opened D)) (argument (k.takes - 1) D ∷ F)) hb c.parts c.rest) r _
      (unless-by _ _ _ r _ (call-number c.parts (eqb k.takes 0)) e) (λ _ e. fits-here end (pass c) _ r ready.number e))) (λ z e.
      let G = M.went z in
      let E = in_expression false (suc marks) depth in
      let W = run end f E one in
      let ready1 = ready_moved R Σ t marks depth s ready 1 0 H M z in
      at-then W _ _ _ r
      (ih.on_expression false (suc marks) depth one Σ t (argument (k.takes - 1) D ∷ F) hb r (ready-marks R Σ t marks depth one ready1 (suc marks) (omega arith)) e (omega arith)) (λ y v.
      let A = record_e v.tree Σ t in
      let K = run-keeps end f E one in
      let w = v.wrote in
      let g : H.parts ≡ suc k.place + length ps = omega arith in
      at_map (run end f (in_more (next_given k) marks depth) W) _ _ r
      (ih.on_more (next_given k) m a (ps ++ A.places) B marks depth W Σ A.records F (λ q. h (tt, (next v.tree q.1.0, q.1.1))) r ek ej
      (w.places ∙ ap₂ (λ P i. sets P i A.places) ep g ∙ sym (sets-append ps A.places B (suc k.place))) (simp length-append (omega (arith, w.parts)))
      (ready-wrote R Σ t marks depth one ready1 1 0 0 _ _ A W K y w) v.onward (let J = K.rest in omega arith))
      (λ q. record { tree = next v.tree q.tree; wrote = q.wrote; onward = q.onward }))))
      (λ _ e. at-refused end 4 s _ r e))
