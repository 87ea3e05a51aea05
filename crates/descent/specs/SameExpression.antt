-- An expression, held against the machine: lets, lambdas, brackets, names and numbers.
-- Assumes nothing.
use Rattle.std.specs.Prelude.{◌≡◌, Bool, true}
use Rattle.std.proofs.Math.Path.{refl, ap}
use Rattle.std.proofs.Common.{◌∙◌, lit<}
use Rattle.std.proofs.Math.Bool.{false}
use mathlib.Core.List.{List, [], ◌∷◌}
use Prim.Native.Nat.{ℕ, suc, ◌+◌, ◌*◌, ◌<◌}
use native.Mathlib.Omega.{arith}
use Rattle.std.proofs.Math.ListN.{length}
use Rattle.std.proofs.Math.Seq.{sets}
use Rattle.language.specs.Names.{packed}
use Rattle.grammar.specs.Grammar.{Expression, Calls, let_in, lambda, name, literal, bracket}
use Rattle.grammar.specs.Faults.{opened, in_lambda, mark_fault, lambda_fault, name_fault, literal_fault, note}
use Rattle.grammar.specs.Reading.{Reading}
use Rattle.grammar.specs.Machine.{Frame, value, brackets, at, Outer, expression, let_name, lambda_name, calls}
use Rattle.layout.specs.Memory.{Node, node_with, node}
use Rattle.layout.specs.Nodes.{number_kind, function_kind}
use Rattle.records.specs.Records.{Named, lambdas_of, new_record, number_key, record_name, record_e}
use Rattle.descent.specs.Cursor.{let_kind, in_kind, lambda_kind, open_kind, shut_kind, word_kind, digits_kind}
use Rattle.descent.specs.Cursor.{head_word, head_value, is_at, lambdas_in, at_bracket, at_name, at_number}
use Rattle.descent.specs.Cursor.{pass, pass_part, judge, need, let_head, lambda_head}
use Rattle.descent.specs.Descent.{State, moved, then, put, counted, mark, enter, put_name, in_expression, in_calls}
use Rattle.descent.specs.Descent.{read_name, read_number, read_let, read_lambda, read_bracket, read_expression, run}
use Rattle.descent.specs.Continued.{read_on}
use Rattle.descent.specs.Fronts.{front-expression, front-value, front-brackets, beyond}
use Rattle.descent.specs.Moves.{behind-some, moved-judge, moved-pass, moved-need, moved-let, moved-lambda, moved-name-part, moved-number-part}
use Rattle.descent.specs.Preserved.{run-keeps}
use Rattle.descent.specs.Scope.{lambdas-are, around, around-let, bracket-number, name-number, literal-number}
use Rattle.descent.specs.Heads.{unless-by, fits-judge, fits-here, fits-need, fits-let, fits-lambda}
use Rattle.descent.specs.Wrote.{Ready, ready_moved, ready-marks, ready-wrote, ready-entered, wrote-put, wrote-name, wrote-let, stays-name, node-as, wrote_at, wrote-moved}
use Rattle.descent.specs.Fitting.{FitsAt, at-then, at_moved, at_map, at_here, at-choice, at-refused, Read, Same, calls-behind, atom-calls}

module _ (end : ℕ) (R : List ℕ) (f : ℕ) (ih : Same end R f) (marks depth : ℕ) (s : State) (Σ : List Named) (t : List Node) (F : List Frame) (r : Reading) (ready : Ready R Σ t marks depth s) where
  same-let : (w : Bool) (h : Expression × Outer F → Expression) → is_at let_kind s.cursor.rest ≡ true
      → r ≡ beyond end s.cursor.parts s.cursor.rest (note (mark_fault w (around marks Σ)) true) (at (let_name (around marks Σ)) F)
      (λ q. h (let_in q.0.0 q.0.1 q.0.2, q.1)) (suc s.cursor.parts)
      → 2 * length s.cursor.rest < suc f
      → FitsAt (read_let end (run end f) w marks depth s) (Read end R s.places s.cursor.parts (λ e. record_e e Σ t) F (λ e o. h (e, o)) r) r
  unfolding read_let record_e opened pass enter mark
  same-let w h b e l =
      let c = s.cursor in
      let H = let_head end w marks c in
      let M = moved-let end w marks c (behind-some let_kind c.rest (lit< tt) b) in
      let one = moved s H in
      let D = around marks Σ in
      at-then one _ _ _ r (at_moved s H _ r (fits-let end marks depth Σ s.scope F c r w _ ready.number e)) (λ z L.
      let G = M.went z in
      let x = L.x in
      let E = in_expression false (suc marks) depth in
      let W = run end f E one in
      at-then W _ _ _ r (ih.on_expression false (suc marks) depth one Σ t (value x D ∷ F) _ r
      (ready-marks R Σ t marks depth one (ready_moved R Σ t marks depth s ready 3 1 H M z) (suc marks) (omega arith)) L.onward (omega arith)) (λ y v.
      let K = run-keeps end f E one in
      let N = need end in_kind W.cursor in
      let I = moved-need end in_kind W.cursor (lit< tt) in
      let hb : Expression × Outer F → Expression = λ q. h (let_in x v.tree q.0, q.1) in
      at-then (moved W N) _ (λ a. r ≡ read_on end (at (expression false (opened D)) F) hb a.cursor.parts a.cursor.rest) _ r
      (at_moved W N _ r (fits-need end in_kind W.cursor (λ c. r ≡ read_on end (at (expression false (opened D)) F) hb c.parts c.rest) r _
      (v.onward ∙ front-value end x D F _ W.cursor.parts W.cursor.rest) (λ e. fits-here end (pass W.cursor) _ r y e))) (λ u e.
      let J = I.went u in
      let A = record_e v.tree Σ t in
      let four = enter depth H.name (suc W.cursor.root) (moved W N) in
      let ready1 = ready-marks R Σ t marks depth one (ready_moved R Σ t marks depth s ready 3 1 H M z) (suc marks) (omega arith) in
      let ready2 = ready-wrote R Σ t (suc marks) depth one ready1 1 0 0 _ _ A W K y v.wrote in
      let ready3 = ready_moved R Σ A.records (suc marks) depth W ready2 1 0 N I u in
      let ready4 = ready-entered R Σ A.records (suc marks) depth (moved W N) ready3 x H.name (suc W.cursor.root) (suc A.root) L.name
      (ap suc v.wrote.root) (omega (arith, ready.few)) (omega (arith, L.few)) in
      let E' = in_expression false (suc marks) (suc depth) in
      at-then (run end f E' four) _ _ _ r (ih.on_expression false (suc marks) (suc depth) four ((x, suc A.root) ∷ Σ) A.records F hb r ready4
      (rw (around-let (suc marks) x A.root Σ) e) (omega arith)) (λ n q.
      at_here (mark s.cursor.parts (run end f E' four)) _ r n
      (record {
        tree = let_in x v.tree q.tree;
        wrote = wrote-let R s.places s.cursor.parts H.parts N.parts A (record_e q.tree ((x, suc A.root) ∷ Σ) A.records) W
            (run end f E' four) (omega arith) (omega arith) v.wrote q.wrote;
        onward = q.onward;
      })))))

  same-lambda : (w : Bool) (h : Expression × Outer F → Expression) → is_at lambda_kind s.cursor.rest ≡ true
      → r ≡ beyond end s.cursor.parts s.cursor.rest (note (lambda_fault w (around marks Σ)) true) (at (lambda_name (around marks Σ)) F)
      (λ q. h (lambda q.0.0 q.0.1, q.1)) (suc s.cursor.parts)
      → 2 * length s.cursor.rest < suc f
      → FitsAt (read_lambda end (run end f) w marks depth s) (Read end R s.places s.cursor.parts (λ e. record_e e Σ t) F (λ e o. h (e, o)) r) r
  unfolding read_lambda record_e in_lambda lambdas_of enter put counted
  same-lambda w h b e l =
      let c = s.cursor in
      let H = lambda_head end w marks depth s.scope c in
      let M = moved-lambda end w marks depth s.scope c (behind-some lambda_kind c.rest (lit< tt) b) in
      let one = moved s H in
      at-then one _ _ _ r (at_moved s H _ r (fits-lambda end marks depth Σ s.scope F c r w _ ready.holds ready.number e)) (λ z L.
      let G = M.went z in
      let x = L.x in
      let Γ = (x, 0) ∷ Σ in
      let E = in_expression false (suc marks) (suc depth) in
      let two = enter depth H.name 0 one in
      let W = run end f E two in
      let ready1 = ready-marks R Σ t marks depth one (ready_moved R Σ t marks depth s ready 3 1 H M z) (suc marks) (omega arith) in
      let ready2 = ready-entered R Σ t (suc marks) depth one ready1 x H.name 0 0 L.name refl (omega (arith, ready.few)) (omega (arith, L.few)) in
      at-then W _ _ _ r (ih.on_expression false (suc marks) (suc depth) two Γ t F _ r ready2 L.onward (omega arith)) (λ y q.
      let B = record_e q.tree Γ t in
      let g : H.parts ≡ suc c.parts = omega arith in
      let ready3 = ready-wrote R Γ t (suc marks) (suc depth) two ready2 1 0 0 _ _ B W (run-keeps end f E two) y q.wrote in
      at_here (put c.parts (node_with function_kind H.name (suc W.cursor.root) 0 (lambdas_in s.scope depth)) W) _ r y
      (record {
        tree = lambda x q.tree;
        wrote = wrote-put R Γ B.records (suc marks) (suc depth) W ready3 _ _ s.places c.parts B.places
            (node-as function_kind function_kind H.name (packed x) (suc W.cursor.root) (suc B.root) 0 0 (lambdas_in s.scope depth) (lambdas_of Σ) refl L.name
            (ap suc q.wrote.root) refl (lambdas-are Σ depth s.scope ready.holds))
            (q.wrote.places ∙ ap (λ i. sets s.places i B.places) g) (q.wrote.parts ∙ ap (λ i. i + length B.places) g);
        onward = q.onward;
      })))

  same_bracket : (w : Bool) (h : Expression × Outer F → Expression) → is_at open_kind s.cursor.rest ≡ true
      → r ≡ beyond end s.cursor.parts s.cursor.rest (note (mark_fault w (around marks Σ)) false)
      (at (expression false (opened (around marks Σ))) (brackets (around marks Σ) ∷ F)) (λ q. h (bracket q.0 q.1.0, q.1.1)) s.cursor.parts
      → 2 * length s.cursor.rest < suc f
      → FitsAt (read_bracket end (run end f) w marks depth s) (Read end R s.places s.cursor.parts (λ e. record_e e Σ t) F (λ e o. h (e, o)) r) r
  unfolding read_bracket record_e opened pass
  same_bracket w h b e l =
      let c = s.cursor in
      let D = around marks Σ in
      let H = judge end (at_bracket w marks) c (λ _. pass c) in
      let M = moved-judge end (at_bracket w marks) 1 0 c (λ _. pass c) (λ _. moved-pass end c (behind-some open_kind c.rest (lit< tt) b)) in
      let one = moved s H in
      let hb : Expression × (Calls × Outer F) → Expression = λ q. h (bracket q.0 q.1.0, q.1.1) in
      at-then one _ _ _ r (at_moved s H _ r (fits-judge end (at_bracket w marks) c (λ _. pass c)
      (λ c. r ≡ read_on end (at (expression false (opened D)) (brackets D ∷ F)) hb c.parts c.rest) r _
      (unless-by _ _ _ r _ (bracket-number c.parts marks Σ w) e) (λ _ e. fits-here end (pass c) _ r ready.number e))) (λ z e.
      let G = M.went z in
      let E = in_expression false (suc marks) depth in
      let W = run end f E one in
      let ready1 = ready_moved R Σ t marks depth s ready 1 0 H M z in
      at-then W _ _ _ r (ih.on_expression false (suc marks) depth one Σ t (brackets D ∷ F) hb r (ready-marks R Σ t marks depth one ready1 (suc marks) (omega arith)) e (omega arith)) (λ y v.
      let K = run-keeps end f E one in
      let N = need end shut_kind W.cursor in
      let I = moved-need end shut_kind W.cursor (lit< tt) in
      let hc : Calls × Outer F → Expression = λ q. h (bracket v.tree q.0, q.1) in
      at-then (moved W N) _ (λ a. r ≡ read_on end (at (calls D) F) hc a.cursor.parts a.cursor.rest) _ r
      (at_moved W N _ r (fits-need end shut_kind W.cursor
      (λ c. r ≡ read_on end (at (calls D) F) hc c.parts c.rest) r _
      (v.onward ∙ front-brackets end D F _ W.cursor.parts W.cursor.rest) (λ e. fits-here end (pass W.cursor) _ r y e))) (λ u e.
      let J = I.went u in
      let A = record_e v.tree Σ t in
      at_map (run end f (in_calls marks depth) (moved W N)) _ _ r
      (calls-behind end R f marks depth Σ F r ih (moved W N) s.places c.parts A hc
      (record {
        ready = ready_moved R Σ A.records marks depth W (ready-wrote R Σ t marks depth one ready1 1 0 0 _ _ A W K y v.wrote) 1 0 N I u;
        wrote = wrote-moved R s.places c.parts 1 0 A W N I (omega arith) (wrote_at R s.places H.parts c.parts A W (omega arith) v.wrote);
        onward = e;
        less = omega arith;
      })) (λ q. record { tree = bracket v.tree q.tree; wrote = q.wrote; onward = q.onward }))))

  same-name : (w : Bool) (h : Expression × Outer F → Expression) → is_at word_kind s.cursor.rest ≡ true
      → r ≡ beyond end s.cursor.parts s.cursor.rest (note (name_fault w (head_word s.cursor.rest)) true) (at (calls (around marks Σ)) F)
      (λ q. h (name (head_word s.cursor.rest) q.0, q.1)) (suc s.cursor.parts)
      → 2 * length s.cursor.rest < suc f
      → FitsAt (then (read_name end w depth s) (λ a. run end f (in_calls marks depth) a)) (Read end R s.places s.cursor.parts (λ e. record_e e Σ t) F (λ e o. h (e, o)) r) r
  unfolding read_name record_e pass_part
  same-name w h b e l =
      let c = s.cursor in
      let x = head_word c.rest in
      let hc : Calls × Outer F → Expression = λ q. h (name x q.0, q.1) in
      let n = at_name w x c.parts in
      let H = judge end n c (λ _. pass_part c) in
      let M = moved-name-part end w x c (behind-some word_kind c.rest (lit< tt) b) in
      let one = moved s H in
      let Z = record_name x Σ t in
      at_map _ _ _ r
      (atom-calls end R f marks depth Σ F r ih _ s.places c.parts Z hc
      (at-then one _ (λ a. r ≡ read_on end (at (calls (around marks Σ)) F) hc a.cursor.parts a.cursor.rest) _ r
      (at_moved s H _ r (fits-judge end n c (λ _. pass_part c) (λ c. r ≡ read_on end (at (calls (around marks Σ)) F) hc c.parts c.rest) r _
      (unless-by _ _ _ r _ (name-number c.parts marks Σ w x) e) (λ _ e. fits-here end (pass_part c) _ r ready.number e))) (λ z e.
      let G = M.went z in
      let ready1 = ready_moved R Σ t marks depth s ready 1 1 H M z in
      let a = put_name c.parts (packed x) depth one in
      let S = stays-name c.parts (packed x) depth one in
      let O = wrote-name R Σ t marks depth one ready1 x c.parts (omega arith) in
      let S0 = S.rest in
      let S1 = S.parts in
      let S2 = S.scope in
      at_here a _ r (S.number ∙ z)
      (record {
        ready = record { number = S.number ∙ z; count = O.count; records = O.records; holds = rw S2 ready.holds; room = rw S2 ready.room; few = ready.few };
        wrote = O;
        onward = rw (S0, S1) e;
        less = rw S0 (omega arith);
      })))) (λ q. record { tree = name x q.tree; wrote = q.wrote; onward = q.onward })

  same_number : (w : Bool) (h : Expression × Outer F → Expression) → is_at digits_kind s.cursor.rest ≡ true
      → r ≡ beyond end s.cursor.parts s.cursor.rest (note (literal_fault w (head_value s.cursor.rest)) true)
      (at (calls (around marks Σ)) F) (λ q. h (literal (head_value s.cursor.rest) q.0, q.1)) (suc s.cursor.parts)
      → 2 * length s.cursor.rest < suc f
      → FitsAt (then (read_number end w s) (λ a. run end f (in_calls marks depth) a)) (Read end R s.places s.cursor.parts (λ e. record_e e Σ t) F (λ e o. h (e, o)) r) r
  unfolding read_number record_e pass_part put counted
  same_number w h b e l =
      let c = s.cursor in
      let v = head_value c.rest in
      let hc : Calls × Outer F → Expression = λ q. h (literal v q.0, q.1) in
      let n = at_number w v c.parts in
      let H = judge end n c (λ _. pass_part c) in
      let M = moved-number-part end w v c (behind-some digits_kind c.rest (lit< tt) b) in
      let one = moved s H in
      let m = node number_kind (number_key v) 0 0 in
      let Z = new_record m t (length t ∷ []) in
      at_map _ _ _ r
      (atom-calls end R f marks depth Σ F r ih _ s.places c.parts Z hc
      (at-then one _ (λ a. r ≡ read_on end (at (calls (around marks Σ)) F) hc a.cursor.parts a.cursor.rest) _ r
      (at_moved s H _ r (fits-judge end n c (λ _. pass_part c) (λ c. r ≡ read_on end (at (calls (around marks Σ)) F) hc c.parts c.rest) r _
      (unless-by _ _ _ r _ (literal-number c.parts marks Σ w v) e) (λ _ e. fits-here end (pass_part c) _ r ready.number e))) (λ z e.
      let G = M.went z in
      let ready1 = ready_moved R Σ t marks depth s ready 1 1 H M z in
      let O = wrote-put R Σ t marks depth one ready1 m m s.places c.parts [] refl refl (omega arith) in
      at_here (put c.parts m one) _ r z
      (record {
        ready = record { number = z; count = O.count; records = O.records; holds = ready.holds; room = ready.room; few = ready.few };
        wrote = O;
        onward = e;
        less = omega arith;
      })))) (λ q. record { tree = literal v q.tree; wrote = q.wrote; onward = q.onward })

  pub same-expression : (w : Bool) (h : Expression × Outer F → Expression) → r ≡ read_on end (at (expression w (around marks Σ)) F) h s.cursor.parts s.cursor.rest
      → 2 * length s.cursor.rest < suc f
      → FitsAt (read_expression end (run end f) w marks depth s) (Read end R s.places s.cursor.parts (λ e. record_e e Σ t) F (λ e o. h (e, o)) r) r
  unfolding read_expression
  same-expression w h e l =
      at-choice _ _ _ _ _ _ r (e ∙ front-expression end w (around marks Σ) F h s.cursor.parts s.cursor.rest) (λ b e. same-let w h b e l) (λ _ e.
      at-choice _ _ _ _ _ _ r e (λ b e. same-lambda w h b e l) (λ _ e.
      at-choice _ _ _ _ _ _ r e (λ b e. same_bracket w h b e l) (λ _ e.
      at-choice _ _ _ _ _ _ r e (λ b e. same-name w h b e l) (λ _ e.
      at-choice _ _ _ _ _ _ r e (λ b e. same_number w h b e l) (λ _ e.
      at-refused end 4 s _ r e)))))
