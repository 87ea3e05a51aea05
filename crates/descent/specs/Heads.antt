-- The tokens outside the readers' cycle, held against grammar's machine: what is refused is what the machine reads, and where nothing is
-- refused the machine goes on from the same tokens. Assumes nothing.
use Rattle.std.specs.Prelude.{◌≡◌, refl, Bool, true, false, cond, List, ◌∷◌, leb, eqb}
use Rattle.std.proofs.Common.{sym, ap, ◌∙◌, arith}
use Prim.Native.Nat.{ℕ, zero, suc, ◌<◌}
use borrow.Author.Tests.{leb-false, eqb-true, eqb-false}
use Rattle.language.specs.Limits.{open_marks}
use Rattle.language.specs.Names.{packed}
use Rattle.members.specs.Members.{member_of, is_unknown, takes}
use Rattle.grammar.specs.Tokens.{when, Located}
use Rattle.grammar.proofs.TokensLaws.{by-test}
use Rattle.grammar.specs.Grammar.{Expression}
use Rattle.grammar.specs.Faults.{opened, in_lambda, mark_fault, lambda_fault, fine, note}
use Rattle.grammar.specs.Reading.{Reading, refused}
use Rattle.grammar.specs.Machine.{Frame, value, at, Trees, expression, let_name, lambda_name, member as member_phase, arguments}
use Rattle.meaning.specs.Binding.{member}
use Rattle.layout.specs.Nodes.{member_kind}
use Rattle.records.specs.Records.{Named}
use Rattle.descent.specs.Cursor.{Cursor, equals_kind, arrow_kind, word_kind, open_kind, head_place, head_word, behind_head, is_at, lambdas_in}
use Rattle.descent.specs.Cursor.{at_part, at_let, at_lambda, at_mark, at_binder, at_member, at_call_open}
use Rattle.descent.specs.Cursor.{pass, pass_part, pass_name, pass_member, refuse, judge, next, need, let_head, lambda_head, call_head}
use Rattle.descent.specs.Continued.{unless_at, read_on}
use Rattle.descent.specs.Fronts.{due, front-let_name, front-let_equals, front-lambda_name, front-lambda_arrow, front-member, front-call_open, beyond}
use Rattle.descent.specs.Moves.{not-refused}
use Rattle.descent.specs.Scope.{Holds, around, dot-number, let-number, lambda-number, open-number, binder-number, call-number}

-- where the cursor is not refused, P holds of it; and where it is, so is what the machine reads
pub record Fits (c : Cursor) (P : Cursor → Type 0) (r : Reading) : Type 0 where
  pub goes : c.number ≡ 0 → P c
  pub stops : ¬ (c.number ≡ 0) → r ≡ refused c.number c.place

unless-refused : (n p : ℕ) (r r' : Reading) → ¬ (n ≡ 0) → r ≡ unless_at n p r' → r ≡ refused n p
unfolding unless_at
unless-refused zero p r r' d e = absurd (d refl)
unless-refused (suc n) p r r' d e = e

unless-passed : (n p : ℕ) (r r' : Reading) → n ≡ 0 → r ≡ unless_at n p r' → r ≡ r'
unfolding unless_at
unless-passed zero p r r' z e = e
unless-passed (suc n) p r r' z e = absurd (omega arith)

-- the reader's number for the machine's
pub unless-by : (n m p : ℕ) (r r' : Reading) → n ≡ m → r ≡ unless_at m p r' → r ≡ unless_at n p r'
unless-by n m p r r' e h = h ∙ ap (λ k. unless_at k p r') (sym e)

due-unless : (b : Bool) (n p : ℕ) (r : Reading) → when b (λ _. unless_at n p r) (λ _. refused 5 p) ≡ unless_at (cond b n 5) p r
unfolding when unless_at
due-unless true n p r = refl
due-unless false n p r = refl

due-by : (n m k end : ℕ) (rest : List Located) (r r' : Reading) → n ≡ m → r ≡ due k (unless_at m (head_place end rest) r') end rest
    → r ≡ unless_at (cond (is_at k rest) n 5) (head_place end rest) r'
due-by n m k end rest r r' e h = unless-by _ _ _ r r' (ap (λ i. cond (is_at k rest) i 5) e) (h ∙ due-unless (is_at k rest) m (head_place end rest) r')

pub due-zero : (k end : ℕ) (rest : List Located) (r r' : Reading) → r ≡ due k r' end rest → r ≡ unless_at (cond (is_at k rest) 0 5) (head_place end rest) r'
unfolding unless_at
due-zero k end rest r r' h = h ∙ due-unless (is_at k rest) 0 (head_place end rest) r'

module _ (end : ℕ) where
  pub fits-judge : (n : ℕ) (c : Cursor) (d : Unit {0} → Cursor) (P : Cursor → Type 0) (r r' : Reading) → r ≡ unless_at n (head_place end c.rest) r'
      → (n ≡ 0 → r ≡ r' → Fits (d tt) P r) → Fits (judge end n c d) P r
  unfolding judge refuse
  fits-judge n c d P r r' e f =
      by-test (λ x. Fits x P r) (eqb n 0) d (λ _. refuse end n c)
      (λ z. let y = eqb-true n 0 z in f y (unless-passed n _ r r' y e))
      (λ z. record { goes = λ y. absurd (eqb-false n 0 z y); stops = λ _. unless-refused n (head_place end c.rest) r r' (eqb-false n 0 z) e })

  pub fits-here : (c : Cursor) (P : Cursor → Type 0) (r : Reading) → c.number ≡ 0 → P c → Fits c P r
  fits-here c P r z p = record { goes = λ _. p; stops = λ d. absurd (d z) }

  -- a token is passed, and then the next
  fits-pass : (n : ℕ) (c : Cursor) (d : Unit {0} → Cursor) (k : Cursor → Cursor) (P : Cursor → Type 0) (r r' : Reading) → (d tt).number ≡ 0
      → r ≡ unless_at n (head_place end c.rest) r' → (n ≡ 0 → r ≡ r' → Fits (k (d tt)) P r) → Fits (next end (judge end n c d) k) P r
  unfolding judge next refuse when
  fits-pass n c d k P r r' z e f =
      by-test (λ x. Fits (next end x k) P r) (eqb n 0) d (λ _. refuse end n c)
      (λ y. by-test (λ x. Fits x P r) (eqb (d tt).number 0) (λ _. k (d tt)) (λ _. d tt)
      (λ _. let m = eqb-true n 0 y in f m (unless-passed n _ r r' m e))
      (λ x. absurd (eqb-false (d tt).number 0 x z)))
      (λ y. by-test (λ x. Fits x P r) (eqb n 0) (λ _. k (refuse end n c)) (λ _. refuse end n c)
      (λ x. absurd (eqb-false n 0 y (eqb-true n 0 x)))
      (λ _. record { goes = λ x. absurd (eqb-false n 0 y x); stops = λ _. unless-refused n (head_place end c.rest) r r' (eqb-false n 0 y) e }))

  pub fits-need : (k : ℕ) (c : Cursor) (P : Cursor → Type 0) (r r' : Reading) → r ≡ due k r' end c.rest → (r ≡ r' → Fits (pass c) P r) → Fits (need end k c) P r
  unfolding need at_mark
  fits-need k c P r r' e f = fits-judge (at_mark k c.rest) c (λ _. pass c) P r r' (due-zero k end c.rest r r' e) (λ _ y. f y)

  -- the heads: of a let, of a lambda and of a call
  module _ (marks depth : ℕ) (Σ : List Named) (scope : List ℕ) (F : List Frame) (c : Cursor) (r : Reading) where
    pub record LetRead (h : Trees (at (let_name (around marks Σ)) F) → Expression) (c' : Cursor) : Type 0 where
      pub x : List ℕ
      pub name : c'.name ≡ packed x
      pub few : marks < open_marks
      pub onward : r ≡ read_on end (at (expression false (opened (around marks Σ))) (value x (around marks Σ) ∷ F)) (λ q. h ((x, q.0, q.1.0), q.1.1)) c'.parts c'.rest

    pub fits-let : (w : Bool) (h : Trees (at (let_name (around marks Σ)) F) → Expression) → c.number ≡ 0
        → r ≡ beyond end c.parts c.rest (note (mark_fault w (around marks Σ)) true) (at (let_name (around marks Σ)) F) h (suc c.parts)
        → Fits (let_head end w marks c) (LetRead h) r
    unfolding let_head at_let at_binder pass_part pass_name pass
    fits-let w h z e =
        let d = around marks Σ in
        let p = suc c.parts in
        let one = behind_head c.rest in
        let two = behind_head one in
        let x = head_word one in
        fits-pass (at_let w marks c.parts) c (λ _. pass_part c) _ (LetRead h) r _ z (unless-by _ _ _ r _ (let-number c.parts marks Σ w) e) (λ n e.
        fits-pass (at_binder one) (pass_part c) (λ _. pass_name (pass_part c)) _ (LetRead h) r _ z
        (due-by _ _ word_kind end one r _ (binder-number p x) (e ∙ front-let_name end d F h p one)) (λ _ e.
        fits-need equals_kind (pass_name (pass_part c)) (LetRead h) r _ (e ∙ front-let_equals end x d F _ p two) (λ e.
        fits-here (pass (pass_name (pass_part c))) (LetRead h) r z
        (record { x = x; name = refl; few = leb-false open_marks marks (not-refused (leb open_marks marks) 11 _ (not-refused w 8 _ n).1).0; onward = e }))))

    pub record LambdaRead (h : Trees (at (lambda_name (around marks Σ)) F) → Expression) (c' : Cursor) : Type 0 where
      pub x : List ℕ
      pub name : c'.name ≡ packed x
      pub few : marks < open_marks
      pub onward : r ≡ read_on end (at (expression false (in_lambda (around marks Σ))) F) (λ q. h ((x, q.0), q.1)) c'.parts c'.rest

    pub fits-lambda : (w : Bool) (h : Trees (at (lambda_name (around marks Σ)) F) → Expression) → Holds Σ depth scope → c.number ≡ 0
        → r ≡ beyond end c.parts c.rest (note (lambda_fault w (around marks Σ)) true) (at (lambda_name (around marks Σ)) F) h (suc c.parts)
        → Fits (lambda_head end w marks depth scope c) (LambdaRead h) r
    unfolding lambda_head at_lambda at_binder pass_part pass_name pass
    fits-lambda w h g z e =
        let d = around marks Σ in
        let p = suc c.parts in
        let one = behind_head c.rest in
        let two = behind_head one in
        let x = head_word one in
        fits-pass (at_lambda w (lambdas_in scope depth) marks c.parts) c (λ _. pass_part c) _ (LambdaRead h) r _ z (unless-by _ _ _ r _ (lambda-number c.parts marks Σ w depth scope g) e) (λ n e.
        fits-pass (at_binder one) (pass_part c) (λ _. pass_name (pass_part c)) _ (LambdaRead h) r _ z
        (due-by _ _ word_kind end one r _ (binder-number p x) (e ∙ front-lambda_name end d F h p one)) (λ _ e.
        fits-need arrow_kind (pass_name (pass_part c)) (LambdaRead h) r _ (e ∙ front-lambda_arrow end x d F _ p two) (λ e.
        fits-here (pass (pass_name (pass_part c))) (LambdaRead h) r z
        let l = (not-refused (leb open_marks marks) 11 _ (not-refused (leb 2 (lambdas_in scope depth)) 9 _ (not-refused w 8 _ n).1).1).0 in
        (record { x = x; name = refl; few = leb-false open_marks marks l; onward = e }))))

    pub record CallRead (h : Trees (at (member_phase (around marks Σ)) F) → Expression) (c' : Cursor) : Type 0 where
      pub x : List ℕ
      pub name : c'.name ≡ member_kind (member x)
      pub onward : r ≡ read_on end (at (arguments c'.takes (around marks Σ)) F) (λ q. h ((x, q.0), q.1)) c'.parts c'.rest

    pub fits-call : (h : Trees (at (member_phase (around marks Σ)) F) → Expression) → c.number ≡ 0
        → r ≡ beyond end c.parts c.rest (note fine true) (at (member_phase (around marks Σ)) F) h (suc c.parts)
        → Fits (call_head end marks c) (CallRead h) r
    unfolding call_head at_member at_call_open pass_part pass_member pass
    fits-call h z e =
        let d = around marks Σ in
        let p = suc c.parts in
        let one = behind_head c.rest in
        let two = behind_head one in
        let x = head_word one in
        fits-pass (at_part c.parts) c (λ _. pass_part c) _ (CallRead h) r _ z (unless-by _ _ _ r _ (dot-number c.parts marks Σ) e) (λ n e.
        fits-pass (at_member one) (pass_part c) (λ _. pass_member (pass_part c)) _ (CallRead h) r _ z
        (due-by _ _ word_kind end one r _ (call-number p (is_unknown (member_of x))) (e ∙ front-member end d F h p one)) (λ _ e.
        fits-judge (at_call_open marks two) (pass_member (pass_part c)) (λ _. pass (pass_member (pass_part c))) (CallRead h) r _
        (due-by _ _ open_kind end two r _ (open-number p marks Σ) (e ∙ front-call_open end (takes (member_of x)) d F _ p two)) (λ _ e.
        fits-here (pass (pass_member (pass_part c))) (CallRead h) r z (record { x = x; name = refl; onward = e }))))
