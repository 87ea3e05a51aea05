-- How the cursor moves at the tokens outside the readers' cycle, for every cursor: what is kept, and what is passed and counted where
-- nothing is refused. Assumes nothing.
use Rattle.std.specs.Prelude.{◌≡◌, refl, Bool, true, false, cond, List, [], ◌∷◌, ℕ, suc, ◌+◌, ◌≤◌, ◌<◌, max, leb, eqb, ℤ, length}
use Rattle.std.proofs.Common.{◌∙◌, lit<, leb-false, eqb-true}
use native.Mathlib.Omega.{arith}
use Rattle.std.proofs.lemmas.Bool.{eqb-false}
use Rattle.language.specs.Limits.{text_parts}
use Rattle.language.specs.Names.{is_long}
use Rattle.grammar.specs.Tokens.{Located}
use Rattle.grammar.proofs.TokensLaws.{by-test}
use Rattle.descent.specs.Cursor.{Cursor, word_kind, open_kind, equals_kind, arrow_kind, head_kind, behind_head, is_at, is_outside}
use Rattle.descent.specs.Cursor.{lambdas_in, at_part, at_let, at_lambda, at_name, at_number, at_mark, at_binder, at_member, at_call_open}
use Rattle.descent.specs.Cursor.{pass, pass_part, pass_name, pass_member, refuse, judge, next, need, let_head, lambda_head, call_head}

-- what a refusal's number 0 tells
pub not-refused : (b : Bool) (k n : ℕ) → cond b (suc k) n ≡ 0 → (b ≡ false) × (n ≡ 0)
not-refused true k n e = absurd (omega arith)
not-refused false k n e = (refl, e)

pub was-due : (b : Bool) (n k : ℕ) → cond b n (suc k) ≡ 0 → (b ≡ true) × (n ≡ 0)
was-due true n k e = (refl, e)
was-due false n k e = absurd (omega arith)

pub part-fits : (parts : ℕ) → at_part parts ≡ 0 → parts < text_parts
unfolding at_part
part-fits parts e = leb-false text_parts parts (not-refused (leb text_parts parts) 11 0 e).0

pub behind-some : (k : ℕ) (rest : List Located) → 0 < k → is_at k rest ≡ true → length (behind_head rest) + 1 ≤ length rest
unfolding head_kind behind_head
behind-some k [] l e = absurd (omega (arith, eqb-true 0 k e))
behind-some k (x ∷ xs) l e = omega arith

-- the cursor: p tokens are passed and g parts counted, where nothing is refused
pub record Moved (p g : ℕ) (c c' : Cursor) : Type 0 where
  pub count : c'.count ≡ c.count
  pub root : c'.root ≡ c.root
  pub parts : c.parts ≤ c'.parts
  pub most : c'.parts ≤ max c.parts text_parts
  pub rest : length c'.rest ≤ length c.rest
  pub went : c'.number ≡ 0 → (length c'.rest + p ≤ length c.rest) × (c'.parts ≡ c.parts + g)

module _ (end : ℕ) where
  pub moved-judge : (n p g : ℕ) (c : Cursor) (d : Unit {0} → Cursor) → (n ≡ 0 → Moved p g c (d tt)) → Moved p g c (judge end n c d)
  unfolding judge refuse
  moved-judge n p g c d f =
      by-test (Moved p g c) (eqb n 0) d (λ _. refuse end n c) (λ e. f (eqb-true n 0 e))
      (λ e. record { count = refl; root = refl; parts = omega arith; most = omega arith; rest = omega arith; went = λ z. absurd (eqb-false n 0 e z) })

  moved-next : (p g p' g' : ℕ) (c a : Cursor) (k : Cursor → Cursor) → Moved p g c a → Moved p' g' a (k a) → Moved (p + p') (g + g') c (next end a k)
  unfolding next
  moved-next p g p' g' c a k h j =
      by-test (Moved (p + p') (g + g') c) (eqb a.number 0) (λ _. k a) (λ _. a)
      (λ e. let z = h.went (eqb-true a.number 0 e) in
      record {
        count = j.count ∙ h.count;
        root = j.root ∙ h.root;
        parts = omega arith;
        most = omega arith;
        rest = omega arith;
        went = λ y. let u = j.went y in (omega arith, omega arith);
      })
      (λ e. record { count = h.count; root = h.root; parts = h.parts; most = h.most; rest = h.rest; went = λ z. absurd (eqb-false a.number 0 e z) })

  pub moved-pass : (c : Cursor) → length (behind_head c.rest) + 1 ≤ length c.rest → Moved 1 0 c (pass c)
  unfolding pass
  moved-pass c l = record { count = refl; root = refl; parts = omega arith; most = omega arith; rest = omega arith; went = λ z. (l, omega arith) }

  moved-name : (c : Cursor) → length (behind_head c.rest) + 1 ≤ length c.rest → Moved 1 0 c (pass_name c)
  unfolding pass_name
  moved-name c l = record { count = refl; root = refl; parts = omega arith; most = omega arith; rest = omega arith; went = λ z. (l, omega arith) }

  moved-member : (c : Cursor) → length (behind_head c.rest) + 1 ≤ length c.rest → Moved 1 0 c (pass_member c)
  unfolding pass_member
  moved-member c l = record { count = refl; root = refl; parts = omega arith; most = omega arith; rest = omega arith; went = λ z. (l, omega arith) }

  moved-part : (c : Cursor) → c.parts < text_parts → length (behind_head c.rest) + 1 ≤ length c.rest → Moved 1 1 c (pass_part c)
  unfolding pass_part
  moved-part c m l = record { count = refl; root = refl; parts = omega arith; most = omega arith; rest = omega arith; went = λ z. (l, omega arith) }

  -- a part whose refusal n ends in that of the 129th
  judged-part : (n : ℕ) (c : Cursor) → (n ≡ 0 → at_part c.parts ≡ 0) → length (behind_head c.rest) + 1 ≤ length c.rest
      → Moved 1 1 c (judge end n c (λ _. pass_part c))
  judged-part n c f l = moved-judge n 1 1 c (λ _. pass_part c) (λ e. moved-part c (part-fits c.parts (f e)) l)

  pub moved-need : (k : ℕ) (c : Cursor) → 0 < k → Moved 1 0 c (need end k c)
  unfolding need at_mark
  moved-need k c l = moved-judge (at_mark k c.rest) 1 0 c (λ _. pass c) (λ e. moved-pass c (behind-some k c.rest l (was-due (is_at k c.rest) 0 4 e).0))

  -- a name in use, and a number
  pub moved-name-part : (w : Bool) (x : List ℕ) (c : Cursor) → length (behind_head c.rest) + 1 ≤ length c.rest
      → Moved 1 1 c (judge end (at_name w x c.parts) c (λ _. pass_part c))
  unfolding at_name
  moved-name-part w x c = judged-part (at_name w x c.parts) c (λ e. (not-refused w 8 _ (not-refused (is_long x) 6 _ e).1).1)

  pub moved-number-part : (w : Bool) (z : ℤ) (c : Cursor) → length (behind_head c.rest) + 1 ≤ length c.rest
      → Moved 1 1 c (judge end (at_number w z c.parts) c (λ _. pass_part c))
  unfolding at_number
  moved-number-part w z c = judged-part (at_number w z c.parts) c (λ e. (not-refused w 8 _ (not-refused (is_outside z) 5 _ e).1).1)

  pub moved-let : (w : Bool) (marks : ℕ) (c : Cursor) → length (behind_head c.rest) + 1 ≤ length c.rest → Moved 3 1 c (let_head end w marks c)
  unfolding let_head at_let at_binder
  moved-let w marks c l =
      moved-next 1 1 2 0 c _ _
      (judged-part (at_let w marks c.parts) c (λ e. (not-refused (leb 16 marks) 11 _ (not-refused w 8 _ e).1).1) l)
      (moved-next 1 0 1 0 _ _ _
      (moved-judge _ 1 0 _ _ (λ e. moved-name _ (behind-some word_kind _ (lit< tt) (was-due _ _ 4 e).0)))
      (moved-need equals_kind _ (lit< tt)))

  pub moved-lambda : (w : Bool) (marks depth : ℕ) (scope : List ℕ) (c : Cursor) → length (behind_head c.rest) + 1 ≤ length c.rest
      → Moved 3 1 c (lambda_head end w marks depth scope c)
  unfolding lambda_head at_lambda at_binder
  moved-lambda w marks depth scope c l =
      moved-next 1 1 2 0 c _ _
      (judged-part (at_lambda w (lambdas_in scope depth) marks c.parts) c (λ e. (not-refused (leb 16 marks) 11 _ (not-refused (leb 2 (lambdas_in scope depth)) 9 _ (not-refused w 8 _ e).1).1).1) l)
      (moved-next 1 0 1 0 _ _ _
      (moved-judge _ 1 0 _ _ (λ e. moved-name _ (behind-some word_kind _ (lit< tt) (was-due _ _ 4 e).0)))
      (moved-need arrow_kind _ (lit< tt)))

  pub moved_call : (marks : ℕ) (c : Cursor) → length (behind_head c.rest) + 1 ≤ length c.rest → Moved 3 1 c (call_head end marks c)
  unfolding call_head at_member at_call_open
  moved_call marks c l =
      moved-next 1 1 2 0 c _ _
      (judged-part (at_part c.parts) c (λ e. e) l)
      (moved-next 1 0 1 0 _ _ _
      (moved-judge _ 1 0 _ _ (λ e. moved-member _ (behind-some word_kind _ (lit< tt) (was-due _ _ 4 e).0)))
      (moved-judge _ 1 0 _ _ (λ e. moved-pass _ (behind-some open_kind _ (lit< tt) (was-due _ _ 4 e).0))))
