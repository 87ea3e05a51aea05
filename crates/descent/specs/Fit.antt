-- What the code's arithmetic and indices need of a state: counts, links and depth within their bounds. Each reader that is called with a fit
-- state is fit at every call that it makes, and ends in a state that is fit for the calls behind an atom. Assumes nothing.
use Rattle.std.specs.Prelude.{◌≡◌, Bool, true, false, cond, List, [], ◌∷◌, ℕ, zero, suc, ◌+◌, ◌*◌, ◌≤◌, ◌<◌, leb, eqb, get_or, set}
use Rattle.std.proofs.Common.{◌∙◌, arith, lit<, get_or-set_other, leb-false, eqb-true}
use Rattle.std.proofs.Math.Decide.{dec_lt}
use Rattle.std.proofs.lemmas.Bool.{eqb-false}
use Rattle.language.specs.Limits.{text_parts, open_marks}
use Rattle.members.specs.MembersLaws.{number-below}
use Rattle.grammar.proofs.TokensLaws.{by-test}
use Rattle.meaning.specs.Binding.{member}
use Rattle.layout.specs.Nodes.{member_kind}
use Rattle.descent.specs.Cursor.{Cursor, binder_link, lambdas_in, is_at, head_word, let_kind, in_kind, lambda_kind, dot_kind, open_kind, shut_kind, comma_kind}
use Rattle.descent.specs.Cursor.{at_let, at_lambda, at_bracket, at_comma, at_call_open, pass, pass_part, pass_member, refuse, judge, next, need, let_head, lambda_head, call_head}
use Rattle.descent.specs.Descent.{State, moved, Call, new_call, Mode, in_expression, in_calls, in_arguments, in_more, enter}
use Rattle.descent.specs.Moves.{not-refused, was-due, moved-judge, moved-pass, moved-let, moved-lambda, moved_call, moved-need, behind-some}
use Rattle.descent.specs.Preserved.{Preserved, depth_of, owed, kept-moved}

-- a call being read
pub record CallFit (k : Call) (s : State) : Type 0 where
  pub kind : k.kind < 32
  pub receiver : k.receiver < s.cursor.count
  pub argument : k.argument ≤ s.cursor.count
  pub place : k.place < s.cursor.parts

abbrev pub OwnFit : Mode → State → Type 0
OwnFit (in_expression w marks depth) s = Unit {0}
OwnFit (in_calls marks depth) s = s.cursor.root < s.cursor.count
OwnFit (in_arguments k marks depth) s = CallFit k s
OwnFit (in_more k marks depth) s = CallFit k s

abbrev pub marks_of : Mode → ℕ
marks_of (in_expression w marks depth) = marks
marks_of (in_calls marks depth) = marks
marks_of (in_arguments k marks depth) = marks
marks_of (in_more k marks depth) = marks

-- the ( of a call is open besides
abbrev besides : Mode → ℕ
besides (in_expression w marks depth) = 0
besides (in_calls marks depth) = 0
besides (in_arguments k marks depth) = 1
besides (in_more k marks depth) = 1

pub record Fit (m : Mode) (s : State) : Type 0 where
  pub parts : s.cursor.parts ≤ text_parts
  -- with the record that is owed for a call's part
  pub count : s.cursor.count + owed m ≤ s.cursor.parts
  pub marks : marks_of m + besides m ≤ open_marks
  pub depth : depth_of m ≤ marks_of m
  pub links : (b : ℕ) → b < depth_of m → binder_link s.scope b ≤ s.cursor.count
  pub own : OwnFit m s

-- the numbers of the pieces are 0 where the whole's is
judged : (end n : ℕ) (c : Cursor) (d : Unit {0} → Cursor) → (judge end n c d).number ≡ 0 → n ≡ 0
unfolding judge refuse
judged end n c d = by-test (λ x. x.number ≡ 0 → n ≡ 0) (eqb n 0) d (λ _. refuse end n c) (λ e _. eqb-true n 0 e) (λ _ z. z)

went_on : (end : ℕ) (a : Cursor) (k : Cursor → Cursor) → (next end a k).number ≡ 0 → (a.number ≡ 0) × ((k a).number ≡ 0)
unfolding next
went_on end a k =
    by-test (λ x. x.number ≡ 0 → (a.number ≡ 0) × ((k a).number ≡ 0)) (eqb a.number 0) (λ _. k a) (λ _. a)
    (λ e z. (eqb-true a.number 0 e, z)) (λ e z. absurd (eqb-false a.number 0 e z))

pub let-few : (end : ℕ) (w : Bool) (marks : ℕ) (c : Cursor) → (let_head end w marks c).number ≡ 0 → marks < open_marks
unfolding let_head at_let
let-few end w marks c z =
    leb-false open_marks marks (not-refused (leb open_marks marks) 11 _
    (not-refused w 8 _ (judged end (at_let w marks c.parts) c _ (went_on end (judge end (at_let w marks c.parts) c (λ _. pass_part c)) _ z).0)).1).0

pub lambda-few : (end : ℕ) (w : Bool) (marks depth : ℕ) (scope : List ℕ) (c : Cursor) → (lambda_head end w marks depth scope c).number ≡ 0 → marks < open_marks
unfolding lambda_head at_lambda
lambda-few end w marks depth scope c z =
    let l = lambdas_in scope depth in
    leb-false open_marks marks (not-refused (leb open_marks marks) 11 _
    (not-refused (leb 2 l) 9 _ (not-refused w 8 _ (judged end (at_lambda w l marks c.parts) c _
    (went_on end (judge end (at_lambda w l marks c.parts) c (λ _. pass_part c)) _ z).0)).1).1).0

bracket-few : (end : ℕ) (w : Bool) (marks : ℕ) (c : Cursor) (d : Unit {0} → Cursor) → (judge end (at_bracket w marks) c d).number ≡ 0 → marks < open_marks
unfolding at_bracket
bracket-few end w marks c d z = leb-false open_marks marks (not-refused (leb open_marks marks) 11 _ (not-refused w 8 _ (judged end (at_bracket w marks) c d z)).1).0

-- a call's head: few marks, and the kind of a member
kind-small : (m : List ℕ) → member_kind (member m) < 32
kind-small m = omega (arith, number-below (member m))

member-named : (c : Cursor) → (pass_member c).name < 32
unfolding pass_member
member-named c = kind-small (head_word c.rest)

goes-judge : (P : Cursor → Type 0) (end n : ℕ) (c : Cursor) (d : Unit {0} → Cursor) → (n ≡ 0 → P (d tt)) → (judge end n c d).number ≡ 0 → P (judge end n c d)
unfolding judge refuse
goes-judge P end n c d f =
    by-test (λ x. x.number ≡ 0 → P x) (eqb n 0) d (λ _. refuse end n c) (λ e _. f (eqb-true n 0 e)) (λ e z. absurd (eqb-false n 0 e z))

goes-next : (P : Cursor → Type 0) (end : ℕ) (a : Cursor) (k : Cursor → Cursor) → (a.number ≡ 0 → (k a).number ≡ 0 → P (k a)) → (next end a k).number ≡ 0 → P (next end a k)
unfolding next
goes-next P end a k f =
    by-test (λ x. x.number ≡ 0 → P x) (eqb a.number 0) (λ _. k a) (λ _. a) (λ e. f (eqb-true a.number 0 e)) (λ e z. absurd (eqb-false a.number 0 e z))

call-head : (end marks : ℕ) (c : Cursor) → (call_head end marks c).number ≡ 0 → (marks < open_marks) × ((call_head end marks c).name < 32)
unfolding call_head at_call_open pass
call-head end marks c =
    let P : Cursor → Type 0 = λ x. (marks < open_marks) × (x.name < 32) in
    goes-next P end _ _ (λ _. goes-next P end _ _ (λ z. goes-judge P end _ _ _ (λ n. (
      leb-false open_marks marks (not-refused (leb open_marks marks) 11 0 (was-due (is_at open_kind _) (cond (leb open_marks marks) 12 0) 4 n).1).0,
      goes-judge (λ x. x.name < 32) end _ _ _ (λ _. member-named _) z,
    ))))

-- one binder more
entered-link : (cs : List ℕ) (i v : ℕ) → get_or (set cs i v) i 0 ≤ v
entered-link [] i v = omega arith
entered-link (c ∷ cs) zero v = omega arith
entered-link (c ∷ cs) (suc i) v = entered-link cs i v

links-entered : (depth x j c : ℕ) (scope : List ℕ) → ((b : ℕ) → b < depth → binder_link scope b ≤ c) → j ≤ c → (b : ℕ) → b < suc depth
    → binder_link (set (set scope (2 * depth) x) (2 * depth + 1) j) b ≤ c
links-entered depth x j c scope h l b m =
    elim (dec_lt b depth) [
      | yes lt ↦
          let e : binder_link (set (set scope (2 * depth) x) (2 * depth + 1) j) b ≡ binder_link scope b =
          get_or-set_other (set scope (2 * depth) x) (2 * depth + 1) (2 * b + 1) j 0 (λ e. omega arith)
          ∙ get_or-set_other scope (2 * depth) (2 * b + 1) x 0 (λ e. omega arith) in
          rw e (h b lt)
      | no ge ↦ let e : b ≡ depth = omega arith in rw e (let i = entered-link (set scope (2 * depth) x) (2 * depth + 1) j in omega arith)
    ]

-- a state that is kept is fit again
pub fit-kept : (m m' : Mode) (p g o : ℕ) (s s' : State) → Fit m s → Preserved (depth_of m') p g o s s' → s'.cursor.count + owed m' ≤ s'.cursor.parts
    → marks_of m' + besides m' ≤ open_marks → depth_of m' ≤ marks_of m' → depth_of m' ≤ depth_of m → OwnFit m' s' → Fit m' s'
fit-kept m m' p g o s s' h k c l d e own =
    record {
      parts = omega (arith, h.parts, k.most);
      count = c;
      marks = l;
      depth = d;
      links = λ b i. let y = k.below (2 * b + 1) (omega arith) in let x = h.links b (omega arith) in rw y (omega (arith, k.count));
      own = own;
    }

-- the states at the calls of the readers
module _ (end : ℕ) (marks depth : ℕ) (s : State) where
  abbrev c : Cursor
  c = s.cursor

  pub fit-let-value : (w : Bool) → Fit (in_expression w marks depth) s → is_at let_kind c.rest ≡ true → (let_head end w marks c).number ≡ 0
      → Fit (in_expression false (suc marks) depth) (moved s (let_head end w marks c))
  fit-let-value w h b z =
      let m = moved-let end w marks c (behind-some let_kind c.rest (lit< tt) b) in
      let few = let-few end w marks c z in
      let deep = h.depth in
      fit-kept _ (in_expression false (suc marks) depth) 3 1 0 s _ h (kept-moved depth 3 1 s _ m) (omega (arith, h.count, m.count, m.parts)) (omega arith) (omega arith) (omega arith) tt

  pub fit-lambda-body : (w : Bool) → Fit (in_expression w marks depth) s → is_at lambda_kind c.rest ≡ true → (lambda_head end w marks depth s.scope c).number ≡ 0
      → Fit (in_expression false (suc marks) (suc depth)) (enter depth (lambda_head end w marks depth s.scope c).name 0 (moved s (lambda_head end w marks depth s.scope c)))
  unfolding enter
  fit-lambda-body w h b z =
      let m = moved-lambda end w marks depth s.scope c (behind-some lambda_kind c.rest (lit< tt) b) in
      let few = lambda-few end w marks depth s.scope c z in
      let deep = h.depth in
      record {
        parts = omega (arith, h.parts, m.most);
        count = omega (arith, h.count, m.count, m.parts);
        marks = omega arith;
        depth = omega arith;
        links = let e = m.count in links-entered depth _ 0 _ s.scope (λ b i. let x = h.links b i in omega arith) (omega arith);
        own = tt;
      }

  pub fit-bracketed : (w : Bool) → Fit (in_expression w marks depth) s → is_at open_kind c.rest ≡ true → (judge end (at_bracket w marks) c (λ _. pass c)).number ≡ 0
      → Fit (in_expression false (suc marks) depth) (moved s (judge end (at_bracket w marks) c (λ _. pass c)))
  fit-bracketed w h b z =
      let m = moved-judge end (at_bracket w marks) 1 0 c (λ _. pass c) (λ _. moved-pass end c (behind-some open_kind c.rest (lit< tt) b)) in
      let few = bracket-few end w marks c (λ _. pass c) z in
      let deep = h.depth in
      fit-kept _ (in_expression false (suc marks) depth) 1 0 0 s _ h (kept-moved depth 1 0 s _ m) (omega (arith, h.count, m.count, m.parts)) (omega arith) (omega arith) (omega arith) tt

  pub fit-call : Fit (in_calls marks depth) s → is_at dot_kind c.rest ≡ true → (call_head end marks c).number ≡ 0
      → Fit (in_arguments (new_call c (call_head end marks c)) marks depth) (moved s (call_head end marks c))
  fit-call h b z =
      let m = moved_call end marks c (behind-some dot_kind c.rest (lit< tt) b) in
      let G = m.went z in
      let y = call-head end marks c z in
      let deep = h.depth in
      let n = m.count in
      let root = h.own in
      let few = h.count in
      fit-kept _ (in_arguments (new_call c (call_head end marks c)) marks depth) 3 1 0 s _ h (kept-moved depth 3 1 s _ m) (omega arith) (omega arith) (omega arith) (omega arith)
      (record { kind = y.1; receiver = omega arith; argument = omega arith; place = omega arith })

  pub fit-argument : (k : Call) → Fit (in_arguments k marks depth) s → Fit (in_expression (eqb k.takes 0) (suc marks) depth) s
  fit-argument k h =
      let few = h.count in
      let l = h.marks in
      let deep = h.depth in
      record { parts = h.parts; count = omega arith; marks = omega arith; depth = omega arith; links = h.links; own = tt }

  pub fit-comma : (k : Call) → Fit (in_more k marks depth) s → is_at comma_kind c.rest ≡ true
      → Fit (in_expression false (suc marks) depth) (moved s (judge end (at_comma k.takes) c (λ _. pass c)))
  fit-comma k h b =
      let m = moved-judge end (at_comma k.takes) 1 0 c (λ _. pass c) (λ _. moved-pass end c (behind-some comma_kind c.rest (lit< tt) b)) in
      let few = h.count in
      let l = h.marks in
      let deep = h.depth in
      fit-kept _ (in_expression false (suc marks) depth) 1 0 0 s _ h (kept-moved depth 1 0 s _ m) (omega (arith, m.count, m.parts)) (omega arith) (omega arith) (omega arith) tt

  -- s is what an expression in a let's value, in brackets or in an argument has come to
  pub fit-let-body : (x : ℕ) → depth ≤ marks → Fit (in_calls (suc marks) depth) s
      → Fit (in_expression false (suc marks) (suc depth)) (enter depth x (suc c.root) (moved s (need end in_kind c)))
  unfolding enter
  fit-let-body x l h =
      let m = moved-need end in_kind c (lit< tt) in
      let e = m.count in
      let root = h.own in
      record {
        parts = omega (arith, h.parts, m.most);
        count = omega (arith, h.count, m.parts);
        marks = omega (arith, h.marks);
        depth = omega arith;
        links = links-entered depth x _ _ s.scope (λ b i. let y = h.links b i in omega arith) (omega arith);
        own = tt;
      }

  pub fit-bracket-calls : depth ≤ marks → Fit (in_calls (suc marks) depth) s → Fit (in_calls marks depth) (moved s (need end shut_kind c))
  fit-bracket-calls l h =
      let m = moved-need end shut_kind c (lit< tt) in
      let e = m.count in
      let i = m.root in
      let root = h.own in
      let few = h.marks in
      fit-kept _ (in_calls marks depth) 1 0 0 s _ h (kept-moved depth 1 0 s _ m) (omega (arith, h.count, m.parts)) (omega arith) l (omega arith) (omega arith)
