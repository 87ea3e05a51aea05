-- A reader that starts fit ends fit for the calls behind an atom, where nothing is refused. Assumes nothing.
use Rattle.std.specs.Prelude.{◌≡◌, refl, Bool, true, List, ℕ, zero, suc, ◌+◌, ◌-◌, ◌≤◌, ◌<◌, eqb}
use Rattle.std.proofs.Math.Bool.{false}
use Rattle.std.proofs.Common.{arith, lit<, eqb-true}
use Rattle.std.proofs.lemmas.Bool.{eqb-false}
use Rattle.language.specs.Limits.{text_parts}
use Rattle.language.specs.Names.{data_word}
use Rattle.grammar.specs.Tokens.{when}
use Rattle.grammar.proofs.TokensLaws.{by-test}
use Rattle.layout.specs.Memory.{Node}
use Rattle.descent.specs.Cursor.{Cursor, binder_name, binder_link, binder_of, is_at, let_kind, lambda_kind, open_kind, shut_kind, comma_kind, word_kind, digits_kind}
use Rattle.descent.specs.Cursor.{head_word, at_comma, at_name, pass, pass_part, refuse, judge, lambda_head, call_head}
use Rattle.descent.specs.Descent.{State, moved, then, counted, rooted, put, link, mark, enter, put_bound, put_scoped, put_name, Call, new_call, first_given, next_given}
use Rattle.descent.specs.Descent.{Mode, Reader, in_expression, in_calls, in_arguments, in_more, read_name, read_number, read_shut, read_let, read_lambda, read_bracket}
use Rattle.descent.specs.Descent.{read_expression, read_calls, read_arguments, read_more, step, run}
use Rattle.descent.specs.Moves.{Moved, moved-judge, moved-pass, moved-lambda, behind-some}
use Rattle.descent.specs.Preserved.{Preserved, Keeps, depth_of, passes, owed, kept-atom, kept-number, kept-shut, run-keeps}
use Rattle.descent.specs.Fit.{marks_of, Fit, fit-kept, fit-let-value, fit-bracketed, fit-call, fit-argument, fit-comma, fit-let-body, fit-bracket-calls}

-- where the whole is not refused, the first is not, and the whole is the second
goes_then : (P : State → Type 0) (a : State) (k : State → State) → (a.cursor.number ≡ 0 → (k a).cursor.number ≡ 0 → P (k a)) → (then a k).cursor.number ≡ 0
    → P (then a k)
unfolding then
goes_then P a k f =
    by-test (λ x. x.cursor.number ≡ 0 → P x) (eqb a.cursor.number 0) (λ _. k a) (λ _. a)
    (λ e. f (eqb-true a.cursor.number 0 e)) (λ e z. absurd (eqb-false a.cursor.number 0 e z))

-- the record last read is one of those there are
abbrev pub RootHeld : State → Type 0
RootHeld s = s.cursor.root < s.cursor.count

root-put : (p : ℕ) (n : Node) (s : State) → RootHeld (put p n s)
unfolding put counted
root-put p n s = omega arith

binder-below : (scope : List ℕ) (x depth c : ℕ) → ((b : ℕ) → b < depth → binder_link scope b ≤ c) → ¬ (binder_of scope x depth ≡ 0)
    → binder_link scope (binder_of scope x depth - 1) ≤ c
unfolding binder_of when
binder-below scope x zero c h d = absurd (d refl)
binder-below scope x (suc b) c h d = by (eqb x (binder_name scope b)) (binder-below scope x b c (λ b i. h b (omega arith))) d
  where
    by : (q : Bool) → (¬ (binder_of scope x b ≡ 0) → binder_link scope (binder_of scope x b - 1) ≤ c) → ¬ (when q (λ _. suc b) (λ _. binder_of scope x b) ≡ 0)
        → binder_link scope (when q (λ _. suc b) (λ _. binder_of scope x b) - 1) ≤ c
    by true f d = let e : suc b - 1 ≡ b = omega arith in rw e (h b (omega arith))
    by false f d = f d

root-name : (p x depth : ℕ) (s : State) → ((b : ℕ) → b < depth → binder_link s.scope b ≤ s.cursor.count) → RootHeld (put_name p x depth s)
unfolding put_name put_scoped put_bound link rooted data_word
root-name p x depth s h =
    let b = binder_of s.scope x depth in
    let j = binder_link s.scope (b - 1) in
    by-test RootHeld _ _ _ (λ _. root-put p _ s) (λ _.
    by-test RootHeld _ _ _ (λ _. root-put p _ s) (λ e.
    by-test RootHeld _ _ _ (λ _. root-put p _ s) (λ g.
    let l = binder-below s.scope x depth s.cursor.count h (eqb-false b 0 e) in
    let n : ¬ (j ≡ 0) = eqb-false j 0 g in
    omega arith)))

part_count : (end n : ℕ) (c : Cursor) → (judge end n c (λ _. pass_part c)).count ≡ c.count
unfolding judge refuse pass_part
part_count end n c = by-test (λ x. x.count ≡ c.count) (eqb n 0) (λ _. pass_part c) (λ _. refuse end n c) (λ _. refl) (λ _. refl)

abbrev pub RootsHeld : Reader → Type 0
RootsHeld rd = (m : Mode) (s : State) → Fit m s → (rd m s).cursor.number ≡ 0 → RootHeld (rd m s)

fit-done : (m : Mode) (s s' : State) → Fit m s → Preserved (depth_of m) (passes m) 0 (owed m) s s' → s'.cursor.number ≡ 0 → RootHeld s'
    → Fit (in_calls (marks_of m) (depth_of m)) s'
fit-done m s s' h k z r =
    let G = k.went z in
    let few = h.count in
    let l = h.marks in
    fit-kept m (in_calls (marks_of m) (depth_of m)) (passes m) 0 (owed m) s s' h k (omega arith) (omega arith) h.depth (omega arith) r

-- an atom, and a call that is over, outside the readers' cycle
module _ (end marks depth : ℕ) (s : State) where
  root-shut : (k : Call) → (read_shut end k s).cursor.number ≡ 0 → RootHeld (read_shut end k s)
  unfolding read_shut
  root-shut k = goes_then RootHeld _ _ (λ _ _. root-put k.place _ _)

  -- a name, and a number
  root-atom : (w : Bool) → Fit (in_expression w marks depth) s → (read_name end w depth s).cursor.number ≡ 0 → RootHeld (read_name end w depth s)
  unfolding read_name
  root-atom w h =
      let e = part_count end (at_name w (head_word s.cursor.rest) s.cursor.parts) s.cursor in
      goes_then RootHeld _ _ (λ _ _. root-name s.cursor.parts _ depth _ (λ b i. rw e (h.links b i)))

  pub fit-name : (w : Bool) → Fit (in_expression w marks depth) s → is_at word_kind s.cursor.rest ≡ true → (read_name end w depth s).cursor.number ≡ 0
      → Fit (in_calls marks depth) (read_name end w depth s)
  fit-name w h b z = fit-done (in_expression w marks depth) s (read_name end w depth s) h (kept-atom end depth s w b) z (root-atom w h z)

  root-number : (w : Bool) → (read_number end w s).cursor.number ≡ 0 → RootHeld (read_number end w s)
  unfolding read_number
  root-number w = goes_then RootHeld _ _ (λ _ _. root-put s.cursor.parts _ _)

  pub fit-number : (w : Bool) → Fit (in_expression w marks depth) s → is_at digits_kind s.cursor.rest ≡ true → (read_number end w s).cursor.number ≡ 0
      → Fit (in_calls marks depth) (read_number end w s)
  fit-number w h b z = fit-done (in_expression w marks depth) s (read_number end w s) h (kept-number end depth s w b) z (root-number w z)

  -- a call that is over
  fit-shut : (k : Call) → Fit (in_expression false marks depth) s → s.cursor.count + 1 ≤ s.cursor.parts → is_at shut_kind s.cursor.rest ≡ true
      → (read_shut end k s).cursor.number ≡ 0 → Fit (in_calls marks depth) (read_shut end k s)
  fit-shut k h few b z =
      let K = kept-shut end depth s k b in
      let G = K.went z in
      fit-kept (in_expression false marks depth) (in_calls marks depth) 1 0 1 s (read_shut end k s) h K (omega arith) h.marks h.depth (omega arith) (root-shut k z)

  pub fit-shut-arguments : (k : Call) → Fit (in_arguments k marks depth) s → is_at shut_kind s.cursor.rest ≡ true → (read_shut end k s).cursor.number ≡ 0
      → Fit (in_calls marks depth) (read_shut end k s)
  fit-shut-arguments k h =
      let few = h.count in
      let l = h.marks in
      fit-shut k (record { parts = h.parts; count = omega arith; marks = omega arith; depth = h.depth; links = h.links; own = tt }) (omega arith)

  pub fit-shut-more : (k : Call) → Fit (in_more k marks depth) s → is_at shut_kind s.cursor.rest ≡ true → (read_shut end k s).cursor.number ≡ 0
      → Fit (in_calls marks depth) (read_shut end k s)
  fit-shut-more k h =
      let few = h.count in
      let l = h.marks in
      fit-shut k (record { parts = h.parts; count = omega arith; marks = omega arith; depth = h.depth; links = h.links; own = tt }) (omega arith)

module _ (end : ℕ) (rd : Reader) (keeps : Keeps rd) (roots : RootsHeld rd) where
  fit-behind : (m : Mode) (s : State) → Fit m s → (rd m s).cursor.number ≡ 0 → Fit (in_calls (marks_of m) (depth_of m)) (rd m s)
  fit-behind m s h z = fit-done m s (rd m s) h (keeps m s) z (roots m s h z)

  -- behind the first argument of a call, and behind another
  pub fit-first : (k : Call) (marks depth : ℕ) (s : State) → Fit (in_arguments k marks depth) s
      → (rd (in_expression (eqb k.takes 0) (suc marks) depth) s).cursor.number ≡ 0
      → Fit (in_more (first_given (rd (in_expression (eqb k.takes 0) (suc marks) depth) s).cursor.root k) marks depth) (rd (in_expression (eqb k.takes 0) (suc marks) depth) s)
  fit-first k marks depth s h z =
      let E = in_expression (eqb k.takes 0) (suc marks) depth in
      let K = keeps E s in
      let G = K.went z in
      let n = K.count in
      let p = K.parts in
      let root = roots E s (fit-argument end marks depth s k h) z in
      let few = h.count in
      let o = h.own in
      let q = o.receiver in
      let t = o.place in
      fit-kept (in_arguments k marks depth) (in_more (first_given (rd E s).cursor.root k) marks depth) 1 0 0 s (rd E s) h K (omega arith) h.marks h.depth (omega arith)
      (record { kind = o.kind; receiver = omega arith; argument = root; place = omega arith })

  pub fit_next : (k : Call) (marks depth : ℕ) (s : State) → Fit (in_more k marks depth) s → is_at comma_kind s.cursor.rest ≡ true
      → (judge end (at_comma k.takes) s.cursor (λ _. pass s.cursor)).number ≡ 0
      → (rd (in_expression false (suc marks) depth) (moved s (judge end (at_comma k.takes) s.cursor (λ _. pass s.cursor)))).cursor.number ≡ 0
      → Fit (in_more (next_given k) marks depth) (rd (in_expression false (suc marks) depth) (moved s (judge end (at_comma k.takes) s.cursor (λ _. pass s.cursor))))
  fit_next k marks depth s h b y z =
      let c = s.cursor in
      let m = moved-judge end (at_comma k.takes) 1 0 c (λ _. pass c) (λ _. moved-pass end c (behind-some comma_kind c.rest (lit< tt) b)) in
      let one = moved s (judge end (at_comma k.takes) c (λ _. pass c)) in
      let E = in_expression false (suc marks) depth in
      let K = keeps E one in
      let G = K.went z in
      let J = m.went y in
      let n = K.count in
      let p = K.parts in
      let e = m.count in
      let few = h.count in
      let o = h.own in
      let q = o.receiver in
      let t = o.place in
      let u = o.argument in
      fit-kept (in_expression false (suc marks) depth) (in_more (next_given k) marks depth) 1 0 0 one (rd E one) (fit-comma end marks depth s k h b) K (omega arith) h.marks h.depth (omega arith)
      (record { kind = o.kind; receiver = omega arith; argument = omega arith; place = omega arith })

  -- the readers
  module _ (marks depth : ℕ) (s : State) where
    root-let : (w : Bool) → Fit (in_expression w marks depth) s → is_at let_kind s.cursor.rest ≡ true → (read_let end rd w marks depth s).cursor.number ≡ 0
        → RootHeld (read_let end rd w marks depth s)
    unfolding read_let mark
    root-let w h b =
        goes_then RootHeld _ _ (λ z. let g = fit-let-value end marks depth s w h b z in
        goes_then RootHeld _ _ (λ y. let v = fit-behind (in_expression false (suc marks) depth) _ g y in
        goes_then RootHeld _ _ (λ _.
        goes_then RootHeld _ _ (λ u _. roots (in_expression false (suc marks) (suc depth)) _ (fit-let-body end marks depth _ _ h.depth v) u))))

    root-lambda : (w : Bool) → (read_lambda end rd w marks depth s).cursor.number ≡ 0 → RootHeld (read_lambda end rd w marks depth s)
    unfolding read_lambda
    root-lambda w = goes_then RootHeld _ _ (λ _. goes_then RootHeld _ _ (λ _ _. root-put s.cursor.parts _ _))

    root-bracket : (w : Bool) → Fit (in_expression w marks depth) s → is_at open_kind s.cursor.rest ≡ true → (read_bracket end rd w marks depth s).cursor.number ≡ 0
        → RootHeld (read_bracket end rd w marks depth s)
    unfolding read_bracket
    root-bracket w h b =
        goes_then RootHeld _ _ (λ z. let g = fit-bracketed end marks depth s w h b z in
        goes_then RootHeld _ _ (λ y. let v = fit-behind (in_expression false (suc marks) depth) _ g y in
        goes_then RootHeld _ _ (λ _. roots (in_calls marks depth) _ (fit-bracket-calls end marks depth _ h.depth v))))

    root-expression : (w : Bool) → Fit (in_expression w marks depth) s → (read_expression end rd w marks depth s).cursor.number ≡ 0
        → RootHeld (read_expression end rd w marks depth s)
    unfolding read_expression refuse
    root-expression w h =
        let P : State → Type 0 = λ x. x.cursor.number ≡ 0 → RootHeld x in
        by-test P _ _ _ (root-let w h) (λ _.
        by-test P _ _ _ (λ _. root-lambda w) (λ _.
        by-test P _ _ _ (root-bracket w h) (λ _.
        by-test P _ _ _ (λ b. goes_then RootHeld _ _ (λ z. roots (in_calls marks depth) _ (fit-name end marks depth s w h b z))) (λ _.
        by-test P _ _ _ (λ b. goes_then RootHeld _ _ (λ z. roots (in_calls marks depth) _ (fit-number end marks depth s w h b z))) (λ _ z. absurd (omega arith))))))

    root-calls : Fit (in_calls marks depth) s → (read_calls end rd marks depth s).cursor.number ≡ 0 → RootHeld (read_calls end rd marks depth s)
    unfolding read_calls
    root-calls h =
        by-test (λ x. x.cursor.number ≡ 0 → RootHeld x) _ _ _
        (λ b. goes_then RootHeld _ _ (λ z. roots (in_arguments (new_call s.cursor (call_head end marks s.cursor)) marks depth) _ (fit-call end marks depth s h b z))) (λ _ _. h.own)

    root-arguments : (k : Call) → Fit (in_arguments k marks depth) s → (read_arguments end rd k marks depth s).cursor.number ≡ 0
        → RootHeld (read_arguments end rd k marks depth s)
    unfolding read_arguments
    root-arguments k h =
        let P : State → Type 0 = λ x. x.cursor.number ≡ 0 → RootHeld x in
        by-test P _ _ _ (λ b. goes_then RootHeld _ _ (λ z. roots (in_calls marks depth) _ (fit-shut-arguments end marks depth s k h b z)))
        (λ _. goes_then RootHeld _ _ (λ z. roots (in_more _ marks depth) _ (fit-first k marks depth s h z)))

    root-more : (k : Call) → Fit (in_more k marks depth) s → (read_more end rd k marks depth s).cursor.number ≡ 0 → RootHeld (read_more end rd k marks depth s)
    unfolding read_more refuse
    root-more k h =
        let P : State → Type 0 = λ x. x.cursor.number ≡ 0 → RootHeld x in
        by-test P _ _ _ (λ b. goes_then RootHeld _ _ (λ z. roots (in_calls marks depth) _ (fit-shut-more end marks depth s k h b z))) (λ _.
        by-test P _ _ _ (λ b. goes_then RootHeld _ _ (λ y. goes_then RootHeld _ _ (λ z. roots (in_more (next_given k) marks depth) _ (fit_next k marks depth s h b y z)))) (λ _ z. absurd (omega arith)))

  step-roots : RootsHeld (step end rd)
  unfolding step
  step-roots (in_expression w marks depth) s h = root-expression marks depth s w h
  step-roots (in_calls marks depth) s h = root-calls marks depth s h
  step-roots (in_arguments k marks depth) s h = root-arguments marks depth s k h
  step-roots (in_more k marks depth) s h = root-more marks depth s k h

pub run-roots : (end f : ℕ) → RootsHeld (run end f)
unfolding run refuse
run-roots end zero m s h z = absurd (omega arith)
run-roots end (suc f) m s h z = step-roots end (run end f) (run-keeps end f) (run-roots end f) m s h z

-- so a reader that starts fit ends fit for the calls behind an atom
pub run_fits : (end f : ℕ) (m : Mode) (s : State) → Fit m s → (run end f m s).cursor.number ≡ 0 → Fit (in_calls (marks_of m) (depth_of m)) (run end f m s)
run_fits end f m s h z = fit-behind end (run end f) (run-keeps end f) (run-roots end f) m s h z

-- there is room for a record and for the place of its part
pub record Room (p : ℕ) (s : State) : Type 0 where
  pub count : s.cursor.count < text_parts
  pub place : p < text_parts

-- behind the token of a part: a name, a number, or the head of a let
pub room-part : (w : Bool) (marks depth p : ℕ) (s : State) (c : Cursor) → Fit (in_expression w marks depth) s → Moved p 1 s.cursor c → c.number ≡ 0
    → Room s.cursor.parts (moved s c)
room-part w marks depth p s c h m z =
    let G = m.went z in
    let few = h.parts in
    let n = h.count in
    record { count = omega (arith, m.count, m.most); place = omega (arith, m.most) }

-- behind the body of a lambda
pub room-lambda : (end f : ℕ) (w : Bool) (marks depth : ℕ) (s : State) → Fit (in_expression w marks depth) s → is_at lambda_kind s.cursor.rest ≡ true → (c : Cursor)
    → c ≡ lambda_head end w marks depth s.scope s.cursor → c.number ≡ 0 → (u : State)
    → u ≡ run end f (in_expression false (suc marks) (suc depth)) (enter depth c.name 0 (moved s c)) → u.cursor.number ≡ 0 → Room s.cursor.parts u
unfolding enter
room-lambda end f w marks depth s h b c e z u g y =
    let m : Moved 3 1 s.cursor c = rw e (moved-lambda end w marks depth s.scope s.cursor (behind-some lambda_kind s.cursor.rest (lit< tt) b)) in
    let G = m.went z in
    let one = enter depth c.name 0 (moved s c) in
    let K : Preserved (suc depth) 1 0 0 one u = rw g (run-keeps end f (in_expression false (suc marks) (suc depth)) one) in
    let J = K.went y in
    let few = h.parts in
    let n = h.count in
    let i = m.count in
    let t = m.most in
    let a = K.most in
    let q = K.parts in
    record { count = omega arith; place = omega arith }
