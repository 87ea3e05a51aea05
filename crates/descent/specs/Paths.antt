-- What each way through a reader gives, from its tests, its calls and their answers: a rule a path, over any fuel that is enough. The code's
-- contracts are such Reads, so that a path of the code is one rule. Assumes nothing.
use Rattle.std.specs.Prelude.{◌≡◌, Bool, true, false, List, eqb, length}
use Rattle.std.proofs.Math.Path.{refl}
use Rattle.std.proofs.Common.{sym, ap, subst, ◌∙◌, arith, lit<}
use Prim.Native.Nat.{ℕ, zero, suc, ◌+◌, ◌*◌, ◌≤◌, ◌<◌}
use borrow.Author.Tests.{eqb-true}
use Rattle.grammar.specs.Tokens.{when, Located, tokens}
use Rattle.layout.specs.Nodes.{function_kind}
use Rattle.layout.specs.Memory.{node_with}
use Rattle.descent.specs.Cursor.{Cursor, head_kind, is_at, let_kind, in_kind, lambda_kind, open_kind, shut_kind, comma_kind, word_kind, digits_kind}
use Rattle.descent.specs.Cursor.{lambdas_in, at_bracket, at_comma, pass, refuse, judge, need, let_head, lambda_head}
use Rattle.descent.specs.Descent.{State, moved, then, put, mark, enter, Call, first_given, next_given, Mode, in_expression, in_calls, in_arguments, in_more}
use Rattle.descent.specs.Descent.{read_name, read_number, read_let, read_lambda, read_bracket, read_expression, step, run, want, start, ended, read_with, read_into}
use Rattle.descent.specs.Moves.{Moved, behind-some, moved-judge, moved-pass, moved-need, moved-let, moved-lambda}
use Rattle.descent.specs.Preserved.{Preserved, depth_of, passes, owed, run-keeps, kept-atom, kept-number}
use Rattle.descent.specs.Fit.{Fit, marks_of}
use Rattle.descent.specs.FitRuns.{Room, run-roots, run_fits, fit-first, fit_next, room-lambda}

pub then-stop : {a v : State} (k : State → State) → a ≡ v → eqb v.cursor.number 0 ≡ false → then a k ≡ v
unfolding then when
then-stop k e z = rw (e, z) refl

pub then-go : {a v w : State} (k : State → State) → a ≡ v → eqb v.cursor.number 0 ≡ true → k v ≡ w → then a k ≡ w
unfolding then when
then-go k e z h = rw (e, z) h

-- fewer tokens are left
pub less-moved : (p g : ℕ) (c c' : Cursor) → Moved p g c c' → eqb c'.number 0 ≡ true → length c'.rest + p ≤ length c.rest
less-moved p g c c' m z = (m.went (eqb-true c'.number 0 z)).0

module _ (end : ℕ) where
  pub record Reads (m : Mode) (s s' : State) : Type 0 where
    pub same : (f : ℕ) → want m s < f → run end f m s ≡ s'

  pub reads-step : {m : Mode} {s s' : State} → ((f : ℕ) → want m s ≤ f → step end (run end f) m s ≡ s') → Reads m s s'
  unfolding run
  reads-step {m} {s} {s'} h = record { same = go }
    where
      go : (f : ℕ) → want m s < f → run end f m s ≡ s'
      go zero l = absurd (omega arith)
      go (suc f) l = h f (omega arith)

  -- what such a reading keeps, and that it ends fit
  reads_kept : {m : Mode} {s s' : State} → Reads m s s' → Preserved (depth_of m) (passes m) 0 (owed m) s s'
  reads_kept {m} {s} {s'} x = subst (λ (a : State). Preserved (depth_of m) (passes m) 0 (owed m) s a) (x.same (suc (want m s)) (omega arith)) (run-keeps end (suc (want m s)) m s)

  pub reads_fit : {m : Mode} {s s' : State} → Reads m s s' → Fit m s → s'.cursor.number ≡ 0 → Fit (in_calls (marks_of m) (depth_of m)) s'
  reads_fit {m} {s} {s'} x h =
      subst (λ (a : State). a.cursor.number ≡ 0 → Fit (in_calls (marks_of m) (depth_of m)) a) (x.same (suc (want m s)) (omega arith)) (run_fits end (suc (want m s)) m s h)

  -- the states at the next calls are fit: behind a call's first argument, and behind another
  pub first-fit : (k : Call) (marks depth : ℕ) {s a : State} → Fit (in_arguments k marks depth) s → Reads (in_expression (eqb k.takes 0) (suc marks) depth) s a
      → a.cursor.number ≡ 0 → Fit (in_more (first_given a.cursor.root k) marks depth) a
  first-fit k marks depth {s} {a} h x =
      let m = in_expression (eqb k.takes 0) (suc marks) depth in
      let f = suc (want m s) in
      subst (λ (a : State). a.cursor.number ≡ 0 → Fit (in_more (first_given a.cursor.root k) marks depth) a) (x.same f (omega arith))
      (fit-first end (run end f) (run-keeps end f) (run-roots end f) k marks depth s h)

  pub next-fit : (k : Call) (marks depth : ℕ) {s a : State} (c : Cursor) → Fit (in_more k marks depth) s → is_at comma_kind s.cursor.rest ≡ true
      → c ≡ judge end (at_comma k.takes) s.cursor (λ _. pass s.cursor) → c.number ≡ 0 → Reads (in_expression false (suc marks) depth) (moved s c) a
      → a.cursor.number ≡ 0 → Fit (in_more (next_given k) marks depth) a
  next-fit k marks depth {s} {a} c h b e z x =
      let m = in_expression false (suc marks) depth in
      let f = suc (want m (moved s c)) in
      subst (λ (a : State). a.cursor.number ≡ 0 → Fit (in_more (next_given k) marks depth) a)
      (ap (λ c. run end f m (moved s c)) (sym e) ∙ x.same f (omega arith))
      (fit_next end (run end f) (run-keeps end f) (run-roots end f) k marks depth s h b (rw e at z))

  -- and there is room for a lambda's record behind its body
  pub lambda-room : (w : Bool) (marks depth : ℕ) (s : State) {u : State} (c : Cursor) → Fit (in_expression w marks depth) s → is_at lambda_kind s.cursor.rest ≡ true
      → c ≡ lambda_head end w marks depth s.scope s.cursor → c.number ≡ 0
      → Reads (in_expression false (suc marks) (suc depth)) (enter depth c.name 0 (moved s c)) u → u.cursor.number ≡ 0 → Room s.cursor.parts u
  lambda-room w marks depth s {u} c h b e z x y =
      let m = in_expression false (suc marks) (suc depth) in
      let f = suc (want m (enter depth c.name 0 (moved s c))) in
      room-lambda end f w marks depth s h b c e z u (sym (x.same f (omega arith))) y

  pub less-read : {m : Mode} {s s' : State} → Reads m s s' → eqb s'.cursor.number 0 ≡ true → length s'.cursor.rest + passes m ≤ length s.cursor.rest
  less-read {m} {s} {s'} x z = ((reads_kept x).went (eqb-true s'.cursor.number 0 z)).0

  less-need : (k : ℕ) (v : State) (n : Cursor) → 0 < k → n ≡ need end k v.cursor → eqb n.number 0 ≡ true → length n.rest + 1 ≤ length v.cursor.rest
  less-need k v n l g u = less-moved 1 0 v.cursor n (rw g (moved-need end k v.cursor l)) u

  module _ (w : Bool) (marks depth : ℕ) (s : State) where
    abbrev E : Mode
    E = in_expression w marks depth

    abbrev inner : Mode
    inner = in_expression false (suc marks) depth

    abbrev bound : Mode
    bound = in_expression false (suc marks) (suc depth)

    -- let
    is-let : (rd : Mode → State → State) → is_at let_kind s.cursor.rest ≡ true → step end rd E s ≡ read_let end rd w marks depth s
    unfolding step read_expression when
    is-let rd b = rw b refl

    module _ (c : Cursor) (b : is_at let_kind s.cursor.rest ≡ true) (e : c ≡ let_head end w marks s.cursor) where
      pub let-head-refused : eqb c.number 0 ≡ false → Reads E s (moved s c)
      unfolding read_let
      let-head-refused z = reads-step (λ f l. is-let (run end f) b ∙ then-stop _ (ap (moved s) (sym e)) z)

      module _ (z : eqb c.number 0 ≡ true) where
        pub less-let : length c.rest + 3 ≤ length s.cursor.rest
        less-let = less-moved 3 1 s.cursor c (rw e (moved-let end w marks s.cursor (behind-some let_kind s.cursor.rest (lit< tt) b))) z

        pub let-value-refused : {v : State} → Reads inner (moved s c) v → eqb v.cursor.number 0 ≡ false → Reads E s v
        unfolding read_let
        let-value-refused x y = reads-step (λ f l. let h = less-let in is-let (run end f) b ∙ then-go _ (ap (moved s) (sym e)) z (then-stop _ (x.same f (omega arith)) y))

        pub let-in-refused : {v : State} (n : Cursor) → Reads inner (moved s c) v → eqb v.cursor.number 0 ≡ true → n ≡ need end in_kind v.cursor
            → eqb n.number 0 ≡ false → Reads E s (moved v n)
        unfolding read_let
        let-in-refused {v} n x y g u =
            reads-step (λ f l. let h = less-let in is-let (run end f) b ∙ then-go _ (ap (moved s) (sym e)) z (then-go _ (x.same f (omega arith)) y (then-stop _ (ap (moved v) (sym g)) u)))

        pub let-body-refused : {v r : State} (n : Cursor) → Reads inner (moved s c) v → eqb v.cursor.number 0 ≡ true → n ≡ need end in_kind v.cursor
            → eqb n.number 0 ≡ true → Reads bound (enter depth c.name (suc v.cursor.root) (moved v n)) r → eqb r.cursor.number 0 ≡ false → Reads E s r
        unfolding read_let enter
        let-body-refused {v} n x y g u q a =
            reads-step (λ f l.
            let h = less-let in
            let k = less-read x y in
            let j = less-need in_kind v n (lit< tt) g u in
            is-let (run end f) b ∙ then-go _ (ap (moved s) (sym e)) z (then-go _ (x.same f (omega arith)) y (then-go _ (ap (moved v) (sym g)) u (then-stop _ (q.same f (omega arith)) a))))

        pub let-read : {v r : State} (n : Cursor) → Reads inner (moved s c) v → eqb v.cursor.number 0 ≡ true → n ≡ need end in_kind v.cursor
            → eqb n.number 0 ≡ true → Reads bound (enter depth c.name (suc v.cursor.root) (moved v n)) r → eqb r.cursor.number 0 ≡ true
            → Reads E s (mark s.cursor.parts r)
        unfolding read_let enter
        let-read {v} n x y g u q a =
            reads-step (λ f l.
            let h = less-let in
            let k = less-read x y in
            let j = less-need in_kind v n (lit< tt) g u in
            is-let (run end f) b ∙ then-go _ (ap (moved s) (sym e)) z (then-go _ (x.same f (omega arith)) y (then-go _ (ap (moved v) (sym g)) u (then-go _ (q.same f (omega arith)) a refl))))

    -- lambda
    is-lambda : (rd : Mode → State → State) → is_at lambda_kind s.cursor.rest ≡ true → step end rd E s ≡ read_lambda end rd w marks depth s
    unfolding step read_expression when
    is-lambda rd b = let k = eqb-true (head_kind s.cursor.rest) lambda_kind b in rw k refl

    module _ (c : Cursor) (b : is_at lambda_kind s.cursor.rest ≡ true) (e : c ≡ lambda_head end w marks depth s.scope s.cursor) where
      pub lambda-head-refused : eqb c.number 0 ≡ false → Reads E s (moved s c)
      unfolding read_lambda
      lambda-head-refused z = reads-step (λ f l. is-lambda (run end f) b ∙ then-stop _ (ap (moved s) (sym e)) z)

      module _ (z : eqb c.number 0 ≡ true) where
        pub less-lambda : length c.rest + 3 ≤ length s.cursor.rest
        less-lambda = less-moved 3 1 s.cursor c (rw e (moved-lambda end w marks depth s.scope s.cursor (behind-some lambda_kind s.cursor.rest (lit< tt) b))) z

        pub lambda-body-refused : {r : State} → Reads bound (enter depth c.name 0 (moved s c)) r → eqb r.cursor.number 0 ≡ false → Reads E s r
        unfolding read_lambda enter
        lambda-body-refused q a = reads-step (λ f l. let h = less-lambda in is-lambda (run end f) b ∙ then-go _ (ap (moved s) (sym e)) z (then-stop _ (q.same f (omega arith)) a))

        pub lambda-read : {r : State} → Reads bound (enter depth c.name 0 (moved s c)) r → eqb r.cursor.number 0 ≡ true
            → Reads E s (put s.cursor.parts (node_with function_kind c.name (suc r.cursor.root) 0 (lambdas_in s.scope depth)) r)
        unfolding read_lambda enter
        lambda-read q a = reads-step (λ f l. let h = less-lambda in is-lambda (run end f) b ∙ then-go _ (ap (moved s) (sym e)) z (then-go _ (q.same f (omega arith)) a refl))

    -- brackets
    is-bracket : (rd : Mode → State → State) → is_at open_kind s.cursor.rest ≡ true → step end rd E s ≡ read_bracket end rd w marks depth s
    unfolding step read_expression when
    is-bracket rd b = let k = eqb-true (head_kind s.cursor.rest) open_kind b in rw k refl

    module _ (c : Cursor) (b : is_at open_kind s.cursor.rest ≡ true) (e : c ≡ judge end (at_bracket w marks) s.cursor (λ _. pass s.cursor)) where
      pub bracket-refused : eqb c.number 0 ≡ false → Reads E s (moved s c)
      unfolding read_bracket
      bracket-refused z = reads-step (λ f l. is-bracket (run end f) b ∙ then-stop _ (ap (moved s) (sym e)) z)

      module _ (z : eqb c.number 0 ≡ true) where
        pub less-bracket : length c.rest + 1 ≤ length s.cursor.rest
        less-bracket = less-moved 1 0 s.cursor c (rw e (moved-judge end (at_bracket w marks) 1 0 s.cursor _
            (λ _. moved-pass end s.cursor (behind-some open_kind s.cursor.rest (lit< tt) b)))) z

        pub bracketed-refused : {v : State} → Reads inner (moved s c) v → eqb v.cursor.number 0 ≡ false → Reads E s v
        unfolding read_bracket
        bracketed-refused x y = reads-step (λ f l. let h = less-bracket in is-bracket (run end f) b ∙ then-go _ (ap (moved s) (sym e)) z (then-stop _ (x.same f (omega arith)) y))

        pub bracket-shut-refused : {v : State} (n : Cursor) → Reads inner (moved s c) v → eqb v.cursor.number 0 ≡ true → n ≡ need end shut_kind v.cursor
            → eqb n.number 0 ≡ false → Reads E s (moved v n)
        unfolding read_bracket
        bracket-shut-refused {v} n x y g u =
            reads-step (λ f l. let h = less-bracket in is-bracket (run end f) b ∙ then-go _ (ap (moved s) (sym e)) z (then-go _ (x.same f (omega arith)) y (then-stop _ (ap (moved v) (sym g)) u)))

        pub bracket-read : {v r : State} (n : Cursor) → Reads inner (moved s c) v → eqb v.cursor.number 0 ≡ true → n ≡ need end shut_kind v.cursor
            → eqb n.number 0 ≡ true → Reads (in_calls marks depth) (moved v n) r → Reads E s r
        unfolding read_bracket
        bracket-read {v} n x y g u q =
            reads-step (λ f l.
            let h = less-bracket in
            let k = less-read x y in
            let j = less-need shut_kind v n (lit< tt) g u in
            is-bracket (run end f) b ∙ then-go _ (ap (moved s) (sym e)) z (then-go _ (x.same f (omega arith)) y (then-go _ (ap (moved v) (sym g)) u (q.same f (omega arith)))))

    -- a name, and a number
    is_name : (rd : Mode → State → State) → is_at word_kind s.cursor.rest ≡ true → step end rd E s ≡ then (read_name end w depth s) (λ a. rd (in_calls marks depth) a)
    unfolding step read_expression when
    is_name rd b = let k = eqb-true (head_kind s.cursor.rest) word_kind b in rw k refl

    pub name-refused : {a : State} → is_at word_kind s.cursor.rest ≡ true → a ≡ read_name end w depth s → eqb a.cursor.number 0 ≡ false → Reads E s a
    name-refused b e z = reads-step (λ f l. is_name (run end f) b ∙ then-stop _ (sym e) z)

    pub less-name : {a : State} → is_at word_kind s.cursor.rest ≡ true → a ≡ read_name end w depth s → eqb a.cursor.number 0 ≡ true
        → length a.cursor.rest + 1 ≤ length s.cursor.rest
    less-name {a} b e z = ((subst (λ (x : State). Preserved depth 1 0 0 s x) (sym e) (kept-atom end depth s w b)).went (eqb-true a.cursor.number 0 z)).0

    pub name-read : {a r : State} → is_at word_kind s.cursor.rest ≡ true → a ≡ read_name end w depth s → eqb a.cursor.number 0 ≡ true
        → Reads (in_calls marks depth) a r → Reads E s r
    name-read b e z q = reads-step (λ f l. let h = less-name b e z in is_name (run end f) b ∙ then-go _ (sym e) z (q.same f (omega arith)))

    is_number : (rd : Mode → State → State) → is_at digits_kind s.cursor.rest ≡ true → step end rd E s ≡ then (read_number end w s) (λ a. rd (in_calls marks depth) a)
    unfolding step read_expression when
    is_number rd b = let k = eqb-true (head_kind s.cursor.rest) digits_kind b in rw k refl

    pub number-refused : {a : State} → is_at digits_kind s.cursor.rest ≡ true → a ≡ read_number end w s → eqb a.cursor.number 0 ≡ false → Reads E s a
    number-refused b e z = reads-step (λ f l. is_number (run end f) b ∙ then-stop _ (sym e) z)

    pub less-number : {a : State} → is_at digits_kind s.cursor.rest ≡ true → a ≡ read_number end w s → eqb a.cursor.number 0 ≡ true
        → length a.cursor.rest + 1 ≤ length s.cursor.rest
    less-number {a} b e z = ((subst (λ (x : State). Preserved depth 1 0 0 s x) (sym e) (kept-number end depth s w b)).went (eqb-true a.cursor.number 0 z)).0

    pub number_read : {a r : State} → is_at digits_kind s.cursor.rest ≡ true → a ≡ read_number end w s → eqb a.cursor.number 0 ≡ true
        → Reads (in_calls marks depth) a r → Reads E s r
    number_read b e z q = reads-step (λ f l. let h = less-number b e z in is_number (run end f) b ∙ then-go _ (sym e) z (q.same f (omega arith)))

    -- no expression begins here
    pub expression-refused : is_at let_kind s.cursor.rest ≡ false → is_at lambda_kind s.cursor.rest ≡ false → is_at open_kind s.cursor.rest ≡ false
        → is_at word_kind s.cursor.rest ≡ false → is_at digits_kind s.cursor.rest ≡ false → Reads E s (moved s (refuse end 5 s.cursor))
    unfolding step read_expression when
    expression-refused a b c d e = reads-step (λ f l. rw (a, b, c, d, e) refl)

-- a whole text: from the reading of its expression
pub whole-read : (text R P S : List ℕ) {a : State} → Reads (length text) (in_expression false 0 0) (start (tokens text) R P S) a
    → read_into text R P S ≡ ended (length text) a
unfolding read_with
whole-read text R P S x = ap (ended (length text)) (x.same (suc (2 * length (tokens text))) (omega arith))

pub start-fit : (rest : List Located) (R P S : List ℕ) → Fit (in_expression false 0 0) (start rest R P S)
start-fit rest R P S = record { parts = omega arith; count = omega arith; marks = omega arith; depth = omega arith; links = λ b l. absurd (omega arith); own = tt }
