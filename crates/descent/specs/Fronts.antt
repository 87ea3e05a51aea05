-- What grammar's machine does at the front of the tokens, for each phase in the shape of the reader's tests: one table of tokens a phase.
-- Assumes nothing.
use Rattle.std.specs.Prelude.{◌≡◌, Bool, true, false, ℕ, suc, ◌-◌, leb, eqb}
use Rattle.std.proofs.Math.Path.{refl}
use mathlib.Core.List.{List, [], ◌∷◌}
use Rattle.members.specs.Members.{member_of, is_unknown, takes}
use Rattle.grammar.specs.Tokens.{Token, k_let, k_in, k_equals, k_lambda, k_arrow, k_dot, k_open, k_shut, k_comma, word, number, other, when, Located}
use Rattle.grammar.specs.Grammar.{Expression, let_in, lambda, name, literal, bracket, done, call, none, first, last, next}
use Rattle.grammar.specs.Faults.{fine, Around, opened, in_lambda, deep, mark_fault, lambda_fault, binder_fault}
use Rattle.grammar.specs.Faults.{name_fault, literal_fault, call_fault, Note, note, fault, fault_number, counted}
use Rattle.grammar.specs.Reading.{Reading, refused}
use Rattle.grammar.specs.Machine.{Frame, State, value, brackets, argument, at, Trees, finish, step_over, step_expression}
use Rattle.grammar.specs.Machine.{expression, let_name, let_equals, lambda_name, lambda_arrow, calls, member, call_open, arguments, over}
use Rattle.descent.specs.Cursor.{kind_of, word_of, value_of, head_kind, head_word, head_value, head_place, behind_head, is_at}
use Rattle.descent.specs.Cursor.{let_kind, in_kind, equals_kind, lambda_kind, arrow_kind, dot_kind, open_kind, shut_kind, comma_kind, word_kind, digits_kind}
use Rattle.descent.specs.Continued.{unless_at, judge_at, ended_at, read_on, uncalled-step, uncalled-end, argument-step}

-- the head has the note n: refused there where that is a fault, else s is read behind it
abbrev pub beyond : ℕ → ℕ → List Located → Note → (s : State) → (Trees s → Expression) → ℕ → Reading
beyond end c rest n s h c' = unless_at (fault c n) (head_place end rest) (read_on end s h c' (behind_head rest))

-- the token is due, and anything else refused
abbrev pub due : ℕ → Reading → ℕ → List Located → Reading
due k r end rest = when (is_at k rest) (λ _. r) (λ _. refused 5 (head_place end rest))

module _ (end : ℕ) (w : Bool) (d : Around) (F : List Frame) (h : Trees (at (expression w d) F) → Expression) (c : ℕ) where
  abbrev pub ExpressionFront : List Located → Type 0
  ExpressionFront rest =
      read_on end (at (expression w d) F) h c rest ≡
      when (is_at let_kind rest) (λ _. beyond end c rest (note (mark_fault w d) true) (at (let_name d) F) (λ q. h (let_in q.0.0 q.0.1 q.0.2, q.1)) (suc c))
      (λ _. when (is_at lambda_kind rest) (λ _. beyond end c rest (note (lambda_fault w d) true) (at (lambda_name d) F) (λ q. h (lambda q.0.0 q.0.1, q.1)) (suc c))
      (λ _. when (is_at open_kind rest) (λ _. beyond end c rest (note (mark_fault w d) false) (at (expression false (opened d)) (brackets d ∷ F)) (λ q. h (bracket q.0 q.1.0, q.1.1)) c)
      (λ _. when (is_at word_kind rest) (λ _. beyond end c rest (note (name_fault w (head_word rest)) true) (at (calls d) F) (λ q. h (name (head_word rest) q.0, q.1)) (suc c))
      (λ _. due digits_kind (beyond end c rest (note (literal_fault w (head_value rest)) true) (at (calls d) F) (λ q. h (literal (head_value rest) q.0, q.1)) (suc c)) end rest))))

  at-expression : (t : Token) (p : ℕ) (xs : List Located) → ExpressionFront (record { token = t; place = p } ∷ xs)
  unfolding read_on unless_at judge_at ended_at Rattle.grammar.specs.Machine.step finish head_kind head_word head_value head_place behind_head kind_of word_of value_of when fault fault_number counted
  at-expression k_let p xs = refl
  at-expression k_in p xs = refl
  at-expression k_equals p xs = refl
  at-expression k_lambda p xs = refl
  at-expression k_arrow p xs = refl
  at-expression k_dot p xs = refl
  at-expression k_open p xs = refl
  at-expression k_shut p xs = refl
  at-expression k_comma p xs = refl
  at-expression (word x) p xs = refl
  at-expression (number z) p xs = refl
  at-expression (other b) p xs = refl

  pub front-expression : (rest : List Located) → ExpressionFront rest
  unfolding read_on unless_at judge_at ended_at Rattle.grammar.specs.Machine.step finish head_kind head_word head_value head_place behind_head kind_of word_of value_of when fault fault_number counted
  front-expression [] = refl
  front-expression (x ∷ xs) = at-expression x.token x.place xs

module _ (end : ℕ) (d : Around) (F : List Frame) (h : Trees (at (let_name d) F) → Expression) (c : ℕ) where
  abbrev pub LetNameFront : List Located → Type 0
  LetNameFront rest =
      read_on end (at (let_name d) F) h c rest ≡
      due word_kind (beyond end c rest (note (binder_fault (head_word rest)) false) (at (let_equals (head_word rest) d) F) (λ q. h ((head_word rest, q.0.0, q.0.1), q.1)) c) end rest

  at-let_name : (t : Token) (p : ℕ) (xs : List Located) → LetNameFront (record { token = t; place = p } ∷ xs)
  unfolding read_on unless_at judge_at ended_at Rattle.grammar.specs.Machine.step finish head_kind head_word head_value head_place behind_head kind_of word_of value_of when fault fault_number counted
  at-let_name k_let p xs = refl
  at-let_name k_in p xs = refl
  at-let_name k_equals p xs = refl
  at-let_name k_lambda p xs = refl
  at-let_name k_arrow p xs = refl
  at-let_name k_dot p xs = refl
  at-let_name k_open p xs = refl
  at-let_name k_shut p xs = refl
  at-let_name k_comma p xs = refl
  at-let_name (word x) p xs = refl
  at-let_name (number z) p xs = refl
  at-let_name (other b) p xs = refl

  pub front-let_name : (rest : List Located) → LetNameFront rest
  unfolding read_on unless_at judge_at ended_at Rattle.grammar.specs.Machine.step finish head_kind head_word head_value head_place behind_head kind_of word_of value_of when fault fault_number counted
  front-let_name [] = refl
  front-let_name (x ∷ xs) = at-let_name x.token x.place xs

module _ (end : ℕ) (x : List ℕ) (d : Around) (F : List Frame) (h : Trees (at (let_equals x d) F) → Expression) (c : ℕ) where
  abbrev pub LetEqualsFront : List Located → Type 0
  LetEqualsFront rest =
      read_on end (at (let_equals x d) F) h c rest ≡
      due equals_kind (read_on end (at (expression false (opened d)) (value x d ∷ F)) (λ q. h ((q.0, q.1.0), q.1.1)) c (behind_head rest)) end rest

  at-let_equals : (t : Token) (p : ℕ) (xs : List Located) → LetEqualsFront (record { token = t; place = p } ∷ xs)
  unfolding read_on unless_at judge_at ended_at Rattle.grammar.specs.Machine.step finish head_kind head_word head_value head_place behind_head kind_of word_of value_of when fault fault_number counted
  at-let_equals k_let p xs = refl
  at-let_equals k_in p xs = refl
  at-let_equals k_equals p xs = refl
  at-let_equals k_lambda p xs = refl
  at-let_equals k_arrow p xs = refl
  at-let_equals k_dot p xs = refl
  at-let_equals k_open p xs = refl
  at-let_equals k_shut p xs = refl
  at-let_equals k_comma p xs = refl
  at-let_equals (word x) p xs = refl
  at-let_equals (number z) p xs = refl
  at-let_equals (other b) p xs = refl

  pub front-let_equals : (rest : List Located) → LetEqualsFront rest
  unfolding read_on unless_at judge_at ended_at Rattle.grammar.specs.Machine.step finish head_kind head_word head_value head_place behind_head kind_of word_of value_of when fault fault_number counted
  front-let_equals [] = refl
  front-let_equals (x ∷ xs) = at-let_equals x.token x.place xs

module _ (end : ℕ) (d : Around) (F : List Frame) (h : Trees (at (lambda_name d) F) → Expression) (c : ℕ) where
  abbrev pub LambdaNameFront : List Located → Type 0
  LambdaNameFront rest =
      read_on end (at (lambda_name d) F) h c rest ≡
      due word_kind (beyond end c rest (note (binder_fault (head_word rest)) false) (at (lambda_arrow (head_word rest) d) F) (λ q. h ((head_word rest, q.0), q.1)) c) end rest

  at-lambda_name : (t : Token) (p : ℕ) (xs : List Located) → LambdaNameFront (record { token = t; place = p } ∷ xs)
  unfolding read_on unless_at judge_at ended_at Rattle.grammar.specs.Machine.step finish head_kind head_word head_value head_place behind_head kind_of word_of value_of when fault fault_number counted
  at-lambda_name k_let p xs = refl
  at-lambda_name k_in p xs = refl
  at-lambda_name k_equals p xs = refl
  at-lambda_name k_lambda p xs = refl
  at-lambda_name k_arrow p xs = refl
  at-lambda_name k_dot p xs = refl
  at-lambda_name k_open p xs = refl
  at-lambda_name k_shut p xs = refl
  at-lambda_name k_comma p xs = refl
  at-lambda_name (word x) p xs = refl
  at-lambda_name (number z) p xs = refl
  at-lambda_name (other b) p xs = refl

  pub front-lambda_name : (rest : List Located) → LambdaNameFront rest
  unfolding read_on unless_at judge_at ended_at Rattle.grammar.specs.Machine.step finish head_kind head_word head_value head_place behind_head kind_of word_of value_of when fault fault_number counted
  front-lambda_name [] = refl
  front-lambda_name (x ∷ xs) = at-lambda_name x.token x.place xs

module _ (end : ℕ) (x : List ℕ) (d : Around) (F : List Frame) (h : Trees (at (lambda_arrow x d) F) → Expression) (c : ℕ) where
  abbrev pub LambdaArrowFront : List Located → Type 0
  LambdaArrowFront rest =
      read_on end (at (lambda_arrow x d) F) h c rest ≡
      due arrow_kind (read_on end (at (expression false (in_lambda d)) F) (λ q. h q) c (behind_head rest)) end rest

  at-lambda_arrow : (t : Token) (p : ℕ) (xs : List Located) → LambdaArrowFront (record { token = t; place = p } ∷ xs)
  unfolding read_on unless_at judge_at ended_at Rattle.grammar.specs.Machine.step finish head_kind head_word head_value head_place behind_head kind_of word_of value_of when fault fault_number counted
  at-lambda_arrow k_let p xs = refl
  at-lambda_arrow k_in p xs = refl
  at-lambda_arrow k_equals p xs = refl
  at-lambda_arrow k_lambda p xs = refl
  at-lambda_arrow k_arrow p xs = refl
  at-lambda_arrow k_dot p xs = refl
  at-lambda_arrow k_open p xs = refl
  at-lambda_arrow k_shut p xs = refl
  at-lambda_arrow k_comma p xs = refl
  at-lambda_arrow (word x) p xs = refl
  at-lambda_arrow (number z) p xs = refl
  at-lambda_arrow (other b) p xs = refl

  pub front-lambda_arrow : (rest : List Located) → LambdaArrowFront rest
  unfolding read_on unless_at judge_at ended_at Rattle.grammar.specs.Machine.step finish head_kind head_word head_value head_place behind_head kind_of word_of value_of when fault fault_number counted
  front-lambda_arrow [] = refl
  front-lambda_arrow (x ∷ xs) = at-lambda_arrow x.token x.place xs

module _ (end : ℕ) (d : Around) (F : List Frame) (h : Trees (at (member d) F) → Expression) (c : ℕ) where
  abbrev pub MemberFront : List Located → Type 0
  MemberFront rest =
      read_on end (at (member d) F) h c rest ≡
      due word_kind (beyond end c rest (note (call_fault (is_unknown (member_of (head_word rest)))) false)
      (at (call_open (takes (member_of (head_word rest))) d) F) (λ q. h ((head_word rest, q.0), q.1)) c) end rest

  at-member : (t : Token) (p : ℕ) (xs : List Located) → MemberFront (record { token = t; place = p } ∷ xs)
  unfolding read_on unless_at judge_at ended_at Rattle.grammar.specs.Machine.step finish head_kind head_word head_value head_place behind_head kind_of word_of value_of when fault fault_number counted
  at-member k_let p xs = refl
  at-member k_in p xs = refl
  at-member k_equals p xs = refl
  at-member k_lambda p xs = refl
  at-member k_arrow p xs = refl
  at-member k_dot p xs = refl
  at-member k_open p xs = refl
  at-member k_shut p xs = refl
  at-member k_comma p xs = refl
  at-member (word x) p xs = refl
  at-member (number z) p xs = refl
  at-member (other b) p xs = refl

  pub front-member : (rest : List Located) → MemberFront rest
  unfolding read_on unless_at judge_at ended_at Rattle.grammar.specs.Machine.step finish head_kind head_word head_value head_place behind_head kind_of word_of value_of when fault fault_number counted
  front-member [] = refl
  front-member (x ∷ xs) = at-member x.token x.place xs

module _ (end : ℕ) (k : ℕ) (d : Around) (F : List Frame) (h : Trees (at (call_open k d) F) → Expression) (c : ℕ) where
  abbrev pub CallOpenFront : List Located → Type 0
  CallOpenFront rest =
      read_on end (at (call_open k d) F) h c rest ≡
      due open_kind (beyond end c rest (note (deep d) false) (at (arguments k d) F) (λ q. h q) c) end rest

  at-call_open : (t : Token) (p : ℕ) (xs : List Located) → CallOpenFront (record { token = t; place = p } ∷ xs)
  unfolding read_on unless_at judge_at ended_at Rattle.grammar.specs.Machine.step finish head_kind head_word head_value head_place behind_head kind_of word_of value_of when fault fault_number counted
  at-call_open k_let p xs = refl
  at-call_open k_in p xs = refl
  at-call_open k_equals p xs = refl
  at-call_open k_lambda p xs = refl
  at-call_open k_arrow p xs = refl
  at-call_open k_dot p xs = refl
  at-call_open k_open p xs = refl
  at-call_open k_shut p xs = refl
  at-call_open k_comma p xs = refl
  at-call_open (word x) p xs = refl
  at-call_open (number z) p xs = refl
  at-call_open (other b) p xs = refl

  pub front-call_open : (rest : List Located) → CallOpenFront rest
  unfolding read_on unless_at judge_at ended_at Rattle.grammar.specs.Machine.step finish head_kind head_word head_value head_place behind_head kind_of word_of value_of when fault fault_number counted
  front-call_open [] = refl
  front-call_open (x ∷ xs) = at-call_open x.token x.place xs

module _ (end : ℕ) (x : List ℕ) (d : Around) (F : List Frame) (h : Trees (at over (value x d ∷ F)) → Expression) (c : ℕ) where
  abbrev pub ValueFront : List Located → Type 0
  ValueFront rest =
      read_on end (at over (value x d ∷ F)) h c rest ≡
      due in_kind (read_on end (at (expression false (opened d)) F) (λ q. h (tt, q)) c (behind_head rest)) end rest

  at_value : (t : Token) (p : ℕ) (xs : List Located) → ValueFront (record { token = t; place = p } ∷ xs)
  unfolding read_on unless_at judge_at ended_at Rattle.grammar.specs.Machine.step finish head_kind head_word head_value head_place behind_head kind_of word_of value_of when fault fault_number counted
  at_value k_let p xs = refl
  at_value k_in p xs = refl
  at_value k_equals p xs = refl
  at_value k_lambda p xs = refl
  at_value k_arrow p xs = refl
  at_value k_dot p xs = refl
  at_value k_open p xs = refl
  at_value k_shut p xs = refl
  at_value k_comma p xs = refl
  at_value (word x) p xs = refl
  at_value (number z) p xs = refl
  at_value (other b) p xs = refl

  pub front-value : (rest : List Located) → ValueFront rest
  unfolding read_on unless_at judge_at ended_at Rattle.grammar.specs.Machine.step finish head_kind head_word head_value head_place behind_head kind_of word_of value_of when fault fault_number counted
  front-value [] = refl
  front-value (x ∷ xs) = at_value x.token x.place xs

module _ (end : ℕ) (d : Around) (F : List Frame) (h : Trees (at over (brackets d ∷ F)) → Expression) (c : ℕ) where
  abbrev pub BracketsFront : List Located → Type 0
  BracketsFront rest =
      read_on end (at over (brackets d ∷ F)) h c rest ≡
      due shut_kind (read_on end (at (calls d) F) (λ q. h (tt, q)) c (behind_head rest)) end rest

  at-brackets : (t : Token) (p : ℕ) (xs : List Located) → BracketsFront (record { token = t; place = p } ∷ xs)
  unfolding read_on unless_at judge_at ended_at Rattle.grammar.specs.Machine.step finish head_kind head_word head_value head_place behind_head kind_of word_of value_of when fault fault_number counted
  at-brackets k_let p xs = refl
  at-brackets k_in p xs = refl
  at-brackets k_equals p xs = refl
  at-brackets k_lambda p xs = refl
  at-brackets k_arrow p xs = refl
  at-brackets k_dot p xs = refl
  at-brackets k_open p xs = refl
  at-brackets k_shut p xs = refl
  at-brackets k_comma p xs = refl
  at-brackets (word x) p xs = refl
  at-brackets (number z) p xs = refl
  at-brackets (other b) p xs = refl

  pub front-brackets : (rest : List Located) → BracketsFront rest
  unfolding read_on unless_at judge_at ended_at Rattle.grammar.specs.Machine.step finish head_kind head_word head_value head_place behind_head kind_of word_of value_of when fault fault_number counted
  front-brackets [] = refl
  front-brackets (x ∷ xs) = at-brackets x.token x.place xs

module _ (end : ℕ) (k : ℕ) (d : Around) (F : List Frame) (h : Trees (at over (argument k d ∷ F)) → Expression) (c : ℕ) where
  abbrev pub MoreFront : List Located → Type 0
  MoreFront rest =
      read_on end (at over (argument k d ∷ F)) h c rest ≡
      when (is_at shut_kind rest) (λ _. beyond end c rest (note (call_fault (leb 1 k)) false) (at (calls d) F) (λ q. h (tt, (last q.0, q.1))) c)
      (λ _. due comma_kind (beyond end c rest (note (call_fault (eqb k 0)) false) (at (expression false (opened d)) (argument (k - 1) d ∷ F)) (λ q. h (tt, (next q.0 q.1.0, q.1.1))) c) end rest)

  at_more : (t : Token) (p : ℕ) (xs : List Located) → MoreFront (record { token = t; place = p } ∷ xs)
  unfolding read_on unless_at judge_at ended_at Rattle.grammar.specs.Machine.step finish head_kind head_word head_value head_place behind_head kind_of word_of value_of when fault fault_number counted
  at_more k_let p xs = refl
  at_more k_in p xs = refl
  at_more k_equals p xs = refl
  at_more k_lambda p xs = refl
  at_more k_arrow p xs = refl
  at_more k_dot p xs = refl
  at_more k_open p xs = refl
  at_more k_shut p xs = refl
  at_more k_comma p xs = refl
  at_more (word x) p xs = refl
  at_more (number z) p xs = refl
  at_more (other b) p xs = refl

  pub front-more : (rest : List Located) → MoreFront rest
  unfolding read_on unless_at judge_at ended_at Rattle.grammar.specs.Machine.step finish head_kind head_word head_value head_place behind_head kind_of word_of value_of when fault fault_number counted
  front-more [] = refl
  front-more (x ∷ xs) = at_more x.token x.place xs

module _ (end : ℕ) (d : Around) (F : List Frame) (h : Trees (at (calls d) F) → Expression) (c : ℕ) where
  abbrev pub CallsFront : List Located → Type 0
  CallsFront rest =
      read_on end (at (calls d) F) h c rest ≡
      when (is_at dot_kind rest) (λ _. beyond end c rest (note fine true) (at (member d) F) (λ q. h (call q.0.0 q.0.1, q.1)) (suc c))
      (λ _. read_on end (at over F) (λ o. h (done, o.1)) c rest)

  at-calls : (t : Token) (p : ℕ) (xs : List Located) → CallsFront (record { token = t; place = p } ∷ xs)
  unfolding read_on unless_at judge_at ended_at Rattle.grammar.specs.Machine.step finish head_kind head_word head_value head_place behind_head kind_of word_of value_of when fault fault_number counted
  at-calls k_let p xs = uncalled-step end d F h c p k_let xs (step_over F k_let)
  at-calls k_in p xs = uncalled-step end d F h c p k_in xs (step_over F k_in)
  at-calls k_equals p xs = uncalled-step end d F h c p k_equals xs (step_over F k_equals)
  at-calls k_lambda p xs = uncalled-step end d F h c p k_lambda xs (step_over F k_lambda)
  at-calls k_arrow p xs = uncalled-step end d F h c p k_arrow xs (step_over F k_arrow)
  at-calls k_dot p xs = refl
  at-calls k_open p xs = uncalled-step end d F h c p k_open xs (step_over F k_open)
  at-calls k_shut p xs = uncalled-step end d F h c p k_shut xs (step_over F k_shut)
  at-calls k_comma p xs = uncalled-step end d F h c p k_comma xs (step_over F k_comma)
  at-calls (word x) p xs = uncalled-step end d F h c p (word x) xs (step_over F (word x))
  at-calls (number z) p xs = uncalled-step end d F h c p (number z) xs (step_over F (number z))
  at-calls (other b) p xs = uncalled-step end d F h c p (other b) xs (step_over F (other b))

  pub front-calls : (rest : List Located) → CallsFront rest
  unfolding read_on unless_at judge_at ended_at Rattle.grammar.specs.Machine.step finish head_kind head_word head_value head_place behind_head kind_of word_of value_of when fault fault_number counted
  front-calls [] = uncalled-end end d F h
  front-calls (x ∷ xs) = at-calls x.token x.place xs

module _ (end : ℕ) (k : ℕ) (d : Around) (F : List Frame) (h : Trees (at (arguments k d) F) → Expression) (c : ℕ) where
  abbrev pub ArgumentsFront : List Located → Type 0
  ArgumentsFront rest =
      read_on end (at (arguments k d) F) h c rest ≡
      when (is_at shut_kind rest) (λ _. beyond end c rest (note (call_fault (leb 1 k)) false) (at (calls d) F) (λ q. h (none q.0, q.1)) c)
      (λ _. read_on end (at (expression (eqb k 0) (opened d)) (argument (k - 1) d ∷ F)) (λ q. h (first q.0 q.1.0, q.1.1)) c rest)

  at-arguments : (t : Token) (p : ℕ) (xs : List Located) → ArgumentsFront (record { token = t; place = p } ∷ xs)
  unfolding read_on unless_at judge_at ended_at Rattle.grammar.specs.Machine.step finish head_kind head_word head_value head_place behind_head kind_of word_of value_of when fault fault_number counted
  at-arguments k_let p xs = argument-step end k d F h c p k_let xs (step_expression (eqb k 0) (opened d) (argument (k - 1) d ∷ F) k_let)
  at-arguments k_in p xs = argument-step end k d F h c p k_in xs (step_expression (eqb k 0) (opened d) (argument (k - 1) d ∷ F) k_in)
  at-arguments k_equals p xs = argument-step end k d F h c p k_equals xs (step_expression (eqb k 0) (opened d) (argument (k - 1) d ∷ F) k_equals)
  at-arguments k_lambda p xs = argument-step end k d F h c p k_lambda xs (step_expression (eqb k 0) (opened d) (argument (k - 1) d ∷ F) k_lambda)
  at-arguments k_arrow p xs = argument-step end k d F h c p k_arrow xs (step_expression (eqb k 0) (opened d) (argument (k - 1) d ∷ F) k_arrow)
  at-arguments k_dot p xs = argument-step end k d F h c p k_dot xs (step_expression (eqb k 0) (opened d) (argument (k - 1) d ∷ F) k_dot)
  at-arguments k_open p xs = argument-step end k d F h c p k_open xs (step_expression (eqb k 0) (opened d) (argument (k - 1) d ∷ F) k_open)
  at-arguments k_shut p xs = refl
  at-arguments k_comma p xs = argument-step end k d F h c p k_comma xs (step_expression (eqb k 0) (opened d) (argument (k - 1) d ∷ F) k_comma)
  at-arguments (word x) p xs = argument-step end k d F h c p (word x) xs (step_expression (eqb k 0) (opened d) (argument (k - 1) d ∷ F) (word x))
  at-arguments (number z) p xs = argument-step end k d F h c p (number z) xs (step_expression (eqb k 0) (opened d) (argument (k - 1) d ∷ F) (number z))
  at-arguments (other b) p xs = argument-step end k d F h c p (other b) xs (step_expression (eqb k 0) (opened d) (argument (k - 1) d ∷ F) (other b))

  pub front-arguments : (rest : List Located) → ArgumentsFront rest
  unfolding read_on unless_at judge_at ended_at Rattle.grammar.specs.Machine.step finish head_kind head_word head_value head_place behind_head kind_of word_of value_of when fault fault_number counted
  front-arguments [] = refl
  front-arguments (x ∷ xs) = at-arguments x.token x.place xs
