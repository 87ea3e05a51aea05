-- The reader on the level of definitions: a machine that takes one token at a time.
-- A state is a phase, what is read next, and a stack of frames, what stands around it. It has a type of trees: all that is still to come.
-- Assumes nothing. That it reads what Reading says is in Theorems.
use Rattle.std.specs.Prelude.{◌≡◌, refl, Bool, true, false, List, [], ◌∷◌, ℕ, zero, suc, ◌-◌, leb, eqb}
use Rattle.members.specs.Members.{member_of, is_unknown, takes}
use Rattle.grammar.specs.Tokens.{Token, k_let, k_in, k_equals, k_lambda, k_arrow, k_dot, k_open, k_shut, k_comma, word, number, other}
use Rattle.grammar.specs.Grammar.{Expression, Calls, Arguments, More, let_in, lambda, name, literal, bracket, done, call, none, first, last, next}
use Rattle.grammar.specs.Grammar.{spell_e, spell_c, spell_a, spell_m}
use Rattle.grammar.specs.Faults.{fine, Around, outermost, opened, in_lambda, deep, mark_fault, lambda_fault, binder_fault}
use Rattle.grammar.specs.Faults.{name_fault, literal_fault, call_fault, Note, note, plain, notes_e, notes_c, notes_a, notes_m, fault, counted}
use Rattle.grammar.specs.Reading.{Reading, tree, refused, place_of, tokens_of}

pub data Phase : Type 0 where
  -- an expression; true where the member around it takes no argument
  expression : Bool → Around → Phase
  -- a let's name, then its =
  let_name : Around → Phase
  let_equals : List ℕ → Around → Phase
  -- a lambda's name, then its ->
  lambda_name : Around → Phase
  lambda_arrow : List ℕ → Around → Phase
  -- the calls on an atom; behind a dot the member, then its (, then its arguments, of which it takes so many
  calls : Around → Phase
  member : Around → Phase
  call_open : ℕ → Around → Phase
  arguments : ℕ → Around → Phase
  -- no more of this expression
  over : Phase

-- what an expression stands in: the value of a let, brackets, or an argument with so many to come behind it; each with what is around that
pub data Frame : Type 0 where
  value : List ℕ → Around → Frame
  brackets : Around → Frame
  argument : ℕ → Around → Frame

pub data State : Type 0 where
  at : Phase → List Frame → State

-- the trees to come in a phase, and behind the expression in the innermost frame
abbrev pub Own : Phase → Type 0
Own (expression w d) = Expression
Own (let_name d) = List ℕ × Expression × Expression
Own (let_equals x d) = Expression × Expression
Own (lambda_name d) = List ℕ × Expression
Own (lambda_arrow x d) = Expression
Own (calls d) = Calls
Own (member d) = List ℕ × Arguments
Own (call_open k d) = Arguments
Own (arguments k d) = Arguments
Own over = Unit {0}

abbrev pub Outer : List Frame → Type 0
Outer [] = Unit {0}
Outer (value x d ∷ F) = Expression × Outer F
Outer (brackets d ∷ F) = Calls × Outer F
Outer (argument k d ∷ F) = More × Outer F

abbrev pub Trees : State → Type 0
Trees (at p F) = Own p × Outer F

-- their tokens
unfoldable pub spell_own : (p : Phase) → Own p → List Token → List Token
spell_own (expression w d) q u = spell_e q u
spell_own (let_name d) q u = word q.0 ∷ k_equals ∷ spell_e q.1 (k_in ∷ spell_e q.2 u)
spell_own (let_equals x d) q u = k_equals ∷ spell_e q.0 (k_in ∷ spell_e q.1 u)
spell_own (lambda_name d) q u = word q.0 ∷ k_arrow ∷ spell_e q.1 u
spell_own (lambda_arrow x d) q u = k_arrow ∷ spell_e q u
spell_own (calls d) q u = spell_c q u
spell_own (member d) q u = word q.0 ∷ k_open ∷ spell_a q.1 u
spell_own (call_open k d) q u = k_open ∷ spell_a q u
spell_own (arguments k d) q u = spell_a q u
spell_own over q u = u

unfoldable pub spell_outer : (F : List Frame) → Outer F → List Token
spell_outer [] o = []
spell_outer (value x d ∷ F) o = k_in ∷ spell_e o.0 (spell_outer F o.1)
spell_outer (brackets d ∷ F) o = k_shut ∷ spell_c o.0 (spell_outer F o.1)
spell_outer (argument k d ∷ F) o = spell_m o.0 (spell_outer F o.1)

unfoldable pub spell : (s : State) → Trees s → List Token
unfolding spell_own spell_outer spell_e
spell (at p F) q = spell_own p q.0 (spell_outer F q.1)

-- and their notes
unfoldable pub notes_own : (p : Phase) → Own p → List Note → List Note
notes_own (expression w d) q u = notes_e q w d u
notes_own (let_name d) q u = note (binder_fault q.0) false ∷ plain ∷ notes_e q.1 false (opened d) (plain ∷ notes_e q.2 false (opened d) u)
notes_own (let_equals x d) q u = plain ∷ notes_e q.0 false (opened d) (plain ∷ notes_e q.1 false (opened d) u)
notes_own (lambda_name d) q u = note (binder_fault q.0) false ∷ plain ∷ notes_e q.1 false (in_lambda d) u
notes_own (lambda_arrow x d) q u = plain ∷ notes_e q false (in_lambda d) u
notes_own (calls d) q u = notes_c q d u
notes_own (member d) q u = note (call_fault (is_unknown (member_of q.0))) false ∷ note (deep d) false ∷ notes_a q.1 (takes (member_of q.0)) d u
notes_own (call_open k d) q u = note (deep d) false ∷ notes_a q k d u
notes_own (arguments k d) q u = notes_a q k d u
notes_own over q u = u

unfoldable pub notes_outer : (F : List Frame) → Outer F → List Note
notes_outer [] o = []
notes_outer (value x d ∷ F) o = plain ∷ notes_e o.0 false (opened d) (notes_outer F o.1)
notes_outer (brackets d ∷ F) o = plain ∷ notes_c o.0 d (notes_outer F o.1)
notes_outer (argument k d ∷ F) o = notes_m o.0 k d (notes_outer F o.1)

unfoldable pub notes : (s : State) → Trees s → List Note
unfolding notes_own notes_outer notes_e
notes (at p F) q = notes_own p q.0 (notes_outer F q.1)

-- at a token: no tree begins with it; or its note, the next state, and how that state's trees make this one's, with their tokens and notes
pub data Step (s : State) (t : Token) : Type 0 where
  stop : Step s t
  go : (n : Note) (b : State) (back : Trees b → Trees s) → ((q : Trees b) → spell s (back q) ≡ t ∷ spell b q) → ((q : Trees b) → notes s (back q) ≡ n ∷ notes b q) → Step s t

-- a word and no other token
unfoldable pub on_word : {s : State} → ((x : List ℕ) → Step s (word x)) → (t : Token) → Step s t
on_word f k_let = stop
on_word f k_in = stop
on_word f k_equals = stop
on_word f k_lambda = stop
on_word f k_arrow = stop
on_word f k_dot = stop
on_word f k_open = stop
on_word f k_shut = stop
on_word f k_comma = stop
on_word f (word x) = f x
on_word f (number z) = stop
on_word f (other b) = stop

unfoldable pub step_expression : (w : Bool) (d : Around) (F : List Frame) (t : Token) → Step (at (expression w d) F) t
unfolding spell notes
step_expression w d F k_let = go (note (mark_fault w d) true) (at (let_name d) F) (λ q. (let_in q.0.0 q.0.1 q.0.2, q.1)) (λ q. refl) (λ q. refl)
step_expression w d F k_in = stop
step_expression w d F k_equals = stop
step_expression w d F k_lambda = go (note (lambda_fault w d) true) (at (lambda_name d) F) (λ q. (lambda q.0.0 q.0.1, q.1)) (λ q. refl) (λ q. refl)
step_expression w d F k_arrow = stop
step_expression w d F k_dot = stop
step_expression w d F k_open = go (note (mark_fault w d) false) (at (expression false (opened d)) (brackets d ∷ F)) (λ q. (bracket q.0 q.1.0, q.1.1)) (λ q. refl) (λ q. refl)
step_expression w d F k_shut = stop
step_expression w d F k_comma = stop
step_expression w d F (word x) = go (note (name_fault w x) true) (at (calls d) F) (λ q. (name x q.0, q.1)) (λ q. refl) (λ q. refl)
step_expression w d F (number z) = go (note (literal_fault w z) true) (at (calls d) F) (λ q. (literal z q.0, q.1)) (λ q. refl) (λ q. refl)
step_expression w d F (other b) = stop

unfoldable pub step_let_name : (d : Around) (F : List Frame) (t : Token) → Step (at (let_name d) F) t
unfolding spell notes on_word
step_let_name d F t = on_word (λ x. go (note (binder_fault x) false) (at (let_equals x d) F) (λ q. ((x, q.0.0, q.0.1), q.1)) (λ q. refl) (λ q. refl)) t

unfoldable pub step_let_equals : (x : List ℕ) (d : Around) (F : List Frame) (t : Token) → Step (at (let_equals x d) F) t
unfolding spell notes
step_let_equals x d F k_let = stop
step_let_equals x d F k_in = stop
step_let_equals x d F k_equals = go plain (at (expression false (opened d)) (value x d ∷ F)) (λ q. ((q.0, q.1.0), q.1.1)) (λ q. refl) (λ q. refl)
step_let_equals x d F k_lambda = stop
step_let_equals x d F k_arrow = stop
step_let_equals x d F k_dot = stop
step_let_equals x d F k_open = stop
step_let_equals x d F k_shut = stop
step_let_equals x d F k_comma = stop
step_let_equals x d F (word y) = stop
step_let_equals x d F (number z) = stop
step_let_equals x d F (other b) = stop

unfoldable pub step_lambda_name : (d : Around) (F : List Frame) (t : Token) → Step (at (lambda_name d) F) t
unfolding spell notes on_word
step_lambda_name d F t = on_word (λ x. go (note (binder_fault x) false) (at (lambda_arrow x d) F) (λ q. ((x, q.0), q.1)) (λ q. refl) (λ q. refl)) t

unfoldable pub step_lambda_arrow : (x : List ℕ) (d : Around) (F : List Frame) (t : Token) → Step (at (lambda_arrow x d) F) t
unfolding spell notes
step_lambda_arrow x d F k_let = stop
step_lambda_arrow x d F k_in = stop
step_lambda_arrow x d F k_equals = stop
step_lambda_arrow x d F k_lambda = stop
step_lambda_arrow x d F k_arrow = go plain (at (expression false (in_lambda d)) F) (λ q. q) (λ q. refl) (λ q. refl)
step_lambda_arrow x d F k_dot = stop
step_lambda_arrow x d F k_open = stop
step_lambda_arrow x d F k_shut = stop
step_lambda_arrow x d F k_comma = stop
step_lambda_arrow x d F (word y) = stop
step_lambda_arrow x d F (number z) = stop
step_lambda_arrow x d F (other b) = stop

unfoldable pub step_member : (d : Around) (F : List Frame) (t : Token) → Step (at (member d) F) t
unfolding spell notes on_word
step_member d F t = on_word (λ x. go (note (call_fault (is_unknown (member_of x))) false) (at (call_open (takes (member_of x)) d) F) (λ q. ((x, q.0), q.1)) (λ q. refl) (λ q. refl)) t

unfoldable pub step_call_open : (k : ℕ) (d : Around) (F : List Frame) (t : Token) → Step (at (call_open k d) F) t
unfolding spell notes
step_call_open k d F k_let = stop
step_call_open k d F k_in = stop
step_call_open k d F k_equals = stop
step_call_open k d F k_lambda = stop
step_call_open k d F k_arrow = stop
step_call_open k d F k_dot = stop
step_call_open k d F k_open = go (note (deep d) false) (at (arguments k d) F) (λ q. q) (λ q. refl) (λ q. refl)
step_call_open k d F k_shut = stop
step_call_open k d F k_comma = stop
step_call_open k d F (word x) = stop
step_call_open k d F (number z) = stop
step_call_open k d F (other b) = stop

unfoldable pub step_over : (F : List Frame) (t : Token) → Step (at over F) t
unfolding spell notes
step_over F k_let = stop
step_over [] k_in = stop
step_over (value x d ∷ F) k_in = go plain (at (expression false (opened d)) F) (λ q. (tt, q)) (λ q. refl) (λ q. refl)
step_over (brackets d ∷ F) k_in = stop
step_over (argument k d ∷ F) k_in = stop
step_over F k_equals = stop
step_over F k_lambda = stop
step_over F k_arrow = stop
step_over F k_dot = stop
step_over F k_open = stop
step_over [] k_shut = stop
step_over (value x d ∷ F) k_shut = stop
step_over (brackets d ∷ F) k_shut = go plain (at (calls d) F) (λ q. (tt, q)) (λ q. refl) (λ q. refl)
step_over (argument k d ∷ F) k_shut = go (note (call_fault (leb 1 k)) false) (at (calls d) F) (λ q. (tt, (last q.0, q.1))) (λ q. refl) (λ q. refl)
step_over [] k_comma = stop
step_over (value x d ∷ F) k_comma = stop
step_over (brackets d ∷ F) k_comma = stop
step_over (argument k d ∷ F) k_comma =
    go (note (call_fault (eqb k 0)) false) (at (expression false (opened d)) (argument (k - 1) d ∷ F)) (λ q. (tt, (next q.0 q.1.0, q.1.1))) (λ q. refl) (λ q. refl)
step_over F (word x) = stop
step_over F (number z) = stop
step_over F (other b) = stop

-- no call follows: the expression is over
unfoldable pub uncalled : (d : Around) (F : List Frame) (t : Token) → Step (at over F) t → Step (at (calls d) F) t
unfolding spell notes
uncalled d F t stop = stop
uncalled d F t (go n b back p i) = go n b (λ q. (done, (back q).1)) p i

unfoldable pub step_calls : (d : Around) (F : List Frame) (t : Token) → Step (at (calls d) F) t
unfolding spell notes
step_calls d F k_let = uncalled d F k_let (step_over F k_let)
step_calls d F k_in = uncalled d F k_in (step_over F k_in)
step_calls d F k_equals = uncalled d F k_equals (step_over F k_equals)
step_calls d F k_lambda = uncalled d F k_lambda (step_over F k_lambda)
step_calls d F k_arrow = uncalled d F k_arrow (step_over F k_arrow)
step_calls d F k_dot = go (note fine true) (at (member d) F) (λ q. (call q.0.0 q.0.1, q.1)) (λ q. refl) (λ q. refl)
step_calls d F k_open = uncalled d F k_open (step_over F k_open)
step_calls d F k_shut = uncalled d F k_shut (step_over F k_shut)
step_calls d F k_comma = uncalled d F k_comma (step_over F k_comma)
step_calls d F (word x) = uncalled d F (word x) (step_over F (word x))
step_calls d F (number z) = uncalled d F (number z) (step_over F (number z))
step_calls d F (other b) = uncalled d F (other b) (step_over F (other b))

-- the first argument is an expression in the frame of its call
unfoldable pub as_argument : (k : ℕ) (d : Around) (F : List Frame) (t : Token) → Step (at (expression (eqb k 0) (opened d)) (argument (k - 1) d ∷ F)) t → Step (at (arguments k d) F) t
unfolding spell notes
as_argument k d F t stop = stop
as_argument k d F t (go n b back p i) = go n b (λ q. (first (back q).0 (back q).1.0, (back q).1.1)) p i

unfoldable pub step_arguments : (k : ℕ) (d : Around) (F : List Frame) (t : Token) → Step (at (arguments k d) F) t
unfolding spell notes
step_arguments k d F k_let = as_argument k d F k_let (step_expression (eqb k 0) (opened d) (argument (k - 1) d ∷ F) k_let)
step_arguments k d F k_in = as_argument k d F k_in (step_expression (eqb k 0) (opened d) (argument (k - 1) d ∷ F) k_in)
step_arguments k d F k_equals = as_argument k d F k_equals (step_expression (eqb k 0) (opened d) (argument (k - 1) d ∷ F) k_equals)
step_arguments k d F k_lambda = as_argument k d F k_lambda (step_expression (eqb k 0) (opened d) (argument (k - 1) d ∷ F) k_lambda)
step_arguments k d F k_arrow = as_argument k d F k_arrow (step_expression (eqb k 0) (opened d) (argument (k - 1) d ∷ F) k_arrow)
step_arguments k d F k_dot = as_argument k d F k_dot (step_expression (eqb k 0) (opened d) (argument (k - 1) d ∷ F) k_dot)
step_arguments k d F k_open = as_argument k d F k_open (step_expression (eqb k 0) (opened d) (argument (k - 1) d ∷ F) k_open)
step_arguments k d F k_shut = go (note (call_fault (leb 1 k)) false) (at (calls d) F) (λ q. (none q.0, q.1)) (λ q. refl) (λ q. refl)
step_arguments k d F k_comma = as_argument k d F k_comma (step_expression (eqb k 0) (opened d) (argument (k - 1) d ∷ F) k_comma)
step_arguments k d F (word x) = as_argument k d F (word x) (step_expression (eqb k 0) (opened d) (argument (k - 1) d ∷ F) (word x))
step_arguments k d F (number z) = as_argument k d F (number z) (step_expression (eqb k 0) (opened d) (argument (k - 1) d ∷ F) (number z))
step_arguments k d F (other b) = as_argument k d F (other b) (step_expression (eqb k 0) (opened d) (argument (k - 1) d ∷ F) (other b))

unfoldable pub step : (s : State) (t : Token) → Step s t
unfolding step_expression step_let_name step_let_equals step_lambda_name step_lambda_arrow step_calls step_member step_call_open step_arguments step_over uncalled as_argument on_word
step (at (expression w d) F) t = step_expression w d F t
step (at (let_name d) F) t = step_let_name d F t
step (at (let_equals x d) F) t = step_let_equals x d F t
step (at (lambda_name d) F) t = step_lambda_name d F t
step (at (lambda_arrow x d) F) t = step_lambda_arrow x d F t
step (at (calls d) F) t = step_calls d F t
step (at (member d) F) t = step_member d F t
step (at (call_open k d) F) t = step_call_open k d F t
step (at (arguments k d) F) t = step_arguments k d F t
step (at over F) t = step_over F t

-- may the tokens end here
pub data End (s : State) : Type 0 where
  too_early : End s
  finished : (q : Trees s) → spell s q ≡ [] → notes s q ≡ [] → End s

unfoldable pub finish : (s : State) → End s
unfolding spell notes
finish (at (expression w d) F) = too_early
finish (at (let_name d) F) = too_early
finish (at (let_equals x d) F) = too_early
finish (at (lambda_name d) F) = too_early
finish (at (lambda_arrow x d) F) = too_early
finish (at (calls d) []) = finished (done, tt) refl refl
finish (at (calls d) (f ∷ F)) = too_early
finish (at (member d) F) = too_early
finish (at (call_open k d) F) = too_early
finish (at (arguments k d) F) = too_early
finish (at over []) = finished (tt, tt) refl refl
finish (at over (f ∷ F)) = too_early

-- what is read of the trees to come: all of them, or a refusal's number and how many tokens stand before the token refused
pub data Answer (A : Type 0) : Type 0 where
  whole : A → Answer A
  stopped : ℕ → ℕ → Answer A

unfoldable pub further : {A B : Type 0} → (A → B) → Answer A → Answer B
further f (whole a) = whole (f a)
further f (stopped n j) = stopped n (suc j)

unfoldable pub ended : {s : State} → End s → Answer (Trees s)
ended too_early = stopped 5 0
ended (finished q p i) = whole q

-- refused here by a number other than 0; else what waits is read
abbrev pub unless : {A : Type 0} → ℕ → (Unit {0} → Answer A) → Answer A
unless zero r = r tt
unless (suc n) r = stopped (suc n) 0

-- behind c parts
unfoldable pub judge : {s : State} {t : Token} → ℕ → Step s t → ((b : State) → ℕ → Answer (Trees b)) → Answer (Trees s)
judge c stop k = stopped 5 0
judge c (go n b back p i) k = unless (fault c n) (λ _. further back (k b (counted c n)))

unfoldable pub read_from : (s : State) → ℕ → List Token → Answer (Trees s)
read_from s c [] = ended (finish s)
read_from s c (t ∷ ts) = judge c (step s t) (λ b c'. read_from b c' ts)

abbrev pub begin : State
begin = at (expression false outermost) []

abbrev pub alone : Answer (Trees begin) → Answer Expression
alone (whole q) = whole q.0
alone (stopped n j) = stopped n j

unfoldable pub read : List Token → Answer Expression
read ts = alone (read_from begin 0 ts)

-- a token's place in a text is its first byte's
abbrev pub placed : List ℕ → Answer Expression → Reading
placed text (whole e) = tree e
placed text (stopped n j) = refused n (place_of text j)

unfoldable pub read_text : List ℕ → Reading
read_text text = placed text (read (tokens_of text))
