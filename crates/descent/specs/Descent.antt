-- The reader in the shape of its code: recursive descent that writes records, places and binders into three scratch arrays as it goes.
-- Each reader takes the readers it calls as an argument, and run ties them with fuel; so a function of the code is one equation here.
-- Assumes nothing: these are definitions. That they read what the grammar says is in Theorems.
use Rattle.std.specs.Prelude.{Bool, false, List, ℕ, zero, suc, ◌+◌, ◌*◌, ◌-◌, eqb, length, set}
use Rattle.language.specs.Limits.{open_marks}
use Rattle.language.specs.Names.{packed, data_word}
use Rattle.grammar.specs.Tokens.{when, Located, tokens}
use Rattle.layout.specs.Memory.{Node, node_with, node}
use Rattle.layout.specs.Nodes.{number_kind, variable_kind, unbound_kind, readings_kind, function_kind}
use Rattle.layout.specs.Held.{kind_base, record_base}
use Rattle.records.specs.Records.{number_key}
use Rattle.descent.specs.Cursor.{Cursor, let_kind, in_kind, lambda_kind, dot_kind, open_kind, shut_kind, comma_kind, word_kind, digits_kind, end_kind}
use Rattle.descent.specs.Cursor.{is_at, head_word, head_value, binder_link, binder_of, lambdas_in, at_bracket, at_name, at_number, at_mark, at_shut, at_comma, pass, pass_part}
use Rattle.descent.specs.Cursor.{refuse, judge, need, let_head, lambda_head, call_head}

-- the cells of the binders that can be open, two each
abbrev pub scope_cells : ℕ
scope_cells = 2 * open_marks

-- the arrays: two words a record, `text_words`; the record of each part by place, `text_parts`; two cells a binder, `scope_cells`
pub record State : Type 0 where
  pub cursor : Cursor
  pub records : List ℕ
  pub places : List ℕ
  pub scope : List ℕ

abbrev pub moved : State → Cursor → State
moved s c = record { cursor = c; records = s.records; places = s.places; scope = s.scope }

-- nothing more is done behind a refusal
unfoldable pub then : State → (State → State) → State
then s k = when (eqb s.cursor.number 0) (λ _. k s) (λ _. s)

-- the first word of a record; the second is its key
unfoldable pub link_word : Node → ℕ
link_word n = n.kind + kind_base * n.first + kind_base * record_base * n.second + kind_base * record_base * record_base * n.level

-- the cursor behind one more record, and behind the use of record j
unfoldable pub counted : Cursor → Cursor
counted c = record { rest = c.rest; parts = c.parts; count = suc c.count; root = c.count; name = c.name; takes = c.takes; number = c.number; place = c.place }

unfoldable pub rooted : ℕ → Cursor → Cursor
rooted j c = record { rest = c.rest; parts = c.parts; count = c.count; root = j; name = c.name; takes = c.takes; number = c.number; place = c.place }

-- a record for the part of place p
unfoldable pub put : ℕ → Node → State → State
put p n s =
    record {
      cursor = counted s.cursor;
      records = set (set s.records (2 * s.cursor.count) (link_word n)) (2 * s.cursor.count + 1) n.key;
      places = set s.places p s.cursor.count;
      scope = s.scope;
    }

-- record j for the part of place p
unfoldable pub link : ℕ → ℕ → State → State
link p j s = record { cursor = rooted j s.cursor; records = s.records; places = set s.places p j; scope = s.scope }

-- the record last read for the part of place p
unfoldable pub mark : ℕ → State → State
mark p s = record { cursor = s.cursor; records = s.records; places = set s.places p s.cursor.root; scope = s.scope }

-- binder number depth: its packed name and what it stands for
unfoldable pub enter : (depth x link : ℕ) → State → State
enter depth x j s = record { cursor = s.cursor; records = s.records; places = s.places; scope = set (set s.scope (2 * depth) x) (2 * depth + 1) j }

-- a bound name stands for a variable, which has its lambda's level, or for a record
unfoldable pub put_bound : (p x link level : ℕ) → State → State
put_bound p x j level s = when (eqb j 0) (λ _. put p (node_with variable_kind x 0 0 level) s) (λ _. link p (j - 1) s)

-- b: one more than the binder's number, 0 for none
unfoldable pub put_scoped : (p x b : ℕ) → State → State
put_scoped p x b s =
    when (eqb b 0) (λ _. put p (node unbound_kind x 0 0) s) (λ _. put_bound p x (binder_link s.scope (b - 1)) (lambdas_in s.scope (b - 1)) s)

-- the packed name x in use
unfoldable pub put_name : (p x depth : ℕ) → State → State
unfolding data_word
put_name p x depth s = when (eqb x (packed data_word)) (λ _. put p (node readings_kind 0 0 0) s) (λ _. put_scoped p x (binder_of s.scope x depth) s)

-- a call being read: its member's kind, how many arguments are still to come, the receiver's record, its part's place, and its first
-- argument, 0 for none or one more than a record
pub record Call : Type 0 where
  pub kind : ℕ
  pub takes : ℕ
  pub receiver : ℕ
  pub place : ℕ
  pub argument : ℕ

abbrev pub new_call : Cursor → Cursor → Call
new_call before c = record { kind = c.name; takes = c.takes; receiver = before.root; place = before.parts; argument = 0 }

-- behind the first argument, and behind another
abbrev pub first_given : ℕ → Call → Call
first_given a k = record { kind = k.kind; takes = k.takes - 1; receiver = k.receiver; place = k.place; argument = suc a }

abbrev pub next_given : Call → Call
next_given k = record { kind = k.kind; takes = k.takes - 1; receiver = k.receiver; place = k.place; argument = k.argument }

-- what is read: an expression; the calls on the record last read; what stands behind the ( of a call; and behind an argument
pub data Mode : Type 0 where
  in_expression : (w : Bool) (marks depth : ℕ) → Mode
  in_calls : (marks depth : ℕ) → Mode
  in_arguments : Call → (marks depth : ℕ) → Mode
  in_more : Call → (marks depth : ℕ) → Mode

abbrev pub Reader : Type 0
Reader = Mode → State → State

module _ (end : ℕ) where
  unfoldable pub read_name : Bool → ℕ → State → State
  read_name w depth s =
      then (moved s (judge end (at_name w (head_word s.cursor.rest) s.cursor.parts) s.cursor (λ _. pass_part s.cursor))) (λ a.
      put_name s.cursor.parts (packed (head_word s.cursor.rest)) depth a)

  unfoldable pub read_number : Bool → State → State
  read_number w s =
      then (moved s (judge end (at_number w (head_value s.cursor.rest) s.cursor.parts) s.cursor (λ _. pass_part s.cursor))) (λ a.
      put s.cursor.parts (node number_kind (number_key (head_value s.cursor.rest)) 0 0) a)

  -- the ) of a call
  unfoldable pub read_shut : Call → State → State
  read_shut k s =
      then (moved s (judge end (at_shut k.takes) s.cursor (λ _. pass s.cursor))) (λ a.
      put k.place (node k.kind 0 (suc k.receiver) k.argument) a)

  unfoldable pub read_let : Reader → Bool → ℕ → ℕ → State → State
  read_let rd w marks depth s =
      then (moved s (let_head end w marks s.cursor)) (λ h.
      then (rd (in_expression false (suc marks) depth) h) (λ v.
      then (moved v (need end in_kind v.cursor)) (λ b.
      then (rd (in_expression false (suc marks) (suc depth)) (enter depth h.cursor.name (suc v.cursor.root) b)) (λ r.
      mark s.cursor.parts r))))

  unfoldable pub read_lambda : Reader → Bool → ℕ → ℕ → State → State
  read_lambda rd w marks depth s =
      then (moved s (lambda_head end w marks depth s.scope s.cursor)) (λ h.
      then (rd (in_expression false (suc marks) (suc depth)) (enter depth h.cursor.name 0 h)) (λ r.
      put s.cursor.parts (node_with function_kind h.cursor.name (suc r.cursor.root) 0 (lambdas_in s.scope depth)) r))

  unfoldable pub read_bracket : Reader → Bool → ℕ → ℕ → State → State
  read_bracket rd w marks depth s =
      then (moved s (judge end (at_bracket w marks) s.cursor (λ _. pass s.cursor))) (λ h.
      then (rd (in_expression false (suc marks) depth) h) (λ e.
      then (moved e (need end shut_kind e.cursor)) (λ a.
      rd (in_calls marks depth) a)))

  unfoldable pub read_expression : Reader → Bool → ℕ → ℕ → State → State
  read_expression rd w marks depth s =
      when (is_at let_kind s.cursor.rest) (λ _. read_let rd w marks depth s)
      (λ _. when (is_at lambda_kind s.cursor.rest) (λ _. read_lambda rd w marks depth s)
      (λ _. when (is_at open_kind s.cursor.rest) (λ _. read_bracket rd w marks depth s)
      (λ _. when (is_at word_kind s.cursor.rest) (λ _. then (read_name w depth s) (λ a. rd (in_calls marks depth) a))
      (λ _. when (is_at digits_kind s.cursor.rest) (λ _. then (read_number w s) (λ a. rd (in_calls marks depth) a))
      (λ _. moved s (refuse end 5 s.cursor))))))

  unfoldable pub read_calls : Reader → ℕ → ℕ → State → State
  read_calls rd marks depth s =
      when (is_at dot_kind s.cursor.rest)
      (λ _. then (moved s (call_head end marks s.cursor)) (λ h. rd (in_arguments (new_call s.cursor h.cursor) marks depth) h))
      (λ _. s)

  unfoldable pub read_arguments : Reader → Call → ℕ → ℕ → State → State
  read_arguments rd k marks depth s =
      when (is_at shut_kind s.cursor.rest) (λ _. then (read_shut k s) (λ a. rd (in_calls marks depth) a))
      (λ _. then (rd (in_expression (eqb k.takes 0) (suc marks) depth) s) (λ a. rd (in_more (first_given a.cursor.root k) marks depth) a))

  unfoldable pub read_more : Reader → Call → ℕ → ℕ → State → State
  read_more rd k marks depth s =
      when (is_at shut_kind s.cursor.rest) (λ _. then (read_shut k s) (λ a. rd (in_calls marks depth) a))
      (λ _. when (is_at comma_kind s.cursor.rest)
      (λ _. then (moved s (judge end (at_comma k.takes) s.cursor (λ _. pass s.cursor))) (λ h.
      then (rd (in_expression false (suc marks) depth) h) (λ a.
      rd (in_more (next_given k) marks depth) a)))
      (λ _. moved s (refuse end 5 s.cursor)))

  unfoldable pub step : Reader → Reader
  unfolding read_expression
  step rd (in_expression w marks depth) s = read_expression rd w marks depth s
  step rd (in_calls marks depth) s = read_calls rd marks depth s
  step rd (in_arguments k marks depth) s = read_arguments rd k marks depth s
  step rd (in_more k marks depth) s = read_more rd k marks depth s

  -- number 1 stands for no fuel: it does not come up where the fuel is above want
  unfoldable pub run : ℕ → Reader
  run zero m s = moved s (refuse end 1 s.cursor)
  run (suc f) m s = step (run f) m s

-- the fuel that is enough: two for each token, and one behind the ( of a call
abbrev pub rank : Mode → ℕ
rank (in_expression w marks depth) = 0
rank (in_calls marks depth) = 0
rank (in_arguments k marks depth) = 1
rank (in_more k marks depth) = 0

abbrev pub want : Mode → State → ℕ
want m s = 2 * length s.cursor.rest + rank m

-- a whole text, over scratch arrays of any contents: an expression, and then the end
abbrev pub start_cursor : List Located → Cursor
start_cursor rest = record { rest = rest; parts = 0; count = 0; root = 0; name = 0; takes = 0; number = 0; place = 0 }

abbrev pub start : List Located → (records places scope : List ℕ) → State
start rest records places scope = record { cursor = start_cursor rest; records = records; places = places; scope = scope }

unfoldable pub ended : ℕ → State → State
ended end s = then s (λ a. moved a (judge end (at_mark end_kind a.cursor.rest) a.cursor (λ _. a.cursor)))

unfoldable pub read_with : ℕ → List ℕ → (records places scope : List ℕ) → State
read_with f text records places scope = ended (length text) (run (length text) f (in_expression false 0 0) (start (tokens text) records places scope))

abbrev pub read_into : List ℕ → (records places scope : List ℕ) → State
read_into text = read_with (suc (2 * length (tokens text))) text
