-- The reader's cursor: the tokens that are left, what has been counted, and the tests at each token in the order of 01's refusals.
-- This is in the shape of the code: a cursor is a struct by value, and where its number is not 0 nothing more is done.
-- Assumes nothing: these are definitions.
use Rattle.std.specs.Prelude.{Bool, cond, ◌||◌, List, [], ◌∷◌, ℕ, zero, suc, ◌+◌, ◌*◌, leb, eqb, ℤ, pos, get_or}
use Rattle.std.specs.Int.Signed.{lt_z}
use Rattle.language.specs.Limits.{text_parts, open_marks, open_lambdas, least_number, most_number}
use Rattle.language.specs.Names.{packed, is_long, is_data}
use Rattle.members.specs.Members.{member_of, is_unknown, takes}
use Rattle.grammar.specs.Tokens.{Token, k_let, k_in, k_equals, k_lambda, k_arrow, k_dot, k_open, k_shut, k_comma, word, number, other, when, Located}
use Rattle.meaning.specs.Binding.{member}
use Rattle.layout.specs.Nodes.{member_kind}

-- a token's kind as a number; 0 is the end
abbrev pub end_kind : ℕ
end_kind = 0

abbrev pub let_kind : ℕ
let_kind = 1

abbrev pub in_kind : ℕ
in_kind = 2

abbrev pub equals_kind : ℕ
equals_kind = 3

abbrev pub lambda_kind : ℕ
lambda_kind = 4

abbrev pub arrow_kind : ℕ
arrow_kind = 5

abbrev pub dot_kind : ℕ
dot_kind = 6

abbrev pub open_kind : ℕ
open_kind = 7

abbrev pub shut_kind : ℕ
shut_kind = 8

abbrev pub comma_kind : ℕ
comma_kind = 9

abbrev pub word_kind : ℕ
word_kind = 10

abbrev pub digits_kind : ℕ
digits_kind = 11

abbrev pub other_kind : ℕ
other_kind = 12

unfoldable pub kind_of : Token → ℕ
kind_of k_let = let_kind
kind_of k_in = in_kind
kind_of k_equals = equals_kind
kind_of k_lambda = lambda_kind
kind_of k_arrow = arrow_kind
kind_of k_dot = dot_kind
kind_of k_open = open_kind
kind_of k_shut = shut_kind
kind_of k_comma = comma_kind
kind_of (word x) = word_kind
kind_of (number z) = digits_kind
kind_of (other b) = other_kind

-- the bytes of a word, and the value of a number
unfoldable pub word_of : Token → List ℕ
word_of k_let = []
word_of k_in = []
word_of k_equals = []
word_of k_lambda = []
word_of k_arrow = []
word_of k_dot = []
word_of k_open = []
word_of k_shut = []
word_of k_comma = []
word_of (word x) = x
word_of (number z) = []
word_of (other b) = []

unfoldable pub value_of : Token → ℤ
value_of k_let = pos 0
value_of k_in = pos 0
value_of k_equals = pos 0
value_of k_lambda = pos 0
value_of k_arrow = pos 0
value_of k_dot = pos 0
value_of k_open = pos 0
value_of k_shut = pos 0
value_of k_comma = pos 0
value_of (word x) = pos 0
value_of (number z) = z
value_of (other b) = pos 0

-- the token at the front, and what is left behind it
unfoldable pub head_kind : List Located → ℕ
head_kind [] = end_kind
head_kind (x ∷ xs) = kind_of x.token

unfoldable pub head_word : List Located → List ℕ
head_word [] = []
head_word (x ∷ xs) = word_of x.token

unfoldable pub head_value : List Located → ℤ
head_value [] = pos 0
head_value (x ∷ xs) = value_of x.token

-- the end's place is given
unfoldable pub head_place : ℕ → List Located → ℕ
head_place end [] = end
head_place end (x ∷ xs) = x.place

unfoldable pub behind_head : List Located → List Located
behind_head [] = []
behind_head (x ∷ xs) = xs

abbrev pub is_at : ℕ → List Located → Bool
is_at k rest = eqb (head_kind rest) k

-- The scope: binder b has at 2b its packed name and at 2b+1 what it stands for, 0 for a lambda's variable or one more than the record of a
-- let's value. Cells from 2 * depth on mean nothing.
abbrev pub binder_name : List ℕ → ℕ → ℕ
binder_name scope b = get_or scope (2 * b) 0

abbrev pub binder_link : List ℕ → ℕ → ℕ
binder_link scope b = get_or scope (2 * b + 1) 0

-- one more than the number of the innermost binder of the name, 0 for none
unfoldable pub binder_of : List ℕ → ℕ → ℕ → ℕ
binder_of scope x zero = 0
binder_of scope x (suc b) = when (eqb x (binder_name scope b)) (λ _. suc b) (λ _. binder_of scope x b)

-- how many lambdas are open; a lambda's level (02, T-05) is that at its own \
unfoldable pub lambdas_in : List ℕ → ℕ → ℕ
lambdas_in scope zero = 0
lambdas_in scope (suc b) = cond (eqb (binder_link scope b) 0) (suc (lambdas_in scope b)) (lambdas_in scope b)

-- 01's refusals 5 to 12 at a token, the lowest number that applies, 0 for none; w: an expression begins where a member takes no argument
unfoldable pub at_part : ℕ → ℕ
at_part parts = cond (leb text_parts parts) 12 0

unfoldable pub at_let : Bool → (marks parts : ℕ) → ℕ
at_let w marks parts = cond w 9 (cond (leb open_marks marks) 12 (at_part parts))

unfoldable pub at_lambda : Bool → (lambdas marks parts : ℕ) → ℕ
at_lambda w lambdas marks parts = cond w 9 (cond (leb open_lambdas lambdas) 10 (cond (leb open_marks marks) 12 (at_part parts)))

unfoldable pub at_bracket : Bool → (marks : ℕ) → ℕ
at_bracket w marks = cond w 9 (cond (leb open_marks marks) 12 0)

unfoldable pub at_name : Bool → List ℕ → (parts : ℕ) → ℕ
at_name w x parts = cond (is_long x) 7 (cond w 9 (at_part parts))

abbrev pub is_outside : ℤ → Bool
is_outside z = lt_z z least_number || lt_z most_number z

unfoldable pub at_number : Bool → ℤ → (parts : ℕ) → ℕ
at_number w z parts = cond (is_outside z) 6 (cond w 9 (at_part parts))

-- where a token of one kind is due
unfoldable pub at_mark : ℕ → List Located → ℕ
at_mark k rest = cond (is_at k rest) 0 5

-- the name that a let or a lambda binds
unfoldable pub at_binder : List Located → ℕ
at_binder rest = cond (is_at word_kind rest) (cond (is_long (head_word rest)) 7 (cond (is_data (head_word rest)) 8 0)) 5

unfoldable pub at_member : List Located → ℕ
at_member rest = cond (is_at word_kind rest) (cond (is_unknown (member_of (head_word rest))) 9 0) 5

unfoldable pub at_call_open : (marks : ℕ) → List Located → ℕ
at_call_open marks rest = cond (is_at open_kind rest) (cond (leb open_marks marks) 12 0) 5

-- a ) or a comma where so many arguments are still to come
unfoldable pub at_shut : ℕ → ℕ
at_shut more = cond (leb 1 more) 9 0

unfoldable pub at_comma : ℕ → ℕ
at_comma more = cond (eqb more 0) 9 0

-- the tokens left; how many parts and records there are; the record of the expression last read; the packed name read last or the kind
-- of the member read last, and how many arguments that takes; the refusal's number, 0 for none, and its place
pub record Cursor : Type 0 where
  pub rest : List Located
  pub parts : ℕ
  pub count : ℕ
  pub root : ℕ
  pub name : ℕ
  pub takes : ℕ
  pub number : ℕ
  pub place : ℕ

unfoldable pub pass : Cursor → Cursor
pass c = record { rest = behind_head c.rest; parts = c.parts; count = c.count; root = c.root; name = c.name; takes = c.takes; number = c.number; place = c.place }

-- a token that is a part
unfoldable pub pass_part : Cursor → Cursor
pass_part c = record { rest = behind_head c.rest; parts = suc c.parts; count = c.count; root = c.root; name = c.name; takes = c.takes; number = c.number; place = c.place }

-- a name that is bound; a member's name
unfoldable pub pass_name : Cursor → Cursor
pass_name c =
    record { rest = behind_head c.rest; parts = c.parts; count = c.count; root = c.root; name = packed (head_word c.rest); takes = c.takes; number = c.number; place = c.place }

unfoldable pub pass_member : Cursor → Cursor
pass_member c =
    record {
      rest = behind_head c.rest;
      parts = c.parts;
      count = c.count;
      root = c.root;
      name = member_kind (member (head_word c.rest));
      takes = takes (member_of (head_word c.rest));
      number = c.number;
      place = c.place;
    }

module _ (end : ℕ) where
  unfoldable pub refuse : ℕ → Cursor → Cursor
  refuse n c = record { rest = c.rest; parts = c.parts; count = c.count; root = c.root; name = c.name; takes = c.takes; number = n; place = head_place end c.rest }

  -- the token at the front is refused by a number other than 0, or passed
  unfoldable pub judge : ℕ → Cursor → (Unit {0} → Cursor) → Cursor
  judge n c d = when (eqb n 0) d (λ _. refuse n c)

  unfoldable pub next : Cursor → (Cursor → Cursor) → Cursor
  next c k = when (eqb c.number 0) (λ _. k c) (λ _. c)

  unfoldable pub need : ℕ → Cursor → Cursor
  need k c = judge (at_mark k c.rest) c (λ _. pass c)

  -- let name =
  unfoldable pub let_head : Bool → ℕ → Cursor → Cursor
  let_head w marks c =
      next (judge (at_let w marks c.parts) c (λ _. pass_part c)) (λ a.
      next (judge (at_binder a.rest) a (λ _. pass_name a)) (λ b.
      need equals_kind b))

  -- \ name ->
  unfoldable pub lambda_head : Bool → ℕ → ℕ → List ℕ → Cursor → Cursor
  lambda_head w marks depth scope c =
      next (judge (at_lambda w (lambdas_in scope depth) marks c.parts) c (λ _. pass_part c)) (λ a.
      next (judge (at_binder a.rest) a (λ _. pass_name a)) (λ b.
      need arrow_kind b))

  -- . member (
  unfoldable pub call_head : ℕ → Cursor → Cursor
  call_head marks c =
      next (judge (at_part c.parts) c (λ _. pass_part c)) (λ a.
      next (judge (at_member a.rest) a (λ _. pass_member a)) (λ b.
      judge (at_call_open marks b.rest) b (λ _. pass b)))
