-- 01, "Binding": the kinds of entries, their dependencies, and the form that an entry stands for. Assumes nothing: these are definitions.
use Rattle.std.specs.Prelude.{Option, None}
use Rattle.std.specs.Prelude.{Bool, false, cond, not, ◌&&◌, ◌||◌, List, [], ◌∷◌, ℕ, zero, suc, ◌+◌, ◌-◌, ◌/◌, ◌%◌, ltb, leb, eqb, ℤ, pos, ◌-ℤ◌, length}
use Rattle.language.specs.Limits.{name_bytes}
use Rattle.language.specs.Names.{is_letter, in_word, byte_base, packed, let_word, word_in, data_word}
use Rattle.members.specs.Members.{arguments, if_member, members, member_at, member_number}
use Rattle.members.specs.declared.Member.{Member}
use Rattle.meaning.specs.Forms.{Form, with_level, number, variable, unbound, readings, ask, call, function}
use Rattle.layout.specs.Memory.{Node}

-- kinds: 0 number, 1 lambda variable, 2 unbound name, 3 the recording, 4 function, and from 5 on the members by their numbers
abbrev pub number_kind : ℕ
number_kind = 0

abbrev pub variable_kind : ℕ
variable_kind = 1

abbrev pub unbound_kind : ℕ
unbound_kind = 2

abbrev pub readings_kind : ℕ
readings_kind = 3

abbrev pub function_kind : ℕ
function_kind = 4

abbrev pub first_member : ℕ
first_member = 5

abbrev pub member_kind : Member → ℕ
member_kind m = first_member + member_number m

-- the first number that is no kind
abbrev pub kind_count : ℕ
kind_count = first_member + length members

-- the member of a kind, if it is one
unfoldable pub member_of_kind : ℕ → Option Member
member_of_kind k = cond (ltb k first_member) None (member_at (k - first_member))

-- receiver first, and then the arguments
abbrev pub member_arity : Option Member → ℕ
member_arity f = if_member 0 f (λ m. suc (arguments m))

-- how many dependencies an entry of the kind has
unfoldable pub arity : ℕ → ℕ
arity k = cond (eqb k function_kind) 1 (member_arity (member_of_kind k))

-- members and functions are worked out by previews; the other kinds are from the start
abbrev pub works_kind : ℕ → Bool
works_kind k = leb function_kind k

-- the first so many links, as numbers
abbrev pub listed : ℕ → Node → List ℕ
listed zero n = []
listed (suc zero) n = (n.first - 1) ∷ []
listed (suc (suc k)) n = (n.first - 1) ∷ (n.second - 1) ∷ []

-- the numbers of an entry's dependencies
unfoldable pub kids : Node → List ℕ
kids n = listed (arity n.kind) n

-- one entry is another: all pieces are equal
unfoldable pub same_node : Node → Node → Bool
same_node a b =
    eqb a.kind b.kind
    && (eqb a.key b.key && (eqb a.first b.first && (eqb a.second b.second && eqb a.level b.level)))

-- a number is kept as itself plus 2^31
abbrev pub number_of_key : ℕ → ℤ
number_of_key key = pos key -ℤ pos 2147483648

-- a member with its dependencies, receiver first
abbrev pub member_form : Option Member → Form → Form → Form
member_form found f a = if_member readings found (λ m. cond (eqb (arguments m) 0) (ask m f) (call m f a))

-- 02, T-05: the variable of a lambda variable's or a function's entry, its name with its level
abbrev pub variable_in : Node → ℕ
variable_in n = with_level n.key n.level

-- the form of an entry, from the forms of its dependencies by number
unfoldable pub build : Node → (ℕ → Form) → Form
build n φ =
    cond (eqb n.kind number_kind) (number (number_of_key n.key))
    (cond (eqb n.kind variable_kind) (variable (variable_in n))
    (cond (eqb n.kind unbound_kind) (unbound n.key)
    (cond (eqb n.kind readings_kind) readings
    (cond (eqb n.kind function_kind) (function (variable_in n) (φ (n.first - 1)))
    (member_form (member_of_kind n.kind) (φ (n.first - 1)) (φ (n.second - 1)))))))

-- a number that is a packed name: a letter, then letters and digits, at most so many bytes in all
unfoldable pub word_number : ℕ → ℕ → Bool
word_number zero k = false
word_number (suc n) k = cond (ltb k byte_base) (is_letter k) (in_word (k % byte_base) && word_number n (k / byte_base))

-- a name is no let, in or data
unfoldable pub is_name : ℕ → Bool
is_name k = word_number name_bytes k && not (eqb k (packed let_word) || (eqb k (packed word_in) || eqb k (packed data_word)))
