-- 01, "The text" and "When a call is declined": what is at fault at a token of a tree, refusals 6 to 12.
-- Each token of a tree has a note: the lowest refusal that applies there, and whether the token is a part.
-- Assumes nothing: these are definitions.
use Rattle.std.specs.Prelude.{◌≡◌, Bool, true, false, ◌&&◌, ◌||◌, cond, List, [], ◌∷◌, ℕ, zero, suc, ◌-◌, leb, eqb, ℤ}
use Rattle.std.specs.Int.Signed.{lt_z}
use Rattle.language.specs.Limits.{text_parts, open_marks, open_lambdas, least_number, most_number}
use Rattle.language.specs.Names.{is_long, is_data}
use Rattle.members.specs.Members.{member_of, is_unknown, takes}
use Rattle.grammar.specs.Grammar.{Expression, Calls, Arguments, More, let_in, lambda, name, literal, bracket, done, call, none, first, last, next}

-- the refusals that a token can meet, apart from 5, which is the grammar's
pub data Fault : Type 0 where
  fine out_of_range long_name data_bound bad_call many_lambdas too_many : Fault

-- 01, "When a call is declined": their numbers, 0 for no fault. None has number 11: an inner lambda hides an outer one of its name (02, T-05)
unfoldable pub fault_number : Fault → ℕ
fault_number fine = 0
fault_number out_of_range = 6
fault_number long_name = 7
fault_number data_bound = 8
fault_number bad_call = 9
fault_number many_lambdas = 10
fault_number too_many = 12

-- where an expression stands: how many of let, \ and ( are open, and how many of \
pub record Around : Type 0 where
  pub marks : ℕ
  pub lambdas : ℕ

abbrev pub outermost : Around
outermost = record { marks = 0; lambdas = 0 }

unfoldable pub opened : Around → Around
opened d = record { marks = suc d.marks; lambdas = d.lambdas }

unfoldable pub in_lambda : Around → Around
in_lambda d = record { marks = suc d.marks; lambdas = suc d.lambdas }

-- the faults of single tokens; refused: an expression begins where a member takes no argument
abbrev pub deep : Around → Fault
deep d = cond (leb open_marks d.marks) too_many fine

unfoldable pub mark_fault : Bool → Around → Fault
mark_fault refused d = cond refused bad_call (deep d)

unfoldable pub lambda_fault : Bool → Around → Fault
lambda_fault refused d = cond refused bad_call (cond (leb open_lambdas d.lambdas) many_lambdas (deep d))

-- the name that a let or a lambda binds
unfoldable pub binder_fault : List ℕ → Fault
binder_fault x = cond (is_long x) long_name (cond (is_data x) data_bound fine)

unfoldable pub name_fault : Bool → List ℕ → Fault
name_fault refused x = cond (is_long x) long_name (cond refused bad_call fine)

unfoldable pub literal_fault : Bool → ℤ → Fault
literal_fault refused z = cond (lt_z z least_number || lt_z most_number z) out_of_range (cond refused bad_call fine)

unfoldable pub call_fault : Bool → Fault
call_fault wrong = cond wrong bad_call fine

-- a token's note: its fault, and whether it is a part
pub data Note : Type 0 where
  note : Fault → Bool → Note

abbrev pub plain : Note
plain = note fine false

-- the notes of a tree's tokens, at d, and then u
unfoldable mutual
  pub notes_e : Expression → Bool → Around → List Note → List Note
  notes_e (let_in x a b) w d u = note (mark_fault w d) true ∷ note (binder_fault x) false ∷ plain ∷ notes_e a false (opened d) (plain ∷ notes_e b false (opened d) u)
  notes_e (lambda x b) w d u = note (lambda_fault w d) true ∷ note (binder_fault x) false ∷ plain ∷ notes_e b false (in_lambda d) u
  notes_e (name x r) w d u = note (name_fault w x) true ∷ notes_c r d u
  notes_e (literal z r) w d u = note (literal_fault w z) true ∷ notes_c r d u
  notes_e (bracket e r) w d u = note (mark_fault w d) false ∷ notes_e e false (opened d) (plain ∷ notes_c r d u)

  pub notes_c : Calls → Around → List Note → List Note
  notes_c done d u = u
  notes_c (call m a) d u = note fine true ∷ note (call_fault (is_unknown (member_of m))) false ∷ note (deep d) false ∷ notes_a a (takes (member_of m)) d u

  -- k arguments are still to come
  pub notes_a : Arguments → ℕ → Around → List Note → List Note
  notes_a (none r) k d u = note (call_fault (leb 1 k)) false ∷ notes_c r d u
  notes_a (first e x) k d u = notes_e e (eqb k 0) (opened d) (notes_m x (k - 1) d u)

  pub notes_m : More → ℕ → Around → List Note → List Note
  notes_m (last r) k d u = note (call_fault (leb 1 k)) false ∷ notes_c r d u
  notes_m (next e x) k d u = note (call_fault (eqb k 0)) false ∷ notes_e e false (opened d) (notes_m x (k - 1) d u)

-- the refusal at a token behind c parts, 0 for none: a 129th part is refusal 12, the highest number
abbrev pub or_many : ℕ → Bool → ℕ
or_many (suc n) b = suc n
or_many zero true = 12
or_many zero false = 0

unfoldable pub fault : ℕ → Note → ℕ
fault c (note f p) = or_many (fault_number f) (p && leb text_parts c)

-- the parts up to this token
unfoldable pub counted : ℕ → Note → ℕ
counted c (note f true) = suc c
counted c (note f false) = c

-- of each token
unfoldable pub faults : ℕ → List Note → List ℕ
faults c [] = []
faults c (n ∷ ns) = fault c n ∷ faults (counted c n) ns

-- the refusals of a tree's tokens, in their order
abbrev pub faults_of : Expression → List ℕ
faults_of e = faults 0 (notes_e e false outermost [])

-- none of them is a refusal
abbrev pub Clean : List ℕ → Type 0
Clean [] = Unit {0}
Clean (n ∷ ns) = (n ≡ 0) × Clean ns
