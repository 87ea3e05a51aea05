-- 01, "The text" and refusals 6 to 12: the limits of a tree in plain words, with no order of refusals and no tokens.
-- A tree keeps them exactly where faults_of finds no fault: that is in KeptLimitsLaws.
-- Assumes nothing: these are definitions.
use Rattle.std.specs.Prelude.{◌≡◌, false, List, ℕ, suc, ◌+◌, ◌<◌, ◌≤◌, ℤ, length, ◌≤ℤ◌}
use Rattle.language.specs.Limits.{text_parts, open_marks, open_lambdas, name_bytes, least_number, most_number}
use Rattle.language.specs.Names.{packed, data_word}
use Rattle.members.specs.Members.{member_of, is_unknown, takes}
use Rattle.grammar.specs.Grammar.{Expression, Calls, Arguments, More, let_in, lambda, name, literal, bracket, done, call, none, first, last, next}
use Rattle.grammar.specs.Faults.{Around, outermost, opened, in_lambda}

-- 01: a part is each let, \, ., name in use, and number; brackets make none
unfoldable mutual
  pub parts_e : Expression → ℕ
  parts_e (let_in x a b) = suc (parts_e a + parts_e b)
  parts_e (lambda x b) = suc (parts_e b)
  parts_e (name x r) = suc (parts_c r)
  parts_e (literal z r) = suc (parts_c r)
  parts_e (bracket e r) = parts_e e + parts_c r

  pub parts_c : Calls → ℕ
  parts_c done = 0
  parts_c (call m a) = suc (parts_a a)

  pub parts_a : Arguments → ℕ
  parts_a (none r) = parts_c r
  parts_a (first e x) = parts_e e + parts_m x

  pub parts_m : More → ℕ
  parts_m (last r) = parts_c r
  parts_m (next e x) = parts_e e + parts_m x

-- how many arguments a call is given
unfoldable pub given_m : More → ℕ
given_m (last r) = 0
given_m (next e x) = suc (given_m x)

unfoldable pub given_a : Arguments → ℕ
unfolding given_m
given_a (none r) = 0
given_a (first e x) = suc (given_m x)

-- what is limited in a tree: a let, a lambda, brackets, a name in use, a number, a call of a member with so many arguments
pub data Site : Type 0 where
  a_let : List ℕ → Site
  a_lambda : List ℕ → Site
  a_bracket : Site
  a_name : List ℕ → Site
  a_number : ℤ → Site
  a_call : List ℕ → ℕ → Site

-- P holds of every site of a tree, with what is around it
module _ (P : Site → Around → Type 0) where
  abbrev mutual
    pub EverywhereE : Expression → Around → Type 0
    EverywhereE (let_in x a b) d = P (a_let x) d × EverywhereE a (opened d) × EverywhereE b (opened d)
    EverywhereE (lambda x b) d = P (a_lambda x) d × EverywhereE b (in_lambda d)
    EverywhereE (name x r) d = P (a_name x) d × EverywhereC r d
    EverywhereE (literal z r) d = P (a_number z) d × EverywhereC r d
    EverywhereE (bracket e r) d = P a_bracket d × EverywhereE e (opened d) × EverywhereC r d

    pub EverywhereC : Calls → Around → Type 0
    EverywhereC done d = Unit {0}
    EverywhereC (call m a) d = P (a_call m (given_a a)) d × EverywhereA a d

    pub EverywhereA : Arguments → Around → Type 0
    EverywhereA (none r) d = EverywhereC r d
    EverywhereA (first e x) d = EverywhereE e (opened d) × EverywhereM x d

    pub EverywhereM : More → Around → Type 0
    EverywhereM (last r) d = EverywhereC r d
    EverywhereM (next e x) d = EverywhereE e (opened d) × EverywhereM x d

-- data is not bound
abbrev pub NotData : List ℕ → Type 0
NotData x = ¬ (packed x ≡ packed data_word)

-- numbers are signed 32-bit
abbrev pub InRange : ℤ → Type 0
InRange z = (least_number ≤ℤ z) × (z ≤ℤ most_number)

-- The table of limits. At most 16 of let, \ and ( are open at a point, and at most 2 of \: where one opens, fewer are. Names have at most 8
-- bytes. Each member is known, and is given as many arguments as it takes.
abbrev pub Limited : Site → Around → Type 0
Limited (a_let x) d = (d.marks < open_marks) × ((length x ≤ name_bytes) × NotData x)
Limited (a_lambda x) d = ((d.lambdas < open_lambdas) × (d.marks < open_marks)) × ((length x ≤ name_bytes) × NotData x)
Limited a_bracket d = d.marks < open_marks
Limited (a_name x) d = length x ≤ name_bytes
Limited (a_number z) d = InRange z
Limited (a_call m n) d = ((is_unknown (member_of m) ≡ false) × (n ≡ takes (member_of m))) × (d.marks < open_marks)

-- of a whole tree; a text has at most 128 parts
pub record KeepsLimits (e : Expression) : Type 0 where
  pub sites : EverywhereE Limited e outermost
  pub parts : parts_e e ≤ text_parts
