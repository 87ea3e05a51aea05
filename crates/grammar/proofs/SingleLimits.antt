-- The limits of KeptLimits one by one: what each site has to keep of a single limit. That a tree which keeps the limits keeps each of them is in
-- KeptLimitsLaws. Assumes nothing: these are definitions.
use Rattle.std.specs.Prelude.{◌≡◌, false, ◌<◌, ◌≤◌, length}
use Rattle.language.specs.Limits.{open_lambdas, name_bytes}
use Rattle.members.specs.Members.{member_of, is_unknown, takes}
use Rattle.grammar.specs.Grammar.{Expression}
use Rattle.grammar.specs.Faults.{Around, outermost}
use Rattle.grammar.specs.KeptLimits.{Site, a_let, a_lambda, a_bracket, a_name, a_number, a_call, EverywhereE, NotData, InRange}

-- at most 2 of \ are open
abbrev pub FewLambdas : Site → Around → Type 0
FewLambdas (a_let x) d = Unit {0}
FewLambdas (a_lambda x) d = d.lambdas < open_lambdas
FewLambdas a_bracket d = Unit {0}
FewLambdas (a_name x) d = Unit {0}
FewLambdas (a_number z) d = Unit {0}
FewLambdas (a_call m n) d = Unit {0}

-- names have at most 8 bytes
abbrev pub ShortNames : Site → Around → Type 0
ShortNames (a_let x) d = length x ≤ name_bytes
ShortNames (a_lambda x) d = length x ≤ name_bytes
ShortNames a_bracket d = Unit {0}
ShortNames (a_name x) d = length x ≤ name_bytes
ShortNames (a_number z) d = Unit {0}
ShortNames (a_call m n) d = Unit {0}

-- data is not bound
abbrev pub DataUnbound : Site → Around → Type 0
DataUnbound (a_let x) d = NotData x
DataUnbound (a_lambda x) d = NotData x
DataUnbound a_bracket d = Unit {0}
DataUnbound (a_name x) d = Unit {0}
DataUnbound (a_number z) d = Unit {0}
DataUnbound (a_call m n) d = Unit {0}

-- numbers are signed 32-bit
abbrev pub SmallNumbers : Site → Around → Type 0
SmallNumbers (a_let x) d = Unit {0}
SmallNumbers (a_lambda x) d = Unit {0}
SmallNumbers a_bracket d = Unit {0}
SmallNumbers (a_name x) d = Unit {0}
SmallNumbers (a_number z) d = InRange z
SmallNumbers (a_call m n) d = Unit {0}

-- each member is known, and is given as many arguments as it takes
abbrev pub RightCalls : Site → Around → Type 0
RightCalls (a_let x) d = Unit {0}
RightCalls (a_lambda x) d = Unit {0}
RightCalls a_bracket d = Unit {0}
RightCalls (a_name x) d = Unit {0}
RightCalls (a_number z) d = Unit {0}
RightCalls (a_call m n) d = (is_unknown (member_of m) ≡ false) × (n ≡ takes (member_of m))

pub record KeepsEach (e : Expression) : Type 0 where
  pub lambdas : EverywhereE FewLambdas e outermost
  pub names : EverywhereE ShortNames e outermost
  pub data_free : EverywhereE DataUnbound e outermost
  pub numbers : EverywhereE SmallNumbers e outermost
  pub members : EverywhereE RightCalls e outermost
