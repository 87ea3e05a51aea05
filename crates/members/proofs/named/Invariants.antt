-- The search among the rows that are left finds what the search among all finds. Assumes nothing.
use Rattle.std.proofs.Common.{◌≡◌, drop}
use Rattle.members.specs.Members.{members, named_in, member_of}
use Rattle.members.proofs.named.Given as goal

abbrev pub invariant-loop-n : goal.invariant-loop-n
invariant-loop-n l = named_in (drop l.n members) l.word ≡ member_of l.word
