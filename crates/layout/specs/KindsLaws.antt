-- The member of a kind: below the members' kinds and above them there is none, and each member is found by its own. Assumes nothing.
use Rattle.std.specs.Prelude.{Option, Some, None}
use Rattle.std.specs.Prelude.{◌≡◌}
use Rattle.std.proofs.Math.Path.{refl}
use Rattle.std.proofs.Common.{sym, arith, lt-ltb, le-ltb}
use mathlib.Core.List.{List, [], ◌∷◌}
use Prim.Native.Nat.{ℕ, zero, suc, ◌-◌, ◌≤◌, ◌<◌}
use Rattle.std.proofs.Math.ListN.{length}
use Rattle.members.specs.Members.{member_at, member_number, members}
use Rattle.members.specs.MembersLaws.{found_in, number-found}
use Rattle.members.specs.declared.Member.{Member}
use Rattle.layout.specs.Nodes.{first_member, member_kind, kind_count, member_of_kind}

module _ (k : ℕ) where
  pub member-low : k < first_member → None ≡ member_of_kind k
  unfolding member_of_kind
  member-low h = rw (lt-ltb k first_member h)

  pub member_is : (f : Option Member) → f ≡ member_at (k - first_member) → first_member ≤ k → f ≡ member_of_kind k
  unfolding member_of_kind
  member_is f e h = rw (le-ltb k first_member h) e

  pub member-high : kind_count ≤ k → None ≡ member_of_kind k
  unfolding member_of_kind member_at
  member-high h = rw (le-ltb k first_member (omega arith)) (sym (past members (k - first_member) (omega arith)))
    where
      past : (ms : List Member) (n : ℕ) → length ms ≤ n → found_in ms n ≡ None
      past [] n h = refl
      past (m ∷ ms) zero h = absurd (omega arith)
      past (m ∷ ms) (suc n) h = past ms n (omega arith)

pub member-found : (m : Member) → member_of_kind (member_kind m) ≡ Some m
unfolding member_of_kind member_at
member-found m =
    let q : member_kind m - first_member ≡ member_number m = omega arith in
    rw (le-ltb (member_kind m) first_member (omega arith), q) (number-found m)

pub ruleset kinds = (member-low, member_is, member-high)
