-- The paths of members on packed values: the member of the kind is the one that is found. Assumes nothing.
use Rattle.std.specs.Prelude.{Some}
use mathlib.Core.Path.{◌≡◌, ap, ◌∙◌}
use mathlib.Core.Bool.{true, ◌&&◌}
use mathlib.Core.List.{List}
use Prim.Native.Nat.{ℕ, ◌<◌}
use borrow.Author.Rules.{rules}
use lib.Dec.{ltb}
use lib.IntN.{ℤ}
use Rattle.members.specs.declared.Member.{Member}
use Rattle.rules.specs.declared.Value.{Value}
use Rattle.values.specs.declared.apply.Applied.{Applied}
use Rattle.values.specs.declared.apply.Applied.TheVariants.{Done}
use Rattle.values.specs.Applied.{applied1}
use Rattle.values.specs.Keepable.{Bounded}
use Rattle.values.specs.Packing.{unpack_of, window_cell}
use Rattle.layout.specs.Nodes.{member_kind, member_of_kind}
use Rattle.layout.specs.KindsLaws.{member-found}
use Rattle.columns.specs.Calling.{call_of}
use Rattle.columns.proofs.Calls.{bounded-is, both-numbers}

-- what is said of the member that a kind has, is said of the member whose kind it is
pub of-kind : (kind : ℕ) (P : Member → Type 0) → ((m : Member) → member_of_kind kind ≡ Some m → P m) → (m : Member) → kind ≡ member_kind m → P m
of-kind kind P h m k = h m (ap member_of_kind k ∙ member-found m)

pub call-is : (kind : ℕ) (xs : List ℤ) (a b : ℕ) (x : Applied) → Bounded (unpack_of a) → x ≡ call_of (member_of_kind kind) xs a b
    → (m : Member) → kind ≡ member_kind m → x ≡ applied1 m xs (unpack_of a) (unpack_of b)
unfolding call_of
call-is kind xs a b x h e m k =
    let f : member_of_kind kind ≡ Some m = ap member_of_kind k ∙ member-found m in
    e ∙ rw (f, bounded-is (unpack_of a) h)

pub numbers-is : (kind : ℕ) (xs : List ℤ) (a b : ℕ) (v : Value) → Bounded (unpack_of a) → (ltb a window_cell && ltb b window_cell) ≡ true
    → ((ys : List ℤ) → a < window_cell → b < window_cell → Done v ≡ call_of (member_of_kind kind) ys a b)
    → (m : Member) → kind ≡ member_kind m → Done v ≡ applied1 m xs (unpack_of a) (unpack_of b)
numbers-is kind xs a b v h t e = let low = both-numbers a b t in call-is kind xs a b (Done v) h (e xs low.0 low.1)

pub ruleset applying = (rules, call-is, numbers-is)
