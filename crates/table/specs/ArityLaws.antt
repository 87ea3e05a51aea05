-- How many dependencies an entry has: two at most, and a right node's links are given or 0 as its kind says. Assumes nothing.
use Rattle.std.specs.Prelude.{Option, Some, None}
use Rattle.members.specs.declared.Member.{Member}
use Rattle.std.specs.Prelude.{◌≡◌, true, ℕ, ◌≤◌, ◌<◌, leb, eqb}
use Rattle.std.proofs.Math.Bool.{and-eq-true_iff}
use Rattle.std.proofs.Common.{arith}
use borrow.Author.Tests.{eqb-true, eq-eqb, ne_eqb, lt-ltb}
use Rattle.language.specs.Cases.{split}
use Rattle.members.specs.MembersLaws.{few-arguments}
use Rattle.layout.specs.Memory.{Node}
use Rattle.layout.specs.Nodes.{function_kind, first_member, member_of_kind, member_arity, arity}
use Rattle.table.specs.WellFormed.{arity_right}
use Rattle.table.specs.Right.{node_right}
use Rattle.table.specs.RightLaws.{right-arity, second-given}

pub arity-few : (k : ℕ) → arity k ≤ 2
unfolding arity
arity-few k = split (eqb k function_kind) (λ p. rw p (omega arith)) (λ p. rw p (by (member_of_kind k)))
  where
    by : (f : Option Member) → member_arity f ≤ 2
    by (Some m) = omega (arith, few-arguments m)
    by None = omega arith

pub function-arity : (k : ℕ) → k ≡ function_kind → arity k ≡ 1
unfolding arity
function-arity k e = rw (eq-eqb k function_kind e)

pub leaf-arity : (k : ℕ) → k < function_kind → arity k ≡ 0
unfolding arity member_of_kind
leaf-arity k h = rw (ne_eqb k function_kind (λ e. omega arith), lt-ltb k first_member (omega arith))

module _ (i : ℕ) (n : Node) (r : node_right i n ≡ true) where
  pub no-links : arity n.kind ≡ 0 → (n.first ≡ 0) × (n.second ≡ 0)
  unfolding arity_right
  no-links e =
      let w = rw (eq-eqb (arity n.kind) 0 e) at (right-arity i n r) in
      (eqb-true n.first 0 ((and-eq-true_iff _ _).0 w).0, eqb-true n.second 0 ((and-eq-true_iff (eqb n.first 0) _).0 w).1)

  pub no_second : arity n.kind ≡ 1 → n.second ≡ 0
  unfolding arity_right
  no_second e =
      eqb-true n.second 0 ((and-eq-true_iff (leb 1 n.first) _).0
      (rw (ne_eqb (arity n.kind) 0 (λ q. omega arith), eq-eqb (arity n.kind) 1 e) at (right-arity i n r))).1

  pub a_second : 2 ≤ arity n.kind → 1 ≤ n.second
  a_second h = second-given i n r (omega (arith, arity-few n.kind))
