-- Nodes by their kinds: a right node has what its kind has, and nothing else, and the form that it builds goes by that. Assumes nothing.
use Rattle.std.specs.Prelude.{Some}
use Rattle.std.specs.Prelude.{◌≡◌, Bool, true, false, ◌&&◌, List, [], ◌∷◌, eqb, length}
use Rattle.std.proofs.Math.Path.{refl}
use Rattle.std.proofs.Common.{sym, ◌∙◌, subst, arith}
use Rattle.std.proofs.Math.Bool.{and-eq-true_iff}
use Prim.Native.Nat.{ℕ, zero, suc, ◌+◌, ◌-◌, ◌≤◌, ◌<◌}
use borrow.Author.Tests.{eqb-true, eqb-false, ne_eqb, ltb-true, le-ltb}
use Rattle.language.specs.Cases.{split}
use Rattle.members.specs.Members.{arguments, members, member_number, member_at}
use Rattle.members.specs.MembersLaws.{found_in, none_of, few-arguments}
use Rattle.members.specs.declared.Member.{Member}
use Rattle.meaning.specs.Forms.{Form, with_level, number, variable, unbound, readings, ask, call, function}
use Rattle.layout.specs.Memory.{Node, node_with, node}
use Rattle.layout.specs.KindsLaws.{member-found}
use Rattle.layout.specs.Nodes.{number_kind, variable_kind, unbound_kind, readings_kind, function_kind, first_member, member_kind, kind_count}
use Rattle.layout.specs.Nodes.{member_of_kind, member_form, arity, number_of_key, build}
use Rattle.table.specs.WellFormed.{key_right}
use Rattle.table.specs.Right.{node_right}
use Rattle.table.specs.RightLaws.{right-kind, right_key, level-low, no-level, first-given}
use Rattle.table.specs.ArityLaws.{function-arity, leaf-arity, no-links, no_second, a_second}

-- nodes as they stand in tables: what each kind has, and nothing else
pub data Fine : Node → Type 0 where
  a_number : (key : ℕ) → Fine (node number_kind key 0 0)
  a_variable : (x k : ℕ) → k < 2 → Fine (node_with variable_kind x 0 0 k)
  an_unbound : (x : ℕ) → Fine (node unbound_kind x 0 0)
  the_readings : Fine (node readings_kind 0 0 0)
  a_function : (x b k : ℕ) → k < 2 → Fine (node_with function_kind x (suc b) 0 k)
  an_ask : (m : Member) (f : ℕ) → arguments m ≡ 0 → Fine (node (member_kind m) 0 (suc f) 0)
  a_call : (m : Member) (f a : ℕ) → arguments m ≡ 1 → Fine (node (member_kind m) 0 (suc f) (suc a))

pub fine-low : {q : Node} → Fine q → q.level < 2
fine-low (a_number _) = omega arith
fine-low (a_variable _ _ l) = l
fine-low (an_unbound _) = omega arith
fine-low the_readings = omega arith
fine-low (a_function _ _ _ l) = l
fine-low (an_ask _ _ _) = omega arith
fine-low (a_call _ _ _ _) = omega arith

-- ---- the members' kinds are told apart from the others, and stand for their members
pub less_one : (n : ℕ) → suc n - 1 ≡ n
less_one n = omega arith

pub not-member : (m : Member) (k : ℕ) → k < first_member → eqb (member_kind m) k ≡ false
not-member m k h = ne_eqb (member_kind m) k (λ e. omega arith)

pub member-arity : (m : Member) → arity (member_kind m) ≡ suc (arguments m)
unfolding arity
member-arity m = rw (not-member m function_kind (omega arith), member-found m)

build-member : (m : Member) (f a : ℕ) (φ : ℕ → Form) → build (node (member_kind m) 0 f a) φ ≡ member_form (Some m) (φ (f - 1)) (φ (a - 1))
unfolding build
build-member m f a φ =
    let no = not-member m in
    rw (
      no number_kind (omega arith),
      no variable_kind (omega arith),
      no unbound_kind (omega arith),
      no readings_kind (omega arith),
      no function_kind (omega arith),
      member-found m,
    )

build-ask : (m : Member) (f : ℕ) (φ : ℕ → Form) → arguments m ≡ 0 → build (node (member_kind m) 0 (suc f) 0) φ ≡ ask m (φ f)
build-ask m f φ e = build-member m (suc f) 0 φ ∙ rw (e, less_one f)

build-call : (m : Member) (f a : ℕ) (φ : ℕ → Form) → arguments m ≡ 1 → build (node (member_kind m) 0 (suc f) (suc a)) φ ≡ call m (φ f) (φ a)
build-call m f a φ e = build-member m (suc f) (suc a) φ ∙ rw (e, less_one f, less_one a)

-- ---- the form that a node stands for, by its kind
abbrev pub node_form : {q : Node} → Fine q → (ℕ → Form) → Form
node_form (a_number key) φ = number (number_of_key key)
node_form (a_variable x k _) φ = variable (with_level x k)
node_form (an_unbound x) φ = unbound x
node_form the_readings φ = readings
node_form (a_function x b k _) φ = function (with_level x k) (φ b)
node_form (an_ask m f _) φ = ask m (φ f)
node_form (a_call m f a _) φ = call m (φ f) (φ a)

pub build-fine : {q : Node} (k : Fine q) (φ : ℕ → Form) → build q φ ≡ node_form k φ
unfolding build
build-fine (a_number key) φ = refl
build-fine (a_variable x k _) φ = refl
build-fine (an_unbound x) φ = refl
build-fine the_readings φ = refl
build-fine (a_function x b k _) φ = rw (less_one b)
build-fine (an_ask m f e) φ = build-ask m f φ e
build-fine (a_call m f a e) φ = build-call m f a φ e

-- ---- the member of a kind
record Numbered (ms : List Member) (j n : ℕ) : Type 0 where
  member : Member
  is : found_in ms n ≡ Some member
  number : member_number member ≡ j + n

-- the members' numbers rise from j on
abbrev in_order : ℕ → List Member → Bool
in_order j [] = true
in_order j (m ∷ ms) = eqb (member_number m) j && in_order (suc j) ms

numbered : (ms : List Member) (j n : ℕ) → in_order j ms ≡ true → n < length ms → Numbered ms j n
numbered [] j n e h = absurd (omega arith)
numbered (m ∷ ms) j zero e h = record { member = m; is = refl; number = omega (arith, eqb-true (member_number m) j ((and-eq-true_iff _ _).0 e).0) }
numbered (m ∷ ms) j (suc n) e h =
    let w = numbered ms (suc j) n ((and-eq-true_iff (eqb (member_number m) j) _).0 e).1 (omega arith) in
    record { member = w.member; is = w.is; number = omega (arith, w.number) }

record OfKind (k : ℕ) : Type 0 where
  member : Member
  is : member_of_kind k ≡ Some member
  kind : k ≡ member_kind member

of-kind : (k : ℕ) → first_member ≤ k → k < kind_count → OfKind k
unfolding member_of_kind member_at
of-kind k l h =
    let w = numbered members 0 (k - first_member) refl (omega arith) in
    record { member = w.member; is = rw (le-ltb k first_member l) w.is; kind = omega (arith, w.number) }

-- ---- a right node
module _ (i : ℕ) (n : Node) (r : node_right i n ≡ true) where
  abbrev k : ℕ
  k = n.kind

  made : (k key f s v : ℕ) → n.kind ≡ k → n.key ≡ key → n.first ≡ f → n.second ≡ s → n.level ≡ v → Fine (node_with k key f s v) → Fine n
  made k key f s v a b c d e x = subst Fine (λ t. record { kind = sym a t; key = sym b t; first = sym c t; second = sym d t; level = sym e t }) x

  leaf : (x key v : ℕ) → x < function_kind → n.kind ≡ x → n.key ≡ key → n.level ≡ v → Fine (node_with x key 0 0 v) → Fine n
  leaf x key v h e y g f = let l = no-links i n r (leaf-arity k (omega arith)) in made x key 0 0 v e y l.0 l.1 g f

  -- a kind that has no level
  plain : eqb k variable_kind ≡ false → eqb k function_kind ≡ false → n.level ≡ 0
  plain p q = no-level i n r (rw (p, q))

  first-is : (arity k ≡ 0 → ⊥) → n.first ≡ suc (n.first - 1)
  first-is u = omega (arith, first-given i n r u)

  of-member : OfKind k → n.key ≡ 0 → Fine n
  unfolding arity
  of-member o z =
      let m = o.member in
      let a : arity k ≡ suc (arguments m) = rw (ne_eqb k function_kind (λ q. omega (arith, o.kind)), o.is) in
      let f = first-is (λ w. omega arith) in
      let l = plain (ne_eqb k variable_kind (λ q. omega (arith, o.kind))) (ne_eqb k function_kind (λ q. omega (arith, o.kind))) in
      split (eqb (arguments m) 0)
      (λ p.
      let q : arguments m ≡ 0 = eqb-true _ _ p in
      made (member_kind m) 0 (suc (n.first - 1)) 0 0 o.kind z f (no_second i n r (omega arith)) l (an_ask m (n.first - 1) q))
      (λ p.
      let q : arguments m ≡ 1 = omega (arith, eqb-false (arguments m) 0 p, few-arguments m) in
      let s = a_second i n r (omega arith) in
      made (member_kind m) 0 (suc (n.first - 1)) (suc (n.second - 1)) 0 o.kind z f (omega arith) l (a_call m (n.first - 1) (n.second - 1) q))

  pub right-fine : Fine n
  unfolding key_right
  right-fine =
      split (eqb k variable_kind)
      (λ q. leaf variable_kind n.key n.level (omega arith) (eqb-true k variable_kind q) refl refl (a_variable n.key n.level (level-low i n r)))
      (λ q.
      split (eqb k function_kind)
      (λ w.
      let e = eqb-true k function_kind w in
      let a = function-arity k e in
      made function_kind n.key (suc (n.first - 1)) 0 n.level e refl (first-is (λ z. omega arith)) (no_second i n r a) refl
      (a_function n.key (n.first - 1) n.level (level-low i n r)))
      (λ w.
      let l = plain q w in
      split (eqb k number_kind) (λ p. leaf number_kind n.key 0 (omega arith) (eqb-true k number_kind p) refl l (a_number n.key))
      (λ p.
      split (eqb k unbound_kind) (λ u. leaf unbound_kind n.key 0 (omega arith) (eqb-true k unbound_kind u) refl l (an_unbound n.key))
      (λ u.
      split (eqb k readings_kind)
      (λ v. let e = eqb-true k readings_kind v in leaf readings_kind 0 0 (omega arith) e (eqb-true n.key 0 (rw e at (right_key i n r))) l the_readings)
      (λ v.
      let o = none_of first_member k (((((tt, eqb-false _ _ p), eqb-false _ _ q), eqb-false _ _ u), eqb-false _ _ v), eqb-false _ _ w) in
      of-member (of-kind k o (ltb-true k kind_count (right-kind i n r))) (eqb-true n.key 0 (rw (p, q, u, w) at (right_key i n r))))))))
