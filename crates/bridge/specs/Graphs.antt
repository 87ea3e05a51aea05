-- The table's nodes as the model's graph: a node with its dependencies' forms builds its form, and equal forms have equal nodes.
-- Assumes nothing.
use Rattle.std.specs.Prelude.{Option, Some, None}
use Rattle.std.proofs.lemmas.Bool.{false≢true, or_right}
use Rattle.std.specs.Prelude.{◌≡◌, refl, Bool, true, false, cond, List, [], ◌∷◌, ℕ, zero, suc, ◌-◌, eqb, pos, nat_abs}
use Rattle.std.proofs.Common.{sym, ap, ◌∙◌, subst, arith, eqb-true, eq-eqb}
use Rattle.std.proofs.Math.IntN.{ℤ, -ℤ-+ℤ_cancel}
use Rattle.members.specs.Members.{arguments}
use Rattle.members.specs.declared.Member.{Member}
use Rattle.language.specs.Cases.{split, either}
use Rattle.meaning.specs.Forms.{Form, name_in, level_in, number, variable, unbound, readings, ask, call, function, same, dependency, first_of, second_of}
use Rattle.meaning.proofs.FormsLaws.{name_back, level-back, same-eq, same_self}
use Rattle.model.specs.Lists.{member}
use Rattle.model.specs.ListLaws.{Equality}
use Rattle.model.specs.Graph.{among, Graph, GraphLaws}
use Rattle.layout.specs.Memory.{Node, node_with, node}
use Rattle.records.specs.Records.{number_key}
use Rattle.layout.specs.Nodes.{number_kind, variable_kind, unbound_kind, readings_kind, function_kind, member_kind}
use Rattle.layout.specs.Nodes.{member_of_kind, member_arity, member_form, arity, listed, kids, same_node, number_of_key, variable_in, build}
use Rattle.table.specs.ChainLaws.{same-equal, same_self as same-node}
use Rattle.table.specs.NodeKinds.{Fine, a_number, a_variable, an_unbound, the_readings, a_function, an_ask, a_call, less_one, member-arity, node_form, build-fine}
use Rattle.formulas.specs.Formulas.{formulas}

abbrev pub nodes : Graph formulas
nodes = record { Node = Node; Fine = Fine; same = same_node; links = kids; build = build; nowhere = readings }

pub equality : Equality same_node
equality = record { equal = same-equal; self = same-node }

-- the node of a form, from the numbers of its dependencies
unfoldable pub node_of : Form → ℕ → ℕ → Node
node_of (number z) i j = node number_kind (number_key z) 0 0
node_of (variable v) i j = node_with variable_kind (name_in v) 0 0 (level_in v)
node_of (unbound x) i j = node unbound_kind x 0 0
node_of readings i j = node readings_kind 0 0 0
node_of (ask m f) i j = node (member_kind m) 0 (suc i) 0
node_of (call m f a) i j = node (member_kind m) 0 (suc i) (suc j)
node_of (function v b) i j = node_with function_kind (name_in v) (suc i) 0 (level_in v)

-- the form has a first dependency, and a second
abbrev HasFirst : Form → Type 0
HasFirst (number z) = ⊥
HasFirst (variable x) = ⊥
HasFirst (unbound x) = ⊥
HasFirst readings = ⊥
HasFirst (ask m f) = Unit {0}
HasFirst (call m f a) = Unit {0}
HasFirst (function x b) = Unit {0}

abbrev HasSecond : Form → Type 0
HasSecond (number z) = ⊥
HasSecond (variable x) = ⊥
HasSecond (unbound x) = ⊥
HasSecond readings = ⊥
HasSecond (ask m f) = ⊥
HasSecond (call m f a) = Unit {0}
HasSecond (function x b) = ⊥

-- what is known of a node of form f: its dependencies' numbers
record Known (n : Node) (φ : ℕ → Form) (f : Form) : Type 0 where
  left : ℕ
  right : ℕ
  made : n ≡ node_of f left right
  first : HasFirst f → (among left (kids n) ≡ true) × (φ left ≡ first_of f)
  second : HasSecond f → (among right (kids n) ≡ true) × (φ right ≡ second_of f)

-- the dependencies of each kind
pub kids-function : (x b k : ℕ) → kids (node_with function_kind x (suc b) 0 k) ≡ b ∷ []
unfolding kids arity
kids-function x b k = rw (less_one b)

pub kids-ask : (m : Member) (f : ℕ) → arguments m ≡ 0 → kids (node (member_kind m) 0 (suc f) 0) ≡ f ∷ []
unfolding kids
kids-ask m f e = rw (member-arity m, e, less_one f)

pub kids-call : (m : Member) (f a : ℕ) → arguments m ≡ 1 → kids (node (member_kind m) 0 (suc f) (suc a)) ≡ f ∷ a ∷ []
unfolding kids
kids-call m f a e = rw (member-arity m, e, less_one f, less_one a)

pub among_first : (i : ℕ) (l : List ℕ) → among i (i ∷ l) ≡ true
unfolding member
among_first i l = rw (eq-eqb i i refl)

pub among_second : (i j : ℕ) → among j (i ∷ j ∷ []) ≡ true
unfolding member
among_second i j = split (eqb i j) (λ e. rw e) (λ e. rw (e, eq-eqb j j refl))

pub number-key : (key : ℕ) → number_key (number_of_key key) ≡ key
number-key key = ap nat_abs (-ℤ-+ℤ_cancel (pos key) (pos 2147483648))

known : {n : Node} (φ : ℕ → Form) (k : Fine n) → Known n φ (node_form k φ)
unfolding node_of first_of second_of
known φ (a_number key) = record { left = 0; right = 0; made = ap (λ (k : ℕ). node number_kind k 0 0) (sym (number-key key)); first = absurd; second = absurd }
known φ (a_variable x k low) =
    let p = name_back x k (omega arith) in
    let q = level-back x k (omega arith) in
    record { left = 0; right = 0; made = rw (p, q); first = absurd; second = absurd }
known φ (an_unbound x) = record { left = 0; right = 0; made = refl; first = absurd; second = absurd }
known φ the_readings = record { left = 0; right = 0; made = refl; first = absurd; second = absurd }
known φ (a_function x b k low) =
    let p = name_back x k (omega arith) in
    let q = level-back x k (omega arith) in
    record { left = b; right = 0; made = rw (p, q); first = λ u. (rw (kids-function x b k) (among_first b []), refl); second = absurd }
known φ (an_ask m f e) = record { left = f; right = 0; made = refl; first = λ u. (rw (kids-ask m f e) (among_first f []), refl); second = absurd }
known φ (a_call m f a e) =
    record {
      left = f;
      right = a;
      made = refl;
      first = λ u. (rw (kids-call m f a e) (among_first f (a ∷ [])), refl);
      second = λ u. (rw (kids-call m f a e) (among_second f a), refl);
    }

-- equal forms with equal numbers of dependencies: one node
same-made : (f : Form) (i j i' j' : ℕ) → (HasFirst f → i ≡ i') → (HasSecond f → j ≡ j') → node_of f i j ≡ node_of f i' j'
unfolding node_of
same-made (number z) i j i' j' p q = refl
same-made (variable x) i j i' j' p q = refl
same-made (unbound x) i j i' j' p q = refl
same-made readings i j i' j' p q = refl
same-made (ask m f) i j i' j' p q = rw (p tt)
same-made (call m f a) i j i' j' p q = rw (p tt, q tt)
same-made (function x b) i j i' j' p q = rw (p tt)

one-node : (n m : Node) (φ : ℕ → Form) → Fine n → Fine m → build n φ ≡ build m φ
    → ((i j : ℕ) → among i (kids n) ≡ true → among j (kids m) ≡ true → φ i ≡ φ j → i ≡ j) → n ≡ m
one-node n m φ fn fm e h =
    let N = known φ fn in
    let M = known φ fm in
    let q : node_form fn φ ≡ node_form fm φ = sym (build-fine fn φ) ∙ e ∙ build-fine fm φ in
    N.made
    ∙ same-made (node_form fn φ) N.left N.right M.left M.right
    (λ u. let a = N.first u in let b = M.first (rw q at u) in h N.left M.left a.0 b.0 (a.1 ∙ ap first_of q ∙ sym b.1))
    (λ u. let a = N.second u in let b = M.second (rw q at u) in h N.right M.right a.0 b.0 (a.1 ∙ ap second_of q ∙ sym b.1))
    ∙ ap (λ (f : Form). node_of f M.left M.right) q
    ∙ sym M.made

-- the dependencies of the form are those of the node
each_of : (n : Node) (φ : ℕ → Form) (f d : Form) → Known n φ f → dependency d f ≡ true → (j : ℕ) × (among j (kids n) ≡ true) × (φ j ≡ d)
unfolding dependency first_of second_of
each_of n φ (number z) d k h = absurd (false≢true h)
each_of n φ (variable x) d k h = absurd (false≢true h)
each_of n φ (unbound x) d k h = absurd (false≢true h)
each_of n φ readings d k h = absurd (false≢true h)
each_of n φ (ask m f) d k h = let a = k.first tt in (k.left, a.0, a.1 ∙ sym (same-eq d f h))
each_of n φ (call m f a) d k h =
    either (same d f) (same d a) h
    (λ e. let u = k.first tt in (k.left, u.0, u.1 ∙ sym (same-eq d f e)))
    (λ e. let u = k.second tt in (k.right, u.0, u.1 ∙ sym (same-eq d a e)))
each_of n φ (function x b) d k h = let a = k.first tt in (k.left, a.0, a.1 ∙ sym (same-eq d b h))

pub among_one : (j k : ℕ) → among j (k ∷ []) ≡ true → k ≡ j
unfolding member
among_one j k h = split (eqb k j) (λ e. eqb-true k j e) (λ e. absurd (false≢true (rw e at h)))

pub among_two : {A : Type 0} (j k l : ℕ) → among j (k ∷ l ∷ []) ≡ true → (k ≡ j → A) → (l ≡ j → A) → A
unfolding member
among_two j k l h p q = split (eqb k j) (λ e. p (eqb-true k j e)) (λ e. q (among_one j l (rw e at h)))

only_of : {n : Node} (φ : ℕ → Form) (j : ℕ) (k : Fine n) → among j (kids n) ≡ true → dependency (φ j) (node_form k φ) ≡ true
unfolding dependency member kids arity member_of_kind
only_of φ j (a_number key) h = absurd (false≢true h)
only_of φ j (a_variable x k _) h = absurd (false≢true h)
only_of φ j (an_unbound x) h = absurd (false≢true h)
only_of φ j the_readings h = absurd (false≢true h)
only_of φ j (a_function x b k _) h = rw (among_one j b (subst (λ (l : List ℕ). among j l ≡ true) (kids-function x b k) h)) (same_self (φ j))
only_of φ j (an_ask m f e) h = rw (among_one j f (subst (λ (l : List ℕ). among j l ≡ true) (kids-ask m f e) h)) (same_self (φ j))
only_of φ j (a_call m f a e) h =
    among_two j f a (subst (λ (l : List ℕ). among j l ≡ true) (kids-call m f a e) h)
    (λ q. rw (q, same_self (φ j)))
    (λ q. rw q (or_right (same (φ j) (φ f)) _ (same_self (φ j))))

-- a form hangs on the forms of its dependencies alone
agree-member : (f : Option Member) (n : Node) (φ ψ : ℕ → Form) → ((j : ℕ) → among j (listed (member_arity f) n) ≡ true → φ j ≡ ψ j)
    → member_form f (φ (n.first - 1)) (φ (n.second - 1)) ≡ member_form f (ψ (n.first - 1)) (ψ (n.second - 1))
agree-member None n φ ψ h = refl
agree-member (Some m) n φ ψ h = by (arguments m) refl
  where
    by : (k : ℕ) → arguments m ≡ k → member_form (Some m) (φ (n.first - 1)) (φ (n.second - 1)) ≡ member_form (Some m) (ψ (n.first - 1)) (ψ (n.second - 1))
    by zero e = let a = h (n.first - 1) (rw e (among_first (n.first - 1) [])) in rw (e, a)
    by (suc k) e =
        let a = h (n.first - 1) (rw e (among_first (n.first - 1) _)) in
        let b = h (n.second - 1) (rw e (among_second (n.first - 1) (n.second - 1))) in
        rw (a, b)

agree-works : (n : Node) (φ ψ : ℕ → Form) → ((j : ℕ) → among j (kids n) ≡ true → φ j ≡ ψ j)
    → cond (eqb n.kind function_kind) (function (variable_in n) (φ (n.first - 1))) (member_form (member_of_kind n.kind) (φ (n.first - 1)) (φ (n.second - 1)))
    ≡ cond (eqb n.kind function_kind) (function (variable_in n) (ψ (n.first - 1))) (member_form (member_of_kind n.kind) (ψ (n.first - 1)) (ψ (n.second - 1)))
unfolding kids arity
agree-works n φ ψ h = by (eqb n.kind function_kind) refl
  where
    by : (b : Bool) → eqb n.kind function_kind ≡ b
        → cond b (function (variable_in n) (φ (n.first - 1))) (member_form (member_of_kind n.kind) (φ (n.first - 1)) (φ (n.second - 1)))
        ≡ cond b (function (variable_in n) (ψ (n.first - 1))) (member_form (member_of_kind n.kind) (ψ (n.first - 1)) (ψ (n.second - 1)))
    by true e = ap (function (variable_in n)) (h (n.first - 1) (rw e (among_first (n.first - 1) [])))
    by false e = agree-member (member_of_kind n.kind) n φ ψ (λ j a. h j (rw e a))

agree_of : (n : Node) (φ ψ : ℕ → Form) → ((j : ℕ) → among j (kids n) ≡ true → φ j ≡ ψ j) → build n φ ≡ build n ψ
unfolding build
agree_of n φ ψ h =
    λ i.
    cond (eqb n.kind number_kind) (number (number_of_key n.key))
    (cond (eqb n.kind variable_kind) (variable (variable_in n))
    (cond (eqb n.kind unbound_kind) (unbound n.key)
    (cond (eqb n.kind readings_kind) readings (agree-works n φ ψ h i))))

pub graph-laws : GraphLaws formulas nodes
graph-laws =
    record {
      equality = equality;
      agree = agree_of;
      one = one-node;
      each = λ n φ d k h. each_of n φ (node_form k φ) d (known φ k) (rw (build-fine k φ) at h);
      only = λ n φ j k h. rw (build-fine k φ) (only_of φ j k h);
    }
