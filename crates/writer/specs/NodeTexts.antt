-- A right node by its kind, as the writer takes it: a function, a member with no argument or with one, or none of these. Assumes nothing.
use Rattle.std.specs.Prelude.{Some}
use Rattle.std.specs.Prelude.{◌≡◌, refl, false, ℕ, suc, ◌≤◌, ◌<◌}
use Rattle.std.proofs.Common.{arith}
use Rattle.members.specs.declared.Member.{Member}
use Rattle.meaning.specs.Forms.{Form, name_in, ask, call, function}
use Rattle.meaning.proofs.FormsLaws.{name_back}
use Rattle.layout.specs.Memory.{Node}
use Rattle.layout.specs.Nodes.{function_kind, member_of_kind, variable_in, build}
use Rattle.layout.specs.KindsLaws.{member-found}
use Rattle.table.specs.NodeKinds.{Fine, a_number, a_variable, an_unbound, the_readings, a_function, an_ask, a_call, build-fine}
use Rattle.printing.specs.Printed.{is_function, text_of}
use Rattle.writer.specs.Putting.{leaf_bytes}

pub record FunctionNode (q : Node) : Type 0 where
  pub body : ℕ
  pub first : q.first ≡ suc body
  pub form : (φ : ℕ → Form) → build q φ ≡ function (variable_in q) (φ body)
  pub name : name_in (variable_in q) ≡ q.key

pub record LeafNode (q : Node) : Type 0 where
  pub text : (φ : ℕ → Form) → text_of (build q φ) ≡ leaf_bytes q
  pub plain : (φ : ℕ → Form) → is_function (build q φ) ≡ false

pub record AskNode (q : Node) : Type 0 where
  pub member : Member
  pub receiver : ℕ
  pub is : member_of_kind q.kind ≡ Some member
  pub first : q.first ≡ suc receiver
  pub form : (φ : ℕ → Form) → build q φ ≡ ask member (φ receiver)

pub record CallNode (q : Node) : Type 0 where
  pub member : Member
  pub receiver : ℕ
  pub argument : ℕ
  pub is : member_of_kind q.kind ≡ Some member
  pub first : q.first ≡ suc receiver
  pub second : q.second ≡ suc argument
  pub form : (φ : ℕ → Form) → build q φ ≡ call member (φ receiver) (φ argument)

pub function-node : {q : Node} → Fine q → q.kind ≡ function_kind → FunctionNode q
function-node (a_number key) e = absurd (omega arith)
function-node (a_variable x k _) e = absurd (omega arith)
function-node (an_unbound x) e = absurd (omega arith)
function-node the_readings e = absurd (omega arith)
function-node (a_function x b k l) e = record { body = b; first = refl; form = build-fine (a_function x b k l); name = omega arith }
function-node (an_ask m f h) e = absurd (omega arith)
function-node (a_call m f a h) e = absurd (omega arith)

pub leaf-node : {q : Node} → Fine q → q.kind < function_kind → LeafNode q
unfolding build text_of leaf_bytes
leaf-node (a_number key) l = record { text = λ φ. refl; plain = λ φ. refl }
leaf-node (a_variable x k h) l =
    let n = name_back x k (omega arith) in
    record { text = λ φ. rw n; plain = λ φ. refl }
leaf-node (an_unbound x) l = record { text = λ φ. refl; plain = λ φ. refl }
leaf-node the_readings l = record { text = λ φ. refl; plain = λ φ. refl }
leaf-node (a_function x b k _) l = absurd (omega arith)
leaf-node (an_ask m f h) l = absurd (omega arith)
leaf-node (a_call m f a h) l = absurd (omega arith)

pub ask-node : {q : Node} → Fine q → function_kind < q.kind → q.second ≡ 0 → AskNode q
ask-node (a_number key) l z = absurd (omega arith)
ask-node (a_variable x k _) l z = absurd (omega arith)
ask-node (an_unbound x) l z = absurd (omega arith)
ask-node the_readings l z = absurd (omega arith)
ask-node (a_function x b k _) l z = absurd (omega arith)
ask-node (an_ask m f h) l z = record { member = m; receiver = f; is = member-found m; first = refl; form = build-fine (an_ask m f h) }
ask-node (a_call m f a h) l z = absurd (omega arith)

pub call-node : {q : Node} → Fine q → (q.kind ≡ function_kind → ⊥) → 1 ≤ q.second → CallNode q
call-node (a_number key) l z = absurd (omega arith)
call-node (a_variable x k _) l z = absurd (omega arith)
call-node (an_unbound x) l z = absurd (omega arith)
call-node the_readings l z = absurd (omega arith)
call-node (a_function x b k _) l z = absurd (l refl)
call-node (an_ask m f h) l z = absurd (omega arith)
call-node (a_call m f a h) l z = record { member = m; receiver = f; argument = a; is = member-found m; first = refl; second = refl; form = build-fine (a_call m f a h) }
