-- What a record that stands for a form has, by its kind. Assumes nothing.
use Rattle.std.specs.Prelude.{◌≡◌, refl, ℕ, suc, ◌-◌, ◌≤◌, ◌<◌}
use Rattle.std.proofs.Common.{ap, ◌∙◌, arith}
use Rattle.members.specs.declared.Member.{Member}
use Rattle.meaning.specs.Forms.{Form, with_level, ask, call, function}
use Rattle.layout.specs.Memory.{Node}
use Rattle.layout.specs.Nodes.{function_kind, member_kind}
use Rattle.interpreter.specs.Standing.{Stands, a_number, a_variable, an_unbound, the_readings, a_function, an_ask, a_call}

-- a function, its body before it; a member with no argument; and one with an argument
pub record IsFunction (ν : ℕ → Node) (i : ℕ) (n : Node) (F : Form) : Type 0 where
  pub body : Form
  pub is : F ≡ function (with_level n.key n.level) body
  pub level : n.level < 2
  pub one : 1 ≤ n.first
  pub low : n.first - 1 < i
  pub stands : Stands ν (n.first - 1) body

pub record IsMember (ν : ℕ → Node) (i : ℕ) (n : Node) (F : Form) : Type 0 where
  pub member : Member
  pub kind : n.kind ≡ member_kind member
  pub receiver : Form
  pub one : 1 ≤ n.first
  pub low : n.first - 1 < i
  pub stands : Stands ν (n.first - 1) receiver
  pub alone : n.second ≡ 0 → F ≡ ask member receiver
  pub argument : Form
  pub lower : (n.second ≡ 0 → ⊥) → (1 ≤ n.second) × (n.second - 1 < i)
  pub given : (n.second ≡ 0 → ⊥) → Stands ν (n.second - 1) argument × (F ≡ call member receiver argument)

back : (n : ℕ) → n ≡ suc n - 1
back n = omega arith

module _ (ν : ℕ → Node) (i : ℕ) (n : Node) (q : n ≡ ν i) where
  kind-is : (m : Node) → ν i ≡ m → n.kind ≡ m.kind
  kind-is m e = ap (λ (x : Node). x.kind) (q ∙ e)

  no : {A : Type 0} (m : Node) → ν i ≡ m → function_kind ≤ n.kind → m.kind < function_kind → A
  no m e h l = let z = kind-is m e in absurd (omega arith)

  pub a-function : (F : Form) → n.kind ≡ function_kind → Stands ν i F → IsFunction ν i n F
  a-function _ k (a_number _ key e _) = no _ e (omega arith) (omega arith)
  a-function _ k (a_variable _ x l e _) = no _ e (omega arith) (omega arith)
  a-function _ k (an_unbound _ x e) = no _ e (omega arith) (omega arith)
  a-function _ k (the_readings _ e) = no _ e (omega arith) (omega arith)
  a-function _ k (a_function _ x b l B e h d s) =
      rw (q ∙ e) (record { body = B; is = refl; level = h; one = omega arith; low = omega arith; stands = rw (← back b) s })
  a-function _ k (an_ask _ m f F e a d s) = let z = kind-is _ e in absurd (omega arith)
  a-function _ k (a_call _ m f a F A e g d s c t) = let z = kind-is _ e in absurd (omega arith)

  pub a-member : (F : Form) → function_kind ≤ n.kind → (n.kind ≡ function_kind → ⊥) → Stands ν i F → IsMember ν i n F
  a-member _ h k (a_number _ key e _) = no _ e h (omega arith)
  a-member _ h k (a_variable _ x l e _) = no _ e h (omega arith)
  a-member _ h k (an_unbound _ x e) = no _ e h (omega arith)
  a-member _ h k (the_readings _ e) = no _ e h (omega arith)
  a-member _ h k (a_function _ x b l B e g d s) = absurd (k (kind-is _ e))
  a-member _ h k (an_ask _ m f F e a d s) =
      rw (q ∙ e)
      (record {
        member = m;
        kind = refl;
        receiver = F;
        one = omega arith;
        low = omega arith;
        stands = rw (← back f) s;
        alone = λ _. refl;
        argument = F;
        lower = λ u. absurd (u refl);
        given = λ u. absurd (u refl);
      })
  a-member _ h k (a_call _ m f a F A e g d s c t) =
      rw (q ∙ e)
      (record {
        member = m;
        kind = refl;
        receiver = F;
        one = omega arith;
        low = omega arith;
        stands = rw (← back f) s;
        alone = λ z. absurd (omega arith);
        argument = A;
        lower = λ _. (omega arith, omega arith);
        given = λ _. (rw (← back a) t, refl);
      })
