-- What an entry awaits is what its form awaits: the free variables by first occurrence. Assumes nothing.
use Rattle.std.specs.Prelude.{◌≡◌, true, [], ℕ, zero, suc, ◌-◌, ◌<◌, get_or}
use Rattle.std.proofs.Common.{sym, ap, ◌∙◌, arith}
use Rattle.meaning.specs.Forms.{Form}
use Rattle.meaning.specs.Evaluation.{awaited}
use Rattle.layout.specs.Memory.{Node}
use Rattle.layout.specs.Nodes.{build}
use Rattle.table.specs.Right.{node_right}
use Rattle.table.specs.RightLaws.{first-low, first-given, second-low, second-given}
use Rattle.table.specs.AwaitedBuild.{awaited-build}
use Rattle.table.specs.AwaitsLaws.{after, names_of, after-at}

-- so of every entry, where each form is built from those of the entries before it
pub awaited-forms : (ν : ℕ → Node) (φ : ℕ → Form) (n : ℕ) → ((i : ℕ) → i < n → node_right i (ν i) ≡ true) → ((i : ℕ) → i < n → φ i ≡ build (ν i) φ)
    → (i : ℕ) → i < n → names_of ν i ≡ awaited (φ i)
awaited-forms ν φ zero right forms i l = absurd (omega arith)
awaited-forms ν φ (suc n) right forms i l =
    let r = right i l in
    let before : (j : ℕ) → j < i → get_or (after ν i) j [] ≡ awaited (φ j) =
    λ j m. after-at ν j i m ∙ awaited-forms ν φ n (λ k h. right k (omega arith)) (λ k h. forms k (omega arith)) j (omega arith) in
    awaited-build (ν i) (after ν i) φ
    (λ u. before ((ν i).first - 1) (omega (arith, first-given i (ν i) r u, first-low i (ν i) r)))
    (λ e. before ((ν i).second - 1) (omega (arith, second-given i (ν i) r e, second-low i (ν i) r)))
    ∙ ap awaited (sym (forms i l))
