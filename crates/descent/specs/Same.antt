-- Descent reads what grammar's machine reads, and writes what Records says: by induction on the fuel. Assumes nothing.
use Rattle.std.specs.Prelude.{List}
use Prim.Native.Nat.{ℕ, zero, suc}
use Rattle.std.proofs.Common.{arith}
use Rattle.descent.specs.Descent.{step, run}
use Rattle.descent.specs.Fitting.{Same}
use Rattle.descent.specs.SameExpression.{same-expression}
use Rattle.descent.specs.SameCalls.{same-calls, same-arguments, same_more}

module _ (end : ℕ) (R : List ℕ) where
  pub same : (f : ℕ) → Same end R f
  unfolding run step
  same zero =
      record {
        on_expression = λ w marks depth s Σ t F h r y e l. absurd (omega arith);
        on_calls = λ j marks depth s Σ t F h r g y e l. absurd (omega arith);
        on_arguments = λ k m marks depth s Σ t F h r a b c y e l. absurd (omega arith);
        on_more = λ k m a ps B marks depth s Σ t F h r b c d g y e l. absurd (omega arith);
      }
  same (suc f) =
      record {
        on_expression = λ w marks depth s Σ t F h r y e l. same-expression end R f (same f) marks depth s Σ t F r y w h e l;
        on_calls = λ j marks depth s Σ t F h r g y e l. same-calls end R f (same f) marks depth s Σ t F r y j h g e l;
        on_arguments = λ k m marks depth s Σ t F h r a b c y e l. same-arguments end R f (same f) marks depth s Σ t F r y k m h a b c e l;
        on_more = λ k m a ps B marks depth s Σ t F h r b c d g y e l. same_more end R f (same f) marks depth s Σ t F r y k m a ps B h b c d g e l;
      }
