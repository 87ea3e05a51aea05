-- What `eq` gives, by the bits of the two numbers: the loop over columns cites it. Assumes nothing.
use mathlib.Core.Path.{◌≡◌, sym, ap}
use lib.IntN.{ℤ, pos}
use mir.Syntax.{w32}
use mir.Val.{SFits, of_z}
use Rattle.members.specs.declared.Member.TheVariants.{Eq}
use Rattle.rules.specs.declared.Value.TheVariants.{Number}
use Rattle.rules.specs.Values.{flag}
use Rattle.rules.specs.Rules.{rule, on_numbers}
use Rattle.values.specs.Order.{same-yes, same-no}
use Rattle.values.proofs.Signed.{read-eq}

module _ (a b : ℤ) (fa : SFits w32 a) (fb : SFits w32 b) where
  pub eq_yes : of_z w32 a ≡ of_z w32 b → Number (pos 1) ≡ on_numbers Eq a b
  unfolding on_numbers rule
  eq_yes h = ap flag (sym (same-yes a b (read-eq w32 fa fb h)))

  pub eq_no : (of_z w32 a ≡ of_z w32 b → ⊥) → Number (pos 0) ≡ on_numbers Eq a b
  unfolding on_numbers rule
  eq_no h = ap flag (sym (same-no a b (λ e. h (ap (of_z w32) e))))
