-- No member gives a function: only a function's own entry comes to one. Assumes nothing.
use Rattle.std.specs.Prelude.{◌≡◌, refl, Bool, true, false, List, ℤ, length}
use Rattle.std.proofs.Common.{arith}
use Rattle.members.specs.declared.Member.{Member}
use Rattle.rules.specs.declared.Value.{Value}
use Rattle.rules.specs.declared.Value.TheVariants.{Number, Window, Function, Delayed, Missing}
use Rattle.rules.specs.Runs.{Results, numbers, because}
use Rattle.rules.specs.Rules.{concluded}
use Rattle.rules.specs.Apply.{apply0, apply1}
use Rattle.values.specs.KeepableLaws.{Closed, Given, closed-told}
use Rattle.values.specs.KeepableApply.{closed-apply0, closed-apply1}

abbrev pub is_function : Value → Bool
is_function (Number z) = false
is_function (Window s l) = false
is_function Function = true
is_function Delayed = false
is_function (Missing r) = false

abbrev None : Value → Type 0
None v = is_function v ≡ false

none : Closed None
none = record { small = λ z h. refl; reason = λ r h q. refl; part = λ s l s' l' h w. refl; count = λ s l j h w. refl }

given-none : (v : Value) → Given None v
given-none (Number z) = tt
given-none (Window s l) = refl
given-none Function = tt
given-none Delayed = tt
given-none (Missing r) = refl

pub concluded-none : (m : Member) (r : Results) → None (concluded m r)
concluded-none m (numbers zs) = closed-told None none 0 (length zs) refl m (numbers zs) (length zs) (omega arith) refl
concluded-none m (because r) = refl

pub ask-none : (m : Member) (xs : List ℤ) (v : Value) → is_function (apply0 m xs v) ≡ false
ask-none m xs v = closed-apply0 None none m xs (λ i h. refl) refl v (given-none v)

pub call_none : (m : Member) (xs : List ℤ) (v w : Value) (run : ℤ → Value) → is_function (apply1 m xs v w run) ≡ false
call_none m xs v w run = closed-apply1 None none m xs (λ i h. refl) refl run (λ x h. given-none (run x)) v w (given-none v) (given-none w)
