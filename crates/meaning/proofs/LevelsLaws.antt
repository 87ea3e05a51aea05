-- Each lambda of a tree that keeps the limits has as its level the number of lambdas written around it, and its name is its own variable in its
-- body. Assumes nothing.
use Rattle.std.specs.Prelude.{◌≡◌, refl, false, List, [], ℕ, suc}
use Rattle.std.proofs.Common.{ap, arith, eq-eqb}
use Rattle.language.specs.Names.{packed, is_data}
use Rattle.grammar.specs.Grammar.{Expression, Calls, Arguments, More, let_in, lambda, name, literal, bracket, done, call, none, first, last, next}
use Rattle.grammar.specs.Faults.{Around, outermost, opened, in_lambda}
use Rattle.grammar.specs.KeptLimits.{EverywhereE, EverywhereC, EverywhereA, EverywhereM, KeepsLimits}
use Rattle.grammar.proofs.SingleLimits.{FewLambdas}
use Rattle.grammar.proofs.KeptLimitsLaws.{keeps-each}
use Rattle.meaning.specs.Forms.{variable}
use Rattle.meaning.specs.Binding.{Meaning, look_up, named, lambdas, as_let, variable_of, as_lambda, form_e}
use Rattle.meaning.proofs.SubstitutionLaws.{Counts, level-is}
use Rattle.meaning.specs.Levels.{LevelledE, LevelledC, LevelledA, LevelledM}

mutual
  unfolding lambdas opened in_lambda

  levelled-E : (e : Expression) (Γ : List Meaning) (d : Around) → Counts Γ d → EverywhereE FewLambdas e d → LevelledE e Γ d
  levelled-E (let_in x a b) Γ d q n = (levelled-E a Γ (opened d) q n.1, levelled-E b (as_let x (form_e a Γ) Γ) (opened d) q n.2)
  levelled-E (lambda x b) Γ d q n =
      let few = n.0 in
      (omega arith, level-is x Γ d q few, levelled-E b (as_lambda x Γ) (in_lambda d) (ap suc q) n.1)
  levelled-E (name x r) Γ d q n = levelled-C r Γ d q n.1
  levelled-E (literal z r) Γ d q n = levelled-C r Γ d q n.1
  levelled-E (bracket e r) Γ d q n = (levelled-E e Γ (opened d) q n.1, levelled-C r Γ d q n.2)

  levelled-C : (r : Calls) (Γ : List Meaning) (d : Around) → Counts Γ d → EverywhereC FewLambdas r d → LevelledC r Γ d
  levelled-C done Γ d q n = tt
  levelled-C (call m a) Γ d q n = levelled-A a Γ d q n.1

  levelled-A : (a : Arguments) (Γ : List Meaning) (d : Around) → Counts Γ d → EverywhereA FewLambdas a d → LevelledA a Γ d
  levelled-A (none r) Γ d q n = levelled-C r Γ d q n
  levelled-A (first e x) Γ d q n = (levelled-E e Γ (opened d) q n.0, levelled-M x Γ d q n.1)

  levelled-M : (x : More) (Γ : List Meaning) (d : Around) → Counts Γ d → EverywhereM FewLambdas x d → LevelledM x Γ d
  levelled-M (last r) Γ d q n = levelled-C r Γ d q n
  levelled-M (next e x) Γ d q n = (levelled-E e Γ (opened d) q n.0, levelled-M x Γ d q n.1)

pub levels-written : (e : Expression) → KeepsLimits e → LevelledE e [] outermost
unfolding lambdas
levels-written e k = levelled-E e [] outermost refl (keeps-each e k).lambdas

pub lambda-hides : (x : List ℕ) (Γ : List Meaning) → is_data x ≡ false → named x (as_lambda x Γ) ≡ variable (variable_of x Γ)
unfolding named look_up
lambda-hides x Γ h = rw (h, eq-eqb (packed x) (packed x) refl)
