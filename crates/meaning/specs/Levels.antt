-- 02, T-05: what it means that each lambda of a tree has its own name and, as its level, the number of lambdas written around it: those that are open
-- there, as the limits count them, whatever the environment of let elimination has. Assumes nothing: these are definitions. That let elimination
-- gives these levels is in LevelsLaws.
use Rattle.std.specs.Prelude.{◌≡◌, List, ℕ}
use Rattle.language.specs.Names.{packed}
use Rattle.grammar.specs.Grammar.{Expression, Calls, Arguments, More, let_in, lambda, name, literal, bracket, done, call, none, first, last, next}
use Rattle.grammar.specs.Faults.{Around, opened, in_lambda}
use Rattle.meaning.specs.Forms.{name_in, level_in}
use Rattle.meaning.specs.Binding.{Meaning, as_let, variable_of, as_lambda, form_e}

-- a function's variable in the form of a lambda x is `variable_of x Γ`, in the environment Γ that let elimination has at the lambda
abbrev mutual
  pub LevelledE : Expression → List Meaning → Around → Type 0
  LevelledE (let_in x a b) Γ d = LevelledE a Γ (opened d) × LevelledE b (as_let x (form_e a Γ) Γ) (opened d)
  LevelledE (lambda x b) Γ d =
      (name_in (variable_of x Γ) ≡ packed x) × (level_in (variable_of x Γ) ≡ d.lambdas) × LevelledE b (as_lambda x Γ) (in_lambda d)
  LevelledE (name x r) Γ d = LevelledC r Γ d
  LevelledE (literal z r) Γ d = LevelledC r Γ d
  LevelledE (bracket e r) Γ d = LevelledE e Γ (opened d) × LevelledC r Γ d

  pub LevelledC : Calls → List Meaning → Around → Type 0
  LevelledC done Γ d = Unit {0}
  LevelledC (call m a) Γ d = LevelledA a Γ d

  pub LevelledA : Arguments → List Meaning → Around → Type 0
  LevelledA (none r) Γ d = LevelledC r Γ d
  LevelledA (first e x) Γ d = LevelledE e Γ (opened d) × LevelledM x Γ d

  pub LevelledM : More → List Meaning → Around → Type 0
  LevelledM (last r) Γ d = LevelledC r Γ d
  LevelledM (next e x) Γ d = LevelledE e Γ (opened d) × LevelledM x Γ d
