-- 02, T-07: what a let-free form comes to, by recursion over the form and what its variables stand for, by level. A text has at most two lambdas
-- open at a place, so that two values are enough, and a function that is run where another one of its level runs hides that one's variable.
-- Assumes nothing: these are definitions. That this is evaluation is in direct's Interpreted.
use Rattle.std.specs.Prelude.{Bool, true, false, cond, ◌||◌, List, [], ◌∷◌, map, ℕ, eqb, ℤ, length}
use Rattle.rules.specs.declared.Value.{Value}
use Rattle.rules.specs.declared.Value.TheVariants.{Number, Window, Function, Delayed, Missing}
use Rattle.rules.specs.Values.{unbound_name, wrong_kind}
use Rattle.rules.specs.Apply.{apply0, apply1, is_missing, is_delayed}
use Rattle.meaning.specs.Forms.{Form, number, variable, unbound, readings, ask, call, function, name_in, level_in, name_of}
use Rattle.meaning.specs.Evaluation.{has_name, joined, without, Shown, shown_as}

-- what the variables of level 0 and of level 1 stand for: a number while their function runs, and otherwise a delay
pub record Scope : Type 0 where
  pub outer : Value
  pub inner : Value

abbrev pub scope : Value → Value → Scope
scope a b = record { outer = a; inner = b }

-- no function runs
abbrev pub nothing : Scope
nothing = scope Delayed Delayed

-- what the variable of a level stands for, and that it stands for v
abbrev pub stands_for : Scope → ℕ → Value
stands_for s k = cond (eqb k 0) s.outer s.inner

abbrev pub with : Scope → ℕ → Value → Scope
with s k v = scope (cond (eqb k 0) v s.outer) (cond (eqb k 0) s.inner v)

-- the levels of the variables that a form awaits, by first occurrence
unfoldable pub levels : Form → List ℕ
levels (number z) = []
levels (variable v) = level_in v ∷ []
levels (unbound x) = []
levels readings = []
levels (ask m f) = levels f
levels (call m f a) = joined (levels f) (levels a)
levels (function v b) = without (level_in v) (levels b)

-- one of them stands for nothing
unfoldable pub is_open : Scope → List ℕ → Bool
is_open s [] = false
is_open s (k ∷ ks) = is_delayed (stands_for s k) || is_open s ks

-- a function: missing where its body is, with its own variable delayed; delayed where it awaits a variable
abbrev pub judged : Bool → Value → Value
judged waits v = cond (is_missing v) v (cond waits Delayed Function)

-- what a form comes to; and what a run of it on a reading gives, which only a function does
unfoldable mutual
  pub interpret : List ℤ → Scope → Form → Value
  interpret xs s (number z) = Number z
  interpret xs s (variable v) = stands_for s (level_in v)
  interpret xs s (unbound x) = Missing unbound_name
  interpret xs s readings = Window 0 (length xs)
  interpret xs s (ask m f) = apply0 m xs (interpret xs s f)
  interpret xs s (call m f a) = apply1 m xs (interpret xs s f) (interpret xs s a) (λ x. ran xs s a x)
  interpret xs s (function v b) = judged (is_open s (levels (function v b))) (interpret xs (with s (level_in v) Delayed) b)

  pub ran : List ℤ → Scope → Form → ℤ → Value
  ran xs s (number z) x = Missing wrong_kind
  ran xs s (variable v) x = Missing wrong_kind
  ran xs s (unbound y) x = Missing wrong_kind
  ran xs s readings x = Missing wrong_kind
  ran xs s (ask m f) x = Missing wrong_kind
  ran xs s (call m f a) x = Missing wrong_kind
  ran xs s (function v b) x = interpret xs (with s (level_in v) (Number x)) b

-- the variable of a level that the form awaits, at its first occurrence; 0 where it awaits none
unfoldable pub variable_at : ℕ → Form → ℕ
variable_at k (number z) = 0
variable_at k (variable v) = v
variable_at k (unbound x) = 0
variable_at k readings = 0
variable_at k (ask m f) = variable_at k f
variable_at k (call m f a) = cond (has_name k (levels f)) (variable_at k f) (variable_at k a)
variable_at k (function v b) = variable_at k b

-- what the form shows
unfoldable pub shown_by : List ℤ → Form → Shown
shown_by xs f = shown_as (name_in (name_of f)) (map (λ k. name_in (variable_at k f)) (levels f)) (interpret xs nothing f)
