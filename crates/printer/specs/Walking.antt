-- How a form is walked over where it stands in a table: by its entries' nodes. Assumes nothing: these are definitions.
use Rattle.std.specs.Prelude.{◌≡◌, not, cond, List, [], ◌∷◌, map, ℕ, ◌≤◌, ◌<◌, eqb}
use Rattle.language.specs.Limits.{open_marks, open_lambdas}
use Rattle.meaning.specs.Forms.{with_level, name_in}
use Rattle.meaning.specs.Evaluation.{has_name}
use Rattle.layout.specs.Memory.{Node, node_at}
use Rattle.layout.specs.Nodes.{variable_kind, unbound_kind, variable_in}
use Rattle.printing.specs.Printed.{is_function}
use Rattle.printing.specs.Bound.{is_innermost}
use Rattle.printing.specs.Judging.{declined, counted, looked, walked}
use Rattle.writer.specs.Writing.{form_in}
use Rattle.printer.specs.declared.judge.Scope.{Scope}

-- the variables of the functions around, the inner one first
unfoldable pub variables : Scope → List ℕ
variables s =
    cond (eqb s.outer 0) (cond (eqb s.inner 0) [] (with_level s.inner s.near ∷ []))
    (with_level s.inner s.near ∷ with_level s.outer s.far ∷ [])

-- their levels are those of entries
abbrev pub Low : Scope → Type 0
Low s = (s.near < open_lambdas) × (s.far < open_lambdas)

-- a node that is no function and no member
unfoldable pub leaf_walked : Node → List ℕ → ℕ → ℕ
leaf_walked q xs n =
    cond (eqb q.kind variable_kind) (looked (is_innermost (variable_in q) xs) (counted n))
    (cond (eqb q.kind unbound_kind) (looked (not (has_name q.key (map name_in xs))) (counted n))
    (counted n))

-- the walk over entry `entry` has come to its receiver `at`, which has the node q; a function there stands where so many marks are open
pub record Walks (links cells : List ℕ) (count entry : ℕ) (s : Scope) (found at : ℕ) (q : Node) (marks met : ℕ) : Type 0 where
  pub held : at < count
  pub lower : at ≤ entry
  pub node : q ≡ node_at links cells at
  pub most : marks ≤ open_marks
  pub few : met ≤ declined
  pub same : walked (cond (is_function (form_in links cells count at)) marks s.marks) (variables s) (form_in links cells count at) met
      ≡ walked s.marks (variables s) (form_in links cells count entry) found
