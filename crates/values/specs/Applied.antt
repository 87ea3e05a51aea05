-- A member with one argument, up to the runs of a function: what it comes to, or the window to run the function over. Assumes nothing:
-- these are definitions. That they come to apply1 is in ApplyLaws.
use Rattle.std.specs.Prelude.{List, map, ℤ}
use Rattle.members.specs.declared.Member.{Member}
use Rattle.rules.specs.declared.Value.{Value}
use Rattle.rules.specs.declared.Value.TheVariants.{Missing}
use Rattle.values.specs.declared.apply.Applied.{Applied}
use Rattle.values.specs.declared.apply.Applied.TheVariants.{Done, Run}
use Rattle.rules.specs.Values.{wrong_kind, if_window, if_function}
use Rattle.rules.specs.Windows.{readings_in}
use Rattle.rules.specs.Rules.{rule, if_runs, of_runs}
use Rattle.rules.specs.Apply.{apply1}

unfoldable pub applied1 : Member → List ℤ → Value → Value → Applied
applied1 m xs v w =
    let done : Applied = Done (apply1 m xs v w (λ z. Missing wrong_kind)) in
    if_window done v (λ s l. if_function done w (if_runs done (rule m) (λ f. Run s l)))

-- with the results of the runs
unfoldable pub completed : Member → List ℤ → (ℤ → Value) → Applied → Value
completed m xs run (Done v) = v
completed m xs run (Run s l) = of_runs m (map run (readings_in xs s l))
