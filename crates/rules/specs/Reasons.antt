-- 01, "Members": the numbers of the reasons why nothing is shown. Assumes nothing: these are definitions.
use Rattle.std.specs.Prelude.{ℕ}
use Rattle.rules.specs.declared.Reason.{Reason}
use Rattle.rules.specs.declared.Reason.TheVariants as R
use Rattle.rules.specs.Values.{unbound_name, wrong_kind, division_by_zero, beyond_number, outside_window}

abbrev pub reason_number : Reason → ℕ
reason_number R.UnboundName = unbound_name
reason_number R.WrongKind = wrong_kind
reason_number R.DivisionByZero = division_by_zero
reason_number R.BeyondNumber = beyond_number
reason_number R.OutsideWindow = outside_window
