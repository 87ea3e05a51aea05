-- A reading that was looked for. Assumes nothing: these are definitions.
use Rattle.std.specs.Prelude.{Option, Some, None, ℤ}
use Rattle.rules.specs.declared.Value.{Value}
use Rattle.rules.specs.declared.Value.TheVariants.{Number, Missing}
use Rattle.rules.specs.Values.{outside_window}

-- reason 5 where there is none
abbrev pub found : Option ℤ → Value
found (Some z) = Number z
found None = Missing outside_window
