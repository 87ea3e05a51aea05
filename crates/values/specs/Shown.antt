-- A value as plain numbers, for callers in C: 01's cases of what an entry shows, with a number for each case and its values. The names that
-- a function or a delayed entry shows are kept beside the value. Assumes nothing: these are definitions.
use Rattle.std.specs.Prelude.{pos}
use Rattle.rules.specs.declared.Value.{Value}
use Rattle.rules.specs.declared.Value.TheVariants.{Number, Window, Function, Delayed, Missing}
use Rattle.values.specs.declared.shown.Shown.{Shown}

-- a number; a window's start and length; nothing for a function or a delay; a reason
abbrev pub shown_numbers : Value → Shown
shown_numbers (Number z) = record { kind = 1; first = z; second = 0 }
shown_numbers (Window s l) = record { kind = 2; first = pos s; second = l }
shown_numbers Function = record { kind = 3; first = pos 0; second = 0 }
shown_numbers Delayed = record { kind = 4; first = pos 0; second = 0 }
shown_numbers (Missing r) = record { kind = 5; first = pos r; second = 0 }
