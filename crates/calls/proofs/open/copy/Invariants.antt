-- The invariant: the recording up to here is copied, and behind it the readings are as they were. Assumes nothing.
use mathlib.Core.Path.{◌≡◌}
use mathlib.Core.List.{◌++◌}
use Prim.Native.Nat.{◌≤◌}
use lib.ListN.{length, take, drop}
use Rattle.calls.proofs.open.copy.Given as goal

abbrev pub invariant-loop-i : goal.invariant-loop-i
invariant-loop-i l = (l.i ≤ length l.recording) × (length l.readings ≡ length l.initial.readings) × (l.readings ≡ take l.i l.recording ++ drop l.i l.initial.readings)
