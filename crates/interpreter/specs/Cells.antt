-- The code's view of a scope: a packed value for the variable of either level. Assumes nothing: these are definitions.
use Rattle.std.specs.Prelude.{cond, ℕ, eqb}
use Rattle.values.specs.Packing.{unpack_of}
use Rattle.interpreter.specs.declared.bindings.Bindings.{Bindings}
use Rattle.levels.specs.Interpreting.{Scope, scope}

abbrev pub bindings : ℕ → ℕ → Bindings
bindings a b = record { outer = a; inner = b }

abbrev pub scope_of : Bindings → Scope
scope_of s = scope (unpack_of s.outer) (unpack_of s.inner)

abbrev pub cell_at : Bindings → ℕ → ℕ
cell_at s k = cond (eqb k 0) s.outer s.inner

abbrev pub bound_at : Bindings → ℕ → ℕ → Bindings
bound_at s k c = bindings (cond (eqb k 0) c s.outer) (cond (eqb k 0) s.inner c)
