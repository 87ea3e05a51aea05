-- All bytes of a packed word. Assumes nothing: these are definitions.
use Rattle.std.specs.Prelude.{List, ◌∷◌, ℕ, zero, suc, ◌/◌, ◌%◌}
use Rattle.language.specs.Names.{byte_base}

-- so many bytes of a packed word, with zeros before those that it packs, and then u
unfoldable pub whole_onto : ℕ → ℕ → List ℕ → List ℕ
whole_onto zero k u = u
whole_onto (suc n) k u = whole_onto n (k / byte_base) ((k % byte_base) ∷ u)
