-- 02, T-05: the levels of entries in a cache that passes 4 are 0 or 1. Assumes nothing.
use Rattle.std.specs.Prelude.{◌≡◌, ◌⊎◌, true, ℕ, ◌<◌}
use Rattle.std.proofs.Common.{ap, ◌∙◌, inl, inr, arith}
use Rattle.language.specs.Limits.{open_lambdas}
use Rattle.meaning.specs.Forms.{Form, with_level, level_in, variable, function, shape_of, name_of}
use Rattle.layout.specs.Memory.{Memory, Node, entry_count, node_at}
use Rattle.table.specs.WellFormed.{well_formed}
use Rattle.table.specs.NodeKinds.{Fine, a_number, a_variable, an_unbound, the_readings, a_function, an_ask, a_call, node_form, build-fine, right-fine}
use Rattle.binder.specs.AppendedLaws.{well-parts}
use Rattle.interface.specs.Calls.{form_at}
use Rattle.demand.proofs.ReadBack.{forms-right}

-- the form of a node is a variable or a function just where the node is, and has its level
low : {q : Node} (k : Fine q) (φ : ℕ → Form) (v : ℕ) (b : Form) → (node_form k φ ≡ variable v) ⊎ (node_form k φ ≡ function v b) → level_in v < open_lambdas
unfolding shape_of name_of
low (a_number _) φ v b (inl e) = let z = ap shape_of e in absurd (omega arith)
low (a_number _) φ v b (inr e) = let z = ap shape_of e in absurd (omega arith)
low (a_variable x k l) φ v b (inl e) = let q : with_level x k ≡ v = ap name_of e in omega arith
low (a_variable x k l) φ v b (inr e) = let z = ap shape_of e in absurd (omega arith)
low (an_unbound _) φ v b (inl e) = let z = ap shape_of e in absurd (omega arith)
low (an_unbound _) φ v b (inr e) = let z = ap shape_of e in absurd (omega arith)
low the_readings φ v b (inl e) = let z = ap shape_of e in absurd (omega arith)
low the_readings φ v b (inr e) = let z = ap shape_of e in absurd (omega arith)
low (a_function x c k l) φ v b (inl e) = let z = ap shape_of e in absurd (omega arith)
low (a_function x c k l) φ v b (inr e) = let q : with_level x k ≡ v = ap name_of e in omega arith
low (an_ask _ _ _) φ v b (inl e) = let z = ap shape_of e in absurd (omega arith)
low (an_ask _ _ _) φ v b (inr e) = let z = ap shape_of e in absurd (omega arith)
low (a_call _ _ _ _) φ v b (inl e) = let z = ap shape_of e in absurd (omega arith)
low (a_call _ _ _ _) φ v b (inr e) = let z = ap shape_of e in absurd (omega arith)

pub levels-low : (m : Memory) (n v : ℕ) (b : Form) → well_formed m ≡ true → n < entry_count m → (form_at m n ≡ variable v) ⊎ (form_at m n ≡ function v b)
    → level_in v < open_lambdas
levels-low m n v b w h o =
    let f = right-fine n (node_at m.links m.cells n) ((well-parts m w).right n h) in
    let e : form_at m n ≡ node_form f (form_at m) = forms-right m w n h ∙ build-fine f (form_at m) in
    low f (form_at m) v b (rw e at o)
