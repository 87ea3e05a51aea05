-- A print of a cache that was opened and kept answers as the model does, and the cache stays as it was. Assumes nothing.
use Rattle.std.specs.Prelude.{◌≡◌, refl, true, List, ℕ, ltb}
use Rattle.std.proofs.Common.{arith, ltb-true, ltb-false}
use Rattle.language.specs.Cases.{split}
use Rattle.model.specs.Model as Model
use Rattle.layout.specs.Memory.{Memory, entry_count, entries_of, nodes_of}
use Rattle.table.specs.EntryForms.{forms_of}
use Rattle.table.specs.WellFormed.{well_formed}
use Rattle.formulas.specs.Formulas.{formulas}
use Rattle.bridge.specs.Recorded.{length-forms}
use Rattle.interface.specs.Calls.{print_answer}
use Rattle.demand.specs.Holds.{holds, Ok}
use Rattle.demand.proofs.Standing.{beyond, forms-joined, size-held, count-nodes}
use Rattle.demand.proofs.Editing.{Done}
use Rattle.demand.proofs.ReadBack.{form-nth}

-- the forms that the model holds are the entries'
held-forms : (m : Memory) → Model.forms formulas (holds m).entries ≡ forms_of (nodes_of (entries_of m))
held-forms m = forms-joined (forms_of (nodes_of (entries_of m))) (entries_of m) (size-held m)

pub printing : (m : Memory) (n : ℕ) (bytes : List ℕ) → Ok m → well_formed m ≡ true
    → Done m (Model.on_print formulas (holds m) true n bytes) (print_answer m n bytes)
unfolding print_answer Model.on_print Model.print_found
printing m n bytes o w =
    let f = o.whole in
    rw (f, w, held-forms m)
    (split (ltb n (entry_count m))
    (λ q. rw (q, form-nth m n (ltb-true n (entry_count m) q)) (record { answer = refl; ok = o; holds = refl }))
    (λ q.
    let l = length-forms (nodes_of (entries_of m)) in
    let h = beyond (forms_of (nodes_of (entries_of m))) n (omega (arith, ltb-false n (entry_count m) q, count-nodes m)) in
    rw (q, h) (record { answer = refl; ok = o; holds = refl })))
