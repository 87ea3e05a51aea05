-- Why the steps of an edit are those of its definition. Assumes nothing.
use mathlib.Core.Path.{◌≡◌, refl, sym, ap, ◌∙◌}
use mathlib.Core.Bool.{true, false}
use mathlib.Core.List.{List, [], ◌∷◌, map}
use Prim.Native.Nat.{ℕ, ◌-◌, ◌≤◌, ◌<◌}
use native.Mathlib.Omega.{arith}
use Rattle.std.specs.Prelude.{◌⊎◌}
use Rattle.std.proofs.Common.{⊎_elim}
use borrow.Author.Tests.{lt-ltb, le-ltb, le-leb, lt-leb}
use lib.IntN.{ℤ}
use lib.ListN.{length, get_or, take, length-map}
use lib.Seq.{take_at, length-take-le}
use Rattle.language.specs.Limits.{text_bytes, text_parts, table_entries}
use Rattle.model.specs.Model.{edited, written}
use Rattle.layout.specs.Memory.{Memory, fits, entry_count, memory}
use Rattle.table.specs.WellFormed.{well_formed}
use Rattle.table.specs.Bind.{append_all}
use Rattle.layout.specs.Numbered.{numbered}
use Rattle.layout.specs.Held.{fresh_at}
use Rattle.binder.specs.Written.{placed}
use Rattle.planner.specs.declared.plan.Plan.{Plan}
use Rattle.planner.specs.Plans.{Planned}
use Rattle.interface.specs.declared.answers.Edited.{Edited}
use Rattle.std.specs.Prelude.{Result, Ok, Err, IsErrAnd}
use Rattle.std.proofs.lemmas.Result.{err_from_is_err_and}
use Rattle.language.specs.declared.refusals.Refusal.TheVariants.{TextTooLong, MemoryTooSmall, CacheIllFormed}
use Rattle.language.specs.declared.refusals.Refused.{Refused}
use Rattle.interface.specs.Answers.{declined}
use Rattle.interface.specs.Calls.{edit_answer, edit_memory}
use Rattle.interface.specs.Effects.{Edits}
use Rattle.calls.specs.Editing.{EditsRead}

-- What an accepted plan promises to the writes.
pub plan-room : (links cells text : List ℕ) (count : ℕ) (r : Result Plan Refused) (P N F : List ℕ)
    → ((readings : List ℤ) (heads : List ℕ) → get_or heads 0 0 ≡ count → Planned (memory readings heads links cells) text r P N F)
    → (p : Plan) → r ≡ Ok p → (count ≤ p.total) × (p.total ≤ table_entries) × (p.parts ≤ text_parts) × (length P ≡ text_parts)
plan-room links cells text count r P N F plans p z =
    let a = rw z at (plans [] (count ∷ []) refl) in (a.low, a.high, a.few, a.room)

-- The writes of an edit that is accepted, and an edit that is declined by its text.
module _ (m : Memory) (places text : List ℕ) (r : Result Plan Refused) (P N F : List ℕ) (plans : Planned m text r P N F) where
  pub edit-declined : (e : Refused) → r ≡ Err e → (x : Result Edited Refused) → IsErrAnd x (λ f. f ≡ e) → EditsRead m places text m places x
  unfolding written
  edit-declined e z x w =
      let d = rw z at plans in
      let y = err_from_is_err_and x w in
      rw (y.1, y.2) (record { answer = sym d.answer; memory = sym d.memory; placed = rw d.answer })

  pub edit-accepted : (p : Plan) → r ≡ Ok p → (m' : Memory) (places' : List ℕ) (count : ℕ) → count ≡ entry_count m
      → m' ≡ append_all m (numbered (fresh_at F) 0 (p.total - count)) → places' ≡ placed N (take p.parts P) places
      → EditsRead m places text m' places' (Ok (record { whole = p.whole; parts = p.parts; added = p.total - count }))
  unfolding written placed
  edit-accepted p z m' places' count qc qm qp =
      let a = rw z at plans in
      let parts : length (map (λ (j : ℕ). get_or N j 0) (take p.parts P)) ≡ p.parts =
      length-map (take p.parts P) (λ (j : ℕ). get_or N j 0) ∙ length-take-le p.parts P (omega (arith, a.few, a.room)) in
      let numbers : take p.parts places' ≡ map (λ (j : ℕ). get_or N j 0) (take p.parts P) =
      ap (take p.parts) qp ∙ take_at (map (λ (j : ℕ). get_or N j 0) (take p.parts P)) _ p.parts parts in
      record {
        answer = ap (edited p.whole p.parts (p.total - count)) numbers ∙ rw qc (sym a.answer);
        memory = qm ∙ rw qc (sym a.memory);
        placed = qp ∙ rw (a.answer, length-map (take p.parts P) (λ (j : ℕ). get_or N j 0));
      }

-- The refusals in their order.
module _ (m : Memory) (places text : List ℕ) where
  pub edit-long : text_bytes < length text → (e : Refused) → e ≡ declined TextTooLong 0 → Edits m places text m places (Err e)
  unfolding edit_answer edit_memory written
  edit-long h e w = let q = lt-ltb text_bytes (length text) h in rw w (record { answer = rw q; memory = rw q; placed = rw q })

  module _ (short : length text ≤ text_bytes) where
    pub edit-small : (fits m ≡ false) ⊎ ((fits m ≡ true) × (length places < text_parts)) → (e : Refused) → e ≡ declined MemoryTooSmall 0 → Edits m places text m places (Err e)
    unfolding edit_answer edit_memory written
    edit-small h e w =
        let q = le-ltb text_bytes (length text) short in
        rw w (⊎_elim
        (λ (f : fits m ≡ false). record { answer = rw (q, f); memory = rw (q, f); placed = rw (q, f) })
        (λ (p : (fits m ≡ true) × (length places < text_parts)). let f = p.0 in
        let k = lt-leb text_parts (length places) p.1 in
        record { answer = rw (q, f, k); memory = rw (q, f, k); placed = rw (q, f, k) })
        h)

    module _ (f : fits m ≡ true) (many : text_parts ≤ length places) where
      pub edit-ill : well_formed m ≡ false → (e : Refused) → e ≡ declined CacheIllFormed 0 → Edits m places text m places (Err e)
      unfolding edit_answer edit_memory written
      edit-ill w e d =
          let q = le-ltb text_bytes (length text) short in
          let k = le-leb text_parts (length places) many in
          rw d (record { answer = rw (q, f, k, w); memory = rw (q, f, k, w); placed = rw (q, f, k, w) })

      pub edit-text : (m' : Memory) (places' : List ℕ) (r : Result Edited Refused) → well_formed m ≡ true → EditsRead m places text m' places' r
          → Edits m places text m' places' r
      unfolding edit_answer edit_memory
      edit-text m' places' r w x =
          let q = le-ltb text_bytes (length text) short in
          let k = le-leb text_parts (length places) many in
          record { answer = rw (q, f, k, w) x.answer; memory = rw (q, f, k, w) x.memory; placed = rw (q, f, k, w) x.placed }
