-- Demand 1: a declined call changes no lent memory. Assumes nothing.
use Rattle.std.specs.Prelude.{◌≡◌, refl, ◌&&◌, List, ℕ, leb, ltb, ℤ, length}
use Rattle.std.proofs.lemmas.Bool.{false≢true}
use Rattle.std.proofs.Common.{ap}
use Rattle.language.specs.Limits.{text_bytes, text_parts, table_readings}
use Rattle.language.specs.Cases.{split}
use Rattle.grammar.specs.Reading.{Reading, tree, refused as refused_at}
use Rattle.grammar.specs.Machine.{read_text}
use Rattle.model.specs.Model.{refused, opened, written}
use Rattle.layout.specs.Memory.{Memory, fits, entry_count}
use Rattle.table.specs.WellFormed.{well_formed}
use Rattle.records.specs.Records.{records_of}
use Rattle.formulas.specs.Formulas.{formulas}
use Rattle.std.specs.Prelude.{Err}
use Rattle.language.specs.declared.refusals.Refusal.{Refusal}
use Rattle.interface.specs.Answers.{Reply}
use Rattle.interface.specs.Calls.{too_many, bound_to, read_answer, read_memory, open_answer, open_memory, edit_answer, edit_memory, edit_places, previewed, preview_memory}

pub open-declined : (m : Memory) (r : List ℤ) (n at : ℕ) → open_answer m r ≡ refused n at → open_memory m r ≡ m
unfolding open_answer open_memory
open-declined m r n at h =
    split (ltb table_readings (length r)) (λ p. rw p)
    (λ p. split (fits m) (λ q. absurd (false≢true (let z : opened ≡ refused n at = rw (p, q) at h in cc))) (λ q. rw (p, q)))

-- a text that is read is declined only where it is too much for the table
read-declined : (m : Memory) (x : Reading) (n at : ℕ) → read_answer m x ≡ refused n at → read_memory m x ≡ m
unfolding read_answer read_memory
read-declined m (refused_at k p) n at h = refl
read-declined m (tree e) n at h =
    split (too_many (bound_to m (records_of e))) (λ p. rw p) (λ p. absurd (false≢true (let z = rw p at h in cc)))

pub edit-declined : (m : Memory) (places text : List ℕ) (n at : ℕ) → edit_answer m places text ≡ refused n at
    → (edit_memory m places text ≡ m) × (edit_places m places text ≡ places)
unfolding edit_answer edit_memory written
edit-declined m places text n at h = (memory, ap (λ (x : Reply). written formulas x places) h)
  where
    memory : edit_memory m places text ≡ m
    memory =
        split (ltb text_bytes (length text)) (λ p. rw p)
        (λ p. split (fits m && leb text_parts (length places))
        (λ q. split (well_formed m) (λ w. rw (p, q, w) (read-declined m (read_text text) n at (rw (p, q, w) at h))) (λ w. rw (p, q, w)))
        (λ q. rw (p, q)))

pub preview-declined : (m : Memory) (n a : ℕ) (e : Refusal) → previewed m n a ≡ Err e → preview_memory m n a ≡ m
unfolding previewed preview_memory
preview-declined m n a e h =
    split (fits m)
    (λ f. split (well_formed m)
    (λ w. split (ltb n (entry_count m))
    (λ l. absurd (false≢true (let z = rw (f, w, l) at h in cc)))
    (λ l. rw (f, w, l)))
    (λ w. rw (f, w)))
    (λ f. rw f)
