-- What is known of a preview that is finished, and of the cache that it leaves. Assumes nothing.
use Rattle.std.specs.Prelude.{◌≡◌, true, ℕ, ◌<◌, ltb}
use Rattle.std.proofs.Common.{◌∙◌, arith, ltb-true}
use Rattle.language.specs.Cases.{split}
use Rattle.model.specs.Lists.{All}
use Rattle.formulas.specs.Formulas.{IsReading}
use Rattle.layout.specs.Memory.{Memory, fits, entry_count, reading_count, recording_of}
use Rattle.table.specs.WellFormed.{well_formed}
use Rattle.schedule.specs.declared.View.{View}
use Rattle.schedule.specs.Works.{show_of}
use Rattle.std.specs.Prelude.{Ok}
use Rattle.interface.specs.declared.answers.Previewed.TheVariants.{Finished}
use Rattle.interface.specs.Calls.{work_on, worked_memory, previewed, preview_memory}
use Rattle.promises.proofs.Accepting.{preview-fits, preview-well}

pub record FinishedBy (m : Memory) (n a : ℕ) (v : View) : Type 0 where
  pub held : n < entry_count m
  pub memory : preview_memory m n a ≡ worked_memory m (work_on m n a)
  pub whole : fits (worked_memory m (work_on m n a)) ≡ true
  pub well : well_formed (worked_memory m (work_on m n a)) ≡ true
  pub shows : show_of (reading_count m) m.links (work_on m n a).cells n ≡ v

pub finished-by : (m : Memory) (n a k : ℕ) (v : View) → previewed m n a ≡ Ok (Finished k v) → All IsReading (recording_of m) → FinishedBy m n a v
unfolding previewed preview_memory
finished-by m n a k v e sound =
    split (fits m)
    (λ f. split (well_formed m)
    (λ u. split (ltb n (entry_count m))
    (λ l. split (work_on m n a).left
    (λ t. let z = rw (f, u, l, t) at e in let y : ◌≡◌ {A = ℕ} 0 1 = cc in absurd (omega arith))
    (λ t.
    let z = rw (f, u, l, t) at e in
    record {
      held = ltb-true n (entry_count m) l;
      memory = rw (f, u, l);
      whole = rw (f, u, l) at (preview-fits m n a ∙ f);
      well = rw (f, u, l) at (preview-well m n a u sound);
      shows = cc;
    }))
    (λ l. let z = rw (f, u, l) at e in let y : ◌≡◌ {A = ℕ} 0 1 = cc in absurd (omega arith)))
    (λ u. let z = rw (f, u) at e in let y : ◌≡◌ {A = ℕ} 0 1 = cc in absurd (omega arith)))
    (λ f. let z = rw f at e in let y : ◌≡◌ {A = ℕ} 0 1 = cc in absurd (omega arith))
