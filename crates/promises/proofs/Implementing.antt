-- The engine, as the contracts of its calls state it, implements the reference model. Assumes nothing.
use Rattle.std.specs.Prelude.{◌≡◌, refl, false, ltb, length}
use Rattle.language.specs.Limits.{text_bytes, table_readings}
use Rattle.language.specs.Cases.{split}
use Rattle.model.specs.Model as Model
use Rattle.model.specs.Model.{State, Request, Open, Edit, Preview, Print, Outcome, Answer}
use Rattle.model.specs.Responses.{answer}
use Rattle.model.specs.Implements.{Agrees, Same, Implements}
use Rattle.formulas.specs.Formulas.{formulas}
use Rattle.bridge.specs.FormulaLaws.{formula-laws}
use Rattle.layout.specs.Memory.{Memory, fits}
use Rattle.interface.specs.Calls.{open_answer, open_memory, edit_answer, edit_memory, previewed, preview_memory, print_answer}
use Rattle.demand.specs.Holds.{holds, Ok}
use Rattle.demand.proofs.Editing.{Done, editing}
use Rattle.demand.proofs.Opening.{opening, too_long}
use Rattle.demand.proofs.Accepted.{accepted}
use Rattle.demand.proofs.Previewing.{previewing}
use Rattle.demand.proofs.Printing.{printing}
use Rattle.promises.specs.Engine.{says, leaves, engine}
use Rattle.promises.proofs.LendingLaws.{lent-short, restored, lent-whole, back_whole, keeps-none}

agrees : (o : Outcome formulas) (x : Answer formulas) (m : Memory) → Done m o x → Agrees engine Ok o x m
agrees o x m d = record { answer = d.answer; ok = d.ok; holds = d.holds }

same : (m n : Memory) → Ok n × (holds n ≡ holds m) → Same engine Ok m n
same m n p = record { ok = p.0; holds = p.1 }

-- memory under the cache's size
short-answer : (m : Memory) (q : Request formulas) (s : State formulas) → fits m ≡ false → says m q ≡ answer formulas s (record { enough = false; request = q })
unfolding open_answer edit_answer previewed print_answer Model.on_request Model.on_open Model.on_edit Model.on_preview Model.on_print
short-answer m (Open r) s f = split (ltb table_readings (length r)) (λ p. rw (p, answer)) (λ p. rw (p, f, answer))
short-answer m (Edit places text) s f = split (ltb text_bytes (length text)) (λ p. rw (p, answer)) (λ p. rw (p, f, answer))
short-answer m (Preview n a) s f = rw (f, answer)
short-answer m (Print n bytes) s f = rw (f, answer)

short-memory : (m : Memory) (q : Request formulas) → fits m ≡ false → leaves m q ≡ m
unfolding open_memory edit_memory preview_memory
short-memory m (Open r) f = split (ltb table_readings (length r)) (λ p. rw p) (λ p. rw (p, f))
short-memory m (Edit places text) f = split (ltb text_bytes (length text)) (λ p. rw p) (λ p. rw (p, f))
short-memory m (Preview n a) f = rw f
short-memory m (Print n bytes) f = refl

pub implements : Implements formulas formula-laws engine
implements =
    record {
      Ok = Ok;
      kept-fits = λ m o. o.whole;
      bare = keeps-none;
      lent = λ n m f o i. same _ _ (lent-whole m o i n f);
      returned = λ m p o q i. same _ _ (back_whole p q i m);
      short = lent-short;
      restored = restored;
      short-answer = short-answer;
      short-memory = short-memory;
      long = λ m r f h. too_long m r h;
      opening = λ m r f h sound. agrees _ _ _ (opening m r f h);
      edit = λ m places text o i. agrees _ _ _ (editing m places text o i (accepted m o i));
      preview = λ m n a o i. agrees _ _ _ (previewing m n a o i (accepted m o i));
      print = λ m n bytes o i. agrees _ _ _ (printing m n bytes o (accepted m o i));
      lent-after = λ m q. refl;
    }
