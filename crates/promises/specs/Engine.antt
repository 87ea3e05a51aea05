-- The engine as the contracts of its calls state it, over the memory of a cache and what that holds. That it implements the reference model is in
-- Implementing. Assumes nothing: these are definitions.
use Rattle.std.specs.Prelude.{◌≡◌}
use Rattle.model.specs.Model.{Request, Open, Edit, Preview, Print, lent_after}
use Rattle.model.specs.Engine.{Engine}
use Rattle.formulas.specs.Formulas.{formulas}
use Rattle.layout.specs.Memory.{Memory, fits, kept_at, nothing_kept}
use Rattle.interface.specs.Answers.{Reply}
use Rattle.interface.specs.Calls.{open_answer, open_memory, edit_answer, edit_memory, preview_answer, preview_memory, print_answer}
use Rattle.demand.specs.Holds.{holds}
use Rattle.promises.specs.Lending.{lend, back}

-- what a call over lent memory answers, and what it leaves there
abbrev pub says : Memory → Request formulas → Reply
says m (Open r) = open_answer m r
says m (Edit places text) = edit_answer m places text
says m (Preview n a) = preview_answer m n a
says m (Print n bytes) = print_answer m n bytes

abbrev pub leaves : Memory → Request formulas → Memory
leaves m (Open r) = open_memory m r
leaves m (Edit places text) = edit_memory m places text
leaves m (Preview n a) = preview_memory m n a
leaves m (Print n bytes) = m

-- 01, "The marker's conditions": each call by the equations of its contract
abbrev pub engine : Engine formulas
engine =
    record {
      Memory = Memory;
      fits = fits;
      lend = lend;
      back = back;
      says = says;
      fills = λ m q. lent_after formulas q (says m q);
      leaves = leaves;
      holds = holds;
      KeepsNone = λ m n. kept_at m.cells n ≡ nothing_kept;
    }
