-- An engine, as the contracts of its exported functions state it, and the engine as a machine that is sent calls.
-- Assumes nothing: these are definitions.
use Rattle.std.specs.Prelude.{Bool, List, ℕ}
use Rattle.model.specs.Language.{Language}
use Rattle.model.specs.Model.{State, Request, Call, Answer}
use Rattle.model.specs.Runs.{Machine}

-- what is known of an engine
pub record Engine (L : Language) : Type 1 where
  -- the memory lent for a cache, of any contents, and whether it has the cache's size
  pub Memory : Type 0
  pub fits : Memory → Bool
  -- lend n m is the memory n whose cells, as far as the cache's sizes go, are those of the cache m; back m p is the cache m once what was lent
  -- of it is back as p
  pub lend : Memory → Memory → Memory
  pub back : Memory → Memory → Memory
  -- what a call over lent memory answers, the lent places or bytes afterwards, and the lent memory afterwards
  pub says : Memory → Request L → Answer L
  pub fills : Memory → Request L → List ℕ
  pub leaves : Memory → Request L → Memory
  -- the state that a cache holds: recording, forms by number, kept results; and that the entry of a number keeps none
  pub holds : Memory → State L
  pub KeepsNone : Memory → ℕ → Type 0

module _ {L : Language} (E : Engine L) where
  open E use {Memory}

  -- A call, and the memory that it is lent: the cache as the last call left it, or too little of it. Only the lengths of that memory and its
  -- cells beyond the cache's sizes are its own.
  pub record Sent : Type 0 where
    pub lent : Memory
    pub request : Request L

  -- what the model is told of a call
  abbrev pub told : Sent → Call L
  told c = record { enough = E.fits c.lent; request = c.request }

  -- the engine as a machine
  abbrev pub machine : Machine L
  machine =
      record {
        Memory = Memory;
        Sent = Sent;
        answer = λ m c. E.says (E.lend c.lent m) c.request;
        lent = λ m c. E.fills (E.lend c.lent m) c.request;
        next = λ m c. E.back m (E.leaves (E.lend c.lent m) c.request);
        holds = E.holds;
      }
