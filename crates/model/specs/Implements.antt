-- What is asked of an engine: its step equations agree with the model. Assumes nothing: these are definitions.
use Rattle.std.specs.Prelude.{◌≡◌, true, false, List, ℕ, ◌≤◌, ◌<◌, length}
use Rattle.std.proofs.Math.Option.{none, some}
use Rattle.std.proofs.Math.ListN.{get_elem?}
use Rattle.language.specs.Limits.{table_readings}
use Rattle.model.specs.Language.{Language}
use Rattle.model.specs.Model.{Entry, State, Request, Open, Edit, Preview, Print, Answer, refused, opened, lent_after, Outcome, start, on_edit, on_preview, on_print}
use Rattle.model.specs.Responses.{answer}
use Rattle.model.specs.Laws.{Laws}
use Rattle.model.specs.Invariant.{Invariant}
use Rattle.model.specs.Engine.{Engine}

module _ {L : Language} (E : Engine L) (Ok : E.Memory → Type 0) where
  -- an answer and a memory that agree with an outcome of the model
  pub record Agrees (o : Outcome L) (x : Answer L) (m : E.Memory) : Type 0 where
    pub answer : x ≡ o.answer
    pub ok : Ok m
    pub holds : E.holds m ≡ o.state

  -- a cache that holds what m holds
  pub record Same (m n : E.Memory) : Type 0 where
    pub ok : Ok n
    pub holds : E.holds n ≡ E.holds m

-- The engine implements the model.
pub record Implements (L : Language) (H : Laws L) (E : Engine L) : Type 1 where
  -- how a cache that was opened and kept is arranged: it has the size, and an entry without a mark keeps nothing
  pub Ok : E.Memory → Type 0
  pub kept-fits : (m : E.Memory) → Ok m → E.fits m ≡ true
  pub bare : (m : E.Memory) → Ok m → (n : ℕ) (e : Entry L) → get_elem? (E.holds m).entries n ≡ some e → e.mark ≡ none → E.KeepsNone m n
  -- lending a cache in memory of its size, and taking back what a call left
  pub lent : (n m : E.Memory) → E.fits n ≡ true → Ok m → Invariant L H (E.holds m) → Same E Ok m (E.lend n m)
  pub returned : (m p : E.Memory) → Ok m → Ok p → Invariant L H (E.holds p) → Same E Ok p (E.back m p)
  -- lending too little, and taking it back as it was
  pub short : (n m : E.Memory) → E.fits n ≡ false → E.fits (E.lend n m) ≡ false
  pub restored : (n m : E.Memory) → E.fits m ≡ true → E.back m (E.lend n m) ≡ m
  -- memory under the cache's size: the call is declined, whatever the model holds, and the memory stays
  pub short-answer : (m : E.Memory) (q : Request L) (s : State L) → E.fits m ≡ false
      → E.says m q ≡ answer L s (record { enough = false; request = q })
  pub short-memory : (m : E.Memory) (q : Request L) → E.fits m ≡ false → E.leaves m q ≡ m
  -- open, over memory of any contents
  pub long : (m : E.Memory) (r : List L.Reading) → E.fits m ≡ true → table_readings < length r
      → (E.says m (Open r) ≡ refused 2 0) × (E.leaves m (Open r) ≡ m)
  pub opening : (m : E.Memory) (r : List L.Reading) → E.fits m ≡ true → length r ≤ table_readings → L.Sound r
      → Agrees E Ok (record { answer = opened; state = start L r }) (E.says m (Open r)) (E.leaves m (Open r))
  -- edit, preview and print, over a cache that was opened and kept
  pub edit : (m : E.Memory) (places text : List ℕ) → Ok m → Invariant L H (E.holds m)
      → Agrees E Ok (on_edit L (E.holds m) true places text) (E.says m (Edit places text)) (E.leaves m (Edit places text))
  pub preview : (m : E.Memory) (n a : ℕ) → Ok m → Invariant L H (E.holds m)
      → Agrees E Ok (on_preview L (E.holds m) true n a) (E.says m (Preview n a)) (E.leaves m (Preview n a))
  pub print : (m : E.Memory) (n : ℕ) (bytes : List ℕ) → Ok m → Invariant L H (E.holds m)
      → Agrees E Ok (on_print L (E.holds m) true n bytes) (E.says m (Print n bytes)) (E.leaves m (Print n bytes))
  -- an edit's lent places and a print's lent bytes, over every memory
  pub lent-after : (m : E.Memory) (q : Request L) → E.fills m q ≡ lent_after L q (E.says m q)
