-- Runs of calls, of the model or of an engine: the answers, the lent places or bytes and the memory afterwards, the forms worked out, and what a repeated
-- preview shows in the end. Assumes nothing.
use Rattle.std.specs.Prelude.{cond, not, ◌&&◌, List, [], ◌∷◌, ◌++◌, ℕ, zero, suc, ◌+◌, ◌-◌, ◌/◌, max}
use Rattle.std.proofs.Math.Option.{Option, none, or_else}
use Rattle.model.specs.Lists.{count_if}
use Rattle.model.specs.Language.{Language}
use Rattle.model.specs.Model.{Entry, State, marked, Call, Answer, lent_after, said, respond}

-- Something that is sent calls: to each it gives an answer and leaves the lent places or bytes and its memory, which holds a state of the model.
pub record Machine (L : Language) : Type 1 where
  pub Memory : Type 0
  pub Sent : Type 0
  pub answer : Memory → Sent → Answer L
  pub lent : Memory → Sent → List ℕ
  pub next : Memory → Sent → Memory
  pub holds : Memory → State L

-- The reference model as such a machine.
abbrev pub model : (L : Language) → Machine L
model L =
    record {
      Memory = State L;
      Sent = Call L;
      answer = λ s c. (respond L s c).answer;
      lent = λ s c. lent_after L c.request (respond L s c).answer;
      next = λ s c. (respond L s c).state;
      holds = λ s. s;
    }

module _ (L : Language) where
  -- The marked entries.
  abbrev pub marks : List (Entry L) → ℕ
  marks = count_if (marked L)

  -- The forms that are marked in the second list of entries and, by number, not in the first.
  unfoldable pub newly_marked : List (Entry L) → List (Entry L) → List L.Form
  newly_marked es [] = []
  newly_marked [] (f ∷ fs) = cond (marked L f) (f.form ∷ newly_marked [] fs) (newly_marked [] fs)
  newly_marked (e ∷ es) (f ∷ fs) = cond (not (marked L e) && marked L f) (f.form ∷ newly_marked es fs) (newly_marked es fs)

module _ {L : Language} (M : Machine L) where
  -- The answers to a list of calls, the lent places or bytes after each of them, and the memory after all.
  unfoldable pub answers : M.Memory → List M.Sent → List (Answer L)
  answers m [] = []
  answers m (c ∷ cs) = M.answer m c ∷ answers (M.next m c) cs

  unfoldable pub lent_left : M.Memory → List M.Sent → List (List ℕ)
  lent_left m [] = []
  lent_left m (c ∷ cs) = M.lent m c ∷ lent_left (M.next m c) cs

  unfoldable pub after : M.Memory → List M.Sent → M.Memory
  after m [] = m
  after m (c ∷ cs) = after (M.next m c) cs

  -- The forms worked out since the last opening, call by call, by the marks that the memory holds.
  unfoldable pub work_log : List L.Form → M.Memory → List M.Sent → List L.Form
  work_log fs m [] = fs
  work_log fs m (c ∷ cs) =
      work_log (cond (said L (M.answer m c)).opening [] (fs ++ newly_marked L (M.holds m).entries (M.holds (M.next m c)).entries))
      (M.next m c) cs

  -- What the first finished preview shows when a call is sent again and again, at most so many times (01: in the end).
  unfoldable pub in_the_end : ℕ → M.Memory → M.Sent → Option L.Shown
  in_the_end zero m c = none
  in_the_end (suc times) m c = or_else (said L (M.answer m c)).shown (in_the_end times (M.next m c) c)

-- How many previews with allowance a it takes where k are left: ⌈k/a⌉, and at least one.
unfoldable pub rounds : ℕ → ℕ → ℕ
rounds k a = max 1 ((k + (a - 1)) / a)
