-- Demand 3, of any engine: one claim about the whole run of calls that follows an accepted open. That it holds of every engine that implements
-- the model is shown beside it (DemandLaws). Assumes nothing: these are definitions.
use Rattle.std.specs.Prelude.{◌≡◌, ◌↔◌, true, ℕ, suc, ◌≤◌, length}
use mathlib.Core.List.{List, [], map, Memᴰ}
use Rattle.std.proofs.Math.Option.{none, some}
use Rattle.std.proofs.Math.ListN.{get_elem?}
use Rattle.language.specs.Limits.{text_parts, table_entries}
use Rattle.model.specs.Lists.{All, occurrences}
use Rattle.model.specs.Language.{Language}
use Rattle.model.specs.Model.{Entry, forms, start, Open, Edit, Preview, Call, Answer, refused, opened, finished, left, said}
use Rattle.model.specs.Since.{Part, parts_given, no_opening, last_recording, total, previews_of, Sendable}
use Rattle.model.specs.Runs.{model, marks, rounds, answers, lent_left, after, work_log, in_the_end}
use Rattle.model.specs.Engine.{Engine, Sent, told, machine}

module _ (L : Language) (E : Engine L) where
  open L use {Form, Shown, Reading, same, works, shows}
  open E use {Memory, fits, says, leaves, holds, KeepsNone}

  -- The engine's answer to a call where m is the cache, and the cache that it leaves; edits and previews with what they are lent.
  abbrev pub reply : Memory → Sent E → Answer L
  reply = (machine E).answer

  abbrev pub memory_after : Memory → Sent E → Memory
  memory_after = (machine E).next

  abbrev pub edit : Memory → List ℕ → List ℕ → Sent E
  edit lent places text = record { lent = lent; request = Edit places text }

  abbrev pub preview : Memory → ℕ → ℕ → Sent E
  preview lent n a = record { lent = lent; request = Preview n a }

  -- Call c to memory m is a preview of number n that is finished and shows v.
  abbrev pub Finishes : Memory → Sent E → ℕ → Shown → Type 0
  Finishes m c n v = (allowance : ℕ) × (worked : ℕ) × (c.request ≡ Preview n allowance) × (reply m c ≡ finished worked v)

  -- The calls ds are sent to memory m, and none of them is an opening.
  pub record Follow (m : Memory) (ds : List (Sent E)) : Type 0 where
    pub sendable : Sendable L (map (told E) ds)
    pub quiet : no_opening L (answers (machine E) m ds) ≡ true

  -- Memory n, of any contents, is opened with r, and lent as l to an edit of x's text. Both are accepted, the part at x's place gets a number,
  -- and its preview, repeated with allowance a, shows v in the end.
  pub record Anew (n l : Memory) (r : List Reading) (x : Part L) (places : List ℕ) (a : ℕ) (v : Shown) : Type 0 where
    pub opened : says n (Open r) ≡ opened
    pub number : ℕ
    pub given : get_elem? (said L (reply (leaves n (Open r)) (edit l places x.text))).numbers x.place ≡ some number
    pub times : ℕ
    pub shown : in_the_end (machine E) times (memory_after (leaves n (Open r)) (edit l places x.text)) (preview l number a) ≡ some v

  -- Memory m, of any contents, is opened with r, and then the calls cs are sent.
  module _ (m : Memory) (r : List Reading) (cs : List (Sent E)) where
    -- what the model is told of them, what they get, and the cache that they leave
    abbrev pub calls : List (Call L)
    calls = map (told E) cs

    abbrev pub replies : List (Answer L)
    replies = answers (machine E) (leaves m (Open r)) cs

    abbrev pub last : Memory
    last = after (machine E) (leaves m (Open r)) cs

    -- the forms worked out since the last opening
    abbrev pub log : List Form
    log = work_log (machine E) [] (leaves m (Open r)) cs

    -- x is a part with the number that an edit since the last opening gave it
    abbrev pub Given : Part L → Type 0
    Given x = Memᴰ x (parts_given L [] calls replies)

    -- 01, "The plain book": all that is demanded of the answers and of what the cache holds in the end
    pub record Demand : Type 0 where
      -- Each call gets the model's answer and leaves the lent places or bytes as the model says, and the last memory holds what the model holds: the
      -- recording, the forms by number, and the marks with what their forms show. Number 4 never comes up.
      pub answered : replies ≡ answers (model L) (start L r) calls
      pub placed : lent_left (machine E) (leaves m (Open r)) cs ≡ lent_left (model L) (start L r) calls
      pub held : holds last ≡ after (model L) (start L r) calls
      pub recording : (holds last).recording ≡ last_recording L r calls replies
      pub never-four : All (λ (x : Answer L). (place : ℕ) → x ≡ refused 4 place → ⊥) replies
      -- Equal forms have one number, and there are at most 512. The worked-out members and functions are those marked, each with what it shows
      -- over the recording; unmarked entries keep none.
      pub distinct : (i j : ℕ) (f : Form) → get_elem? (forms L (holds last).entries) i ≡ some f → get_elem? (forms L (holds last).entries) j ≡ some f
          → i ≡ j
      pub few : length (holds last).entries ≤ table_entries
      pub mark-shown : (n : ℕ) (e : Entry L) (v : Shown) → get_elem? (holds last).entries n ≡ some e → e.mark ≡ some v
          → (works e.form ≡ true) × (v ≡ shows (holds last).recording e.form)
      pub bare : (n : ℕ) (e : Entry L) → get_elem? (holds last).entries n ≡ some e → e.mark ≡ none → KeepsNone last n
      -- What a finished preview of a part shows is what its let-free form shows over the recording, by evaluation.
      pub shown : (x : Part L) → Given x → (c : Sent E) (v : Shown) → Finishes last c x.number v → v ≡ shows (holds last).recording x.form
      -- Whatever was sent before, a finished preview of a part shows what its text, as the first edit after an opening over the same recording,
      -- shows in the end.
      pub fresh : (x : Part L) → Given x → (c : Sent E) (v : Shown) → Finishes last c x.number v
          → (n l : Memory) (places : List ℕ) (a : ℕ) → fits n ≡ true → fits l ≡ true → text_parts ≤ length places → 1 ≤ a
          → Anew n l (holds last).recording x places a v
      -- Parts carry one number exactly when their let-free forms are equal, and the number is that form's.
      pub one_number : (x y : Part L) → Given x → Given y → (x.number ≡ y.number) ↔ (x.form ≡ y.form)
      pub its-number : (x : Part L) → Given x → get_elem? (forms L (holds last).entries) x.number ≡ some x.form
      -- Nothing is worked out twice, and the counts answered add up to what was worked out, which is what is marked.
      pub once : (f : Form) → occurrences same f log ≤ 1
      pub sum : total L 0 replies ≡ length log
      pub marked : total L 0 replies ≡ marks L (holds last).entries
      -- Of a part with k left, the preview with allowance a is finished at the latest the ⌈k/a⌉th time, or the first where k is 0, whatever calls
      -- but an opening come between, and it shows what the part's form shows.
      pub in-time : (x : Part L) → Given x → (a : ℕ) → 1 ≤ a → (ds : List (Sent E)) → Follow last ds → (l : Memory) → fits l ≡ true
          → rounds (left L x.form (holds last).entries) a ≤ suc (previews_of L x.number a (map (told E) ds) (answers (machine E) last ds))
          → (k : ℕ) × (reply (after (machine E) last ds) (preview l x.number a) ≡ finished k (shows (holds last).recording x.form))
      -- Work is kept: once a preview of a part is finished, each later one, until an opening, shows the same and works nothing out.
      pub kept : (x : Part L) → Given x → (c : Sent E) (v : Shown) → Finishes last c x.number v
          → (a : ℕ) (ds : List (Sent E)) → Follow (memory_after last c) ds → (l : Memory) → fits l ≡ true
          → reply (after (machine E) (memory_after last c) ds) (preview l x.number a) ≡ finished 0 v
