-- What calls and their answers alone say since the last opening: the recording, the parts' numbers, the counts, the accepted previews.
-- Assumes nothing.
use Rattle.std.specs.Prelude.{Bool, true, false, cond, not, ◌&&◌, List, [], ◌∷◌, ◌++◌, ℕ, suc, ◌+◌, eqb}
use Rattle.model.specs.Lists.{All}
use Rattle.model.specs.Language.{Language, Parsed, rejected, parts}
use Rattle.model.specs.Model.{Request, Open, Edit, Preview, Print, Call, Answer, said}

module _ (L : Language) where
  open L use {Form, Reading, Sound, read}

  -- Any text, places, bytes and numbers can be sent, and readings that a recording can hold.
  abbrev pub SoundRequest : Request L → Type 0
  SoundRequest (Open r) = Sound r
  SoundRequest (Edit ps t) = Unit {0}
  SoundRequest (Preview n a) = Unit {0}
  SoundRequest (Print n bs) = Unit {0}

  abbrev pub Sendable : List (Call L) → Type 0
  Sendable = All (λ (c : Call L). SoundRequest c.request)

  -- None of the answers is an opening.
  unfoldable pub no_opening : List (Answer L) → Bool
  no_opening [] = true
  no_opening (x ∷ xs) = not (said L x).opening && no_opening xs

  -- The recording of the last opening.
  abbrev pub recording_of : List Reading → Request L → List Reading
  recording_of r (Open r') = r'
  recording_of r (Edit ps t) = r
  recording_of r (Preview n a) = r
  recording_of r (Print n bs) = r

  unfoldable pub last_recording : List Reading → List (Call L) → List (Answer L) → List Reading
  last_recording r [] xs = r
  last_recording r (c ∷ cs) [] = r
  last_recording r (c ∷ cs) (x ∷ xs) = last_recording (cond (said L x).opening (recording_of r c.request) r) cs xs

  -- The part at a place of a text, its let-free form, and the number that an accepted edit gave at that place.
  pub record Part : Type 0 where
    pub text : List ℕ
    pub place : ℕ
    pub form : Form
    pub number : ℕ

  -- Forms and numbers by place, as parts of the text t from place p on.
  unfoldable pub parts_from : List ℕ → ℕ → List Form → List ℕ → List Part
  parts_from t p [] ns = []
  parts_from t p (f ∷ fs) [] = []
  parts_from t p (f ∷ fs) (n ∷ ns) = record { text = t; place = p; form = f; number = n } ∷ parts_from t (suc p) fs ns

  -- The let-free forms of a text's parts, and the numbers that an accepted edit gave them.
  abbrev pub forms_by_place : Parsed Form → List Form
  forms_by_place (rejected n at) = []
  forms_by_place (parts order places whole) = places

  -- The parts that a call numbers.
  abbrev pub parts_in : Request L → Answer L → List Part
  parts_in (Open r) x = []
  parts_in (Edit ps t) x = parts_from t 0 (forms_by_place (read t)) (said L x).numbers
  parts_in (Preview n a) x = []
  parts_in (Print n bs) x = []

  -- The parts numbered since the last opening.
  unfoldable pub parts_given : List Part → List (Call L) → List (Answer L) → List Part
  parts_given ps [] xs = ps
  parts_given ps (c ∷ cs) [] = ps
  parts_given ps (c ∷ cs) (x ∷ xs) = parts_given (cond (said L x).opening [] (parts_in c.request x ++ ps)) cs xs

  -- The sum of the counts answered since the last opening.
  unfoldable pub total : ℕ → List (Answer L) → ℕ
  total k [] = k
  total k (x ∷ xs) = total (cond (said L x).opening 0 (k + (said L x).worked)) xs

  -- The accepted previews of number n with allowance a.
  abbrev pub asks : ℕ → ℕ → Request L → Bool
  asks n a (Open r) = false
  asks n a (Edit ps t) = false
  asks n a (Preview m b) = eqb n m && eqb a b
  asks n a (Print m bs) = false

  unfoldable pub previews_of : ℕ → ℕ → List (Call L) → List (Answer L) → ℕ
  previews_of n a [] xs = 0
  previews_of n a (c ∷ cs) [] = 0
  previews_of n a (c ∷ cs) (x ∷ xs) = cond ((said L x).preview && asks n a c.request) 1 0 + previews_of n a cs xs
