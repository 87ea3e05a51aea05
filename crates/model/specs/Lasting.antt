-- The recording is that of the last opening. Assumes nothing.
use Rattle.std.specs.Prelude.{◌≡◌, false, cond}
use Rattle.std.proofs.Math.Path.{refl, ap}
use Rattle.std.proofs.Common.{◌∙◌}
use mathlib.Core.List.{List, [], ◌∷◌}
use Rattle.model.specs.Language.{Language}
use Rattle.model.specs.Model.{State, Call, Answer, said}
use Rattle.model.specs.Responses.{answer, next}
use Rattle.model.specs.Since.{recording_of, last_recording}
use Rattle.model.specs.Runs.{model, answers, after}
use Rattle.model.specs.Laws.{Laws}
use Rattle.model.specs.Steps.{Step, declines, opens, edits, previews, prints, step}
use Rattle.model.specs.Numbers.{of-preview}

module _ (L : Language) (H : Laws L) where
  open L use {Form, Reading}

  recording-step : (s : State L) (c : Call L)
      → (next L s c).recording ≡ cond (said L (answer L s c)).opening (recording_of L s.recording c.request) s.recording
  recording-step s c = go (step L H s c)
    where
      go : Step L s c → (next L s c).recording ≡ cond (said L (answer L s c)).opening (recording_of L s.recording c.request) s.recording
      go (declines n at four x) = rw (x, answer, next)
      go (prints n bs t q x) = rw (x, answer, next)
      go (opens r q z x) = rw (x, q, answer, next)
      go (edits ps t order places whole q l room rd z x) = rw (x, answer, next)
      go (previews n a f q z x) = rw (x, answer, next) (rw (of-preview L (λ (x : Answer L). (said L x).opening) false _ _ _ refl refl))

  pub recording-last : (s : State L) (cs : List (Call L))
      → (after (model L) s cs).recording ≡ last_recording L s.recording cs (answers (model L) s cs)
  unfolding after answers last_recording
  recording-last s [] = refl
  recording-last s (c ∷ cs) =
      recording-last (next L s c) cs
      ∙ ap (λ (r : List Reading). last_recording L r cs (answers (model L) (next L s c) cs)) (recording-step s c)
