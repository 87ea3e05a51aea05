-- What a call gets and what is then held, each under its own name, for the laws. Assumes nothing: these are definitions.
use Rattle.model.specs.Language.{Language}
use Rattle.model.specs.Model.{State, Call, Answer, respond}

module _ (L : Language) where
  abbrev pub answer : State L → Call L → Answer L
  answer s c = (respond L s c).answer

  abbrev pub next : State L → Call L → State L
  next s c = (respond L s c).state
