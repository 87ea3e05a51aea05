-- Laws of interface: what follows from its definitions.
pub mod AcceptanceLaws
pub mod AnswersLaws
pub mod CallExamples
pub mod CallsLaws
pub mod EvaluateExamples
pub mod EvaluateLaws
pub mod Examples
pub mod Outcomes
