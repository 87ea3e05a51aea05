-- Laws of meaning: what follows from its definitions.
pub mod EvaluationLaws
pub mod FormsLaws
pub mod HasLaws
pub mod LevelsLaws
pub mod PartSubstitutionLaws
pub mod SubstitutionLaws
