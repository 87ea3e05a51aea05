pub mod Forms
pub mod Binding
pub mod Evaluation
pub mod Examples
pub mod Substitution
pub mod PartSubstitution
pub mod Levels
