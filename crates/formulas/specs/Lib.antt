pub mod Formulas
pub mod BindingLaws
pub mod Computed
pub mod Samples
pub mod Prints
pub mod Refusals
