pub mod Rows
pub mod Fitting
pub mod Chunks
pub mod FittingLaws
pub mod Examples
