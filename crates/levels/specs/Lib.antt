pub mod Interpreting
pub mod Examples
