pub mod Calling
pub mod Columns
pub mod Leaves
