pub mod Bound
mod Examples
pub mod Judging
pub mod Printed
pub mod Trees
