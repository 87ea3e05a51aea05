pub mod Paths
pub mod OnCells
