pub mod Graphs
pub mod Recorded
pub mod Words
pub mod Proper
pub mod ProperLaws
pub mod FormulaLaws
pub mod LetLaws
