pub mod Views
pub mod Answers
pub mod Calls
pub mod Effects
pub mod Acceptance
