pub mod Calls
pub mod LoopLaws
pub mod Leaving
