pub mod Lexing
pub mod LexingLaws
pub mod Loops
pub mod LoopsLaws
pub mod TokenLaws
