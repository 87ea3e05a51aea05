-- Laws of printing: what follows from its definitions.
pub mod BoundLaws
pub mod DigitLaws
pub mod FormBack
pub mod JudgingLaws
pub mod NameLaws
pub mod Printable
pub mod ReadBack
pub mod TokenLaws
pub mod Unpacking
