pub mod Whole
pub mod WholeLaws
pub mod Putting
pub mod PuttingLaws
pub mod NodeTexts
pub mod Writing
pub mod WritingLaws
