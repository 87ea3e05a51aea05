pub mod Cases
pub mod Limits
pub mod Names
pub mod NamesLaws
pub mod Refusals
pub mod RefusalsLaws
