-- Laws of grammar: what follows from its definitions.
pub mod FaultLaws
pub mod KeptLimitsLaws
pub mod MachineLaws
pub mod Places
pub mod ReadLaws
pub mod ReadingLaws
pub mod Refusals
pub mod SingleLimits
pub mod Theorems
pub mod TokensLaws
pub mod Words
