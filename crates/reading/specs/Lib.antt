pub mod ReadTo
pub mod ReadToLaws
