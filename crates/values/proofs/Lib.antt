pub mod Signed
pub mod NumberRules
