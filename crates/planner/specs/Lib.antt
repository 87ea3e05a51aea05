pub mod Plans
pub mod Ready
