pub mod Bindable
pub mod BindableLaws
pub mod Interpreted
pub mod Standing
pub mod Showing
pub mod ShowingLaws
pub mod EvaluatingLaws
