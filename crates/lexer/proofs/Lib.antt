pub mod TokenPaths
pub mod ValuePaths
