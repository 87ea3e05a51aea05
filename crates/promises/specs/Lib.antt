pub mod Terms
pub mod Lending
pub mod Engine
pub mod Boundary
