pub mod Tokens
pub mod Grammar
pub mod Faults
pub mod Reading
pub mod Machine
pub mod KeptLimits
