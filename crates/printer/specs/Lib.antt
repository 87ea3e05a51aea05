pub mod Printing
pub mod PrintingLaws
pub mod TabledLaws
pub mod Walking
pub mod WalkingLaws
