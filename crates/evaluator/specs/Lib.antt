pub mod Frames
pub mod Reach
pub mod Applying
