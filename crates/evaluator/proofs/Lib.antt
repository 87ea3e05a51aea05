pub mod Framing
pub mod Reaching
pub mod Planning
pub mod Plain
pub mod Running
