pub mod Editing
pub mod Opening
pub mod Previewing
