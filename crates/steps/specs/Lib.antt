pub mod Cursors
pub mod CursorsLaws
pub mod Scratch
