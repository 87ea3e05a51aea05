pub mod Fits
pub mod Filling
pub mod Turning
