pub mod Waiting
mod AllBelow
