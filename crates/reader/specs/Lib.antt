pub mod Parsing
pub mod Results
