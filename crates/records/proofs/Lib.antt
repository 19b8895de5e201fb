pub mod Cases
pub mod Words
pub mod Runs
pub mod ByMark
pub mod Parsers
