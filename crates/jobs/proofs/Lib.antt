pub mod Front
pub mod Scan
