pub mod Sets
pub mod Codes
