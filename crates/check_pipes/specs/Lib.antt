pub mod Ends
pub mod Pipes
pub mod Plain
