pub mod Answers
pub mod Sets
pub mod Fed
pub mod Pack
pub mod Source
