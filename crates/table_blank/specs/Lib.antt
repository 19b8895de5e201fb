pub mod Zeros
pub mod Node
pub mod Split
pub mod Outline
pub mod Filled
pub mod Job
pub mod Labels
