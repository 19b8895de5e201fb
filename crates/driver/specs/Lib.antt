pub mod Turns
pub mod Given
pub mod Able
pub mod Run
