pub mod Place
pub mod Round
pub mod Session
pub mod Took
pub mod Told
