pub mod Stops
pub mod Neighbours
pub mod Settles
