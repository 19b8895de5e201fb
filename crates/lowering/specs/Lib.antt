pub mod Kids
pub mod Widths
pub mod Joins
pub mod Leaves
pub mod Walk
