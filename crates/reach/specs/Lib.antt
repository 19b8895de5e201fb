pub mod Leaves
pub mod Span
pub mod Places
pub mod Meeting
pub mod Sums
