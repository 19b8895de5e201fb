pub mod Loops
pub mod First
pub mod Counts
pub mod Built
