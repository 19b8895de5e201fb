pub mod Counters
pub mod Active
pub mod Stacks
pub mod Built
pub mod Given
