pub mod Ports
pub mod Rings
pub mod Moves
pub mod Shares
pub mod Blank
pub mod Idle
