pub mod Ring
pub mod Queue
pub mod Held
pub mod Seen
