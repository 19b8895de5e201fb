pub mod Examples
pub mod Host
