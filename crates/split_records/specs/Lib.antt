pub mod Split
pub mod Reading
