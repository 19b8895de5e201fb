pub mod Checked
pub mod Labels
