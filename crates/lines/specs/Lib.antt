pub mod Page
pub mod PageLaws
pub mod Digits
pub mod Columns
pub mod Lines
pub mod Short
