pub mod Read
pub mod Output
pub mod Entries
