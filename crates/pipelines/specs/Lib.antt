pub mod Numbering
pub mod Readers
pub mod Owners
pub mod Laying
pub mod Retiring
