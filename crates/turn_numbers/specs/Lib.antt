pub mod Copy
pub mod Numbers
pub mod Columns
