pub mod Draft
pub mod Kids
pub mod Marks
