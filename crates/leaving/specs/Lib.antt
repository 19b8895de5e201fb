pub mod Rising
pub mod Going
pub mod Found
pub mod Ends
