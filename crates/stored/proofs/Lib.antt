pub mod Splits
pub mod Sound
pub mod Complete
pub mod Fits
