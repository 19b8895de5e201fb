pub mod Cells
pub mod Batch
pub mod Lower
pub mod Behind
pub mod Beside
