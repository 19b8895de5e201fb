pub mod Tests
pub mod Bit
pub mod Arrays
pub mod Newest
pub mod Loops
pub mod Opt
