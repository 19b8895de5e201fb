pub mod Answered
pub mod Answering
pub mod Printed
pub mod Printing
pub mod Whole
pub mod Feeding
