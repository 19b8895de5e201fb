pub mod Job
pub mod Refusal
