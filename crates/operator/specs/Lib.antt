pub mod Answer
pub mod Pipeline
