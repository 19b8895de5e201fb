pub mod Outputs
pub mod Serving
pub mod Activation
