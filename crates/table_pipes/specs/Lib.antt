pub mod Tags
pub mod Source
pub mod Stage
pub mod Inlets
pub mod Blank
