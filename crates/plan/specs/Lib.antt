pub mod Place
pub mod Parse
