pub mod Choice
pub mod Tells
pub mod Ready
pub mod Reader
pub mod Writer
pub mod Mark
