pub mod Read
pub mod Mark
