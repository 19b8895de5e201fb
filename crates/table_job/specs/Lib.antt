pub mod Node
pub mod Split
pub mod Within
pub mod NodeFields
pub mod SplitFields
pub mod Quick
