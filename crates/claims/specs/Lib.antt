pub mod Claimed
pub mod Lists
pub mod Waiting
pub mod Pairs
pub mod Leaves
pub mod Made
pub mod Built
