pub mod Outlet
pub mod Close
pub mod Act
pub mod Able
pub mod Each
pub mod Unread
