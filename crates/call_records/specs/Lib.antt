pub mod Calls
pub mod CallLaws
pub mod Taken
pub mod JobEnd
pub mod Job
