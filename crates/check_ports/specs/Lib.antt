pub mod Batches
pub mod Queues
pub mod Ports
pub mod Sources
