pub mod Groups
pub mod Views
pub mod Batches
pub mod Held
