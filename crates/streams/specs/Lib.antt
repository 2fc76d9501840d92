pub mod Streams
pub mod Members
