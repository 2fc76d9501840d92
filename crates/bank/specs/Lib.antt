pub mod Meaning
pub mod Waiting
pub mod Runs
pub mod ByMaster
pub mod Counts
pub mod Eight
pub mod Starts
