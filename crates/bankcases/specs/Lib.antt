pub mod Shown
pub mod Written
pub mod Played
