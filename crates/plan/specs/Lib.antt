pub mod Net
pub mod Views
pub mod Changes
pub mod Shown
