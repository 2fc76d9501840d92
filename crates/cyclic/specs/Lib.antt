pub mod Circle
pub mod Views
pub mod Circles
pub mod Held
