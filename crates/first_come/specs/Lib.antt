pub mod Order
pub mod Views
pub mod Orders
pub mod Places
pub mod Held
