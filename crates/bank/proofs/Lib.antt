pub mod Among
pub mod Laws
pub mod Searches
pub mod Draws
pub mod Shapings
pub mod Turns
pub mod Calls
