pub mod Searched
pub mod Placed
pub mod Heard
