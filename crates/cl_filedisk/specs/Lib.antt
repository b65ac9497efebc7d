pub mod Guard
pub mod Untold
