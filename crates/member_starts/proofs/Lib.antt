pub mod Formatting
pub mod Invalidating
pub mod Latest
pub mod Rests
pub mod Stored
pub mod Striking
pub mod Struck
