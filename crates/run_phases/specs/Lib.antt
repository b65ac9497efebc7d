pub mod Frees
pub mod Grown
pub mod Logs
