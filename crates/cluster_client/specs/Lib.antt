pub mod Seen
pub mod Calls
pub mod Handed
pub mod Runs
