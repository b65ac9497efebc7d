pub mod Opened
pub mod Led
pub mod Formed
pub mod Ruled
pub mod Needed
pub mod Example
