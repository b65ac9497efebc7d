pub mod Sinks
pub mod Spelled
pub mod Logs
pub mod Reading
pub mod Ending
pub mod Equal
pub mod Ordered
pub mod Sets
