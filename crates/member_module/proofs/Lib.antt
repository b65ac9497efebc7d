pub mod Events
pub mod Hearing
