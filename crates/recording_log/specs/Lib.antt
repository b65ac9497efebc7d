pub mod Entries
pub mod Valid
pub mod Sets
pub mod Parts
pub mod Steps
pub mod Once
pub mod Listed
pub mod Ranges
