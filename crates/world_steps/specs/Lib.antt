pub mod Fit
pub mod Members
pub mod Steps
pub mod Promises
