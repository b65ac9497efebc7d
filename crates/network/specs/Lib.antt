pub mod Net
pub mod Sends
