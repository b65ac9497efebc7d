pub mod Answering
pub mod Seen
pub mod Keeping
pub mod Phasing
