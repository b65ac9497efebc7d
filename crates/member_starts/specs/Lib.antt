pub mod Formats
pub mod Strikes
