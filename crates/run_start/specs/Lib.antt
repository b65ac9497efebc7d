pub mod Status
pub mod Reading
pub mod Disks
pub mod Needed
pub mod Begins
