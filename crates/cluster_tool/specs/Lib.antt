pub mod Words
pub mod Status
pub mod Told
pub mod Compared
pub mod Sets
pub mod Text
pub mod Disks
pub mod Listed
