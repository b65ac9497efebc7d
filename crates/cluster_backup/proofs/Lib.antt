pub mod PartLists
pub mod Places
pub mod Cut
pub mod Events
pub mod Copies
pub mod Bringing
pub mod Given
pub mod Cutting
