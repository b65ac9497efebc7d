pub mod Phases
pub mod Rounds
pub mod Orders
pub mod Kept
pub mod Stands
