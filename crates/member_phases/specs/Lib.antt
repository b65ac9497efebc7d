pub mod Calls
pub mod Cuts
pub mod Frees
pub mod Grown
pub mod Phases
pub mod Seats
pub mod Snapshots
