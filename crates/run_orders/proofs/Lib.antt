pub mod Leading
pub mod Ordered
pub mod Standing
pub mod Resting
pub mod Opening
pub mod Bases
pub mod Begun
