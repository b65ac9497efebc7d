pub mod Pieces
pub mod Restored
