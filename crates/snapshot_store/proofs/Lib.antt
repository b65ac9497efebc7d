pub mod Within
pub mod Pieces
