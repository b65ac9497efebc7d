pub mod Pieces
pub mod Events
pub mod Written
