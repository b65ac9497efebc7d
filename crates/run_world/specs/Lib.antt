pub mod Seat
pub mod RunWorld
pub mod Lawful
pub mod Headline
pub mod Rounds
