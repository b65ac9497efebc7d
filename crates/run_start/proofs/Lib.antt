pub mod Beginning
pub mod Taken
pub mod Leaving
