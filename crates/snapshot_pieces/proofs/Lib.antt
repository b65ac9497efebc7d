pub mod Again
pub mod Framed
