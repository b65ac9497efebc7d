pub mod States
pub mod Handing
pub mod Listed
pub mod Opening
