pub mod Lengths
pub mod Rows
pub mod Spelled
pub mod Admitted
