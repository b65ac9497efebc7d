pub mod Said
pub mod World
pub mod Safe
pub mod Example
