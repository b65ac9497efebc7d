pub mod Templates
pub mod Spelling
pub mod Laws
