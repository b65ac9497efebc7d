pub mod Templates
pub mod Spelling
pub mod PartLaws
pub mod Laws
pub mod Giving
pub mod Taking
pub mod Copying
pub mod Cutting
