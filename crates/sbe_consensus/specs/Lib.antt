pub mod Templates
pub mod Spelling
pub mod BatchLaws
pub mod Laws
pub mod PrefixLaws
