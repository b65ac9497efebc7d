pub mod Lists
pub mod Stages
pub mod Frees
pub mod Grown
pub mod Fronts
pub mod Short
pub mod Results
pub mod Stays
