pub mod Lent
pub mod Inside
pub mod Jobs
