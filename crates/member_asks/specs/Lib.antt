pub mod Clauses
pub mod Made
