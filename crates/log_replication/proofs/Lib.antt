pub mod Answered
pub mod Kept
pub mod Reports
pub mod Batched
