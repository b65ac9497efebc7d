pub mod Outcomes
pub mod Decisions
