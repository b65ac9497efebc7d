pub mod Records
pub mod Outbox
pub mod Taken
