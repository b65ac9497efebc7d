pub mod Replication
pub mod Prefixes
pub mod Cuts
pub mod Commits
pub mod Batches
