pub mod Pairs
pub mod Feeds
pub mod Phases
pub mod Begins
pub mod Stages
pub mod Inside
