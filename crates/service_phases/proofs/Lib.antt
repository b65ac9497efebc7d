pub mod Lists
pub mod Ends
pub mod FedLog
pub mod ImageMore
pub mod Stretches
