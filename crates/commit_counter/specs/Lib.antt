pub mod Line
pub mod Words
pub mod Ends
pub mod Feeding
pub mod Polling
pub mod Answers
