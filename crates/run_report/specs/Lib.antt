pub mod Text
pub mod Orders
