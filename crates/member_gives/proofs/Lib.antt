pub mod Given
pub mod Alone
pub mod Listed
pub mod Stored
pub mod Growing
pub mod Printing
pub mod Printed
