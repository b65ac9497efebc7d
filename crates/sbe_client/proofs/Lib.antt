pub mod Variables
pub mod Again
