pub mod Measured
pub mod Admitted
pub mod Fitting
pub mod OverLog
pub mod Spoken
pub mod Speech
pub mod Appending
pub mod Standing
