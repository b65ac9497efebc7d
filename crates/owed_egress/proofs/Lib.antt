pub mod Asked
pub mod AtIndex
pub mod Numbers
pub mod Over
pub mod Rising
